-- What takes each value, and which values come together at a join, in reading order (docs/ANALYSES.md, "Takers").
use Rattle.std.specs.Prelude.{ℕ, ◌+◌, List, [], ◌∷◌, ◌++◌, Bool, true, false, if◌then◌else◌, map, nat_eq, take, drop}
use Rattle.wasm_types.specs.declared.place.Node.{Node}
use Rattle.wasm_types.specs.declared.place.Node.TheVariants as node
use Rattle.wasm_types.specs.declared.place.Taker.{Taker}
use Rattle.wasm_types.specs.declared.place.Taker.TheVariants as taker
use Rattle.wasm_types.specs.Marked.{Marked, End, Do, Block, Loop, If, Br, BrIf, BrTable, Return, Unreachable, size}
use Rattle.wasm_types.specs.Actions.{Callees, takes}
use Rattle.wasm_types.specs.Nodes.{Join, named, made}
use Rattle.wasm_types.specs.Labels.{arity, carried, outermost, Label, block_label, loop_label, body_label, arities, join_of}

abbrev pub node_eq : Node → Node → Bool
node_eq (node.At p) (node.At q) = nat_eq p.0 q.0
node_eq (node.Join b) (node.Join c) = nat_eq b.0 c.0
node_eq node.Exit node.Exit = true
node_eq _ _ = false

-- what pairs give to a node, in their order
abbrev pub given : {A : Type 0} → Node → List (Node × A) → List A
given n [] = []
given n (x ∷ xs) = if node_eq n x.0 then x.1 ∷ given n xs else given n xs

-- ---- takers

abbrev pub taken : Taker → List Node → List (Node × Taker)
taken t names = map (λ n. (n, t)) names

-- the instruction at a position takes the first so many names
abbrev pub taken_at : ℕ → ℕ → List Node → List (Node × Taker)
taken_at p n names = taken (taker.Instr (record { 0 = p })) (take n names)

-- The values and what takes them, of the live code at p, with these names on its stack, inside these labels, where k stands after it. A branch takes what
-- it carries, and br_if leaves it.
abbrev pub takings : Callees → List Label → Node → Marked → ℕ → List Node → List (Node × Taker)
takings cs ctx k End p names = taken (taker.End k) names
takings cs ctx k (Do m op rest) p names = taken_at p (takes cs op) names ++ takings cs ctx k rest (p + 1) (made cs p op names)
takings cs ctx k (Block m kind body rest) p names =
    let e = p + 1 + size body in
    takings cs (block_label p (arity kind) e ∷ ctx) (Join p) body (p + 1) [] ++ takings cs ctx k rest e (named (arity kind) (Join p) names)
takings cs ctx k (Loop m kind body rest) p names =
    let e = p + 1 + size body in
    takings cs (loop_label p e ∷ ctx) (Join p) body (p + 1) [] ++ takings cs ctx k rest e (named (arity kind) (Join p) names)
takings cs ctx k (If m kind x y rest) p names =
    let f = p + 1 + size x in let e = p + 1 + size x + size y in
    taken_at p 1 names ++ (takings cs (block_label p (arity kind) e ∷ ctx) (Join p) x (p + 1) [] ++ (takings cs (block_label p (arity kind) e ∷ ctx) (Join p) y f [] ++ takings cs ctx k rest e (named (arity kind) (Join p) (drop 1 names))))
takings cs ctx k (Br m l rest) p names = taken_at p (carried (arities ctx) l) names
takings cs ctx k (BrIf m l rest) p names = taken_at p (carried (arities ctx) l + 1) names ++ takings cs ctx k rest (p + 1) (drop 1 names)
takings cs ctx k (BrTable m labels other rest) p names = taken_at p (carried (arities ctx) other + 1) names
takings cs ctx k (Return m rest) p names = taken_at p (carried (arities ctx) (outermost (arities ctx))) names
takings cs ctx k (Unreachable m rest) p names = []

-- the takers of the value that a node makes, in a body with so many results
abbrev pub takers_of : Callees → ℕ → Marked → Node → List Taker
takers_of cs t c n = given n (takings cs (body_label t (size c) ∷ []) node.Exit c 0 [])

-- ---- joined values

abbrev pub is_among : Node → List Node → Bool
is_among n [] = false
is_among n (x ∷ xs) = if node_eq n x then true else is_among n xs

-- each node once
abbrev pub distinct : List Node → List Node
distinct [] = []
distinct (n ∷ ns) = if is_among n ns then distinct ns else n ∷ distinct ns

-- these values come to a node, or to each of some nodes
abbrev pub joining : Node → List Node → List (Node × Node)
joining k names = map (λ n. (k, n)) names

abbrev pub joining_each : List Node → List Node → List (Node × Node)
joining_each [] names = []
joining_each (k ∷ ks) names = joining k names ++ joining_each ks names

-- The joins, and the body's end, with the values that come to them: one entry for each branch that carries a value there, and for each live end.
abbrev pub joinings : Callees → List Label → Node → Marked → ℕ → List Node → List (Node × Node)
joinings cs ctx k End p names = joining k names
joinings cs ctx k (Do m op rest) p names = joinings cs ctx k rest (p + 1) (made cs p op names)
joinings cs ctx k (Block m kind body rest) p names =
    let e = p + 1 + size body in
    joinings cs (block_label p (arity kind) e ∷ ctx) (Join p) body (p + 1) [] ++ joinings cs ctx k rest e (named (arity kind) (Join p) names)
joinings cs ctx k (Loop m kind body rest) p names =
    let e = p + 1 + size body in
    joinings cs (loop_label p e ∷ ctx) (Join p) body (p + 1) [] ++ joinings cs ctx k rest e (named (arity kind) (Join p) names)
joinings cs ctx k (If m kind x y rest) p names =
    let f = p + 1 + size x in let e = p + 1 + size x + size y in
    joinings cs (block_label p (arity kind) e ∷ ctx) (Join p) x (p + 1) [] ++ (joinings cs (block_label p (arity kind) e ∷ ctx) (Join p) y f [] ++ joinings cs ctx k rest e (named (arity kind) (Join p) (drop 1 names)))
joinings cs ctx k (Br m l rest) p names = joining (join_of ctx l) (take (carried (arities ctx) l) names)
joinings cs ctx k (BrIf m l rest) p names = joining (join_of ctx l) (take (carried (arities ctx) l) (drop 1 names)) ++ joinings cs ctx k rest (p + 1) (drop 1 names)
joinings cs ctx k (BrTable m labels other rest) p names = joining_each (distinct (map (join_of ctx) (labels ++ other ∷ []))) (take (carried (arities ctx) other) (drop 1 names))
joinings cs ctx k (Return m rest) p names = joining (join_of ctx (outermost (arities ctx))) (take (carried (arities ctx) (outermost (arities ctx))) names)
joinings cs ctx k (Unreachable m rest) p names = []

-- the values that come to a join, or to the body's end, in a body with so many results
abbrev pub joined_of : Callees → ℕ → Marked → Node → List Node
joined_of cs t c n = given n (joinings cs (body_label t (size c) ∷ []) node.Exit c 0 [])
