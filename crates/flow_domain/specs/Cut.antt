-- The cut of a body, given the kept nodes, the places that are present, and the type of each place (docs/ANALYSES.md, "The cut").
use Rattle.std.specs.Prelude.{ℕ, zero, suc, ◌+◌, List, [], ◌∷◌, Bool, true, false, Option, Some, None, take, drop}
use Rattle.wasm_types.specs.declared.module.ValType.{ValType}
use Rattle.wasm_types.specs.declared.module.ValType.TheVariants as type
use Rattle.wasm_types.specs.declared.instr.Instr.{Instr, Drop, I32Const, I64Const}
use Rattle.wasm_types.specs.Marked.{Marked, End, Do, Block, Loop, If, Br, BrIf, BrTable, Return, Unreachable, size}
use Rattle.wasm_types.specs.declared.place.Node.{Node}
use Rattle.wasm_types.specs.Actions.{Callees, takes, leaves}
use Rattle.wasm_types.specs.Nodes.{At, Join, named, made}
use Rattle.wasm_types.specs.Labels.{arity}

abbrev pub pick : Bool → Marked → Marked → Marked
pick true a b = a
pick false a b = b

abbrev pub one_more : Bool → ℕ → ℕ
one_more true n = suc n
one_more false n = n

-- how many of these places are present
abbrev pub shown : (Node → Bool) → List Node → ℕ
shown P [] = 0
shown P (n ∷ names) = one_more (P n) (shown P names)

-- the zero constant of a type. No module of the subset has a float
abbrev pub zero_const : ValType → Instr
zero_const type.I64 = I64Const 0
zero_const _ = I32Const 0

abbrev pub drops : ℕ → Marked → Marked
drops zero c = c
drops (suc n) c = Do false Drop (drops n c)

-- a zero constant for a result, if there is one
abbrev pub zeros : Option ValType → Marked → Marked
zeros None c = c
zeros (Some t) c = Do false (zero_const t) c

-- the same where the place of the result is present
abbrev pub filler : (Node → Bool) → Option ValType → Node → Marked → Marked
filler P None n c = c
filler P (Some t) n c = pick (P n) (Do false (zero_const t) c) c

-- the type of the result of an instruction that leaves so many values
abbrev pub result_of : ℕ → ValType → Option ValType
result_of zero t = None
result_of (suc n) t = Some t

-- The cut of the sequence at p with these names on its stack and this result. A dead position goes. A kept instruction stays, and the contents of a
-- kept block, loop or if are cut. An unkept one becomes a drop for each operand that is present and a zero constant for its result, if that is
-- present. An unkept branch becomes a drop for each place of its sequence that is present, and a zero constant for the result of the sequence.
abbrev pub cut : Callees → (K P : Node → Bool) → (Node → ValType) → Option ValType → Marked → ℕ → List Node → Marked
cut cs K P T t End p names = End
cut cs K P T t (Do m op rest) p names =
    let c = cut cs K P T t rest (p + 1) (made cs p op names) in
    pick (K (At p)) (Do m op c) (drops (shown P (take (takes cs op) names)) (filler P (result_of (leaves cs op) (T (At p))) (At p) c))
cut cs K P T t (Block m kind body rest) p names =
    let c = cut cs K P T t rest (p + 1 + size body) (named (arity kind) (Join p) names) in
    pick (K (At p)) (Block m kind (cut cs K P T kind body (p + 1) []) c) (filler P kind (Join p) c)
cut cs K P T t (Loop m kind body rest) p names =
    let c = cut cs K P T t rest (p + 1 + size body) (named (arity kind) (Join p) names) in
    pick (K (At p)) (Loop m kind (cut cs K P T kind body (p + 1) []) c) (filler P kind (Join p) c)
cut cs K P T t (If m kind x y rest) p names =
    let c = cut cs K P T t rest (p + 1 + size x + size y) (named (arity kind) (Join p) (drop 1 names)) in
    pick (K (At p)) (If m kind (cut cs K P T kind x (p + 1) []) (cut cs K P T kind y (p + 1 + size x) []) c) (drops (shown P (take 1 names)) (filler P kind (Join p) c))
cut cs K P T t (Br m l rest) p names = pick (K (At p)) (Br m l End) (drops (shown P names) (zeros t End))
cut cs K P T t (BrIf m l rest) p names =
    let c = cut cs K P T t rest (p + 1) (drop 1 names) in
    pick (K (At p)) (BrIf m l c) (drops (shown P (take 1 names)) c)
cut cs K P T t (BrTable m labels other rest) p names = pick (K (At p)) (BrTable m labels other End) (drops (shown P names) (zeros t End))
cut cs K P T t (Return m rest) p names = pick (K (At p)) (Return m End) (drops (shown P names) (zeros t End))
cut cs K P T t (Unreachable m rest) p names = pick (K (At p)) (Unreachable m End) (drops (shown P names) (zeros t End))

-- the cut of a body
abbrev pub cut_body : Callees → (K P : Node → Bool) → (Node → ValType) → Option ValType → Marked → Marked
cut_body cs K P T t c = cut cs K P T t c 0 []
