-- The live positions of a body: what stands at each, the names on the stack there, what is around it, and where each leads (docs/ANALYSES.md, "Live
-- positions", "Places", "Points").
use Rattle.std.specs.Prelude.{◌≡◌, ℕ, suc, ◌+◌, ◌⊎◌, List, [], ◌∷◌, ◌++◌, Bool, Option, Some, None, drop, replicate, slice_get}
use Rattle.wasm_types.specs.declared.module.ValType.{ValType}
use Rattle.wasm_types.specs.declared.place.Node.{Node}
use Rattle.wasm_types.specs.declared.place.Node.TheVariants.{Exit}
use Rattle.wasm_types.specs.declared.instr.Instr.{Instr}
use Rattle.wasm_types.specs.Marked.{Marked, End, Do, Block, Loop, If, Br, BrIf, BrTable, Return, Unreachable, size}
use Rattle.wasm_types.specs.Actions.{Callees, takes}
use Rattle.wasm_types.specs.Nodes.{At, Join, named, made}
use Rattle.wasm_types.specs.Labels.{arity, carried, outermost, Label, block_label, loop_label, body_label, arities, point_of, first}

-- an instruction without its contents; a block, loop or if with its result
pub data Head : Type 0 where
  DoHead : (op : Instr) → Head
  BlockHead : (kind : Option ValType) → Head
  LoopHead : (kind : Option ValType) → Head
  IfHead : (kind : Option ValType) → Head
  BrHead : (l : ℕ) → Head
  BrIfHead : (l : ℕ) → Head
  BrTableHead : (labels : List ℕ) (other : ℕ) → Head
  -- to the outermost label
  ReturnHead : (l : ℕ) → Head
  UnreachableHead : Head

-- A live position: its instruction, whether that is watched, the names on the stack of its sequence, the labels around it, where its contents
-- begin, what stands after it, and where its contents end.
pub record Site : Type 0 where
  pub head : Head
  pub mark : Bool
  pub names : List Node
  pub around : List Label
  pub inside : List Node
  pub next : Node
  pub stop : ℕ

-- the positions in their order. A dead one has no site
abbrev pub Sites : Type 0
Sites = List (Option Site)

-- the sequence at p, inside these labels, where k stands after it
abbrev pub sites : Callees → List Label → Node → Marked → ℕ → List Node → Sites
sites cs ctx k End p names = []
sites cs ctx k (Do m op rest) p names =
    Some (record { head = DoHead op; mark = m; names = names; around = ctx; inside = []; next = first (p + 1) rest k; stop = p + 1 }) ∷ sites cs ctx k rest (p + 1) (made cs p op names)
sites cs ctx k (Block m kind body rest) p names =
    let e = p + 1 + size body in
    Some (record { head = BlockHead kind; mark = m; names = names; around = ctx; inside = first (p + 1) body (Join p) ∷ []; next = first e rest k; stop = e }) ∷ (sites cs (block_label p (arity kind) e ∷ ctx) (Join p) body (p + 1) [] ++ sites cs ctx k rest e (named (arity kind) (Join p) names))
sites cs ctx k (Loop m kind body rest) p names =
    let e = p + 1 + size body in
    Some (record { head = LoopHead kind; mark = m; names = names; around = ctx; inside = first (p + 1) body (Join p) ∷ []; next = first e rest k; stop = e }) ∷ (sites cs (loop_label p e ∷ ctx) (Join p) body (p + 1) [] ++ sites cs ctx k rest e (named (arity kind) (Join p) names))
sites cs ctx k (If m kind x y rest) p names =
    let f = p + 1 + size x in let e = p + 1 + size x + size y in
    Some (record { head = IfHead kind; mark = m; names = names; around = ctx; inside = first (p + 1) x (Join p) ∷ first f y (Join p) ∷ []; next = first e rest k; stop = e }) ∷ (sites cs (block_label p (arity kind) e ∷ ctx) (Join p) x (p + 1) [] ++ (sites cs (block_label p (arity kind) e ∷ ctx) (Join p) y f [] ++ sites cs ctx k rest e (named (arity kind) (Join p) (drop 1 names))))
sites cs ctx k (Br m l rest) p names =
    Some (record { head = BrHead l; mark = m; names = names; around = ctx; inside = []; next = first (p + 1) rest k; stop = p + 1 }) ∷ replicate (size rest) None
sites cs ctx k (BrIf m l rest) p names =
    Some (record { head = BrIfHead l; mark = m; names = names; around = ctx; inside = []; next = first (p + 1) rest k; stop = p + 1 }) ∷ sites cs ctx k rest (p + 1) (drop 1 names)
sites cs ctx k (BrTable m labels other rest) p names =
    Some (record { head = BrTableHead labels other; mark = m; names = names; around = ctx; inside = []; next = first (p + 1) rest k; stop = p + 1 }) ∷ replicate (size rest) None
sites cs ctx k (Return m rest) p names =
    Some (record { head = ReturnHead (outermost (arities ctx)); mark = m; names = names; around = ctx; inside = []; next = first (p + 1) rest k; stop = p + 1 }) ∷ replicate (size rest) None
sites cs ctx k (Unreachable m rest) p names =
    Some (record { head = UnreachableHead; mark = m; names = names; around = ctx; inside = []; next = first (p + 1) rest k; stop = p + 1 }) ∷ replicate (size rest) None

-- a body with so many results
abbrev pub body_sites : Callees → ℕ → Marked → Sites
body_sites cs t c = sites cs (body_label t (size c) ∷ []) Exit c 0 []

-- ---- live ends

-- the names at the end of a sequence, where it is live
abbrev pub end_names : Callees → Marked → ℕ → List Node → Option (List Node)
end_names cs End p names = Some names
end_names cs (Do m op rest) p names = end_names cs rest (p + 1) (made cs p op names)
end_names cs (Block m kind body rest) p names = end_names cs rest (p + 1 + size body) (named (arity kind) (Join p) names)
end_names cs (Loop m kind body rest) p names = end_names cs rest (p + 1 + size body) (named (arity kind) (Join p) names)
end_names cs (If m kind x y rest) p names = end_names cs rest (p + 1 + size x + size y) (named (arity kind) (Join p) (drop 1 names))
end_names cs (Br m l rest) p names = None
end_names cs (BrIf m l rest) p names = end_names cs rest (p + 1) (drop 1 names)
end_names cs (BrTable m labels other rest) p names = None
end_names cs (Return m rest) p names = None
end_names cs (Unreachable m rest) p names = None

-- a live end: the join that it leads to, how many values it leaves, and the names there
pub record EndAt : Type 0 where
  pub owner : Node
  pub count : ℕ
  pub names : List Node

abbrev pub one_end : Node → ℕ → Option (List Node) → List EndAt
one_end k t None = []
one_end k t (Some names) = record { owner = k; count = t; names = names } ∷ []

-- the live ends of the blocks, loops and arms in a sequence
abbrev pub inner_ends : Callees → Marked → ℕ → List Node → List EndAt
inner_ends cs End p names = []
inner_ends cs (Do m op rest) p names = inner_ends cs rest (p + 1) (made cs p op names)
inner_ends cs (Block m kind body rest) p names = one_end (Join p) (arity kind) (end_names cs body (p + 1) []) ++ (inner_ends cs body (p + 1) [] ++ inner_ends cs rest (p + 1 + size body) (named (arity kind) (Join p) names))
inner_ends cs (Loop m kind body rest) p names = one_end (Join p) (arity kind) (end_names cs body (p + 1) []) ++ (inner_ends cs body (p + 1) [] ++ inner_ends cs rest (p + 1 + size body) (named (arity kind) (Join p) names))
inner_ends cs (If m kind x y rest) p names = one_end (Join p) (arity kind) (end_names cs x (p + 1) []) ++ (one_end (Join p) (arity kind) (end_names cs y (p + 1 + size x) []) ++ (inner_ends cs x (p + 1) [] ++ (inner_ends cs y (p + 1 + size x) [] ++ inner_ends cs rest (p + 1 + size x + size y) (named (arity kind) (Join p) (drop 1 names)))))
inner_ends cs (Br m l rest) p names = []
inner_ends cs (BrIf m l rest) p names = inner_ends cs rest (p + 1) (drop 1 names)
inner_ends cs (BrTable m labels other rest) p names = []
inner_ends cs (Return m rest) p names = []
inner_ends cs (Unreachable m rest) p names = []

abbrev pub body_ends : Callees → ℕ → Marked → List EndAt
body_ends cs t c = one_end Exit t (end_names cs c 0 []) ++ inner_ends cs c 0 []

-- ---- one position

abbrev pub Among : {A : Type 0} → List A → A → Type 0
Among [] x = ⊥
Among (y ∷ ys) x = (y ≡ x) ⊎ Among ys x

-- s stands at p
abbrev pub IsSite : Sites → ℕ → Site → Type 0
IsSite S p s = slice_get S p ≡ Some (Some s)

-- a table's label l is one of these
abbrev pub OneOf : List ℕ → ℕ → ℕ → Type 0
OneOf [] other l = l ≡ other
OneOf (x ∷ labels) other l = (l ≡ x) ⊎ OneOf labels other l

-- it may branch to label l
abbrev pub Branches : Head → ℕ → Type 0
Branches (BrHead l) m = m ≡ l
Branches (BrIfHead l) m = m ≡ l
Branches (BrTableHead labels other) m = OneOf labels other m
Branches (ReturnHead l) m = m ≡ l
Branches _ m = ⊥

-- the operands, the values that a branch carries left out
abbrev pub operand_count : Callees → Head → ℕ
operand_count cs (DoHead op) = takes cs op
operand_count cs (BlockHead kind) = 0
operand_count cs (LoopHead kind) = 0
operand_count cs (IfHead kind) = 1
operand_count cs (BrHead l) = 0
operand_count cs (BrIfHead l) = 1
operand_count cs (BrTableHead labels other) = 1
operand_count cs (ReturnHead l) = 0
operand_count cs UnreachableHead = 0

-- all operands, the carried values among them
abbrev pub all_operands : Callees → List Label → Head → ℕ
all_operands cs ctx (DoHead op) = takes cs op
all_operands cs ctx (BlockHead kind) = 0
all_operands cs ctx (LoopHead kind) = 0
all_operands cs ctx (IfHead kind) = 1
all_operands cs ctx (BrHead l) = carried (arities ctx) l
all_operands cs ctx (BrIfHead l) = suc (carried (arities ctx) l)
all_operands cs ctx (BrTableHead labels other) = suc (carried (arities ctx) other)
all_operands cs ctx (ReturnHead l) = carried (arities ctx) l
all_operands cs ctx UnreachableHead = 0

-- the names that a branch may carry: those below its condition or index
abbrev pub carry_names : Head → List Node → List Node
carry_names (BrIfHead l) names = drop 1 names
carry_names (BrTableHead labels other) names = drop 1 names
carry_names _ names = names

-- ---- points

-- a block, loop or if, whose end is a join
abbrev pub HasJoin : Head → Type 0
HasJoin (BlockHead kind) = Unit {0}
HasJoin (LoopHead kind) = Unit {0}
HasJoin (IfHead kind) = Unit {0}
HasJoin _ = ⊥

-- where a position leads
pub data Goes (s : Site) : Node → Type 0 where
  to_next : (op : Instr) → s.head ≡ DoHead op → Goes s s.next
  past : (l : ℕ) → s.head ≡ BrIfHead l → Goes s s.next
  into : {n : Node} → (k : ℕ) → slice_get s.inside k ≡ Some n → Goes s n
  branches : (l : ℕ) → Branches s.head l → Goes s (point_of s.around l)

pub data Leads (S : Sites) : Node → Node → Type 0 where
  from_at : {p : ℕ} {n : Node} → (s : Site) → IsSite S p s → Goes s n → Leads S (At p) n
  from_join : {p : ℕ} → (s : Site) → IsSite S p s → HasJoin s.head → Leads S (Join p) s.next
