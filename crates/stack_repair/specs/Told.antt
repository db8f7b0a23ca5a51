-- What a cut puts for the code of a body, by what is told of the body's values and of the kept nodes (docs/ANALYSES.md, "The cut", "Present places").
use Rattle.std.specs.Prelude.{◌≡◌, ℕ, zero, suc, ◌+◌, ◌-◌, ◌*◌, ◌<◌, ◌^◌, List, [], ◌∷◌, ◌++◌}
use Rattle.std.specs.Prelude.{Bool, true, false, ◌||◌, Option, Some, None, is_some, slice_get, slice_set, replicate, nat_eq, if◌then◌else◌}
use Rattle.wasm_types.specs.declared.module.ValType.{ValType}
use Rattle.wasm_types.specs.declared.module.Body.{Body}
use Rattle.wasm_types.specs.declared.place.Node.{Node}
use Rattle.wasm_types.specs.declared.place.Node.TheVariants as node
use Rattle.wasm_types.specs.declared.place.Taker.{Taker}
use Rattle.wasm_types.specs.declared.place.Taker.TheVariants as taker
use Rattle.wasm_types.specs.declared.instr.Instr.{Instr}
use Rattle.wasm_types.specs.declared.instr.Instr as instr
use Rattle.wasm_types.specs.Code.{Code, done, one, block, repeat, branch, code_of, count, list_of}
use Rattle.wasm_types.specs.Marked.{Marked, End, Block, Loop, If, plain, unmarked, marks, first_mark}
use Rattle.wasm_types.specs.Nodes.{At, Join}
use Rattle.block_cfg.specs.Graph.{number}
use Rattle.stack_names.specs.declared.place.Place.{Place}
use Rattle.stack_names.specs.Found.{goes_on, top_places}
use Rattle.stack_names.specs.Named.{Named, operands_in, stack_in, of_node}
use Rattle.flow_domain.specs.Cut.{pick, one_more, drops, zeros}
use Rattle.flow_domain.specs.KeptSets.{holds}
use Rattle.stack_repair.specs.declared.plan.Plan.{Plan}
use Rattle.stack_repair.specs.declared.tally.Tally.{Tally}

-- ---- present places

-- what takes a value is kept: an instruction, the end of a kept block, loop or arm, or the end of the body
abbrev pub is_kept : (Node → Bool) → Taker → Bool
is_kept K (taker.Instr p) = K (node.At p)
is_kept K (taker.End (node.Join b)) = K (node.At b)
is_kept K (taker.End node.Exit) = true
is_kept K (taker.End (node.At p)) = false

abbrev pub any_kept : (Node → Bool) → List Taker → Bool
any_kept K [] = false
any_kept K (x ∷ xs) = is_kept K x || any_kept K xs

-- among them is the end of a kept block, loop or arm, or of the body
abbrev pub is_kept_end : (Node → Bool) → Taker → Bool
is_kept_end K (taker.End k) = is_kept K (taker.End k)
is_kept_end K (taker.Instr p) = false

abbrev pub any_kept_end : (Node → Bool) → List Taker → Bool
any_kept_end K [] = false
any_kept_end K (x ∷ xs) = is_kept_end K x || any_kept_end K xs

-- it is the end of a kept block, loop or if
abbrev pub ends_kept : (Node → Bool) → Node → Bool
ends_kept K (node.Join b) = K (node.At b)
ends_kept K _ = false

-- The maker of the place is kept, or the block, loop or if that makes it, or something that takes it.
abbrev pub is_present : (Node → Bool) → (Node → List Taker) → Node → Bool
is_present K takers n = K n || (ends_kept K n || any_kept K (takers n))

-- ---- what is told

pub record Told : Type 0 where
  pub kept : Node → Bool
  pub names : Named
  -- the types of the values that kept instructions take, by the numbers of the nodes that make them
  pub kinds : List (Option ValType)
  pub watched : ℕ

abbrev pub told : Plan → Told
told plan = record { kept = holds plan.kept.now; names = plan.names.now; kinds = plan.kinds.items; watched = plan.watched.0 }

-- the type of the value that a node makes, where a kept instruction takes it
abbrev pub kind_or_none : Option (Option ValType) → Option ValType
kind_or_none None = None
kind_or_none (Some k) = k

abbrev pub taken_kind : Told → Node → Option ValType
taken_kind D n = kind_or_none (slice_get D.kinds (number n))

-- Of the takers the names tell the ends alone.
abbrev pub present_in : Told → Node → Bool
present_in D n = D.kept n || (ends_kept D.kept n || (is_some (taken_kind D n) || any_kept_end D.kept (of_node D.names.takers n)))

abbrev pub count_present : Told → List Place → ℕ
count_present D [] = 0
count_present D (pl ∷ pls) = one_more (present_in D pl.maker) (count_present D pls)

-- The type of a value by what keeps it: this one where a kept instruction takes it, and the result of its sequence where a kept end does.
abbrev pub kept_kind : (own t : Option ValType) → Bool → Option ValType
kept_kind (Some k) t ends = Some k
kept_kind None t ends = if ends then t else None

-- the type of what a block, loop or if leaves, where that is present
abbrev pub shown_kind : Told → Option ValType → ℕ → Option ValType
shown_kind D kind p = if present_in D (Join p) then kind else None

-- ---- what is put for an unkept instruction at p, in a sequence with result t

-- the places that are dropped for an instruction that holds no others
abbrev pub dropped : Told → Instr → ℕ → List Place
dropped D (instr.Br l) p = stack_in D.names.positions p
dropped D (instr.BrIf l) p = top_places 1 (operands_in D.names.positions p)
dropped D (instr.BrTable labels other) p = stack_in D.names.positions p
dropped D instr.Return p = stack_in D.names.positions p
dropped D instr.Unreachable p = stack_in D.names.positions p
dropped D op p = operands_in D.names.positions p

-- the type of its zero constant
abbrev pub filled : Told → Option ValType → Instr → ℕ → Option ValType
filled D t (instr.Br l) p = t
filled D t (instr.BrIf l) p = None
filled D t (instr.BrTable labels other) p = t
filled D t instr.Return p = t
filled D t instr.Unreachable p = t
filled D t op p = kept_kind (taken_kind D (At p)) t (any_kept_end D.kept (of_node D.names.takers (At p)))

-- the same of any instruction
abbrev pub dropped_for : Told → Instr → ℕ → List Place
dropped_for D (instr.Block' kind m inner) p = []
dropped_for D (instr.Loop' kind m inner) p = []
dropped_for D op p = dropped D op p

abbrev pub filled_for : Told → Option ValType → Instr → ℕ → Option ValType
filled_for D t (instr.Block' kind m inner) p = shown_kind D kind p
filled_for D t (instr.Loop' kind m inner) p = shown_kind D kind p
filled_for D t (instr.If' kind m first n second) p = shown_kind D kind p
filled_for D t op p = filled D t op p

-- ---- what is put for a sequence at p with result t

abbrev pub put_in : Told → Option ValType → Code → ℕ → Marked
put_in D t done p = End
put_in D t (one op rest) p =
    let c = if goes_on op then put_in D t rest (p + 1) else End in
    pick (D.kept (At p)) (plain (nat_eq D.watched p) op c) (drops (count_present D (dropped D op p)) (zeros (filled D t op p) c))
put_in D t (block kind inner rest) p =
    let c = put_in D t rest (p + 1 + count inner) in
    pick (D.kept (At p)) (Block (nat_eq D.watched p) kind (put_in D kind inner (p + 1)) c) (zeros (shown_kind D kind p) c)
put_in D t (repeat kind inner rest) p =
    let c = put_in D t rest (p + 1 + count inner) in
    pick (D.kept (At p)) (Loop (nat_eq D.watched p) kind (put_in D kind inner (p + 1)) c) (zeros (shown_kind D kind p) c)
put_in D t (branch kind first second rest) p =
    let c = put_in D t rest (p + 1 + count first + count second) in
    pick (D.kept (At p)) (If (nat_eq D.watched p) kind (put_in D kind first (p + 1)) (put_in D kind second (p + 1 + count first)) c)
    (drops (count_present D (operands_in D.names.positions p)) (zeros (shown_kind D kind p) c))

-- the same where the sequence is live, and else nothing
abbrev pub put_onward : Told → Option ValType → Bool → Code → ℕ → Marked
put_onward D t true c p = put_in D t c p
put_onward D t false c p = End

-- ---- what has been put, and what is still to come

-- the watched instruction is the k-th that is put, where it was put already, or is the first mark after the n that were
abbrev pub IsPlace : Option ℕ → ℕ → List Bool → ℕ → Type 0
IsPlace (Some j) n ms k = j ≡ k
IsPlace None n ms k = n + first_mark ms ≡ k

-- with the marks that are to come before and after a step, the watched instruction is the same
abbrev pub SamePlace : Tally → List Bool → Tally → List Bool → Type 0
SamePlace s ms s' ms' = (k : ℕ) → k < 2 ^ 32 - 1 → IsPlace s.at s.count ms k → IsPlace s'.at s'.count ms' k

-- what was put and what is to come is the same before and after a step
abbrev pub Puts : List Instr → Tally → Marked → List Instr → Tally → Marked → Type 0
Puts made s X made' s' X' =
    (made ++ list_of (unmarked X) ≡ made' ++ list_of (unmarked X')) × ((ms : List Bool) → SamePlace s (marks X ++ ms) s' (marks X' ++ ms))

-- ---- the types of the values that kept instructions take, by the numbers of the nodes that make them

abbrev pub with_kind : List (Option ValType) → Place → List (Option ValType)
with_kind kinds pl = slice_set kinds (number pl.maker) (Some pl.kind)

abbrev pub noted : List (Option ValType) → List Place → List (Option ValType)
noted kinds [] = kinds
noted kinds (pl ∷ pls) = noted (with_kind kinds pl) pls

-- those of the operands of the kept ones of the first so many positions
abbrev pub noted_to : (Node → Bool) → Named → ℕ → List (Option ValType) → List (Option ValType)
noted_to K names zero kinds = kinds
noted_to K names (suc n) kinds = if K (At n) then noted (noted_to K names n kinds) (operands_in names.positions n) else noted_to K names n kinds

-- what is told of a body, by the names of its values, its kept nodes and the watched position
abbrev pub told_of : Named → (Node → Bool) → Body → ℕ → Told
told_of names K b i =
    let n = count (code_of b.code) in record { kept = K; names = names; kinds = noted_to K names n (replicate (2 * n + 1) None); watched = i }
