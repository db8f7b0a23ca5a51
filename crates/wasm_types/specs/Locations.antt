-- Which locations an action reads, checks and writes, and what decides whether it traps (docs/ANALYSES.md, "Locations").
use Rattle.std.specs.Prelude.{◌≡◌, ℕ, zero, suc, Bool, true, false, nat_eq}
use Rattle.wasm_types.specs.declared.place.Loc.{Loc}
use Rattle.wasm_types.specs.declared.place.Loc.TheVariants.{Local, Global, Mem, Size}
use Rattle.wasm_types.specs.declared.ops.BinOp.{BinOp}
use Rattle.wasm_types.specs.declared.ops.BinOp.TheVariants as bin
use Rattle.wasm_types.specs.declared.ops.NumOp.{NumOp}
use Rattle.wasm_types.specs.declared.ops.NumOp.TheVariants as num
use Rattle.wasm_types.specs.Actions.{Callee, Action, Number, Get, Set, Tee, GetGlobal, SetGlobal, Read, Write, Pages, Grow, Copy, Fill, Task, Acts, Asks}

abbrev pub is_local : ℕ → Loc → Bool
is_local k (Local j) = nat_eq k j
is_local k _ = false

abbrev pub is_global : ℕ → Loc → Bool
is_global k (Global j) = nat_eq k j
is_global k _ = false

abbrev pub is_mem : Loc → Bool
is_mem Mem = true
is_mem _ = false

abbrev pub is_size : Loc → Bool
is_size Size = true
is_size _ = false

-- all but locals
abbrev pub is_outer : Loc → Bool
is_outer (Local k) = false
is_outer _ = true

-- ---- actions

-- What the results and what is written depend on. A write leaves the bytes that it doesn't write as they were.
abbrev pub reads_in : Action → Loc → Bool
reads_in (Get k) x = is_local k x
reads_in (GetGlobal k) x = is_global k x
reads_in (Read access signed) x = is_mem x
reads_in (Write access) x = is_mem x
reads_in Pages x = is_size x
reads_in Grow x = is_size x
reads_in Copy x = is_mem x
reads_in Fill x = is_mem x
reads_in _ x = false

-- what decides whether the action traps
abbrev pub checks_in : Action → Loc → Bool
checks_in (Read access signed) x = is_size x
checks_in (Write access) x = is_size x
checks_in Copy x = is_size x
checks_in Fill x = is_size x
checks_in _ x = false

abbrev pub writes_in : Action → Loc → Bool
writes_in (Set k) x = is_local k x
writes_in (Tee k) x = is_local k x
writes_in (SetGlobal k) x = is_global k x
writes_in (Write access) x = is_mem x
writes_in Grow x = is_size x
writes_in Copy x = is_mem x
writes_in Fill x = is_mem x
writes_in _ x = false

abbrev pub divides : BinOp → Bool
divides bin.DivS = true
divides bin.DivU = true
divides bin.RemS = true
divides bin.RemU = true
divides _ = false

abbrev pub number_traps : NumOp → Bool
number_traps (num.Bin w op) = divides op
number_traps _ = false

abbrev pub may_trap_in : Action → Bool
may_trap_in (Number op) = number_traps op
may_trap_in (Read access signed) = true
may_trap_in (Write access) = true
may_trap_in Copy = true
may_trap_in Fill = true
may_trap_in _ = false

-- The k-th operand from the top decides whether the action traps: both of a division, the address of a load or store, and addresses and count of a copy
-- or a fill.
abbrev pub traps_in : Action → ℕ → Type 0
traps_in (Number op) k = number_traps op ≡ true
traps_in (Read access signed) k = k ≡ 0
traps_in (Write access) k = k ≡ 1
traps_in Copy k = Unit {0}
traps_in Fill zero = Unit {0}
traps_in Fill (suc zero) = ⊥
traps_in Fill (suc (suc k)) = Unit {0}
traps_in _ k = ⊥

-- ---- tasks

-- what calls read, check or write: for each callee locations
abbrev pub OfCalls : Type 1
OfCalls = Callee → Loc → Type 0

-- what a task reads where it is no call, and what it checks or writes, where calls do this
abbrev pub TaskReads : Task → Loc → Type 0
TaskReads (Acts a) x = reads_in a x ≡ true
TaskReads _ x = ⊥

abbrev pub TaskChecks : OfCalls → Task → Loc → Type 0
TaskChecks C (Acts a) x = checks_in a x ≡ true
TaskChecks C (Asks g n r) x = C g x
TaskChecks C _ x = ⊥

abbrev pub TaskWrites : OfCalls → Task → Loc → Type 0
TaskWrites C (Acts a) x = writes_in a x ≡ true
TaskWrites C (Asks g n r) x = C g x
TaskWrites C _ x = ⊥
