-- What an analysis of one body knows of the module: for each callee a set of locations that a call of it writes, and such a set that it touches
-- (docs/ANALYSES.md, "Locations").
use Rattle.std.specs.Prelude.{◌≡◌, ℕ, Bool, true, false, Option}
use Rattle.wasm_types.specs.declared.place.Loc.{Loc}
use Rattle.wasm_types.specs.declared.instr.Instr.{Instr}
use Rattle.wasm_types.specs.declared.module.Module.{Module}
use Rattle.wasm_types.specs.Actions.{callees, Callee, Task, NoTask, Acts, Asks, task_of, called_of}
use Rattle.wasm_types.specs.Locations.{reads_in, checks_in, writes_in, traps_in, may_trap_in}
use Rattle.wasm_types.specs.Reaching.{Table}
use Rattle.wasm_types.specs.Sites.{Head, DoHead, Site, Sites, IsSite}

pub record Cover : Type 0 where
  pub writes : Callee → Loc → Bool
  pub touch : Callee → Loc → Bool

pub record Bounds : Type 0 where
  pub m : Module
  pub cover : Cover

abbrev pub bounds : Module → Cover → Bounds
bounds m W = record { m = m; cover = W }

-- ---- tasks

abbrev pub reads_of : Task → Loc → Bool
reads_of (Acts a) x = reads_in a x
reads_of _ x = false

abbrev pub checks_of : Cover → Task → Loc → Bool
checks_of W NoTask x = false
checks_of W (Acts a) x = checks_in a x
checks_of W (Asks g n r) x = W.touch g x

abbrev pub writes_of : Cover → Task → Loc → Bool
writes_of W NoTask x = false
writes_of W (Acts a) x = writes_in a x
writes_of W (Asks g n r) x = W.writes g x

abbrev pub traps_of : Task → ℕ → Type 0
traps_of (Acts a) k = traps_in a k
traps_of _ k = ⊥

-- it may stop, and so may one that has no meaning
abbrev pub may_trap_of : Task → Bool
may_trap_of NoTask = true
may_trap_of (Acts a) = may_trap_in a
may_trap_of (Asks g n r) = true

-- ---- instructions

-- what the results and what is written depend on, where it is no call
abbrev pub reads : Bounds → Instr → Loc → Bool
reads B op x = reads_of (task_of (callees B.m) op) x

-- what decides whether the instruction traps
abbrev pub checks : Bounds → Instr → Loc → Bool
checks B op x = checks_of B.cover (task_of (callees B.m) op) x

abbrev pub writes : Bounds → Instr → Loc → Bool
writes B op x = writes_of B.cover (task_of (callees B.m) op) x

-- whom it calls
abbrev pub called : Bounds → Instr → Option Callee
called B op = called_of (task_of (callees B.m) op)

-- the k-th operand from the top decides whether it traps
abbrev pub traps_by : Bounds → Instr → ℕ → Type 0
traps_by B op k = traps_of (task_of (callees B.m) op) k

abbrev pub may_trap : Bounds → Instr → Bool
may_trap B op = may_trap_of (task_of (callees B.m) op)

-- ---- positions

abbrev pub writes_at : Bounds → Head → Loc → Bool
writes_at B (DoHead op) x = writes B op x
writes_at B _ x = false

-- what the live positions write
abbrev pub written_by : Bounds → Sites → Table
written_by B S p x = (s : Site) × IsSite S p s × (writes_at B s.head x ≡ true)
