-- The steps of a run.
use Rattle.std.specs.Prelude.{◌≡◌, ℕ, ◌≤◌, List, [], Some, Result, Ok, Err}
use Rattle.wasm_types.specs.declared.module.Module.{Module}
use Rattle.wasm_types.specs.declared.run.Reply.{Reply}
use Rattle.wasm_types.specs.declared.run.Event.{Event}
use Rattle.wasm_types.specs.declared.run.Ended.{Ended}
use Rattle.wasm_types.specs.declared.run.Ended.TheVariants as ended
use Rattle.wasm_meaning.specs.State.{State}
use Rattle.wasm_meaning.specs.Invoke.{HasOutcome}
use Rattle.run_store.specs.Scripts.{Replies}
use Rattle.inst_make.specs.declared.instance.Instance.{Instance}
use Rattle.inst_make.specs.declared.start.InstEnd.{InstEnd}
use Rattle.inst_make.specs.declared.start.InstEnd.TheVariants as inst
use Rattle.inst_make.specs.Instances.{StandsFor, IsInstance}
use Rattle.inst_make.specs.Starts.{Begins}
use Rattle.module_run.specs.declared.runs.Begun.{Begun}
use Rattle.module_run.specs.declared.runs.Begun.TheVariants as begun
use Rattle.module_run.specs.declared.runs.RunEnd.{RunEnd}
use Rattle.module_run.specs.declared.runs.RunEnd.TheVariants as end
use Rattle.module_run.specs.declared.runs.RunRefusal.{RunRefusal}
use Rattle.module_run.specs.declared.runs.RunRefusal.TheVariants as refusal
use Rattle.module_run.specs.Runs.{most_run_pages, first_values, run_start, CanRun, Prepared, DoesNotReturn}

-- replies of which none was used
abbrev pub unused : List Reply → Replies
unused replies = record { replies = replies; used = 0 }

-- what comes of a module that isn't instantiated
abbrev pub not_begun : InstEnd → Result RunEnd RunRefusal
not_begun (inst.TooManyPages min) = Err (refusal.TooManyPages min)
not_begun (inst.ElemOut k) = Ok (end.ElemOut k)
not_begun (inst.DataOut k) = Ok (end.DataOut k)
not_begun inst.Memory = Err refusal.Memory

-- the module can run, and the instance is its start
pub record IsStart (m : Module) (replies : List Reply) (i : Instance) : Type 0 where
  pub can : CanRun m replies
  pub begins : Begins m (first_values m) most_run_pages (unused replies) i

-- what an end of the start function leaves
abbrev pub begun_as : Ended → Begun
begun_as (ended.Returned value turns) = begun.Prepared turns
begun_as (ended.Trapped reason turns) = begun.Stopped (ended.Trapped reason turns)
begun_as ended.OutOfTurns = begun.Stopped ended.OutOfTurns

-- the start function, where there is one, ended so, and doesn't return
pub record Stops (m : Module) (replies : List Reply) (budget : ℕ) (ended : Ended) : Type 0 where
  pub func : ℕ
  pub at : ℕ
  pub final : State
  pub events : List Event
  pub start : m.start ≡ Some func
  pub outcome : HasOutcome m func at [] (run_start m replies) budget ended final events
  pub stopped : DoesNotReturn ended

-- the instance stands for a state in which the module is prepared, after so many turns
pub record IsPrepared (m : Module) (replies : List Reply) (budget turns : ℕ) (i : Instance) : Type 0 where
  pub state : State
  pub prepared : Prepared m replies budget turns state
  pub fits : IsInstance m i
  pub stands : StandsFor i state
  pub within : turns ≤ budget

-- what the start function leaves
abbrev pub HasBegun : Module → List Reply → ℕ → Instance → Begun → Type 0
HasBegun m replies budget i (begun.Prepared turns) = IsPrepared m replies budget turns i
HasBegun m replies budget i (begun.Stopped ended) = Stops m replies budget ended

-- the turns are at most so many
abbrev pub TurnsWithin : ℕ → Ended → Type 0
TurnsWithin most (ended.Returned value turns) = turns ≤ most
TurnsWithin most (ended.Trapped reason turns) = turns ≤ most
TurnsWithin most ended.OutOfTurns = Unit {0}
