-- A run of a module from its start: its segments are written, its start function runs, and then a function (WebAssembly Core Specification 1.0, section 4.5.4;
-- docs/MEANING.md, "Runs").
use Rattle.std.specs.Prelude.{◌≡◌, ℕ, ◌+◌, ◌-◌, ◌<◌, ◌≤◌, List, [], map, All, Option, Some, None, Result, Ok, Err}
use Rattle.wasm_types.specs.declared.module.Value.{Value}
use Rattle.wasm_types.specs.declared.module.GlobalType.{GlobalType}
use Rattle.wasm_types.specs.declared.module.Module.{Module}
use Rattle.wasm_types.specs.declared.module.Pos.{Pos}
use Rattle.wasm_types.specs.declared.run.Reply.{Reply}
use Rattle.wasm_types.specs.declared.run.Event.{Event}
use Rattle.wasm_types.specs.declared.run.Ended.{Ended}
use Rattle.wasm_types.specs.declared.run.Ended.TheVariants as ended
use Rattle.wasm_types.specs.Spaces.{imported, global_import, mems_of}
use Rattle.wasm_meaning.specs.State.{State, Script}
use Rattle.wasm_meaning.specs.Invoke.{HasOutcome, zero_value}
use Rattle.typed_runs.specs.Start.{least, bare, started, ElemFits, SegmentFits, CanStart}
use Rattle.inst_make.specs.Starts.{IsFirstWithout}
use Rattle.ref_interp.specs.Invokes.{Watches}
use Rattle.module_run.specs.declared.runs.RunEnd.{RunEnd}
use Rattle.module_run.specs.declared.runs.RunEnd.TheVariants as end
use Rattle.module_run.specs.declared.runs.RunRefusal.{RunRefusal}
use Rattle.module_run.specs.declared.runs.RunRefusal.TheVariants as refusal

-- the greatest number of pages of a run
abbrev pub most_run_pages : ℕ
most_run_pages = 1024

-- imported globals are zero
abbrev pub first_values : Module → List Value
first_values m = map (λ (g : GlobalType). zero_value g.kind) (imported global_import m.imports)

-- before and after the segments are written, where the host gives these replies
abbrev pub bare_start : Module → List Reply → State
bare_start m replies = bare m (first_values m) most_run_pages (Script replies)

abbrev pub run_start : Module → List Reply → State
run_start m replies = started m (bare_start m replies)

abbrev pub CanRun : Module → List Reply → Type 0
CanRun m replies = CanStart m (first_values m) most_run_pages (Script replies)

-- The start function, where there is one, returned within the budget, after so many turns in this state.
pub data Prepared (m : Module) (replies : List Reply) (budget : ℕ) : ℕ → State → Type 0 where
  without : m.start ≡ None → Prepared m replies budget 0 (run_start m replies)
  returned : (g i turns : ℕ) (final : State) (events : List Event) → m.start ≡ Some g
      → HasOutcome m g i [] (run_start m replies) budget (ended.Returned None turns) final events → Prepared m replies budget turns final

-- so many turns before
abbrev pub after_turns : ℕ → Ended → Ended
after_turns before (ended.Returned value turns) = ended.Returned value (before + turns)
after_turns before (ended.Trapped reason turns) = ended.Trapped reason (before + turns)
after_turns before ended.OutOfTurns = ended.OutOfTurns

-- how a run ends: a segment doesn't fit, the first that doesn't; or the start function doesn't return; or as the function ends that is called then, with
-- what is seen at position i of its body. Both share the budget, and the turns are counted together.
pub data RunEnds : Type 0 where
  ElemOut : (k : ℕ) → RunEnds
  DataOut : (k : ℕ) → RunEnds
  InStart : (ended : Ended) → RunEnds
  Ran : (ended : Ended) (events : List Event) → RunEnds

abbrev pub DoesNotReturn : Ended → Type 0
DoesNotReturn (ended.Returned value turns) = ⊥
DoesNotReturn _ = Unit {0}

pub data RunsTo (m : Module) (f i : ℕ) (args : List Value) (replies : List Reply) (budget : ℕ) : RunEnds → Type 0 where
  elem_out : (k : ℕ) → IsFirstWithout (ElemFits (bare_start m replies)) m.elems k → RunsTo m f i args replies budget (ElemOut k)
  data_out : (k : ℕ) → All (ElemFits (bare_start m replies)) m.elems → IsFirstWithout (SegmentFits (bare_start m replies)) m.segments k
      → RunsTo m f i args replies budget (DataOut k)
  in_start : (g j : ℕ) (ended : Ended) (final : State) (events : List Event) → CanRun m replies → m.start ≡ Some g
      → HasOutcome m g j [] (run_start m replies) budget ended final events → DoesNotReturn ended → RunsTo m f i args replies budget (InStart ended)
  ran : (turns : ℕ) (s final : State) (ended : Ended) (events : List Event) → CanRun m replies → Prepared m replies budget turns s
      → HasOutcome m f i args s (budget - turns) ended final events → RunsTo m f i args replies budget (Ran (after_turns turns ended) events)

-- ---- what is answered

abbrev pub ends_as : RunEnd → RunEnds
ends_as (end.ElemOut k) = ElemOut k
ends_as (end.DataOut k) = DataOut k
ends_as (end.InStart ended) = InStart ended
ends_as (end.Ran ended trace) = Ran ended trace.items

-- What is answered: how the run ends, with what is seen at the watched position; or that the memory begins with more pages than a run may have. An
-- allocation may be refused.
abbrev pub Runs : Module → ℕ → Option Pos → List Value → List Reply → ℕ → Result RunEnd RunRefusal → Type 0
Runs m f watch args replies budget (Ok answer) =
    (least (mems_of m) ≤ most_run_pages) × ((i : ℕ) → Watches m f watch i → RunsTo m f i args replies budget (ends_as answer))
Runs m f watch args replies budget (Err (refusal.TooManyPages min)) = (min ≡ least (mems_of m)) × (most_run_pages < min)
Runs m f watch args replies budget (Err refusal.Memory) = Unit {0}
