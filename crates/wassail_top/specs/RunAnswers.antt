-- What `run` and `trace` answer (docs/COMMANDS.md, "What a run prints").
use Rattle.std.specs.Prelude.{◌≡◌, ℕ, ℤ, ◌++◌, true, false, List, [], Option, Some, None}
use Rattle.report_text.specs.declared.refusal.Refusal.TheVariants as refusal
use Rattle.report_text.specs.declared.refusal.QueryRefusal.{QueryRefusal}
use Rattle.report_text.specs.RunTexts.{data_line, elem_line, ended_lines, event_lines}
use Rattle.wasm_types.specs.declared.module.Module.{Module}
use Rattle.wasm_types.specs.declared.module.Value.{Value}
use Rattle.wasm_types.specs.declared.run.Ended.{Ended}
use Rattle.wasm_types.specs.declared.run.Ended.TheVariants as ended
use Rattle.wasm_types.specs.declared.run.Reply.{Reply}
use Rattle.module_run.specs.Runs.{RunEnds, RunsTo}
use Rattle.module_run.specs.Runs.RunEnds.{ElemOut, DataOut, InStart, Ran}
use Rattle.module_run.specs.Values.{values_for}
use Rattle.wassail_top.specs.declared.status.Status.{Status}
use Rattle.wassail_top.specs.declared.status.Status.TheVariants as status
use Rattle.wassail_top.specs.Queries.{params_of}
use Rattle.wassail_top.specs.Refusals.{Answer, refused}
use Rattle.wassail_top.specs.Statuses.{status_code}

-- how the program ends where a run ended so
abbrev pub ended_status : Ended → Status
ended_status (ended.Returned value turns) = status.Answered
ended_status (ended.Trapped reason turns) = status.Trapped
ended_status ended.OutOfTurns = status.OutOfTurns

abbrev pub run_status : RunEnds → Status
run_status (ElemOut k) = status.Trapped
run_status (DataOut k) = status.Trapped
run_status (InStart e) = ended_status e
run_status (Ran e events) = ended_status e

-- what is printed of a run: the events, and then how it ended
abbrev pub ends_lines : RunEnds → List ℕ
ends_lines (ElemOut k) = elem_line k
ends_lines (DataOut k) = data_line k
ends_lines (InStart e) = ended_lines true e
ends_lines (Ran e events) = event_lines events ++ ended_lines false e

abbrev pub run_answer : RunEnds → Answer
run_answer e = record { status = status_code (run_status e); out = ends_lines e; err = [] }

-- The arguments stand for values of the function's parameters. So run, the function with what is seen at position i ends in a way that is the answer.
pub record IsRunAs (m : Module) (f i budget : ℕ) (args : List ℤ) (replies : List Reply) (answer : Answer) : Type 0 where
  pub values : List Value
  pub fit : values_for (params_of m f) args ≡ Some values
  pub ends : RunEnds
  pub runs : RunsTo m f i values replies budget ends
  pub is : answer ≡ run_answer ends

-- such an answer, unless the query is refused
abbrev pub AnswersUnless : Option QueryRefusal → (Answer → Type 0) → Answer → Type 0
AnswersUnless None Holds answer = Holds answer
AnswersUnless (Some why) Holds answer = answer ≡ refused (refusal.Query why)

-- the status of a run: 0 where it returns, 7 where a segment doesn't fit or the start function or the run traps within the budget, and 8 where they don't end
-- within it
abbrev pub IsStatusOfRun : (m : Module) (f i budget : ℕ) → List ℤ → List Reply → ℕ → Type 0
IsStatusOfRun m f i budget args replies n =
    (values : List Value) × (ends : RunEnds) × (values_for (params_of m f) args ≡ Some values) × RunsTo m f i values replies budget ends
    × (n ≡ status_code (run_status ends))
