-- The texts of a run and of its trace (docs/COMMANDS.md, "What a run prints"), byte by byte.
use Rattle.std.specs.Prelude.{ℕ, Bool, true, false, List, [], ◌∷◌, ◌++◌, Option, Some, None, codes, decimal}
use Rattle.wasm_types.specs.declared.module.Value.{Value}
use Rattle.wasm_types.specs.declared.module.Value.TheVariants as value
use Rattle.wasm_types.specs.declared.run.Reason.{Reason}
use Rattle.wasm_types.specs.declared.run.Reason.TheVariants as reason
use Rattle.wasm_types.specs.declared.run.Event.{Event}
use Rattle.wasm_types.specs.declared.run.Event.TheVariants as event
use Rattle.wasm_types.specs.declared.run.Ended.{Ended}
use Rattle.wasm_types.specs.declared.run.Ended.TheVariants as ended
use Rattle.report_text.specs.declared.run.Outcome.{Outcome}
use Rattle.report_text.specs.declared.run.Outcome.TheVariants as outcome
use Rattle.report_text.specs.Texts.{line_of}

-- a value as its unsigned number
abbrev pub value_text : Value → List ℕ
value_text (value.I32 n) = decimal n
value_text (value.I64 n) = decimal n

-- a space and the value, for each of them
abbrev pub value_texts : List Value → List (List ℕ)
value_texts [] = []
value_texts (v ∷ vs) = codes " " ∷ value_text v ∷ value_texts vs

abbrev pub event_line : Event → List ℕ
event_line (event.Take vs) = line_of (codes "take" ∷ value_texts vs)
event_line (event.Leave vs) = line_of (codes "leave" ∷ value_texts vs)

abbrev pub event_lines : List Event → List ℕ
event_lines [] = []
event_lines (e ∷ es) = event_line e ++ event_lines es

-- why a run stopped
abbrev pub reason_text : Reason → List ℕ
reason_text reason.Unreachable = codes "unreachable"
reason_text reason.DivideByZero = codes "divide by zero"
reason_text reason.Overflow = codes "integer overflow"
reason_text reason.MemoryBounds = codes "memory out of bounds"
reason_text reason.NoEntry = codes "no table entry"
reason_text reason.EmptyEntry = codes "empty table entry"
reason_text reason.WrongType = codes "wrong function type"
reason_text reason.ReplyMissing = codes "host reply missing"
reason_text reason.ReplyUnfit = codes "host reply unfit"

-- the turns of the start function and of the run together
abbrev pub turns_line : ℕ → List ℕ
turns_line turns = line_of (codes "turns " ∷ decimal turns ∷ [])

abbrev pub trapped_in : Bool → List ℕ
trapped_in true = codes "start trapped "
trapped_in false = codes "trapped "

abbrev pub result_texts : Option Value → List (List ℕ)
result_texts None = []
result_texts (Some v) = codes " " ∷ value_text v ∷ []

-- how a run ended, or the start function before it
abbrev pub ended_lines : Bool → Ended → List ℕ
ended_lines in_start (ended.Returned value turns) = line_of (codes "returned" ∷ result_texts value) ++ turns_line turns
ended_lines in_start (ended.Trapped why turns) = line_of (trapped_in in_start ∷ reason_text why ∷ []) ++ turns_line turns
ended_lines in_start ended.OutOfTurns = line_of (codes "out of turns" ∷ [])

-- a segment that doesn't fit
abbrev pub elem_line : ℕ → List ℕ
elem_line k = line_of (codes "element segment " ∷ decimal k ∷ codes " does not fit" ∷ [])

abbrev pub data_line : ℕ → List ℕ
data_line k = line_of (codes "data segment " ∷ decimal k ∷ codes " does not fit" ∷ [])

-- what is printed of it: the events, and then how it ended
abbrev pub run_lines : Outcome → List ℕ
run_lines (outcome.Ran ended trace in_start) = event_lines trace.items ++ ended_lines in_start ended
run_lines (outcome.ElemOut k) = elem_line k
run_lines (outcome.DataOut k) = data_line k
