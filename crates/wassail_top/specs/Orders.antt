-- A command without where its texts lie in memory.
use Rattle.std.specs.Prelude.{ℕ, ℤ, ◌≤◌, List, length, ⊤}
use Rattle.std.specs.String.{string_bytes}
use Rattle.std.specs.declared.option.Option.{Option}
use Rattle.wasm_types.specs.declared.run.Reply.{Reply}
use Rattle.wasm_types.specs.declared.limits.TheConstants.{MOST_NAME_BYTES}
use Rattle.wassail_top.specs.declared.words.Command.{Command}
use Rattle.wassail_top.specs.declared.words.Command.TheVariants as command
use Rattle.wassail_top.specs.declared.words.Question.{Question}
use Rattle.wassail_top.specs.declared.words.Question.TheVariants as question

pub data Order : Type 0 where
  check : Order
  rewrite : Order
  list : (func : ℕ) → Order
  summary : (only : Option ℕ) → Order
  kept : (func at : ℕ) → Order
  slice : (func at : ℕ) (name : List ℕ) → Order
  run : (func budget : ℕ) (args : List ℤ) (replies : List Reply) → Order
  trace : (func at budget : ℕ) (args : List ℤ) (replies : List Reply) → Order

abbrev pub asked : Question → Order
asked question.Check = check
asked question.Rewrite = rewrite
asked (question.List func) = list func
asked (question.Summary func) = summary func
asked (question.Kept func at) = kept func at
asked (question.Run func budget args replies) = run func budget args.items replies
asked (question.Trace func at budget args replies) = trace func at budget args.items replies

abbrev pub order_read : Command → Order
order_read (command.Ask q) = asked q
order_read (command.Slice func at name) = slice func at (string_bytes name)

-- the greatest number of bytes of a name
abbrev pub most_name_bytes : ℕ
most_name_bytes = MOST_NAME_BYTES

-- the name that is asked for isn't too long
abbrev pub HasShortName : Order → Type 0
HasShortName check = ⊤
HasShortName rewrite = ⊤
HasShortName (list func) = ⊤
HasShortName (summary only) = ⊤
HasShortName (kept func at) = ⊤
HasShortName (slice func at name) = length name ≤ most_name_bytes
HasShortName (run func budget args replies) = ⊤
HasShortName (trace func at budget args replies) = ⊤
