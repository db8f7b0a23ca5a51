-- The exit status of each way to end, and of each refusal (docs/COMMANDS.md).
use Rattle.std.specs.Prelude.{ℕ}
use Rattle.report_text.specs.declared.refusal.Refusal.{Refusal}
use Rattle.report_text.specs.declared.refusal.Refusal.TheVariants as refusal
use Rattle.wassail_top.specs.declared.status.Status.{Status}
use Rattle.wassail_top.specs.declared.status.Status.TheVariants.{Answered, ModuleRefused, WordsRefused, ReadFailed, WriteFailed, NoMemory, QueryRefused, Trapped, OutOfTurns}

abbrev pub status_code : Status → ℕ
status_code Answered = 0
status_code ModuleRefused = 1
status_code WordsRefused = 2
status_code ReadFailed = 3
status_code WriteFailed = 4
status_code NoMemory = 5
status_code QueryRefused = 6
status_code Trapped = 7
status_code OutOfTurns = 8

-- the status that tells of a refusal
abbrev pub refusal_status : Refusal → ℕ
refusal_status refusal.Words = status_code WordsRefused
refusal_status refusal.ReadFailed = status_code ReadFailed
refusal_status (refusal.Module cause) = status_code ModuleRefused
refusal_status (refusal.Query cause) = status_code QueryRefused
