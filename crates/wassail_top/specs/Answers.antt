-- What the program answers, by its words and by what its source has left (docs/COMMANDS.md).
use Rattle.std.specs.Prelude.{◌≡◌, ◌⊎◌, ℕ, Bool, ◌+◌, ◌≤◌, List, [], length, All, IsUtf8, ⊤, None, Some, Ok, Err}
use Rattle.std.specs.declared.option.Option.{Option}
use Rattle.outside_io.specs.Causes.{Rose}
use Rattle.outside_io.specs.Whole.{Took, TookAll, TookAtMost}
use Rattle.report_text.specs.declared.refusal.Refusal.TheVariants as refusal
use Rattle.report_text.specs.declared.refusal.ModuleRefusal.TheVariants.{TooLong}
use Rattle.report_text.specs.Texts.{slice_line, valid_line}
use Rattle.report_text.specs.Listing.{listing}
use Rattle.report_text.specs.KeptTexts.{kept_lines}
use Rattle.report_text.specs.SummaryTexts.{summary_lines}
use Rattle.wasm_types.specs.declared.limits.TheConstants.{MOST_BYTES}
use Rattle.wasm_types.specs.declared.module.Module.{Module}
use Rattle.wasm_types.specs.declared.module.Name.{Name}
use Rattle.wasm_types.specs.declared.module.Body.{Body}
use Rattle.wasm_types.specs.declared.module.FuncType.{FuncType}
use Rattle.wasm_types.specs.Spaces.{body_of, type_of_func}
use Rattle.wasm_types.specs.declared.place.Node.{Node}
use Rattle.wasm_types.specs.Code.{code_of, count}
use Rattle.wasm_types.specs.Canon.{canon}
use Rattle.wasm_types.specs.WellFormed.{IsU8, ProperName}
use Rattle.wasm_decode.specs.Decode.{Decodes}
use Rattle.wasm_validate.specs.Admission as admission
use Rattle.wasm_validate.specs.Admission.{IsAdmitted}
use Rattle.flow_domain.specs.Bounds.{Cover}
use Rattle.flow_domain.specs.Kept.{Tells}
use Rattle.flow_domain.specs.Sliced.{func_count, IsSliced, KeptIn}
use Rattle.flow_domain.specs.Touch.{IsExact}
use Rattle.module_mill.specs.Mill.{mill}
use Rattle.wassail_top.specs.Orders.{Order, most_name_bytes}
use Rattle.wassail_top.specs.Orders.Order.{check, rewrite, list, summary, kept, slice, run, trace}
use Rattle.wassail_top.specs.Queries.{positions_of, why_no_summary, why_not_kept, why_no_slice, why_not_milled, why_not_run, why_not_traced}
use Rattle.wassail_top.specs.Refusals.{Answer, refused, IsRefused, unless_refused, why_no_code, why_not_decoded, why_not_admitted}
use Rattle.wassail_top.specs.Reports.{IsReport}
use Rattle.wassail_top.specs.RunAnswers.{AnswersUnless, IsRunAs, IsStatusOfRun}
use Rattle.wassail_top.specs.Summaries.{AreRows, RowTest}
use Rattle.wassail_top.specs.Words.{IsNoCommand, mill_of, order_of}

-- the greatest number of bytes that a module may have
abbrev pub most_bytes : ℕ
most_bytes = MOST_BYTES

-- these bytes on out, and nothing on err
abbrev pub bytes_alone : List ℕ → Answer
bytes_alone bytes = record { status = 0; out = bytes; err = [] }

-- the sliced module on out; on err the number of the new function, and where the instruction went
abbrev pub slice_answer : Module → ℕ → ℕ → Answer
slice_answer new func at = record { status = 0; out = canon new; err = slice_line func at }

-- a name, by its bytes
abbrev pub name_of : List ℕ → Name
name_of bytes = record { bytes = bytes }

-- the module is sliced under the name
pub record IsSlicedAs (m : Module) (f i : ℕ) (name : List ℕ) (answer : Answer) : Type 0 where
  pub new : Module
  pub at : ℕ
  pub sliced : IsSliced m f i (name_of name) new at
  pub proper : ProperName (name_of name)
  pub short : length name ≤ most_name_bytes
  pub is : answer ≡ slice_answer new (func_count m) at

-- the lines of the kept set of position i of a function with this type and body
pub record IsKeptAs (m : Module) (f i : ℕ) (answer : Answer) : Type 0 where
  pub kind : FuncType
  pub kind_is : type_of_func m f ≡ Some kind
  pub body : Body
  pub has_body : body_of m f ≡ Some body
  -- what the functions of m write and touch
  pub cover : Cover
  pub cover_is : IsExact m cover
  pub nodes : Node → Bool
  pub exact : Tells nodes (KeptIn m cover kind body i)
  pub is : answer ≡ bytes_alone (kept_lines nodes (count (code_of body.code)))

-- the lines of the rows of one function, or of each
pub record IsSummaryOf (m : Module) (only : Option ℕ) (answer : Answer) : Type 0 where
  pub rows : RowTest
  pub are : AreRows m rows
  pub is : answer ≡ bytes_alone (summary_lines m rows only)

-- what a command answers about a module that is valid, without a float and within the limits
abbrev pub AnswersAdmitted : Order → Module → Answer → Type 0
AnswersAdmitted check m answer = answer ≡ bytes_alone valid_line
AnswersAdmitted rewrite m answer = answer ≡ bytes_alone (canon m)
AnswersAdmitted (list func) m answer = answer ≡ unless_refused (why_no_code m func) (bytes_alone (listing m func))
AnswersAdmitted (summary only) m answer = AnswersUnless (why_no_summary m only) (IsSummaryOf m only) answer
AnswersAdmitted (kept func at) m answer = AnswersUnless (why_not_kept m func at) (IsKeptAs m func at) answer
AnswersAdmitted (slice func at name) m answer = AnswersUnless (why_no_slice m func at name) (IsSlicedAs m func at name) answer
-- nothing is seen past the last position
AnswersAdmitted (run func budget args replies) m answer =
    AnswersUnless (why_not_run m func args) (IsRunAs m func (positions_of m func) budget args replies) answer
AnswersAdmitted (trace func at budget args replies) m answer = AnswersUnless (why_not_traced m func at args) (IsRunAs m func at budget args replies) answer

-- the query isn't refused about the module
abbrev pub IsTaken : Order → Module → Type 0
IsTaken check m = ⊤
IsTaken rewrite m = ⊤
IsTaken (list func) m = why_no_code m func ≡ None
IsTaken (summary only) m = why_no_summary m only ≡ None
IsTaken (kept func at) m = why_not_kept m func at ≡ None
IsTaken (slice func at name) m = why_no_slice m func at name ≡ None
IsTaken (run func budget args replies) m = why_not_run m func args ≡ None
IsTaken (trace func at budget args replies) m = why_not_traced m func at args ≡ None

-- The status where the query isn't refused: that of how the run ends, and else 0.
abbrev pub HasStatus : Order → Module → ℕ → Type 0
HasStatus check m status = status ≡ 0
HasStatus rewrite m status = status ≡ 0
HasStatus (list func) m status = status ≡ 0
HasStatus (summary only) m status = status ≡ 0
HasStatus (kept func at) m status = status ≡ 0
HasStatus (slice func at name) m status = status ≡ 0
HasStatus (run func budget args replies) m status = IsStatusOfRun m func (positions_of m func) budget args replies status
HasStatus (trace func at budget args replies) m status = IsStatusOfRun m func at budget args replies status

-- what a command answers about a module: the first refusal to admit it that holds, or its own answer
abbrev pub AnswersModule : Order → Module → Answer → Type 0
AnswersModule order m answer =
    IsRefused refusal.Module (admission.Refuses m) why_not_admitted answer ⊎ (IsAdmitted m × AnswersAdmitted order m answer)

-- what a command answers about the bytes that it has read
abbrev pub AnswersBytes : Order → List ℕ → Answer → Type 0
AnswersBytes order bytes answer =
    IsRefused refusal.Module (λ end. Decodes bytes (Err end)) why_not_decoded answer
    ⊎ ((m : Module) × Decodes bytes (Ok m) × AnswersModule order m answer)

-- what a command answers, by what the source had left and what it has left now
abbrev pub AnswersOrder : Order → Option (List ℕ) → Option (List ℕ) → Answer → Type 0
AnswersOrder order old new answer =
    (Took old new (most_bytes + 1) × (answer ≡ refused (refusal.Module TooLong)))
    ⊎ ((bytes : List ℕ) × TookAll old new bytes × (length bytes ≤ most_bytes) × AnswersBytes order bytes answer)

-- the report of the module
abbrev pub IsReportOf : Module → Answer → Type 0
IsReportOf m answer = (text : List ℕ) × IsReport m text × (answer ≡ bytes_alone text)

-- what `mill` answers, which reads nothing: the report of the large module of the number
abbrev pub AnswersMill : List (List ℕ) → Option (List ℕ) → Option (List ℕ) → Answer → Type 0
AnswersMill words old new answer = (n : ℕ) × (mill_of words ≡ Some n) × (new ≡ old) × AnswersUnless (why_not_milled n) (IsReportOf (mill n)) answer

-- what the program answers where nothing fails
abbrev pub Answers : List (List ℕ) → Option (List ℕ) → Option (List ℕ) → Answer → Type 0
Answers words old new answer =
    (IsNoCommand words × (answer ≡ refused refusal.Words))
    ⊎ (((order : Order) × (order_of words ≡ Some order) × AnswersOrder order old new answer) ⊎ AnswersMill words old new answer)

-- the bytes of a text, as each word is one
abbrev pub IsText : List ℕ → Type 0
IsText word = All IsU8 word × IsUtf8 word

-- some answer holds, whatever is left of the bytes of the source
abbrev pub HasAnswer : List (List ℕ) → List ℕ → Type 0
HasAnswer words bytes = (left : Option (List ℕ)) × (answer : Answer) × Answers words (Some bytes) left answer

-- the source failed, and at most so many bytes were taken from it
pub record FailedToRead (old new : Option (List ℕ)) (before now : ℕ) : Type 0 where
  pub took : TookAtMost old new most_bytes
  pub rose : Rose before now

-- what is due from a command: its answer, or the line that tells of a read that failed
abbrev pub IsDueTo : Order → Option (List ℕ) → Option (List ℕ) → ℕ → ℕ → Answer → Type 0
IsDueTo order old new before now answer =
    AnswersOrder order old new answer ⊎ (FailedToRead old new before now × (answer ≡ refused refusal.ReadFailed))

-- What is due on out and err: the answer, or the line that tells of a read that failed, where the words are a command.
abbrev pub IsDue : List (List ℕ) → Option (List ℕ) → Option (List ℕ) → ℕ → ℕ → Answer → Type 0
IsDue words old new before now answer =
    Answers words old new answer
    ⊎ ((order : Order) × (order_of words ≡ Some order) × FailedToRead old new before now × (answer ≡ refused refusal.ReadFailed))
