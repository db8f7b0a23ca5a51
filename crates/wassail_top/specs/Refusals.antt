-- What the program writes where there is no answer (docs/COMMANDS.md).
use Rattle.std.specs.Prelude.{◌≡◌, ℕ, List, [], length, Option, Some, None, nat_lt, if◌then◌else◌}
use Rattle.report_text.specs.declared.refusal.Refusal.{Refusal}
use Rattle.report_text.specs.declared.refusal.Refusal.TheVariants as refusal
use Rattle.report_text.specs.declared.refusal.ModuleRefusal.{ModuleRefusal}
use Rattle.report_text.specs.declared.refusal.ModuleRefusal.TheVariants as of_module
use Rattle.report_text.specs.declared.refusal.QueryRefusal.{QueryRefusal}
use Rattle.report_text.specs.declared.refusal.QueryRefusal.TheVariants as of_query
use Rattle.report_text.specs.Texts.{refusal_line}
use Rattle.wasm_types.specs.declared.module.Module.{Module}
use Rattle.wasm_types.specs.Spaces.{func_types, import_count}
use Rattle.wasm_decode.specs.declared.refusal.DecodeEnd.{DecodeEnd}
use Rattle.wasm_decode.specs.declared.refusal.DecodeEnd.TheVariants as decode
use Rattle.wasm_validate.specs.declared.refusal.AdmitEnd.{AdmitEnd}
use Rattle.wasm_validate.specs.declared.refusal.AdmitEnd.TheVariants as admit
use Rattle.slice_whole.specs.declared.slicing.SliceRefusal.{SliceRefusal}
use Rattle.slice_whole.specs.declared.slicing.SliceRefusal.TheVariants as slice
use Rattle.wassail_top.specs.Statuses.{refusal_status}

-- a status, and what out and err get
pub record Answer : Type 0 where
  pub status : ℕ
  pub out : List ℕ
  pub err : List ℕ

-- one line on err, and nothing on out
abbrev pub refused : Refusal → Answer
refused why = record { status = refusal_status why; out = []; err = refusal_line why }

-- the answer, unless the query is refused
abbrev pub unless_refused : Option QueryRefusal → Answer → Answer
unless_refused None answer = answer
unless_refused (Some why) answer = refused (refusal.Query why)

-- why nothing can be told of the code of function f: there is no such function, or it is imported
abbrev pub why_no_code : Module → ℕ → Option QueryRefusal
why_no_code m f = if nat_lt f (import_count m) then Some (of_query.Imported f) else if nat_lt f (length (func_types m)) then None else Some (of_query.NoFunction f)

-- there is a cause, and the answer is the refusal for it, as one of a class
abbrev pub IsRefusedFor : {Why : Type 0} → (Why → Refusal) → Option Why → Answer → Type 0
IsRefusedFor {Why} class cause answer = (why : Why) × (cause ≡ Some why) × (answer ≡ refused (class why))

-- A cause holds that has a refusal, and the answer is that refusal, as one of a class. A cause without a refusal is that an allocation was refused.
abbrev pub IsRefused : {Cause Why : Type 0} → (Why → Refusal) → (Cause → Type 0) → (Cause → Option Why) → Answer → Type 0
IsRefused {Cause} {Why} class Holds why_of answer = (cause : Cause) × (why : Why) × Holds cause × (why_of cause ≡ Some why) × (answer ≡ refused (class why))

-- why bytes are refused that do not decode
abbrev pub why_not_decoded : DecodeEnd → Option ModuleRefusal
why_not_decoded decode.Header = Some of_module.NoHeader
why_not_decoded (decode.Frame k) = Some (of_module.NoFrame k)
why_not_decoded (decode.Section k id) = Some (of_module.DoesNotRead k id)
why_not_decoded (decode.TooDeep id entry) = Some (of_module.TooDeep id entry)
why_not_decoded decode.Counts = Some of_module.Counts
why_not_decoded decode.Memory = None

-- why a module is refused that is not admitted
abbrev pub why_not_admitted : AdmitEnd → Option ModuleRefusal
why_not_admitted (admit.Float part) = Some (of_module.Float part)
why_not_admitted (admit.Limit which at count) = Some (of_module.Limit which at count)
why_not_admitted (admit.Invalid part) = Some (of_module.Invalid part)
why_not_admitted admit.Memory = None

-- why a slice at position i of function f is refused
abbrev pub why_not_sliced : ℕ → ℕ → SliceRefusal → Option QueryRefusal
why_not_sliced f i slice.NoFunction = Some (of_query.NoFunction f)
why_not_sliced f i (slice.Imported g) = Some (of_query.Imported g)
why_not_sliced f i (slice.NoInstruction count) = Some (of_query.NoInstruction i count)
why_not_sliced f i (slice.Dead p) = Some (of_query.Dead p.0)
why_not_sliced f i slice.NameTaken = Some of_query.NameTaken
why_not_sliced f i slice.Memory = None
