-- The premises of the laws can be met: a module of one function, (i32) -> i32, whose body is local.get 0, and a state that fits it.
use Rattle.std.proofs.Common.{◌≡◌, ℕ, zero, suc, ◌-◌, ◌<◌, [], ◌∷◌, Some, None, slice_get, refl, subst, arith}
use Rattle.std.proofs.lemmas.List.Elements.{All-nil, All-cons}
use Rattle.wasm_types.specs.declared.module.Value.TheVariants.{I32}
use Rattle.wasm_types.specs.declared.module.ValType.TheVariants as type
use Rattle.wasm_types.specs.declared.module.FuncType.{FuncType}
use Rattle.wasm_types.specs.declared.module.LocalRun.{LocalRun}
use Rattle.wasm_types.specs.declared.module.Body.{Body}
use Rattle.wasm_types.specs.declared.module.Module.{Module}
use Rattle.wasm_types.specs.declared.place.Part.{Part}
use Rattle.wasm_types.specs.declared.place.Part.TheVariants as part
use Rattle.wasm_types.specs.declared.instr.Instr as instr
use Rattle.wasm_types.specs.Code.{onto}
use Rattle.wasm_types.specs.WellFormed.{IsU32, ProperImport, ProperLimits, ProperGlobal, ProperExport, ProperElem, ProperBody, ProperSegment, IsWellFormed}
use Rattle.wasm_types.specs.Validity.{LimitsHold, LimitsWithin, IsValidBody, Holds, IsValid}
use Rattle.wasm_types.specs.Subset.{IsInteger, IsIntegerBody, HasNoFloat}
use Rattle.wasm_meaning.specs.State.{State, Script}
use Rattle.wasm_meaning.specs.Fits.{Fits}
use Rattle.typed_runs.specs.Kept.{AnswerKept}
use Rattle.wasm_meaning.specs.Appended.{Appended}
use Rattle.wasm_types.specs.Funcs.{unwatched}
use Rattle.wasm_meaning.specs.Invoke.{invocation}
use Rattle.wasm_meaning.proofs.Values.{some_same, none_some}
use Rattle.typed_runs.proofs.OwnCalls.{invocations_keep_types}
use Rattle.wasm_meaning.proofs.Append.{appended_keep}

abbrev unary : FuncType
unary = record { params = type.I32 ∷ []; results = type.I32 ∷ [] }

abbrev body : Body
body = record { locals = []; code = instr.LocalGet 0 ∷ [] }

abbrev small : Module
small = record { types = unary ∷ []; imports = []; funcs = 0 ∷ []; tables = []; mems = []; globals = []; exports = []; start = None; elems = []; bodies = body ∷ []; segments = []; names = None }

proper : ProperBody body
unfolding onto
proper = (All-nil (λ (r : LocalRun). IsU32 r.count), omega arith, (omega arith, tt))

well_formed : IsWellFormed small
well_formed = record {
  imports = All-nil ProperImport;
  funcs = All-cons IsU32 0 [] (omega arith) (All-nil IsU32);
  tables = All-nil ProperLimits;
  mems = All-nil ProperLimits;
  globals = All-nil ProperGlobal;
  exports = All-nil ProperExport;
  start = tt;
  elems = All-nil ProperElem;
  bodies = All-cons ProperBody body [] proper (All-nil ProperBody);
  segments = All-nil ProperSegment;
  names = tt;
  same = refl;
}

body_valid : IsValidBody small unary body
unfolding onto
body_valid = (type.I32 ∷ [], ([], type.I32 ∷ [], [], (type.I32, refl, (refl, refl)), refl, refl), refl)

minus : (f : ℕ) → f - 0 ≡ f
minus f = omega arith

holds : (p : Part) → Holds small p
holds (part.TypeAt zero) = omega arith
holds (part.TypeAt (suc k)) = tt
holds (part.ImportAt k) = tt
holds (part.FuncTypeAt f) = λ t own. only f t (subst (λ x. slice_get (0 ∷ []) x ≡ Some t) (minus f) own.1)
  where
    only : (f t : ℕ) → slice_get (0 ∷ []) f ≡ Some t → t < 1
    only zero t e = let q : 0 ≡ t = some_same e in omega arith
    only (suc f) t e = none_some e
holds part.TableAll = (omega arith, All-nil LimitsHold)
holds part.MemoryAll = (omega arith, All-nil (LimitsWithin 65536))
holds (part.GlobalAt g) = λ own le e. none_some e
holds (part.FuncAt zero) = λ F b at has. subst (λ x. IsValidBody small x b) (some_same at) (subst (λ x. IsValidBody small unary x) (some_same has.1) body_valid)
holds (part.FuncAt (suc f)) = λ F b at has. none_some at
holds (part.ExportAt k) = tt
holds part.StartAt = tt
holds (part.ElemAt k) = tt
holds (part.DataAt k) = tt

valid : IsValid small
valid = (well_formed, holds)

integer_body : IsIntegerBody body
unfolding onto
integer_body = (All-nil (λ (r : LocalRun). IsInteger r.kind), (tt, tt))

bodies_integer : (f : ℕ) (b : Body) → slice_get (body ∷ []) f ≡ Some b → IsIntegerBody b
bodies_integer zero b e = subst IsIntegerBody (some_same e) integer_body
bodies_integer (suc f) b e = none_some e

no_float : HasNoFloat small
no_float (part.TypeAt zero) = (All-cons IsInteger type.I32 [] tt (All-nil IsInteger), All-cons IsInteger type.I32 [] tt (All-nil IsInteger))
no_float (part.TypeAt (suc k)) = tt
no_float (part.ImportAt k) = tt
no_float (part.GlobalAt g) = λ own le e. none_some e
no_float (part.FuncAt f) = λ b has. bodies_integer (f - 0) b has.1
no_float (part.ElemAt k) = tt
no_float (part.DataAt k) = tt
no_float _ = tt

abbrev start : State
start = record { globals = []; pages = 0; bytes = []; table = []; cap = 0; host = Script []; host_calls = []; turns = 0 }

start_fits : Fits small start
start_fits = record {
  globals = tt;
  pages = omega arith;
  below_cap = omega arith;
  below_maximum = All-nil _;
  long = refl;
  bytes = All-nil _;
  table = All-nil _;
}

met : AnswerKept small start [] (type.I32 ∷ []) (invocation small 3 unwatched 0 (I32 5 ∷ []) start).answer
met = invocations_keep_types small valid no_float 0 unary refl start start_fits (I32 5 ∷ []) ((refl, omega arith), tt) 3 unwatched

-- with a function of the same type and body behind it
twice : Appended small (0 ∷ []) (body ∷ []) [] start
twice = appended_keep small valid (0 ∷ []) (body ∷ []) [] (All-nil _) start start_fits
