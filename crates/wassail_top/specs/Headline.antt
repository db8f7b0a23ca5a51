-- What status 0 of `slice` and of `summary` says.
use Rattle.std.specs.Prelude.{◌≡◌, ℕ, Bool, List, [], length, Some, Ok}
use Rattle.std.specs.declared.option.Option.{Option}
use Rattle.std.specs.Io.KnownBytes.{Appends}
use Rattle.outside_io.specs.Whole.{TookAll}
use Rattle.report_text.specs.SummaryTexts.{summary_lines}
use Rattle.report_text.specs.Texts.{slice_line}
use Rattle.wasm_types.specs.declared.module.FuncType.{FuncType}
use Rattle.wasm_types.specs.declared.module.Module.{Module}
use Rattle.wasm_types.specs.declared.place.Loc.{Loc}
use Rattle.wasm_types.specs.Canon.{canon}
use Rattle.wasm_types.specs.Modules.{Spells}
use Rattle.wasm_types.specs.Spaces.{globals_of, type_of_func}
use Rattle.wasm_types.specs.Validity.{IsValid}
use Rattle.wasm_decode.specs.Decode.{Decodes}
use Rattle.wassail_top.specs.Answers.{name_of}
use Rattle.wassail_top.specs.Summaries.{AreRows, LeavesOut, RowTest}
use Rattle.flow_domain.specs.declared.summary.Output.{Output as Asked}
use Rattle.flow_domain.specs.declared.summary.Output.TheVariants.{Done}
use Rattle.flow_domain.specs.Sliced.{func_count, IsSliced}
use Rattle.flow_domain.specs.Summaries.{IsKnown, asked}
use Rattle.summary_fix.specs.TwoRuns.{BothReturn, TwoAgree}
use Rattle.slice_whole.specs.Law.{Follows}

-- the canonical spelling decodes as the module, and spells no other
pub record DecodesAsItself (m : Module) : Type 0 where
  pub decodes : Decodes (canon m) (Ok m)
  pub alone : (other : Module) → Spells (canon m) other → m ≡ other

-- The source was read to its end, and spelled a module. Out gained the sliced module of function f, position i and the name, and err where the function
-- and the position stand in it. The sliced module is valid and decodes as itself, and whenever f returns, its slice returns from the same start, after
-- no more turns, and passes the instruction with the same values in order.
pub record SliceHolds (f i : ℕ) (name : List ℕ) (left_old left_new out_old out_new err_old err_new : Option (List ℕ)) : Type 0 where
  pub bytes : List ℕ
  pub took : TookAll left_old left_new bytes
  pub m : Module
  pub spelled : Spells bytes m
  pub new : Module
  pub at : ℕ
  pub sliced : IsSliced m f i (name_of name) new at
  pub out : Appends out_old out_new (canon new)
  pub err : Appends err_old err_new (slice_line (func_count m) at)
  pub valid : IsValid new
  pub itself : DecodesAsItself new
  pub follows : Follows m f i new (func_count m) at

-- what the rows leave out of an output has no influence on it: two invocations that both return, from starts that differ only in it, agree on the output
abbrev pub RowsAgree : Module → RowTest → Type 0
RowsAgree m rows =
    (f : ℕ) (kind : FuncType) → type_of_func m f ≡ Some kind → (o : Asked) → IsKnown (length (globals_of m)) (asked o) → (J : Loc → Bool)
    → LeavesOut m rows f o J → TwoAgree m f (length kind.params) (asked o) J

-- and where one returns, the other does, after as many turns, if it is left out of completion
abbrev pub RowsReturn : Module → RowTest → Type 0
RowsReturn m rows =
    (f : ℕ) (kind : FuncType) → type_of_func m f ≡ Some kind → (J : Loc → Bool) → LeavesOut m rows f Done J → BothReturn m f (length kind.params) J

-- The source was read to its end, and spelled a module. Out gained the lines of the rows of its functions, or of those of one alone, and err nothing. What
-- the rows leave out has no influence.
pub record SummaryHolds (only : Option ℕ) (left_old left_new out_old out_new err_old err_new : Option (List ℕ)) : Type 0 where
  pub bytes : List ℕ
  pub took : TookAll left_old left_new bytes
  pub m : Module
  pub spelled : Spells bytes m
  pub rows : RowTest
  pub are : AreRows m rows
  pub out : Appends out_old out_new (summary_lines m rows only)
  pub err : Appends err_old err_new []
  pub agree : RowsAgree m rows
  pub returns : RowsReturn m rows
