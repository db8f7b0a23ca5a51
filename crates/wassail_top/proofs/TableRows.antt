-- The least table of a module has the rows of its functions, and what rows leave out has no influence.
use Rattle.std.proofs.Common.{◌≡◌, ℕ, zero, suc, ◌<◌, List, [], ◌∷◌, ◌++◌, Bool, true, false, Option, Some, None, IsSome, inl, inr, length, get_or, slice_get, refl, sym, ap, ◌∙◌, subst, arith}
use Rattle.std.specs.Prelude.{IfSome}
use Rattle.std.proofs.lemmas.Bool.{cases_lt}
use Rattle.std.proofs.lemmas.Option.{slice_get-get_or, slice_get_within}
use Rattle.wasm_types.specs.declared.module.FuncType.{FuncType}
use Rattle.wasm_types.specs.declared.module.Import.{Import}
use Rattle.wasm_types.specs.declared.module.ImportKind.{ImportKind}
use Rattle.wasm_types.specs.declared.module.ImportKind.TheVariants as import
use Rattle.wasm_types.specs.declared.module.Module.{Module}
use Rattle.wasm_types.specs.declared.place.Loc.{Loc}
use Rattle.wasm_types.specs.declared.place.Loc.TheVariants.{Local, Global, Mem, Size, Host}
use Rattle.wasm_types.specs.declared.place.Part.TheVariants as part
use Rattle.wasm_types.specs.Hosts.{IsFunction}
use Rattle.wasm_types.specs.Spaces.{func_import, func_types, globals_of, import_count, imported, type_numbered, type_of_func}
use Rattle.wasm_types.specs.Subset.{HasNoFloat}
use Rattle.wasm_types.specs.Validity.{ImportHolds, IsValid}
use Rattle.wasm_decode.proofs.EntryLemmas.{get-within}
use Rattle.stack_names.proofs.NameLemmas.{own_typed}
use Rattle.flow_domain.specs.declared.summary.Input.{Input}
use Rattle.flow_domain.specs.declared.summary.Input.TheVariants as inp
use Rattle.flow_domain.specs.declared.summary.Output.{Output as Asked}
use Rattle.flow_domain.specs.declared.summary.Output.TheVariants.{Done}
use Rattle.flow_domain.specs.declared.summary_table.SummaryTable.{SummaryTable}
use Rattle.flow_domain.specs.Bounds.{bounds}
use Rattle.flow_domain.specs.Rows.{Output, AnyRound}
use Rattle.flow_domain.specs.Summaries.{IsKnown, IsSet, IsTableOf, TableRows, asked, column_number, place_of, row_number, word_count}
use Rattle.flow_laws.specs.Soundness.{Omits}
use Rattle.report_text.specs.SummaryTexts.{rows_in}
use Rattle.report_text.proofs.SummaryLemmas.{rows_in_exact}
use Rattle.summary_fix.specs.TwoRuns.{HasExactCover, IsLeastTable}
use Rattle.summary_fix.proofs.Returning.{rounds_agree, rounds_return}
use Rattle.wassail_top.specs.Headline.{RowsAgree, RowsReturn}
use Rattle.wassail_top.specs.Queries.{params_of}
use Rattle.wassail_top.specs.Summaries.{AreOf, AreRows, IsInputOf, LeavesOut, RowTest}
use Rattle.slice_whole.proofs.SomeCover.{typed_there}
use Rattle.wassail_top.proofs.NoCode.{some_of}
use Rattle.wassail_top.proofs.RunLemmas.{params_are}

-- ---- each function of a valid module has a type

kind_typed : (m : Module) (kind : ImportKind) (types : List ℕ) → ImportHolds m kind → ((f t : ℕ) → slice_get types f ≡ Some t → t < length m.types)
    → (f t : ℕ) → slice_get (func_import kind ++ types) f ≡ Some t → t < length m.types
kind_typed m (import.Func type) types holds more zero t at = let same : type ≡ t = cc in subst (λ (n : ℕ). n < length m.types) same holds
kind_typed m (import.Func type) types holds more (suc f) t at = more f t at
kind_typed m (import.Table l) types holds more f t at = more f t at
kind_typed m (import.Memory l) types holds more f t at = more f t at
kind_typed m (import.Global g) types holds more f t at = more f t at

imports_typed : (m : Module) (is : List Import) → ((k : ℕ) (i : Import) → slice_get is k ≡ Some i → ImportHolds m i.kind)
    → (f t : ℕ) → slice_get (imported func_import is) f ≡ Some t → t < length m.types
imports_typed m [] holds f t at = absurd cc
imports_typed m (i ∷ is) holds f t at =
    kind_typed m i.kind (imported func_import is) (holds 0 i refl) (imports_typed m is (λ k j there. holds (suc k) j there)) f t at

import_typed : (m : Module) → IsValid m → (f : ℕ) → f < import_count m → type_of_func m f ≡ None → ⊥
import_typed m valid f lt none =
    let t = get_or (imported func_import m.imports) f 0 in
    let at : slice_get (imported func_import m.imports) f ≡ Some t = slice_get-get_or (imported func_import m.imports) f 0 lt in
    let all : slice_get (func_types m) f ≡ Some t = get-within (imported func_import m.imports) m.funcs f lt ∙ at in
    let small : t < length m.types =
    imports_typed m m.imports
    (λ k i there. subst (λ (o : Option Import). IfSome o (λ (x : Import). ImportHolds m x.kind)) there (valid.1 (part.ImportAt k))) f t at in
    let some : slice_get m.types t ≡ Some (get_or m.types t (record { params = []; results = [] })) = slice_get-get_or m.types t _ small in
    let found : type_of_func m f ≡ slice_get m.types t = ap (type_numbered m.types) all in
    let both : None ≡ Some (get_or m.types t (record { params = []; results = [] })) = sym none ∙ found ∙ some in absurd cc

pub typed : (m : Module) → IsValid m → (f : ℕ) → IsFunction m f → (t : FuncType) × (type_of_func m f ≡ Some t)
typed m valid f lt = elim (cases_lt f (import_count m)) [
  | inl imported_one ↦ some_of (type_of_func m f) (import_typed m valid f imported_one)
  | inr own ↦ some_of (type_of_func m f) (own_typed m valid f own lt)
]

-- ---- the rows of the least table

set_both : (words : ℕ) (bits : List ℕ) (row column : Option ℕ) → IsSet words bits row column → IsSome row × IsSome column
set_both words bits (Some r) (Some c) h = (refl, refl)
set_both words bits (Some r) None h = absurd h
set_both words bits None c h = absurd h

row_is_of : (m : Module) (t : SummaryTable) → IsValid m → IsTableOf m t → (f : ℕ) (o : Output) (x : Loc) → TableRows t f o x → AreOf m f o x
row_is_of m t valid table f o x (s, (at, has)) =
    let within = slice_get_within t.rows.items f s at in
    let long = table.long in
    let there : IsFunction m f = omega arith in
    let kind = typed m valid f there in
    let shape = table.shapes f kind.0 s kind.1 at in
    let params : s.params ≡ length (params_of m f) = shape.params_is ∙ ap length (sym (params_are m f kind.0 kind.1)) in
    let both = set_both (word_count s.globals s.params) s.bits.items (row_number s.globals o) (column_number s.globals s.params x) has in
    record {
      func = there;
      out = subst (λ (g : ℕ). IsKnown g o) shape.globals_is both.0;
      inp = subst (λ (g : ℕ). IsSome (column_number g (length (params_of m f)) x)) shape.globals_is
          (subst (λ (p : ℕ). IsSome (column_number s.globals p x)) params both.1);
    }

pub table_rows : (m : Module) (t : SummaryTable) → IsValid m → HasExactCover m → IsTableOf m t → IsLeastTable m t → AreRows m (rows_in t)
table_rows m t valid cover table least =
    record {
      cover = cover.0;
      cover_is = cover.1;
      exact = λ f o i. (
        (λ on.
            let row = (rows_in_exact t f o i).0 on in
            let of = row_is_of m t valid table f (asked o) (place_of i) row in (of, (least cover.0 cover.1 f (asked o) (place_of i) of.out).0 row)),
        (λ row. (rows_in_exact t f o i).1 ((least cover.0 cover.1 f (asked o) (place_of i) row.0.out).1 row.1)),
      );
    }

-- ---- what rows leave out

input_at : (x : Loc) → (i : Input) × (place_of i ≡ x)
input_at (Local k) = (inp.Param k, refl)
input_at (Global k) = (inp.Global k, refl)
input_at Mem = (inp.Mem, refl)
input_at Size = (inp.Size, refl)
input_at Host = (inp.Host, refl)

module _ (m : Module) (valid : IsValid m) (integer : HasNoFloat m) (rows : RowTest) (are : AreRows m rows) where
  omits : (f : ℕ) → IsFunction m f → (o : Asked) → IsKnown (length (globals_of m)) (asked o) → (J : Loc → Bool) → LeavesOut m rows f o J
      → Omits (bounds m are.cover) f (asked o) J
  omits f there o known J out x on n dep =
      let i = input_at x in
      let row : AnyRound (bounds m are.cover) f (asked o) (place_of i.0) =
      subst (λ (y : Loc). AnyRound (bounds m are.cover) f (asked o) y) (sym i.1) (n, dep) in
      let of : AreOf m f (asked o) (place_of i.0) = record { func = there; out = known; inp = subst (IsInputOf m f) (sym i.1) (out.inputs x on) } in
      let yes_so : rows f o i.0 ≡ true = (are.exact f o i.0).1 (of, row) in
      let no_so : rows f o i.0 ≡ false = out.omitted i.0 (subst (λ (y : Loc). J y ≡ true) (sym i.1) on) in cc

  pub rows_agree : RowsAgree m rows
  rows_agree f kind is o known J out =
      rounds_agree m are.cover valid integer are.cover_is.writes f kind is (asked o) J (omits f (typed_there m f kind is) o known J out)

  pub rows_return : RowsReturn m rows
  rows_return f kind is J out =
      rounds_return m are.cover valid integer are.cover_is.writes f kind is J (omits f (typed_there m f kind is) Done refl J out)
