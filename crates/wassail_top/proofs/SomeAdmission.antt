-- A well formed module is admitted, or has a refusal.
use Rattle.std.proofs.Common.{◌≡◌, ◌<◌, ◌≤◌, ◌+◌, ◌-◌, ◌⊎◌, ◌==◌, ℕ, List, length, Option, Some, None, inl, inr, refl, sym, ap, ◌∙◌, subst, arith}
use Rattle.std.specs.Prelude.{IfSome, slice_get, if◌then◌else◌}
use Rattle.std.proofs.lemmas.Bool.{cases_lt}
use Rattle.std.proofs.lemmas.Option.{slice_get_within}
use Rattle.report_text.specs.declared.refusal.ModuleRefusal.{ModuleRefusal}
use Rattle.report_text.specs.declared.refusal.ModuleRefusal.TheVariants as of_module
use Rattle.wasm_types.specs.declared.module.FuncType.{FuncType}
use Rattle.wasm_types.specs.declared.module.Import.{Import}
use Rattle.wasm_types.specs.declared.module.Module.{Module}
use Rattle.wasm_types.specs.declared.place.Part.{Part}
use Rattle.wasm_types.specs.declared.place.Part.TheVariants as part
use Rattle.wasm_types.specs.declared.place.LimitKind.{LimitKind}
use Rattle.wasm_types.specs.declared.place.LimitKind.TheVariants as limit
use Rattle.wasm_types.specs.Spaces.{import_count, imported, global_import, tables_of}
use Rattle.wasm_types.specs.Subset.{HasNoFloatIn, HasNoFloat, IsIntegerFunc, IsIntegerImport, IsIntegerElem, IsIntegerSegment, Counts, WithinLimits, most_read}
use Rattle.wasm_types.specs.Validity.{Holds, ImportHolds, ExportHolds, ElemHolds, SegmentHolds}
use Rattle.wasm_types.specs.WellFormed.{IsWellFormed}
use Rattle.wasm_validate.specs.declared.refusal.AdmitEnd.{AdmitEnd}
use Rattle.wasm_validate.specs.declared.refusal.AdmitEnd.TheVariants as end
use Rattle.wasm_validate.specs.First.{float_order, valid_order, IsFirstWithout}
use Rattle.wasm_validate.specs.Admission.{limit_order, told_number, IsFirstOver, Refuses, IsAdmitted}
use Rattle.wasm_validate.proofs.FloatLemmas.{holds_each_float}
use Rattle.wasm_validate.proofs.PartLemmas as parts
use Rattle.wasm_validate.proofs.PartLemmas.{UpTo, IsNumbered, IsSingle, float_at, float_apart, numbered, none_yet, first_numbered, past_numbered, first_single, past_single, all_parts}
use Rattle.wassail_top.specs.Refusals.{why_not_admitted}
use Rattle.slice_whole.proofs.NotRefuted.{NotRefuted, either}
use Rattle.wassail_top.proofs.Firsts.{First, first}

-- ---- the parts of a kind

-- a list has no entry past its end
past_list : {A : Type 0} (P : A → Type 0) (xs : List A) (k : ℕ) → length xs ≤ k → IfSome (slice_get xs k) P
past_list {A} P xs k le = go (slice_get xs k) refl
  where
    go : (o : Option A) → slice_get xs k ≡ o → IfSome o P
    go None is = tt
    go (Some x) is = let lt = slice_get_within xs k x is in absurd (omega arith)

of_numbers : (P : Part → Type 0) (order : Part → ℕ) (n : ℕ) (at : ℕ → Part) (bound : ℕ) → IsNumbered order n at → ((k : ℕ) → bound ≤ k → P (at k))
    → UpTo P order n
    → ((p : Part) → IsFirstWithout P order p → ⊥) → (UpTo P order (n + 1) → ⊥) → First (λ k. P (at k)) bound → ⊥
of_numbers P order n at bound kind past earlier bad good (inl all) =
    good (past_numbered P order n at kind earlier (λ k. elim (cases_lt k bound) [ inl less ↦ all k less | inr more ↦ past k more ]))
of_numbers P order n at bound kind past earlier bad good (inr (k, never, before)) = bad (at k) (first_numbered P order n at k kind earlier (never, before))

-- a kind with numbers: one of its parts is the first without the property, or all have it
search_numbers : (P : Part → Type 0) (order : Part → ℕ) (n : ℕ) (at : ℕ → Part) (bound : ℕ) → IsNumbered order n at → ((k : ℕ) → bound ≤ k → P (at k))
    → UpTo P order n
    → ((p : Part) → IsFirstWithout P order p → ⊥) → (UpTo P order (n + 1) → ⊥) → ⊥
search_numbers P order n at bound kind past earlier bad good = first (λ k. P (at k)) bound (of_numbers P order n at bound kind past earlier bad good)

of_one : (P : Part → Type 0) (order : Part → ℕ) (n : ℕ) (one : Part) → IsSingle order n one → UpTo P order n
    → ((p : Part) → IsFirstWithout P order p → ⊥) → (UpTo P order (n + 1) → ⊥) → (P one) ⊎ (P one → ⊥) → ⊥
of_one P order n one kind earlier bad good (inl holds) = good (past_single P order n one kind earlier holds)
of_one P order n one kind earlier bad good (inr never) = bad one (first_single P order n one kind earlier never)

-- the same of a kind of one part
search_one : (P : Part → Type 0) (order : Part → ℕ) (n : ℕ) (one : Part) → IsSingle order n one → UpTo P order n
    → ((p : Part) → IsFirstWithout P order p → ⊥) → (UpTo P order (n + 1) → ⊥) → ⊥
search_one P order n one kind earlier bad good = either (P one) (of_one P order n one kind earlier bad good)

-- ---- floats

search_floats : (m : Module) → ((p : Part) → IsFirstWithout (HasNoFloatIn m) float_order p → ⊥) → (HasNoFloat m → ⊥) → ⊥
search_floats m bad good =
    let P : Part → Type 0 = HasNoFloatIn m in
    search_numbers P float_order 0 part.TypeAt (length m.types) (numbered float_order float_at 0 float_apart (λ k. refl) (λ k. refl))
    (past_list IsIntegerFunc m.types) (none_yet P float_order) bad (λ types.
    search_numbers P float_order 1 part.ImportAt (length m.imports) (numbered float_order float_at 1 float_apart (λ k. refl) (λ k. refl))
    (past_list (λ (i : Import). IsIntegerImport i.kind) m.imports) types bad (λ imports.
    search_numbers P float_order 2 part.GlobalAt (length (imported global_import m.imports) + length m.globals)
    (numbered float_order float_at 2 float_apart (λ k. refl) (λ k. refl))
    (λ k le own known is. let lt = slice_get_within m.globals (k - length (imported global_import m.imports)) own is in absurd (omega arith)) imports bad
    (λ globals.
    search_numbers P float_order 3 part.ElemAt (length m.elems) (numbered float_order float_at 3 float_apart (λ k. refl) (λ k. refl))
    (past_list IsIntegerElem m.elems) globals bad (λ elems.
    search_numbers P float_order 4 part.FuncAt (import_count m + length m.bodies) (numbered float_order float_at 4 float_apart (λ k. refl) (λ k. refl))
    (λ k le b has. let lt = slice_get_within m.bodies (k - import_count m) b has.1 in absurd (omega arith)) elems bad (λ funcs.
    search_numbers P float_order 5 part.DataAt (length m.segments) (numbered float_order float_at 5 float_apart (λ k. refl) (λ k. refl))
    (past_list IsIntegerSegment m.segments) funcs bad (λ segments. good (holds_each_float m segments)))))))

-- ---- validity

search_parts : (m : Module) → ((p : Part) → IsFirstWithout (Holds m) valid_order p → ⊥) → (((p : Part) → Holds m p) → ⊥) → ⊥
search_parts m bad good =
    let P : Part → Type 0 = Holds m in
    search_numbers P valid_order 0 part.TypeAt (length m.types) parts.types (past_list (λ (t : FuncType). length t.results ≤ 1) m.types)
    (none_yet P valid_order) bad (λ types.
    search_numbers P valid_order 1 part.ImportAt (length m.imports) parts.imports (past_list (λ (i : Import). ImportHolds m i.kind) m.imports) types bad
    (λ imports.
    search_numbers P valid_order 2 part.FuncTypeAt (import_count m + length m.funcs) parts.func_types
    (λ k le t own. let lt = slice_get_within m.funcs (k - import_count m) t own.1 in absurd (omega arith)) imports bad (λ func_types.
    search_one P valid_order 3 part.TableAll parts.tables func_types bad (λ tables.
    search_one P valid_order 4 part.MemoryAll parts.memories tables bad (λ memories.
    search_numbers P valid_order 5 part.GlobalAt (length (imported global_import m.imports) + length m.globals) parts.globals
    (λ k le own known is. let lt = slice_get_within m.globals (k - length (imported global_import m.imports)) own is in absurd (omega arith)) memories bad
    (λ globals.
    search_numbers P valid_order 6 part.FuncAt (import_count m + length m.bodies) parts.funcs
    (λ k le F b is has. let lt = slice_get_within m.bodies (k - import_count m) b has.1 in absurd (omega arith)) globals bad (λ funcs.
    search_numbers P valid_order 7 part.ExportAt (length m.exports) parts.exports (λ k. past_list (ExportHolds m k) m.exports k) funcs bad (λ exports.
    search_one P valid_order 8 part.StartAt parts.starts exports bad (λ starts.
    search_numbers P valid_order 9 part.ElemAt (length m.elems) parts.elems (past_list (ElemHolds m) m.elems) starts bad (λ elems.
    search_numbers P valid_order 10 part.DataAt (length m.segments) parts.segments (past_list (SegmentHolds m) m.segments) elems bad (λ segments.
    good (all_parts P segments))))))))))))

-- ---- limits

-- the numbers of a kind are within its limit
abbrev Within : Module → LimitKind → Type 0
Within m which = (k n : ℕ) → Counts m which k n → n ≤ most_read which

abbrev Below : Module → ℕ → Type 0
Below m n = (which : LimitKind) → limit_order which < n → Within m which

-- the kind at a place of the order
abbrev kind_at : ℕ → LimitKind
kind_at n =
    if n == 0 then limit.Functions else if n == 1 then limit.Params else if n == 2 then limit.Globals else if n == 3 then limit.TableSize
    else if n == 4 then limit.Locals else limit.Positions

kind_back : (which : LimitKind) → kind_at (limit_order which) ≡ which
kind_back limit.Functions = refl
kind_back limit.Params = refl
kind_back limit.Globals = refl
kind_back limit.TableSize = refl
kind_back limit.Locals = refl
kind_back limit.Positions = refl

one_kind_more : (m : Module) (which : LimitKind) → Below m (limit_order which) → Within m which → Below m (limit_order which + 1)
one_kind_more m which earlier here other lt = elim (cases_lt (limit_order other) (limit_order which)) [
  | inl less ↦ earlier other less
  | inr more ↦ (
      let same : limit_order which ≡ limit_order other = omega arith in
      subst (Within m) (sym (kind_back which) ∙ ap kind_at same ∙ kind_back other) here
      )
]

over_or_within : (m : Module) (which : LimitKind) (k n : ℕ) → Below m (limit_order which)
    → ((j : ℕ) → j < k → (n : ℕ) → Counts m which j n → n ≤ most_read which)
    → ((k n : ℕ) → IsFirstOver m which k n → ⊥) → Counts m which k n → n ≤ most_read which
over_or_within m which k n earlier before bad counted = elim (cases_lt (most_read which) n) [
  | inl over ↦ absurd (bad k n (record { counted = counted; over = over; kinds = λ w j c lt. earlier w lt j c; numbers = λ j c lt. before j lt c }))
  | inr within ↦ within
]

of_kind : (m : Module) (which : LimitKind) (bound : ℕ) → ((k n : ℕ) → bound ≤ k → Counts m which k n → ⊥) → Below m (limit_order which)
    → ((k n : ℕ) → IsFirstOver m which k n → ⊥) → (Below m (limit_order which + 1) → ⊥)
    → First (λ k. (n : ℕ) → Counts m which k n → n ≤ most_read which) bound → ⊥
of_kind m which bound past earlier bad good (inl all) =
    good (one_kind_more m which earlier
    (λ k n counted. elim (cases_lt k bound) [ inl less ↦ all k less n counted | inr more ↦ absurd (past k n more counted) ]))
of_kind m which bound past earlier bad good (inr (k, never, before)) = never (λ n counted. over_or_within m which k n earlier before bad counted)

search_kind : (m : Module) (which : LimitKind) (bound : ℕ) → ((k n : ℕ) → bound ≤ k → Counts m which k n → ⊥) → Below m (limit_order which)
    → ((k n : ℕ) → IsFirstOver m which k n → ⊥) → (Below m (limit_order which + 1) → ⊥) → ⊥
search_kind m which bound past earlier bad good =
    first (λ k. (n : ℕ) → Counts m which k n → n ≤ most_read which) bound (of_kind m which bound past earlier bad good)

all_kinds : (m : Module) → Below m 6 → WithinLimits most_read m
all_kinds m all limit.Functions = all limit.Functions (omega arith)
all_kinds m all limit.Params = all limit.Params (omega arith)
all_kinds m all limit.Globals = all limit.Globals (omega arith)
all_kinds m all limit.TableSize = all limit.TableSize (omega arith)
all_kinds m all limit.Locals = all limit.Locals (omega arith)
all_kinds m all limit.Positions = all limit.Positions (omega arith)

search_limits : (m : Module) → ((which : LimitKind) (k n : ℕ) → IsFirstOver m which k n → ⊥) → (WithinLimits most_read m → ⊥) → ⊥
search_limits m bad good =
    search_kind m limit.Functions 1 (λ k n le counted. let zero = counted.0 in omega arith) (λ which lt. absurd (omega arith)) (bad limit.Functions)
    (λ functions.
    search_kind m limit.Params (length m.types) (λ k n le counted. let lt = slice_get_within m.types k counted.0 counted.1 in omega arith) functions
    (bad limit.Params) (λ params.
    search_kind m limit.Globals 1 (λ k n le counted. let zero = counted.0 in omega arith) params (bad limit.Globals) (λ globals.
    search_kind m limit.TableSize (length (tables_of m))
    (λ k n le counted. let lt = slice_get_within (tables_of m) k counted.0 counted.1 in omega arith) globals (bad limit.TableSize) (λ tables.
    search_kind m limit.Locals (import_count m + length m.bodies)
    (λ k n le counted. let lt = slice_get_within m.bodies (k - import_count m) counted.0 counted.1.1 in omega arith) tables (bad limit.Locals) (λ locals.
    search_kind m limit.Positions (import_count m + length m.bodies)
    (λ k n le counted. let lt = slice_get_within m.bodies (k - import_count m) counted.0 counted.1.1 in omega arith) locals (bad limit.Positions) (λ positions.
    good (all_kinds m positions)))))))

-- ---- the whole

-- it is admitted, or a refusal holds
abbrev pub AdmittedOrRefused : Module → Type 0
AdmittedOrRefused m = IsAdmitted m ⊎ ((cause : AdmitEnd) × (why : ModuleRefusal) × Refuses m cause × (why_not_admitted cause ≡ Some why))

pub some_admission : (m : Module) → IsWellFormed m → NotRefuted (AdmittedOrRefused m)
some_admission m formed never =
    search_floats m (λ p bad. never (inr (end.Float p, of_module.Float p, bad, refl))) (λ no_float.
    search_limits m (λ which k n over.
    never (inr (end.Limit which (told_number which k) n, of_module.Limit which (told_number which k) n, (no_float, (k, over, refl)), refl))) (λ limits.
    search_parts m (λ p bad. never (inr (end.Invalid p, of_module.Invalid p, (no_float, limits, bad), refl))) (λ holds.
    never (inl (record { valid = (formed, holds); no_float = no_float; limits = limits })))))
