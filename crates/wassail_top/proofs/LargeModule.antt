-- The large module of a number: each function is an own one, and nothing is against a slice of it at its last position.
use Rattle.std.proofs.Common.{◌≡◌, ℕ, suc, List, Err, [], ◌∷◌, ◌-◌, ◌<◌, ◌≤◌, ◌∙◌, Bool, Option, Some, None, codes, length, slice_get}
use Rattle.std.proofs.Common.{nat_eq, refl, sym, ap, ap₂, subst, arith}
use Rattle.std.specs.Prelude.{if◌then◌else◌}
use Rattle.std.proofs.lemmas.Bool.{lt-ltb, le-ltb}
use Rattle.std.proofs.Math.ListN.{length-replicate}
use Rattle.wasm_types.specs.declared.module.Body.{Body}
use Rattle.wasm_types.specs.declared.module.FuncType.{FuncType}
use Rattle.wasm_types.specs.declared.module.Module.{Module}
use Rattle.wasm_types.specs.declared.place.Node.TheVariants.{Exit}
use Rattle.wasm_types.specs.Actions.{callees}
use Rattle.wasm_types.specs.declared.place.LimitKind.TheVariants as limit
use Rattle.wasm_types.specs.Code.{code_of, count, flatten}
use Rattle.wasm_types.specs.Labels.{body_label}
use Rattle.wasm_types.specs.Marked.{Marked, marked, size}
use Rattle.wasm_types.specs.Sites.{Site}
use Rattle.wasm_types.specs.Spaces.{HasBody, body_of, import_count, type_of_func}
use Rattle.wasm_types.specs.Sizes.{positions}
use Rattle.wasm_types.specs.Subset.{IsSealed}
use Rattle.wasm_types.proofs.CodeLemmas.{length-flatten}
use Rattle.wasm_types.specs.declared.module.Name.{Name}
use Rattle.wasm_types.specs.Canon.{canon}
use Rattle.flow_domain.specs.Sliced.{func_count}
use Rattle.flow_domain.specs.Sliced.{IsSliced}
use Rattle.mill_report.specs.declared.lines.Figures.{Figures}
use Rattle.mill_report.specs.Counts.{all_positions, inputs_below}
use Rattle.mill_report.specs.Lines.{figure_lines}
use Rattle.report_text.specs.declared.refusal.QueryRefusal.{QueryRefusal}
use Rattle.module_mill.specs.Mill.{below, body, code, func_type, mill}
use Rattle.module_mill.proofs.Milled.{at_below, sealed, type_at}
use Rattle.module_mill.proofs.Last.{last_live}
use Rattle.slice_whole.specs.declared.slicing.SliceRefusal.{SliceRefusal}
use Rattle.slice_whole.specs.declared.slicing.SliceRefusal.TheVariants as cause
use Rattle.slice_whole.specs.declared.slicing.SliceRefusal.TheVariants.{Imported, NoFunction, NoInstruction}
use Rattle.slice_whole.specs.Slices.{Slices, count_in, is_exported, or_else, sites_in, why_no_code, why_no_position, why_no_site, why_not, why_taken}
use Rattle.slice_whole.proofs.Refused.{body_told}
use Rattle.wassail_top.specs.Queries.{positions_of}
use Rattle.wassail_top.specs.Refusals.{why_not_sliced}
use Rattle.wassail_top.specs.Reports.{IsReport, KeepsBelow, figures_of, last_function, last_position, measured}
use Rattle.wassail_top.specs.Summaries.{AreRows, RowTest}

none_of : (a b c d : Option SliceRefusal) → a ≡ None → b ≡ None → c ≡ None → d ≡ None → or_else a (or_else b (or_else c d)) ≡ None
none_of a b c d p q r s = rw (p, q, r, s)

pub milled_sealed : (n : ℕ) → n ≤ 2000 → (m : Module) → m ≡ mill n → IsSealed m
milled_sealed n few m is = subst IsSealed (sym is) (sealed n few)

module _ (n : ℕ) where
  pub functions : func_count (mill n) ≡ n
  functions = length-replicate n 0

  pub has_body : (f : ℕ) → f < n → HasBody (mill n) f (body f)
  has_body f lt =
      let same : f - 0 ≡ f = omega arith in
      (omega arith, subst (λ (i : ℕ). slice_get (below body n) i ≡ Some (body f)) (sym same) (at_below body n f lt))

  pub body_is : (f : ℕ) → f < n → body_of (mill n) f ≡ Some (body f)
  body_is f lt = body_told (mill n) f (body f) (omega (arith, functions)) (has_body f lt)

  pub positions_are : (f : ℕ) → f < n → positions_of (mill n) f ≡ count (code_of (code f))
  positions_are f lt = ap count_in (body_is f lt)

  pub last_is : (f : ℕ) → f < n → positions_of (mill n) f ≡ suc (last_position (mill n) f)
  last_is f lt =
      let many = positions_are f lt in
      let last = (last_live f).1 in omega (arith, many, last)

  site_there : (f : ℕ) → f < n
      → (s : Site) × (slice_get (sites_in (mill n) (last_position (mill n) f) (type_of_func (mill n) f) (body_of (mill n) f))
      (last_position (mill n) f)
      ≡ Some (Some s))
  site_there f lt =
      let i = last_position (mill n) f in
      let marks : Marked = marked (nat_eq i) 0 (code_of (code f)) in
      let live = (last_live f).2 (callees (mill n)) (nat_eq i) (body_label 1 (size marks) ∷ []) Exit 0 0 [] in
      let many = positions_are f lt in
      let last = (last_live f).1 in
      let at : (last_live f).0 ≡ i = omega (arith, many, last) in (
        live.0,
        ap₂ {A = Option FuncType} {B = Option Body} (λ t b. slice_get (sites_in (mill n) i t b) i) (type_at n f lt) (body_is f lt)
            ∙ ap (slice_get (sites_in (mill n) i (Some func_type) (Some (body f)))) (sym at) ∙ live.1,
      )

  pub nothing_against : (f : ℕ) → f < n → why_not (mill n) f (last_position (mill n) f) (codes "s") ≡ None
  nothing_against f lt =
      let m = mill n in
      let i = last_position m f in
      let last = last_is f lt in
      let few = functions in
      let s = site_there f lt in
      none_of (why_no_code m f) (why_no_position (count_in (body_of m f)) i)
      (why_no_site i (slice_get (sites_in m i (type_of_func m f) (body_of m f)) i)) (why_taken (is_exported m.exports (codes "s")))
      (ap₂ {A = Bool} {B = Bool} (λ a b. if a then (if b then Some (Imported f) else None) else Some NoFunction) (lt-ltb f (func_count m) (omega arith))
      (le-ltb f 0 (omega arith)))
      (ap (λ (b : Bool). if b then None else Some (NoInstruction (count_in (body_of m f)))) (lt-ltb i (count_in (body_of m f)) (omega arith)))
      (ap (why_no_site i) s.1) refl

-- ---- a module that is the large module of a number

same_some : {A : Type 0} {x y : A} → Some x ≡ Some y → x ≡ y
same_some e = cc

module _ (n : ℕ) (m : Module) (is : m ≡ mill n) (f : ℕ) (lt : f < n) where
  pub own_function : f < func_count m
  own_function = subst (λ (x : Module). f < func_count x) (sym is) (omega (arith, functions n))

  pub not_imported : import_count m ≤ f
  not_imported = subst (λ (x : Module). import_count x ≤ f) (sym is) (omega arith)

  pub some_body : body_of m f ≡ Some (body f)
  some_body = subst (λ (x : Module). body_of x f ≡ Some (body f)) (sym is) (body_is n f lt)

  module _ (b : Body) (found : body_of m f ≡ Some b) where
    found_body : HasBody m f b
    found_body =
        let same : body f ≡ b = same_some (sym some_body ∙ found) in
        subst (HasBody m f) same (subst (λ (x : Module). HasBody x f (body f)) (sym is) (has_body n f lt))

    pub few_positions : IsSealed m → length (flatten (code_of b.code)) ≤ 200000
    few_positions seal = seal.limits limit.Positions f (positions b.code) (b, found_body, refl)

    pub found_positions : length (flatten (code_of b.code)) ≡ suc (last_position m f)
    found_positions =
        length-flatten (code_of b.code) ∙ sym (ap count_in found) ∙ subst (λ (x : Module). positions_of x f ≡ suc (last_position x f)) (sym is) (last_is n f lt)

-- ---- what stands against no slice of it

pub never_refused : (m : Module) (f i : ℕ) (name : Name) (end : SliceRefusal) (why : QueryRefusal) → why_not m f i name.bytes ≡ None
    → Slices m f i name (Err end) → why_not_sliced f i end ≡ Some why → ⊥
never_refused m f i name cause.NoFunction why none h e = absurd cc
never_refused m f i name (cause.Imported g) why none h e = absurd cc
never_refused m f i name (cause.NoInstruction count) why none h e = absurd cc
never_refused m f i name (cause.Dead at) why none h e = absurd cc
never_refused m f i name cause.NameTaken why none h e = absurd cc
never_refused m f i name cause.Memory why none h e = absurd cc

-- ---- its report

module _ (n : ℕ) (m : Module) (is : m ≡ mill n) where
  pub count_is : func_count m ≡ n
  count_is = subst (λ (x : Module). func_count x ≡ n) (sym is) (functions n)

  pub report_made : (rows : RowTest) → AreRows m rows → (figures : Figures) → KeepsBelow m n figures.kept → (new : Module) (at : ℕ)
      → IsSliced m (last_function m) (last_position m (last_function m)) measured new at → figures.bytes ≡ length (canon m)
      → figures.functions ≡ func_count m → figures.positions ≡ all_positions m → figures.inputs ≡ inputs_below m rows n
      → figures.slice_bytes ≡ length (canon new) → (text : List ℕ) → text ≡ figure_lines figures → IsReport (mill n) text
  report_made rows are figures keeps new at sliced bytes functions positions inputs slice_bytes text lines =
      let all : figures.inputs ≡ inputs_below m rows (func_count m) = inputs ∙ ap (inputs_below m rows) (sym count_is) in
      let same : figure_lines figures ≡ figure_lines (figures_of m rows figures.kept new) = rw (bytes, functions, positions, all, slice_bytes) in
      subst (λ (x : Module). IsReport x text) is
      (record {
        rows = rows;
        are = are;
        kept = figures.kept;
        keeps = subst (λ (k : ℕ). KeepsBelow m k figures.kept) (sym count_is) keeps;
        new = new;
        at = at;
        sliced = sliced;
        is = lines ∙ same;
      })
