-- A module with the cut of a body as one function more.
use Rattle.std.proofs.Common.{◌≡◌, ℕ, zero, suc, ◌+◌, ◌-◌, ◌*◌, ◌≤◌, ◌<◌, ◌^◌, List, [], ◌∷◌, ◌++◌, Option, Some, None, length, slice_get, refl, sym, ap, ◌∙◌, subst, arith, IfSome, ◌⊎◌, inl, inr, length-append, append_assoc}
use Rattle.std.proofs.lemmas.List.Elements.{All-push, All-weaker}
use Rattle.std.proofs.lemmas.Option.{slice_get_within}
use Rattle.wasm_types.specs.declared.module.ValType.{ValType}
use Rattle.wasm_types.specs.declared.module.FuncType.{FuncType}
use Rattle.wasm_types.specs.declared.module.Name.{Name}
use Rattle.wasm_types.specs.declared.module.ImportKind.{ImportKind}
use Rattle.wasm_types.specs.declared.module.ImportKind.TheVariants as import
use Rattle.wasm_types.specs.declared.module.Import.{Import}
use Rattle.wasm_types.specs.declared.module.ExportKind.{ExportKind}
use Rattle.wasm_types.specs.declared.module.ExportKind.TheVariants as export
use Rattle.wasm_types.specs.declared.module.Export.{Export}
use Rattle.wasm_types.specs.declared.module.Elem.{Elem}
use Rattle.wasm_types.specs.declared.module.Body.{Body}
use Rattle.wasm_types.specs.declared.module.Module.{Module}
use Rattle.wasm_types.specs.declared.place.Part.{Part}
use Rattle.wasm_types.specs.declared.place.Part.TheVariants as part
use Rattle.wasm_types.specs.declared.place.LimitKind.TheVariants as limit
use Rattle.wasm_types.specs.declared.instr.Instr.{Instr}
use Rattle.wasm_types.specs.declared.instr.Instr as instr
use Rattle.wasm_types.specs.Code.{Code, done, one, block, repeat, branch, code_of, list_of, count, nest}
use Rattle.wasm_types.specs.Marked.{Marked, unmarked}
use Rattle.wasm_types.specs.Sections.{local_count}
use Rattle.wasm_types.specs.Sizes.{positions}
use Rattle.wasm_types.specs.WellFormed.{IsU32, ProperName, ProperExport, ProperBody, ProperCode, IsWellFormed}
use Rattle.wasm_types.specs.Spaces.{import_count, func_types, imported, func_import, type_numbered, type_of_func, local_types, HasBody, IsOwnFunc}
use Rattle.wasm_types.specs.Typing.{Context, Types}
use Rattle.wasm_types.specs.Validity.{values_of, Passes, Leads, ImportHolds, count_of_kind, ExportHolds, ElemHolds, IsValidBody, Holds, IsValid}
use Rattle.wasm_types.specs.Subset.{IsIntegerBody, IsIntegerCode, HasNoFloat, InSubset, most_read, most_answered, WithinLimits, NestsAtMost, most_nesting}
use Rattle.wasm_types.proofs.CodeLemmas.{length-flatten}
use Rattle.wasm_types.specs.Actions.{callees}
use Rattle.flow_domain.specs.Cut.{cut_body}
use Rattle.flow_domain.specs.Sliced.{func_count, appended, result_type, watched_code}
use Rattle.flow_domain.specs.Sliced.{HasExport}
use Rattle.stack_repair.specs.Law.{with_cut, HasTypedBody, HasCut, BodyIsShort, SliceIsValid, SliceIsShort, SliceIsSpelled, SliceIsSealed}
use Rattle.stack_repair.proofs.Counting.{unmarked-marked, cut_is_short, cut_nests_no_deeper}
use Rattle.stack_repair.proofs.Every.{cut_integer, cut_proper}
use Rattle.stack_repair.proofs.Bodies.{at_of, cut_back, cut_is_valid}
use Rattle.stack_repair.proofs.Bytes.{cut_is_small, appended_size}
use Rattle.wasm_types.specs.Canon.{canon_code, canon}
use Rattle.text_laws.proofs.CanonModule.{canon_spelled}
use Rattle.text_laws.proofs.SizeLemmas.{has_at_most}
use Rattle.text_laws.proofs.ModuleLemmas.{one_module}

-- ---- one entry more

some_is : {A : Type 0} {x y : A} → Some x ≡ Some y → y ≡ x
some_is e = cc

one_kind : {A : Type 0} {o : Option A} {x y : A} → o ≡ Some x → o ≡ Some y → x ≡ y
one_kind e f = cc

last_or_before : {A : Type 0} (xs : List A) (x y : A) (k : ℕ) → slice_get (xs ++ x ∷ []) k ≡ Some y → (slice_get xs k ≡ Some y) ⊎ ((k ≡ length xs) × (y ≡ x))
last_or_before [] x y zero e = inr (refl, some_is e)
last_or_before [] x y (suc k) e = absurd cc
last_or_before (z ∷ xs) x y zero e = inl e
last_or_before (z ∷ xs) x y (suc k) e = elim (last_or_before xs x y k e) [ inl h ↦ inl h | inr h ↦ inr (ap suc h.0, h.1) ]

before_last : {A : Type 0} (xs : List A) (x : A) (k : ℕ) → k < length xs → slice_get (xs ++ x ∷ []) k ≡ slice_get xs k
before_last [] x k lt = absurd (omega arith)
before_last (z ∷ xs) x zero lt = refl
before_last (z ∷ xs) x (suc k) lt = before_last xs x k (omega arith)

at_last : {A : Type 0} (xs : List A) (x : A) (k : ℕ) → k ≡ length xs → slice_get (xs ++ x ∷ []) k ≡ Some x
at_last [] x zero e = refl
at_last [] x (suc k) e = absurd (omega arith)
at_last (z ∷ xs) x zero e = absurd (omega arith)
at_last (z ∷ xs) x (suc k) e = at_last xs x k (omega arith)

if_each : {A : Type 0} (o : Option A) (P : A → Type 0) → ((x : A) → o ≡ Some x → P x) → IfSome o P
if_each None P h = tt
if_each (Some x) P h = h x refl

if_weaker : {A : Type 0} (o : Option A) (P Q : A → Type 0) → ((x : A) → P x → Q x) → IfSome o P → IfSome o Q
if_weaker None P Q f h = tt
if_weaker (Some x) P Q f h = f x h

held : {A : Type 0} (o : Option A) (x : A) (P : A → Type 0) → o ≡ Some x → IfSome o P → P x
held o x P e h = subst (λ z. IfSome z P) e h

module _ (m : Module) (type : ℕ) (F : FuncType) (b : Body) (name : Name) where
  abbrev new : Module
  new = appended m type b name

  -- ---- the functions

  types_more : func_types new ≡ func_types m ++ type ∷ []
  types_more = sym (append_assoc (imported func_import m.imports) m.funcs (type ∷ []))

  count_more : func_count new ≡ func_count m + 1
  count_more = ap length types_more ∙ length-append (func_types m) (type ∷ [])

  type_before : (f : ℕ) → f < func_count m → type_of_func new f ≡ type_of_func m f
  type_before f lt =
      ap (λ (ns : List ℕ). type_numbered m.types (slice_get ns f)) types_more ∙ ap (type_numbered m.types) (before_last (func_types m) type f lt)

  type_last : (f : ℕ) → f ≡ func_count m → slice_get m.types type ≡ Some F → type_of_func new f ≡ Some F
  type_last f e is =
      ap (λ (ns : List ℕ). type_numbered m.types (slice_get ns f)) types_more ∙ ap (type_numbered m.types) (at_last (func_types m) type f e) ∙ is

  numbered_at : (types : List FuncType) (o : Option ℕ) (G : FuncType) → type_numbered types o ≡ Some G → (k : ℕ) × (o ≡ Some k)
  numbered_at types None G e = absurd cc
  numbered_at types (Some k) G e = (k, refl)

  -- what had a type has it still
  type_stays : (f : ℕ) (G : FuncType) → type_of_func m f ≡ Some G → type_of_func new f ≡ Some G
  type_stays f G e = let k = numbered_at m.types (slice_get (func_types m) f) G e in type_before f (slice_get_within (func_types m) f k.0 k.1) ∙ e

  own_count : func_count m ≡ import_count m + length m.funcs
  own_count = length-append (imported func_import m.imports) m.funcs

  -- ---- code

  module _ (L R : List ValType) where
    abbrev old_context : Context
    old_context = record { inside = m; locals = L; result = R }

    abbrev new_context : Context
    new_context = record { inside = new; locals = L; result = R }

    types_stay : (op : Instr) (t l : List ValType) → Types old_context op t l → Types new_context op t l
    types_stay (instr.Call f) t l (G, at, h) = (G, type_stays f G at, h)
    types_stay _ t l h = h

    passes_stay : (ls : List (List ValType)) (op : Instr) (s s' : List ValType) → Passes old_context ls op s s' → Passes new_context ls op s s'
    passes_stay ls instr.Unreachable s s' h = h
    passes_stay ls instr.Return s s' h = h
    passes_stay ls (instr.Br l) s s' h = h
    passes_stay ls (instr.BrIf l) s s' h = h
    passes_stay ls (instr.BrTable labels other) s s' h = h
    passes_stay ls (instr.Call f) s s' (t, l, r, ty, e, g) = (t, l, r, types_stay (instr.Call f) t l ty, e, g)
    passes_stay ls _ s s' h = h

    pub leads_stay : (ls : List (List ValType)) (c : Code) (s s' : List ValType) → Leads old_context ls c s s' → Leads new_context ls c s s'
    leads_stay ls done s s' h = h
    leads_stay ls (one i rest) s s' (mid, p, h) = (mid, passes_stay ls i s mid p, leads_stay ls rest mid s' h)
    leads_stay ls (block kind inner rest) s s' h =
        (leads_stay (values_of kind ∷ ls) inner [] (values_of kind) h.0, leads_stay ls rest (values_of kind ++ s) s' h.1)
    leads_stay ls (repeat kind inner rest) s s' h = (leads_stay ([] ∷ ls) inner [] (values_of kind) h.0, leads_stay ls rest (values_of kind ++ s) s' h.1)
    leads_stay ls (branch kind x y rest) s s' (r, e, hx, hy, h) =
        (r, e, leads_stay (values_of kind ∷ ls) x [] (values_of kind) hx, leads_stay (values_of kind ∷ ls) y [] (values_of kind) hy, leads_stay ls rest (values_of kind ++ r) s' h)

  -- ---- the parts

  pub record Fits : Type 0 where
    pub type_is : slice_get m.types type ≡ Some F
    pub number : IsU32 type
    pub proper : ProperBody b
    pub integer : IsIntegerBody b
    pub valid : IsValidBody m F b
    pub name_is : ProperName name
    pub free : HasExport m.exports name.bytes → ⊥
    pub room : func_count m < 2 ^ 32

  well_formed : IsWellFormed m → Fits → IsWellFormed new
  well_formed ok fits = record {
    imports = ok.imports;
    funcs = All-push IsU32 m.funcs type ok.funcs fits.number;
    tables = ok.tables;
    mems = ok.mems;
    globals = ok.globals;
    exports = All-push ProperExport m.exports (record { name = name; kind = export.Func; index = func_count m }) ok.exports (fits.name_is, fits.room);
    start = ok.start;
    elems = ok.elems;
    bodies = All-push ProperBody m.bodies b ok.bodies fits.proper;
    segments = ok.segments;
    names = ok.names;
    same = length-append m.funcs (type ∷ []) ∙ ap (λ (n : ℕ). n + 1) ok.same ∙ sym (length-append m.bodies (b ∷ []));
  }

  import_stays : (i : ImportKind) → ImportHolds m i → ImportHolds new i
  import_stays (import.Func t) h = h
  import_stays (import.Table l) h = h
  import_stays (import.Memory l) h = h
  import_stays (import.Global g) h = h

  type_holds : IsValid m → Fits → (f t : ℕ) → IsOwnFunc new f t → t < length m.types
  type_holds ok fits f t (le, at) = elim (last_or_before m.funcs type t (f - import_count m) at) [
    | inl old ↦ ok.1 (part.FuncTypeAt f) t (le, old)
    | inr new ↦ let lt = slice_get_within m.types type F fits.type_is in let e = new.1 in omega arith
  ]

  moved : (G : FuncType) (c : Body) → F ≡ G → b ≡ c → IsValidBody m F b → IsValidBody m G c
  moved G c e f h = subst (λ (x : Body). IsValidBody m G x) f (subst (λ (x : FuncType). IsValidBody m x b) e h)

  body_holds : IsValid m → Fits → (f : ℕ) (G : FuncType) (c : Body) → type_of_func new f ≡ Some G → HasBody new f c → IsValidBody new G c
  body_holds ok fits f G c is (le, at) =
      leads_stay (local_types G c) G.results (G.results ∷ []) (code_of c.code) [] G.results (elim (last_or_before m.bodies b c (f - import_count m) at) [
        | inl old ↦
            let s = ok.0.same in
            let w = slice_get_within m.bodies (f - import_count m) c old in
            let n = own_count in
            ok.1 (part.FuncAt f) G c (sym (type_before f (omega arith)) ∙ is) (le, old)
        | inr last ↦
            let s = ok.0.same in
            let n = own_count in
            let k = last.0 in
            moved G c (one_kind (type_last f (omega arith) fits.type_is) is) (sym last.1) fits.valid
      ])

  kind_stays : (k : ExportKind) (n : ℕ) → n < count_of_kind m k → n < count_of_kind new k
  kind_stays export.Func n lt = let c = count_more in omega arith
  kind_stays export.Table n lt = lt
  kind_stays export.Memory n lt = lt
  kind_stays export.Global n lt = lt

  last_index : (e : Export) → e ≡ record { name = name; kind = export.Func; index = func_count m } → e.index < count_of_kind new e.kind
  last_index e is = let c = count_more in subst (λ (x : Export). x.index < count_of_kind new x.kind) (sym is) (omega arith)

  export_holds : IsValid m → Fits → (k : ℕ) (e : Export) → slice_get new.exports k ≡ Some e → ExportHolds new k e
  export_holds ok fits k e at = elim (last_or_before m.exports (record { name = name; kind = export.Func; index = func_count m }) e k at) [
    | inl old ↦
        let was = held (slice_get m.exports k) e (ExportHolds m k) old (ok.1 (part.ExportAt k)) in
        let w = slice_get_within m.exports k e old in (
          kind_stays e.kind e.index was.0,
          λ j other lt there. was.1 j other lt (sym (before_last m.exports _ j (omega arith)) ∙ there),
        )
    | inr last ↦ (
      last_index e last.1,
      λ j other lt there same. let n = last.0 in
          fits.free (j, other, sym (before_last m.exports _ j (omega arith)) ∙ there, same ∙ ap (λ (x : Export). x.name.bytes) last.1),
    )
  ]

  elem_stays : (e : Elem) → ElemHolds m e → ElemHolds new e
  elem_stays e h = let c = count_more in (h.0, h.1, All-weaker (λ f. f < func_count m) (λ f. f < func_count new) (λ f lt. omega arith) e.funcs h.2)

  holds : IsValid m → Fits → (p : Part) → Holds new p
  holds ok fits (part.TypeAt k) = ok.1 (part.TypeAt k)
  holds ok fits (part.ImportAt k) = if_weaker (slice_get m.imports k) _ _ (λ (i : Import) h. import_stays i.kind h) (ok.1 (part.ImportAt k))
  holds ok fits (part.FuncTypeAt f) = type_holds ok fits f
  holds ok fits part.TableAll = ok.1 part.TableAll
  holds ok fits part.MemoryAll = ok.1 part.MemoryAll
  holds ok fits (part.GlobalAt g) = ok.1 (part.GlobalAt g)
  holds ok fits (part.FuncAt f) = body_holds ok fits f
  holds ok fits (part.ExportAt k) = if_each _ _ (export_holds ok fits k)
  holds ok fits part.StartAt = if_weaker m.start _ _ (λ f h. (h.0, type_stays f h.0 h.1, h.2, h.3)) (ok.1 part.StartAt)
  holds ok fits (part.ElemAt k) = if_weaker (slice_get m.elems k) _ _ elem_stays (ok.1 (part.ElemAt k))
  holds ok fits (part.DataAt k) = ok.1 (part.DataAt k)

  pub valid_appended : IsValid m → Fits → IsValid new
  valid_appended ok fits = (well_formed ok.0 fits, holds ok fits)

  -- ---- the subset

  float_body : HasNoFloat m → Fits → (f : ℕ) (c : Body) → HasBody new f c → IsIntegerBody c
  float_body nofl fits f c (le, at) = elim (last_or_before m.bodies b c (f - import_count m) at) [
    | inl old ↦ nofl (part.FuncAt f) c (le, old)
    | inr last ↦ subst IsIntegerBody (sym last.1) fits.integer
  ]

  pub integer_appended : HasNoFloat m → Fits → HasNoFloat new
  integer_appended nofl fits (part.TypeAt k) = nofl (part.TypeAt k)
  integer_appended nofl fits (part.ImportAt k) = nofl (part.ImportAt k)
  integer_appended nofl fits (part.FuncTypeAt f) = tt
  integer_appended nofl fits part.TableAll = tt
  integer_appended nofl fits part.MemoryAll = tt
  integer_appended nofl fits (part.GlobalAt g) = nofl (part.GlobalAt g)
  integer_appended nofl fits (part.FuncAt f) = float_body nofl fits f
  integer_appended nofl fits (part.ExportAt k) = tt
  integer_appended nofl fits part.StartAt = tt
  integer_appended nofl fits (part.ElemAt k) = nofl (part.ElemAt k)
  integer_appended nofl fits (part.DataAt k) = nofl (part.DataAt k)

  pub limits_appended : WithinLimits most_read m → local_count b.locals ≤ 8192 → positions b.code ≤ 200000 → WithinLimits most_answered new
  limits_appended few locals long limit.Functions k n (e, f) = let a = few limit.Functions 0 (func_count m) (refl, refl) in let c = count_more in omega arith
  limits_appended few locals long limit.Params k n h = few limit.Params k n h
  limits_appended few locals long limit.Globals k n h = few limit.Globals k n h
  limits_appended few locals long limit.TableSize k n h = few limit.TableSize k n h
  limits_appended few locals long limit.Locals k n (c, (le, at), e) = elim (last_or_before m.bodies b c (k - import_count m) at) [
    | inl old ↦ few limit.Locals k n (c, (le, old), e)
    | inr last ↦ let same = ap (λ (x : Body). local_count x.locals) last.1 in omega arith
  ]
  limits_appended few locals long limit.Positions k n (c, (le, at), e) = elim (last_or_before m.bodies b c (k - import_count m) at) [
    | inl old ↦ let a = few limit.Positions k n (c, (le, old), e) in omega arith
    | inr last ↦ let same = ap (λ (x : Body). positions x.code) last.1 in omega arith
  ]

  pub nesting_appended : (most : ℕ) → NestsAtMost most m → nest (code_of b.code) ≤ most → NestsAtMost most new
  nesting_appended most ok le =
      record { globals = ok.globals; elems = ok.elems; bodies = All-push (λ (x : Body). nest (code_of x.code) ≤ most) m.bodies b ok.bodies le; segments = ok.segments }

-- ---- the slice

pub type_at : (m : Module) (f type : ℕ) (F : FuncType) → IsOwnFunc m f type → slice_get m.types type ≡ Some F → type_of_func m f ≡ Some F
type_at m f type F (le, at) is =
    let n : f ≡ length (imported func_import m.imports) + (f - import_count m) = omega arith in
    ap (type_numbered m.types) (ap (slice_get (func_types m)) n ∙ get_back (imported func_import m.imports) m.funcs (f - import_count m) ∙ at) ∙ is
  where
    get_back : (xs ys : List ℕ) (k : ℕ) → slice_get (xs ++ ys) (length xs + k) ≡ slice_get ys k
    get_back [] ys k = ap (slice_get ys) (omega arith)
    get_back (x ∷ xs) ys k = let e : length (x ∷ xs) + k ≡ suc (length xs + k) = omega arith in ap (slice_get (x ∷ (xs ++ ys))) e ∙ get_back xs ys k

-- an own function of a type has that type, and a body of it
pub own_body : (m : Module) → IsValid m → HasNoFloat m → (f type : ℕ) (F : FuncType) (b : Body) → IsOwnFunc m f type → slice_get m.types type ≡ Some F
    → HasBody m f b → HasTypedBody m F b
own_body m valid nofl f type F b own is has = record { valid = valid; no_float = nofl; func = f; kind_is = type_at m f type F own is; has_body = has }

module _ (m : Module) (name : Name) (slice : Module) (valid : IsValid m) (sub : InSubset m) (h : HasCut m name slice) where
  abbrev cut_code : Marked
  cut_code = cut_body (callees m) h.kept h.present h.types (result_type h.kind) (watched_code h.watched h.body)

  abbrev cut : Body
  cut = with_cut (callees m) h.kept h.present h.types h.watched h.kind h.body

  typed_body : HasTypedBody m h.kind h.body
  typed_body = own_body m valid sub.no_float h.func h.type h.kind h.body h.own h.kind_is h.has_body

  back : code_of cut.code ≡ unmarked cut_code
  back = cut_back m h.kind h.body typed_body h.watched h.kept h.present h.types h.typed h.needed

  body_short : (positions cut.code ≤ 2 * positions h.body.code) × (nest (code_of cut.code) ≤ nest (code_of h.body.code))
  body_short =
      let n1 = length-flatten (code_of h.body.code) in
      let n2 = length-flatten (code_of cut.code) in
      let n3 = ap count back in
      let n4 = cut_is_short (callees m) h.kept h.present h.types (result_type h.kind) h.watched (code_of h.body.code) in
      let d1 = ap nest back in
      let d2 = cut_nests_no_deeper (callees m) h.kept h.present h.types (result_type h.kind) h.watched (code_of h.body.code) in
      (omega arith, omega arith)

  cut_fits : Fits m h.type h.kind cut name
  cut_fits =
      let same = unmarked-marked h.watched 0 (code_of h.body.code) in
      let proper = at_of ProperBody m.bodies (h.func - import_count m) h.body valid.0.bodies h.has_body.1 in
      let integer = sub.no_float (part.FuncAt h.func) h.body h.has_body in
      let d = watched_code h.watched h.body in
      let room = sub.limits limit.Functions 0 (func_count m) (refl, refl) in
      record {
        type_is = h.kind_is;
        number = at_of IsU32 m.funcs (h.func - import_count m) h.type valid.0.funcs h.own.1;
        proper =
            (proper.0, proper.1, subst ProperCode (sym back) (cut_proper (callees m) h.kept h.present h.types (result_type h.kind) d 0 [] (subst ProperCode (sym same) proper.2)));
        integer =
            (integer.0, subst IsIntegerCode (sym back) (cut_integer (callees m) h.kept h.present h.types (result_type h.kind) d 0 [] (subst IsIntegerCode (sym same) integer.1)));
        valid = cut_is_valid m h.kind h.body typed_body h.watched h.kept h.present h.types h.typed h.needed;
        name_is = h.proper;
        free = h.free;
        room = omega arith;
      }

  slice_valid : IsValid slice × HasNoFloat slice × WithinLimits most_answered slice × ((most : ℕ) → NestsAtMost most m → NestsAtMost most slice)
  slice_valid =
      let few = sub.limits limit.Positions h.func (positions h.body.code) (h.body, h.has_body, refl) in
      let short = body_short in
      let twice = short.0 in
      let deep = short.1 in
      subst (λ z. IsValid z × HasNoFloat z × WithinLimits most_answered z × ((most : ℕ) → NestsAtMost most m → NestsAtMost most z)) (sym h.is) (
        valid_appended m h.type h.kind cut name valid cut_fits,
        integer_appended m h.type h.kind cut name sub.no_float cut_fits,
        limits_appended m h.type h.kind cut name sub.limits (sub.limits limit.Locals h.func (local_count h.body.locals) (h.body, h.has_body, refl)) (omega arith),
        λ most most_deep. nesting_appended m h.type h.kind cut name most most_deep (let d0 = at_of (λ (x : Body). nest (code_of x.code) ≤ most) m.bodies (h.func - import_count m) h.body most_deep.bodies h.has_body.1 in omega arith),
      )

  slice_short : length (canon slice) ≤ 5 * length (canon m) + length name.bytes + 64
  slice_short =
      let small = cut_is_small (callees m) h.kept h.present h.types (result_type h.kind) h.watched (code_of h.body.code) in
      let same = ap (λ z. length (canon_code z)) back in
      subst (λ z. length (canon z) ≤ 5 * length (canon m) + length name.bytes + 64) (sym h.is) (appended_size m h.type (h.func - import_count m) h.body (list_of (unmarked cut_code)) name h.has_body.1 (omega arith))

pub body_is_short : BodyIsShort
body_is_short m name new valid sub h = body_short m name new valid sub h

pub slice_is_valid : SliceIsValid
slice_is_valid m name new valid sub h = slice_valid m name new valid sub h

pub slice_is_short : SliceIsShort
slice_is_short m name new valid sub h = slice_short m name new valid sub h

pub slice_is_spelled : SliceIsSpelled
slice_is_spelled m name new valid sub h lt lt' =
    let short = slice_short m name new valid sub h in
    let fit : length (canon new) < 2 ^ 32 = omega arith in
    let spelled = canon_spelled new (slice_valid m name new valid sub h).0.0 fit in
    (fit, spelled, λ other is. one_module (canon new) new other spelled is)

pub slice_is_sealed : SliceIsSealed
slice_is_sealed m name new valid sub h lt lt' =
    let a = slice_valid m name new valid sub h in
    let short = slice_short m name new valid sub h in
    record { valid = a.0; no_float = a.1; limits = a.2; nesting = a.3 most_nesting sub.nesting; entries = has_at_most new 0xFFFF_FFFF (omega arith) }
