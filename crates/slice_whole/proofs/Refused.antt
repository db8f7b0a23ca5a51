-- The causes against a slice, one after another.
use Rattle.std.proofs.Common.{◌≡◌, ℕ, zero, suc, ◌+◌, ◌-◌, ◌≤◌, ◌<◌, ◌^◌, List, [], ◌∷◌, Bool, true, false, ◌||◌, not, Option, Some, None, length, slice_get, nat_lt, bytes_eq, if◌then◌else◌, refl, sym, ap, ap₂, ◌∙◌, subst, arith, length-append}
use Rattle.std.proofs.lemmas.Slice.Eq.{bytes_eq-Decides}
use Rattle.wasm_types.specs.declared.module.ValType.{ValType}
use Rattle.wasm_types.specs.declared.module.FuncType.{FuncType}
use Rattle.wasm_types.specs.declared.module.Body.{Body}
use Rattle.wasm_types.specs.declared.module.Export.{Export}
use Rattle.wasm_types.specs.declared.module.Module.{Module}
use Rattle.wasm_types.specs.declared.place.Node.{Node}
use Rattle.wasm_types.specs.Code.{code_of, count}
use Rattle.wasm_types.specs.Spaces.{type_of_func, func_types, imported, func_import, import_count, body_of, HasBody, IsOwnFunc}
use Rattle.wasm_types.specs.declared.place.Part.TheVariants as part
use Rattle.wasm_types.specs.declared.place.LimitKind.TheVariants as limit
use Rattle.wasm_types.specs.Subset.{IsSealed}
use Rattle.wasm_types.specs.Validity.{IsValid}
use Rattle.wasm_types.specs.Actions.{Callees, callees}
use Rattle.wasm_types.specs.Sites.{Site, Sites, IsSite}
use Rattle.stack_names.specs.Named.{Named, is_live_in, listed_all}
use Rattle.stack_names.proofs.NameLemmas.{own_body}
use Rattle.flow_domain.specs.Sliced.{func_count, sites_at, HasExport}
use Rattle.stack_repair.proofs.Appended.{type_at}
use Rattle.stack_repair.proofs.ExactCut.{NamedAt}
use Rattle.slice_whole.specs.declared.slicing.SliceRefusal.{SliceRefusal}
use Rattle.slice_whole.specs.declared.slicing.SliceRefusal.TheVariants.{NoFunction, Imported, NoInstruction, Dead, NameTaken}
use Rattle.slice_whole.specs.Slices.{or_else, why_no_code, count_in, why_no_position, why_no_site, sites_in, is_exported, why_taken, why_not}

-- ---- numbers

below : (a b : ℕ) → a < b → nat_lt a b ≡ true
below a b lt = grind arith

not_below : (a b : ℕ) → b ≤ a → nat_lt a b ≡ false
not_below a b le = grind arith

is_below : (a b : ℕ) → nat_lt a b ≡ true → a < b
is_below a b e = grind arith

is_above : (a b : ℕ) → nat_lt a b ≡ false → b ≤ a
is_above a b e = grind arith

-- ---- one cause after another

pub or_some : (a b : Option SliceRefusal) (w : SliceRefusal) → a ≡ Some w → or_else a b ≡ Some w
or_some a b w e = ap (λ z. or_else z b) e

pub or_none : (a b x : Option SliceRefusal) → a ≡ None → b ≡ x → or_else a b ≡ x
or_none a b x e f = ap (λ z. or_else z b) e ∙ f

-- ---- the function

no_function : (m : Module) (f : ℕ) → func_count m ≤ f → why_no_code m f ≡ Some NoFunction
no_function m f le = ap (λ b. if b then (if nat_lt f (import_count m) then Some (Imported f) else None) else Some NoFunction) (not_below f (func_count m) le)

imported_there : (m : Module) (f : ℕ) → f < func_count m → f < import_count m → why_no_code m f ≡ Some (Imported f)
imported_there m f lt im =
    ap₂ {A = Bool} {B = Bool} (λ a b. if a then (if b then Some (Imported f) else None) else Some NoFunction) (below f (func_count m) lt) (below f (import_count m) im)

own_there : (m : Module) (f : ℕ) → f < func_count m → import_count m ≤ f → why_no_code m f ≡ None
own_there m f lt le =
    ap₂ {A = Bool} {B = Bool} (λ a b. if a then (if b then Some (Imported f) else None) else Some NoFunction) (below f (func_count m) lt) (not_below f (import_count m) le)

pub refuses_number : (m : Module) (f i : ℕ) (name : List ℕ) → func_count m ≤ f → why_not m f i name ≡ Some NoFunction
refuses_number m f i name le = or_some _ _ _ (no_function m f le)

-- a function without a body is imported
pub is_import : (m : Module) → IsValid m → (f : ℕ) → f < func_count m → body_of m f ≡ None → f < import_count m
is_import m valid f lt none = go (nat_lt f (import_count m)) refl
  where
    go : (b : Bool) → nat_lt f (import_count m) ≡ b → f < import_count m
    go true e = is_below f (import_count m) e
    go false e = absurd (own_body m valid f (is_above f (import_count m) e) lt none)

-- and one with a body is not
pub is_own : (m : Module) (f : ℕ) (b : Body) → body_of m f ≡ Some b → import_count m ≤ f
is_own m f b e = go (nat_lt f (import_count m)) refl e
  where
    go : (q : Bool) → nat_lt f (import_count m) ≡ q → (if q || not (nat_lt f (length (func_types m))) then None else slice_get m.bodies (f - import_count m)) ≡ Some b → import_count m ≤ f
    go true h e = absurd cc
    go false h e = is_above f (import_count m) h

pub refuses_import : (m : Module) → IsValid m → (f i : ℕ) (name : List ℕ) → f < func_count m → body_of m f ≡ None → why_not m f i name ≡ Some (Imported f)
refuses_import m valid f i name lt none = or_some _ _ _ (imported_there m f lt (is_import m valid f lt none))

-- ---- the position

no_position : (m : Module) (f i : ℕ) (b : Body) → body_of m f ≡ Some b → count (code_of b.code) ≤ i
    → why_no_position (count_in (body_of m f)) i ≡ Some (NoInstruction (count (code_of b.code)))
no_position m f i b e le =
    ap (λ o. why_no_position (count_in o) i) e
    ∙ ap (λ q. if q then None else Some (NoInstruction (count (code_of b.code)))) (not_below i (count (code_of b.code)) le)

position_there : (m : Module) (f i : ℕ) (b : Body) → body_of m f ≡ Some b → i < count (code_of b.code) → why_no_position (count_in (body_of m f)) i ≡ None
position_there m f i b e lt =
    ap (λ o. why_no_position (count_in o) i) e
    ∙ ap (λ q. if q then None else Some (NoInstruction (count (code_of b.code)))) (below i (count (code_of b.code)) lt)

pub refuses_position : (m : Module) (f i : ℕ) (name : List ℕ) (b : Body) → f < func_count m → body_of m f ≡ Some b → count (code_of b.code) ≤ i
    → why_not m f i name ≡ Some (NoInstruction (count (code_of b.code)))
refuses_position m f i name b lt e le = or_none _ _ _ (own_there m f lt (is_own m f b e)) (or_some _ _ _ (no_position m f i b e le))

-- ---- whether it is live

dead_site : (cs : Callees) (T : Node → ValType) (S : Sites) (i j : ℕ) → is_live_in (listed_all cs T S) i ≡ false → why_no_site j (slice_get S i) ≡ Some (Dead (record { 0 = j }))
dead_site cs T [] i j e = refl
dead_site cs T (None ∷ S) zero j e = refl
dead_site cs T (Some s ∷ S) zero j e = absurd cc
dead_site cs T (x ∷ S) (suc i) j e = dead_site cs T S i j e

pub live_there : (cs : Callees) (T : Node → ValType) (S : Sites) (i : ℕ) → is_live_in (listed_all cs T S) i ≡ true → (s : Site) × IsSite S i s
live_there cs T [] i e = absurd cc
live_there cs T (None ∷ S) zero e = absurd cc
live_there cs T (Some s ∷ S) zero e = (s, refl)
live_there cs T (x ∷ S) (suc i) e = live_there cs T S i e

site_of : (m : Module) (f i : ℕ) (F : FuncType) (b : Body) → type_of_func m f ≡ Some F → body_of m f ≡ Some b
    → why_no_site i (slice_get (sites_in m i (type_of_func m f) (body_of m f)) i) ≡ why_no_site i (slice_get (sites_at (callees m) F b i) i)
site_of m f i F b is e = ap₂ {A = Option FuncType} {B = Option Body} (λ t o. why_no_site i (slice_get (sites_in m i t o) i)) is e

pub refuses_dead : (m : Module) (f i : ℕ) (name : List ℕ) (F : FuncType) (b : Body) (n : Named) → f < func_count m → type_of_func m f ≡ Some F → body_of m f ≡ Some b
    → i < count (code_of b.code) → NamedAt m F b i n → is_live_in n.positions i ≡ false → why_not m f i name ≡ Some (Dead (record { 0 = i }))
refuses_dead m f i name F b n lt is e within a dead =
    or_none _ _ _ (own_there m f lt (is_own m f b e)) (or_none _ _ _ (position_there m f i b e within)
    (or_some _ _ _ (site_of m f i F b is e ∙ dead_site (callees m) a.types (sites_at (callees m) F b i) i i (subst (λ z. is_live_in z i ≡ false) a.rows dead))))

-- ---- the name

pub not_listed : (es : List Export) (name : List ℕ) → is_exported es name ≡ false → HasExport es name → ⊥
not_listed [] name e (k, x, at, same) = absurd cc
not_listed (y ∷ es) name e (zero, x, at, same) =
    let f : y ≡ x = cc in
    let g : bytes_eq y.name.bytes name ≡ true = equal y.name.bytes name (ap (λ (z : Export). z.name.bytes) f ∙ same) in
    absurd (clash (bytes_eq y.name.bytes name) (is_exported es name) e g)
  where
    equal : (a b : List ℕ) → a ≡ b → bytes_eq a b ≡ true
    equal a b h = (bytes_eq-Decides a b).1 h

    clash : (a b : Bool) → (a || b) ≡ false → a ≡ true → ⊥
    clash true b p q = cc
    clash false b p q = cc
not_listed (y ∷ es) name e (suc k, x, at, same) = not_listed es name (rest (bytes_eq y.name.bytes name) (is_exported es name) e) (k, x, at, same)
  where
    rest : (a b : Bool) → (a || b) ≡ false → b ≡ false
    rest true b p = absurd cc
    rest false b p = p

-- what is known of a live position of an own function
pub record Seen (m : Module) (f i : ℕ) (F : FuncType) (b : Body) (n : Named) : Type 0 where
  pub there : f < func_count m
  pub type : type_of_func m f ≡ Some F
  pub body : body_of m f ≡ Some b
  pub within : i < count (code_of b.code)
  pub named : NamedAt m F b i n
  pub live : is_live_in n.positions i ≡ true

pub seen_site : (m : Module) (f i : ℕ) (F : FuncType) (b : Body) (n : Named) → Seen m f i F b n → (s : Site) × IsSite (sites_at (callees m) F b i) i s
seen_site m f i F b n h = live_there (callees m) h.named.types (sites_at (callees m) F b i) i (subst (λ z. is_live_in z i ≡ true) h.named.rows h.live)

seen : (m : Module) (f i : ℕ) (name : List ℕ) (F : FuncType) (b : Body) (n : Named) (x : Option SliceRefusal) → Seen m f i F b n
    → why_taken (is_exported m.exports name) ≡ x → why_not m f i name ≡ x
seen m f i name F b n x h e =
    let s = seen_site m f i F b n h in
    or_none _ _ _ (own_there m f h.there (is_own m f b h.body)) (or_none _ _ _ (position_there m f i b h.body h.within)
    (or_none _ _ _ (site_of m f i F b h.type h.body ∙ ap (why_no_site i) s.1) e))

pub refuses_name : (m : Module) (f i : ℕ) (name : List ℕ) (F : FuncType) (b : Body) (n : Named) → Seen m f i F b n → is_exported m.exports name ≡ true
    → why_not m f i name ≡ Some NameTaken
refuses_name m f i name F b n h e = seen m f i name F b n _ h (ap why_taken e)

pub refuses_nothing : (m : Module) (f i : ℕ) (name : List ℕ) (F : FuncType) (b : Body) (n : Named) → Seen m f i F b n → is_exported m.exports name ≡ false
    → why_not m f i name ≡ None
refuses_nothing m f i name F b n h e = seen m f i name F b n _ h (ap why_taken e)

-- ---- nothing against it

pub first_none : (x y : Option SliceRefusal) → or_else x y ≡ None → x ≡ None
first_none (Some w) y p = absurd cc
first_none None y p = refl

pub later_none : (x y : Option SliceRefusal) → or_else x y ≡ None → y ≡ None
later_none (Some w) y p = absurd cc
later_none None y p = p

-- each cause apart
pub record Nothing (m : Module) (f i : ℕ) (name : List ℕ) : Type 0 where
  pub code : why_no_code m f ≡ None
  pub position : why_no_position (count_in (body_of m f)) i ≡ None
  pub site : why_no_site i (slice_get (sites_in m i (type_of_func m f) (body_of m f)) i) ≡ None
  pub name_free : why_taken (is_exported m.exports name) ≡ None

pub nothing_of : (m : Module) (f i : ℕ) (name : List ℕ) → why_not m f i name ≡ None → Nothing m f i name
nothing_of m f i name e =
    let A = why_no_code m f in
    let B = why_no_position (count_in (body_of m f)) i in
    let C = why_no_site i (slice_get (sites_in m i (type_of_func m f) (body_of m f)) i) in
    let D = why_taken (is_exported m.exports name) in
    let b = later_none A (or_else B (or_else C D)) e in
    let c = later_none B (or_else C D) b in
    record {
      code = first_none A (or_else B (or_else C D)) e;
      position = first_none B (or_else C D) b;
      site = first_none C D c;
      name_free = later_none C D c;
    }

-- no export has the name
pub not_exported : (m : Module) (f i : ℕ) (name : List ℕ) → why_not m f i name ≡ None → HasExport m.exports name → ⊥
not_exported m f i name e h = not_listed m.exports name (free (is_exported m.exports name) (nothing_of m f i name e).name_free) h
  where
    free : (q : Bool) → why_taken q ≡ None → q ≡ false
    free true p = absurd cc
    free false p = refl

-- an own function's body is what its number tells
pub body_told : (m : Module) (f : ℕ) (b : Body) → f < func_count m → HasBody m f b → body_of m f ≡ Some b
body_told m f b lt has =
    ap₂ {A = Bool} {B = Bool} (λ x y. if x || not y then None else slice_get m.bodies (f - import_count m)) (not_below f (import_count m) has.0) (below f (length (func_types m)) lt) ∙ has.1

-- ---- own functions

pub sealed_few : (m : Module) → IsSealed m → length (func_types m) < 2 ^ 32
sealed_few m seal = let few = seal.limits limit.Functions 0 (length (func_types m)) (refl, refl) in omega arith

pub present_at : {A : Type 0} (xs : List A) (i : ℕ) → i < length xs → (x : A) × (slice_get xs i ≡ Some x)
present_at [] i lt = absurd (omega arith)
present_at (x ∷ xs) zero lt = (x, refl)
present_at (x ∷ xs) (suc i) lt = present_at xs i (omega arith)

-- the type of an own function is that of its type number
pub type_of_own : (m : Module) → IsValid m → (f type : ℕ) (F : FuncType) → IsOwnFunc m f type → type_of_func m f ≡ Some F → slice_get m.types type ≡ Some F
type_of_own m valid f type F own is =
    let G = present_at m.types type (valid.1 (part.FuncTypeAt f) type own) in G.1 ∙ sym (type_at m f type G.0 own G.1) ∙ is

-- where an own function's type number stands
pub own_place : (m : Module) (f : ℕ) → import_count m ≤ f → (l n : ℕ) → l ≡ length m.funcs → n ≡ func_count m → f - import_count m ≡ f + l - n
own_place m f le l n e g = let h = length-append (imported func_import m.imports) m.funcs in omega arith

pub own_within : (m : Module) (f : ℕ) → import_count m ≤ f → f < func_count m → f - import_count m < length m.funcs
own_within m f le lt = let h = length-append (imported func_import m.imports) m.funcs in omega arith
