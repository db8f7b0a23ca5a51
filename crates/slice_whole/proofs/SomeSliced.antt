-- Where nothing is against a slice, there is one: that there is none is impossible.
use Rattle.std.proofs.Common.{◌≡◌, ℕ, ◌-◌, ◌≤◌, ◌<◌, List, Bool, true, false, Option, Some, None, length, slice_get, nat_lt, nat_eq, if◌then◌else◌, refl, sym, ap₂, ◌∙◌, arith, length-append}
use Rattle.wasm_types.specs.declared.module.FuncType.{FuncType}
use Rattle.wasm_types.specs.declared.module.Name.{Name}
use Rattle.wasm_types.specs.declared.module.Body.{Body}
use Rattle.wasm_types.specs.declared.module.Module.{Module}
use Rattle.wasm_types.specs.declared.place.Node.{Node}
use Rattle.wasm_types.specs.declared.place.Part.TheVariants as part
use Rattle.wasm_types.specs.Marked.{watched_at}
use Rattle.wasm_types.specs.Subset.{HasNoFloat, IsSealed}
use Rattle.wasm_types.specs.Spaces.{imported, func_import, import_count, type_of_func, body_of}
use Rattle.wasm_types.specs.Validity.{IsValid}
use Rattle.wasm_types.specs.Actions.{callees}
use Rattle.wasm_types.specs.Sites.{Site, IsSite}
use Rattle.flow_domain.specs.Bounds.{Cover, bounds}
use Rattle.flow_domain.specs.Sliced.{func_count, cut_of, with_code, appended, watched_once, rows_in, IsSliced}
use Rattle.stack_repair.proofs.Appended.{own_body, type_at}
use Rattle.stack_repair.proofs.Bodies.{types_of_body}
use Rattle.stack_repair.proofs.ExactCut.{needed_told}
use Rattle.slice_whole.specs.declared.slicing.SliceRefusal.TheVariants.{NoFunction, Imported}
use Rattle.slice_whole.specs.Slices.{KeepsIn, Own, sites_of, why_no_site, sites_in, why_not}
use Rattle.slice_whole.proofs.Refused.{body_told, nothing_of, present_at}
use Rattle.slice_whole.proofs.NotRefuted.{NotRefuted}
use Rattle.slice_whole.proofs.SomeCover.{some_cover}
use Rattle.slice_whole.proofs.SomeSets.{some_kept, some_makers}

-- some test tells the kept set of a position
pub some_keeps : (m : Module) (W : Cover) (t : FuncType) (b : Body) (i : ℕ) → NotRefuted ((K : Node → Bool) × KeepsIn m W t b i K)
some_keeps m W t b i never =
    let n = length t.results in
    some_kept (callees m) n (watched_once b i) (bounds m W) (rows_in m W) (λ K.
    some_makers (callees m) n (watched_once b i) (bounds m W) (rows_in m W) (λ M.
    never (K.0, record { exact = K.1; makers = M.0; made = M.1 })))

-- ---- own functions

own_found : (m : Module) → IsValid m → (f : ℕ) → import_count m ≤ f → f < func_count m → Own m f
own_found m valid f le lt =
    let few : f - import_count m < length m.funcs = omega (arith, length-append (imported func_import m.imports) m.funcs) in
    let same = valid.0.same in
    let t = present_at m.funcs (f - import_count m) few in
    let F = present_at m.types t.0 (valid.1 (part.FuncTypeAt f) t.0 (le, t.1)) in
    let b = present_at m.bodies (f - import_count m) (omega arith) in
    record { type = t.0; own = (le, t.1); kind = F.0; kind_is = F.1; body = b.0; has_body = (le, b.1) }

-- ---- nothing is against it

numbers : (m : Module) (f : ℕ) → (if nat_lt f (func_count m) then (if nat_lt f (import_count m) then Some (Imported f) else None) else Some NoFunction) ≡ None
    → (import_count m ≤ f) × (f < func_count m)
numbers m f e = go (nat_lt f (func_count m)) (nat_lt f (import_count m)) refl refl e
  where
    go : (a b : Bool) → nat_lt f (func_count m) ≡ a → nat_lt f (import_count m) ≡ b → (if a then (if b then Some (Imported f) else None) else Some NoFunction) ≡ None
        → (import_count m ≤ f) × (f < func_count m)
    go false b p q e = absurd cc
    go true true p q e = absurd cc
    go true false p q e = (grind (arith, q), grind (arith, p))

site_there : (i : ℕ) (o : Option (Option Site)) → why_no_site i o ≡ None → (s : Site) × (o ≡ Some (Some s))
site_there i None e = absurd cc
site_there i (Some None) e = absurd cc
site_there i (Some (Some s)) e = (s, refl)

pub own_seen : (m : Module) → IsValid m → HasNoFloat m → (f i : ℕ) (name : List ℕ) → why_not m f i name ≡ None
    → (o : Own m f) × (s : Site) × IsSite (sites_of m f o i) i s
own_seen m valid integer f i name e =
    let all = nothing_of m f i name e in
    let n = numbers m f all.code in
    let o = own_found m valid f n.0 n.1 in
    let is = type_at m f o.type o.kind o.own o.kind_is in
    let b = body_told m f o.body n.1 o.has_body in
    let s = site_there i (slice_get (sites_in m i (type_of_func m f) (body_of m f)) i) all.site in
    (o, s.0, sym (ap₂ {A = Option FuncType} {B = Option Body} (λ x y. slice_get (sites_in m i x y) i) is b) ∙ s.1)

pub some_sliced : (m : Module) (f i : ℕ) (name : Name) → IsSealed m → why_not m f i name.bytes ≡ None
    → NotRefuted ((new : Module) × (at : ℕ) × IsSliced m f i name new at)
some_sliced m f i name sealed e never =
    let seen = own_seen m sealed.valid sealed.no_float f i name.bytes e in
    let o = seen.0 in
    let h = own_body m sealed.valid sealed.no_float f o.type o.kind o.body o.own o.kind_is o.has_body in
    let T = types_of_body m o.kind o.body (nat_eq i) in
    some_cover m sealed (λ W.
    some_keeps m W.0 o.kind o.body i (λ K.
    let P = needed_told m o.kind o.body h i K.0 in
    let cut = cut_of (callees m) K.0 P.0 T.0 o.kind o.body i in
    never (
      appended m o.type (with_code cut o.body) name,
      watched_at cut,
      record {
        type = o.type;
        own = o.own;
        kind = o.kind;
        kind_is = o.kind_is;
        body = o.body;
        has_body = o.has_body;
        site = seen.1;
        live = seen.2;
        cover = W.0;
        cover_is = W.1;
        kept = K.0;
        exact = K.1.exact;
        makers = K.1.makers;
        made = K.1.made;
        present = P.0;
        needed = P.1;
        types = T.0;
        typed = T.1;
        is = refl;
        at_is = refl;
      },
    )))
