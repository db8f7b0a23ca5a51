-- A function has one sliced module at each position under a name.
use Rattle.std.proofs.Common.{◌≡◌, ℕ, Bool, Some, nat_eq, sym, ap, ◌∙◌, subst}
use Rattle.std.specs.List.{slice_get}
use Rattle.wasm_types.specs.declared.module.ValType.{ValType}
use Rattle.wasm_types.specs.declared.module.FuncType.{FuncType}
use Rattle.wasm_types.specs.declared.module.Name.{Name}
use Rattle.wasm_types.specs.declared.module.Body.{Body}
use Rattle.wasm_types.specs.declared.module.Module.{Module}
use Rattle.wasm_types.specs.declared.place.Node.{Node}
use Rattle.wasm_types.specs.Marked.{Marked, watched_at}
use Rattle.wasm_types.specs.Subset.{HasNoFloat}
use Rattle.wasm_types.specs.Validity.{IsValid}
use Rattle.wasm_types.specs.Actions.{Callees, callees}
use Rattle.wasm_types.specs.Places.{TypesPlaces}
use Rattle.flow_domain.specs.Bounds.{Cover}
use Rattle.flow_domain.specs.Kept.{Tells}
use Rattle.flow_domain.specs.Presence.{IsNeeded}
use Rattle.flow_domain.specs.Sliced.{context_of, sites_at, ends_at, cut_of, with_code, appended, KeptIn, IsSliced}
use Rattle.stack_repair.proofs.Appended.{own_body}
use Rattle.stack_repair.proofs.Bodies.{one_cut_code}
use Rattle.stack_repair.proofs.ExactCut.{one_test}
use Rattle.slice_whole.proofs.OneCover.{one_cover}

same_some : {A : Type 0} {x y : A} → Some x ≡ Some y → x ≡ y
same_some e = cc

-- what a slice is made of, of a function of this type with this body
record Parts (C : Callees) (m : Module) (W : Cover) (t : FuncType) (b : Body) (i : ℕ) (K P : Node → Bool) (T : Node → ValType) : Type 0 where
  exact : Tells K (KeptIn m W t b i)
  needed : Tells P (IsNeeded C (sites_at C t b i) (ends_at C t b i) K)
  typed : TypesPlaces (context_of m t b) (sites_at C t b i) T

-- of a valid module without floats, whichever types the places are given
pub one_sliced : (m : Module) (f i : ℕ) (name : Name) (new other : Module) (at to : ℕ) → IsValid m → HasNoFloat m → IsSliced m f i name new at
    → IsSliced m f i name other to
    → (new ≡ other) × (at ≡ to)
one_sliced m f i name new other at to valid integer p q =
    let C = callees m in
    let type : p.type ≡ q.type = same_some (sym p.own.1 ∙ q.own.1) in
    let kind : p.kind ≡ q.kind = same_some (sym p.kind_is ∙ ap (slice_get m.types) type ∙ q.kind_is) in
    let body : p.body ≡ q.body = same_some (sym p.has_body.1 ∙ q.has_body.1) in
    let cover : p.cover ≡ q.cover = one_cover m p.cover q.cover p.cover_is q.cover_is in
    let parts : Parts C m p.cover p.kind p.body i q.kept q.present q.types =
    subst (λ (W : Cover). Parts C m W p.kind p.body i q.kept q.present q.types) (sym cover)
    (subst (λ (b : Body). Parts C m q.cover p.kind b i q.kept q.present q.types) (sym body)
    (subst (λ (t : FuncType). Parts C m q.cover t q.body i q.kept q.present q.types) (sym kind)
    (record { exact = q.exact; needed = q.needed; typed = q.typed }))) in
    let kept : p.kept ≡ q.kept = one_test p.kept q.kept (KeptIn m p.cover p.kind p.body i) p.exact parts.exact in
    let needed : Tells p.present (IsNeeded C (sites_at C p.kind p.body i) (ends_at C p.kind p.body i) q.kept) =
    subst (λ (K : Node → Bool). Tells p.present (IsNeeded C (sites_at C p.kind p.body i) (ends_at C p.kind p.body i) K)) kept p.needed in
    let present : p.present ≡ q.present = one_test p.present q.present (IsNeeded C (sites_at C p.kind p.body i) (ends_at C p.kind p.body i) q.kept) needed parts.needed in
    let own = own_body m valid integer f p.type p.kind p.body p.own p.kind_is p.has_body in
    let cut : cut_of C p.kept p.present p.types p.kind p.body i ≡ cut_of C q.kept q.present q.types q.kind q.body i =
    one_cut_code m p.kind p.body own (nat_eq i) p.kept p.present p.types q.types p.typed parts.typed
    ∙ ap (λ (K : Node → Bool). cut_of C K p.present q.types p.kind p.body i) kept
    ∙ ap (λ (P : Node → Bool). cut_of C q.kept P q.types p.kind p.body i) present
    ∙ ap (λ (t : FuncType). cut_of C q.kept q.present q.types t p.body i) kind
    ∙ ap (λ (b : Body). cut_of C q.kept q.present q.types q.kind b i) body in
    let whole : with_code (cut_of C p.kept p.present p.types p.kind p.body i) p.body ≡ with_code (cut_of C q.kept q.present q.types q.kind q.body i) q.body =
    ap (λ (k : Marked). with_code k p.body) cut ∙ ap (λ (b : Body). with_code (cut_of C q.kept q.present q.types q.kind q.body i) b) body in (
      p.is ∙ ap (λ (t : ℕ). appended m t (with_code (cut_of C p.kept p.present p.types p.kind p.body i) p.body) name) type
          ∙ ap (λ (b : Body). appended m q.type b name) whole ∙ sym q.is,
      p.at_is ∙ ap watched_at cut ∙ sym q.at_is,
    )
