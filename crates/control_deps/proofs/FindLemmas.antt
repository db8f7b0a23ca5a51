-- What is around a position is found from it, and what is around a live position is live.
use Rattle.std.proofs.Common.{◌≡◌, ◌≢◌, ℕ, zero, suc, ◌<◌, ⊎_elim, Bool, true, List, Option, Some, None, sym, ap, ◌∙◌, subst, arith}
use Rattle.std.specs.List.{slice_get}
use Rattle.std.proofs.lemmas.Bool.{cases_eq}
use Rattle.wasm_types.specs.declared.module.Body.{Body}
use Rattle.wasm_types.specs.declared.module.Pos.{Pos}
use Rattle.wasm_types.specs.declared.place.Node.{Node}
use Rattle.wasm_types.specs.declared.place.Node.TheVariants as node
use Rattle.wasm_types.specs.Actions.{Callees}
use Rattle.wasm_types.specs.Code.{Code, code_of}
use Rattle.wasm_types.specs.Marked.{marked}
use Rattle.wasm_types.specs.Nodes.{At}
use Rattle.wasm_types.specs.Sites.{Site, Sites, IsSite, body_sites}
use Rattle.control_deps.specs.declared.deciders.Nearest.{Nearest}
use Rattle.control_deps.specs.declared.spot.Spot.{Spot}
use Rattle.control_deps.specs.Chain.{live_at}
use Rattle.control_deps.specs.Nearest.{around as directly, Finds, itself, onward, Onward}
use Rattle.control_deps.specs.Nest.{IsAround, IsNestOf}
use Rattle.control_deps.proofs.FitLemmas.{fits_at, site_spot}
use Rattle.control_deps.proofs.ShadowLemmas.{fit_of, live_has, spot_fits}
use Rattle.control_deps.proofs.AroundLemmas.{is_around}
use Rattle.control_deps.proofs.EncloseLemmas.{spot_at, around_spot, inner_around, around_live, stop_within}

pub finds_on : (c : Code) (near : Node → Nearest) (n m k : Node) → Finds c near n m → Finds c near m k → Finds c near n k
finds_on c near n m k f itself = f
finds_on c near n m k f (onward j g s) = onward j (finds_on c near n m j f g) s

-- found by a step at least
abbrev pub Steps : Code → (Node → Nearest) → Node → Node → Type 0
Steps c near n m = (k : Node) × (Finds c near n k × Onward c near k m)

pub steps_find : (c : Code) (near : Node → Nearest) (n k : Node) → Steps c near n k → Finds c near n k
steps_find c near n k (m, (f, s)) = onward m f s

pub steps_on : (c : Code) (near : Node → Nearest) (n m k : Node) → Finds c near n m → Steps c near m k → Steps c near n k
steps_on c near n m k f (j, (g, s)) = (j, (finds_on c near n m j f g, s))

module _ (body : Body) (nest : List Spot) (is : IsNestOf body nest) where
  -- what is around a live position is live
  pub live_around : (q : ℕ) (x : Spot) (b : Pos) (y : Spot) → slice_get nest q ≡ Some x → x.live ≡ true → x.around ≡ Some b → slice_get nest b.0 ≡ Some y
      → y.live ≡ true
  live_around q x b y at live some at_b = ap live_at (sym at_b) ∙ around_live body nest is q x b at live some

  module _ (near : Node → Nearest) where
    pub go_around : (q : ℕ) (x : Spot) (b : Pos) → slice_get nest q ≡ Some x → x.around ≡ Some b → Finds (code_of body.code) near (At q) (At b.0)
    go_around q x b at some = onward (At q) itself (directly b (subst (IsAround (code_of body.code) q) some (is_around body nest q x is at)))

    -- from a position below f, what is around it
    pub climb_steps : (f k q : ℕ) (y x : Spot) → q < f → slice_get nest k ≡ Some y → k < q → q < y.stop → slice_get nest q ≡ Some x
        → Steps (code_of body.code) near (At q) (At k)
    climb_steps zero k q y x lt at_k lo hi at = absurd (omega arith)
    climb_steps (suc f) k q y x lt at_k lo hi at =
        let c = code_of body.code in
        let a = inner_around body nest is k y q x at_k lo hi at in
        let b = around_spot body nest is q x a.0 at a.1.0 in
        let step : Steps c near (At q) (At a.0.0) =
        (At q, (itself, directly a.0 (subst (IsAround c q) a.1.0 (is_around body nest q x is at)))) in
        ⊎_elim
        (λ (eq : k ≡ a.0.0). subst (λ z. Steps c near (At q) (At z)) (sym eq) step)
        (λ (ne : k ≢ a.0.0). steps_on c near (At q) (At a.0.0) (At k) (steps_find c near (At q) (At a.0.0) step)
        (climb_steps f k a.0.0 y b.spot (omega (arith, lt, b.before)) at_k (omega (arith, a.1.1, ne)) (omega (arith, b.before, hi)) b.at))
        (cases_eq k a.0.0)

-- ---- by sites

pub holder_found : (body : Body) (nest : List Spot) → IsNestOf body nest → (cs : Callees) (t : ℕ) (w : ℕ → Bool) (near : Node → Nearest) (b q : ℕ) (s : Site)
    → IsSite (body_sites cs t (marked w 0 (code_of body.code))) b s → b < q → q < s.stop → Finds (code_of body.code) near (At q) (At b)
holder_found body nest is cs t w near b q s there lo hi =
    let S : Sites = body_sites cs t (marked w 0 (code_of body.code)) in
    let y = site_spot nest (slice_get nest b) (slice_get S b) s (fits_at nest nest S b (fit_of nest body cs t w is)) there in
    let past : q < y.0.stop = omega (arith, hi, y.1.1.stop) in
    let x = spot_at nest q (omega (arith, past, stop_within body nest is b y.0 y.1.0)) in
    steps_find (code_of body.code) near (At q) (At b) (climb_steps body nest is near (suc q) b q y.0 x.0 (omega arith) y.1.0 lo past x.1)

pub around_once : (c : Code) (q : ℕ) (o : Option Pos) (b : Pos) → IsAround c q o → IsAround c q (Some b) → o ≡ Some b
around_once c q None b none a = absurd (none b.0 a.0)
around_once c q (Some b') b a' a =
    let below = a.1 b'.0 a'.0 in
    let above = a'.1 b.0 a.0 in
    let same : b'.0 ≡ b.0 = omega (arith, below, above) in ap (λ (z : ℕ). Some (record { 0 = z })) same

pub around_site : (body : Body) (nest : List Spot) → IsNestOf body nest → (cs : Callees) (t : ℕ) (w : ℕ → Bool) (q : ℕ) (s : Site) (b : Pos)
    → IsSite (body_sites cs t (marked w 0 (code_of body.code))) q s → IsAround (code_of body.code) q (Some b)
    → (r : Site) × (IsSite (body_sites cs t (marked w 0 (code_of body.code))) b.0 r × ((b.0 < q) × (q < r.stop)))
around_site body nest is cs t w q s b there a =
    let S : Sites = body_sites cs t (marked w 0 (code_of body.code)) in
    let fit = fit_of nest body cs t w is in
    let x = site_spot nest (slice_get nest q) (slice_get S q) s (fits_at nest nest S q fit) there in
    let some : x.0.around ≡ Some b = around_once (code_of body.code) q x.0.around b (is_around body nest q x.0 is x.1.0) a in
    let y = around_spot body nest is q x.0 b x.1.0 some in
    let r = live_has nest S fit b.0 node.Exit y.spot y.at (live_around body nest is q x.0 b y.spot x.1.0 x.1.1.live some y.at) in
    let f = spot_fits nest S fit b.0 node.Exit y.spot r.0 y.at r.1 in
    (r.0, (r.1, (y.before, omega (arith, y.past, f.stop))))
