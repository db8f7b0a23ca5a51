-- What decides about a block, loop or if decides about what is directly in it, and about its join.
use Rattle.std.proofs.Common.{◌≡◌, ◌≢◌, ℕ, zero, suc, ◌+◌, ◌≤◌, ◌<◌, ⊎_elim, Bool, List, [], ◌∷◌, Option, Some, None, length, refl, sym, ap, ◌∙◌}
use Rattle.std.proofs.Common.{subst, arith}
use Rattle.std.specs.List.{AllZip, slice_get}
use Rattle.std.proofs.lemmas.Bool.{cases_eq}
use Rattle.std.proofs.lemmas.Option.{same_Some, slice_get_within}
use Rattle.wasm_types.specs.declared.module.Body.{Body}
use Rattle.wasm_types.specs.declared.module.Pos.{Pos}
use Rattle.wasm_types.specs.declared.place.Node.{Node}
use Rattle.wasm_types.specs.declared.place.Node.TheVariants as node
use Rattle.wasm_types.specs.Actions.{Callees}
use Rattle.wasm_types.specs.Code.{code_of}
use Rattle.wasm_types.specs.Marked.{marked}
use Rattle.wasm_types.specs.Nodes.{At, Join}
use Rattle.wasm_types.specs.Labels.{Label, stop_of, start_of}
use Rattle.wasm_types.specs.Shadow.{Inside, at_position, at_join, InShadow, arms, if_join, later, around, looping}
use Rattle.wasm_types.specs.Sites.{HasJoin, Site, Sites, IsSite, body_sites}
use Rattle.control_deps.specs.declared.spot.Spot.{Spot}
use Rattle.control_deps.specs.Chain.{IsChain}
use Rattle.control_deps.specs.Leaving.{number, Passes, here, outward, Leaves}
use Rattle.control_deps.specs.Nest.{IsAround, IsNestOf}
use Rattle.control_deps.proofs.FitLemmas.{Fits, IsFit, fits_at, site_spot}
use Rattle.control_deps.proofs.ShadowLemmas.{fit_of, stops_rise}
use Rattle.control_deps.proofs.AroundLemmas.{is_around}
use Rattle.control_deps.proofs.EncloseLemmas.{around_spot, inner_around}
use Rattle.control_deps.proofs.FindLemmas.{around_once}
use Rattle.control_deps.proofs.NearLemmas.{IsLabelOf, EndsAt, first_label, label_more, label_join, label_end, node_of, passes_before, left_by}

-- ---- ends

-- what is passed on the way outwards has a label
label_there : (nest : List Spot) (ctx : List Label) (first one : Option Pos) (m : ℕ) → IsChain nest first ctx → Passes nest first m one
    → (j : ℕ) × ((j < length ctx) × IsLabelOf nest ctx j one)
label_there nest [] first one m chain p = absurd chain
label_there nest (L ∷ ctx) first one m chain here = (0, (omega arith, first_label nest first (L ∷ ctx) chain))
label_there nest (L ∷ ctx) first other m chain (outward {label} b spot at p) =
    let same : chain.0 ≡ spot = same_Some chain.0 spot (sym chain.1.0 ∙ at) in
    let h = label_there nest ctx spot.around other label (subst (λ (z : Spot). IsChain nest z.around ctx) same chain.1.1.1) p in
    (suc h.0, (omega (arith, h.1.0), label_more nest L ctx h.0 other h.1.1))

module _ (body : Body) (nest : List Spot) (is : IsNestOf body nest) where
  -- what is around a position is passed on the way outwards
  passes_out : (f : ℕ) (k q : ℕ) (y x : Spot) → q < f → slice_get nest k ≡ Some y → k < q → q < y.stop → slice_get nest q ≡ Some x
      → (m : ℕ) × Passes nest x.around m (Some (record { 0 = k }))
  passes_out zero k q y x lt at_k lo hi at = absurd (omega arith)
  passes_out (suc f) k q y x lt at_k lo hi at =
      let a = inner_around body nest is k y q x at_k lo hi at in
      let b = around_spot body nest is q x a.0 at a.1.0 in
      ⊎_elim
      (λ (eq : k ≡ a.0.0).
      let one : x.around ≡ Some (record { 0 = k }) = a.1.0 ∙ ap (λ (z : ℕ). Some (record { 0 = z })) (sym eq) in
      (0, subst (λ z. Passes nest x.around 0 z) one here))
      (λ (ne : k ≢ a.0.0).
      let h = passes_out f k a.0.0 y b.spot (omega (arith, lt, b.before)) at_k (omega (arith, a.1.1, ne)) (omega (arith, b.before, hi)) b.at in
      (suc h.0, subst (λ z. Passes nest z (suc h.0) (Some (record { 0 = k }))) (sym a.1.0) (outward a.0 b.spot b.at h.1)))
      (cases_eq k a.0.0)

  -- a live position in what is inside another is inside that too
  inside_outer : (k b q : ℕ) (y z x : Spot) (s : Site) → Fits nest x s → slice_get nest k ≡ Some y → k < b → b < y.stop → slice_get nest b ≡ Some z
      → slice_get nest q ≡ Some x → x.around ≡ Some (record { 0 = b }) → q < y.stop
  inside_outer k b q y z x s f at_k lo hi at_b at some =
      let a = around_spot body nest is q x (record { 0 = b }) at some in
      let p = passes_out (suc b) k b y z (omega arith) at_k lo hi at_b in
      let whole : Passes nest x.around (suc p.0) (Some (record { 0 = k })) =
      subst (λ o. Passes nest o (suc p.0) (Some (record { 0 = k }))) (sym some) (outward (record { 0 = b }) z at_b p.1) in
      let outer = label_there nest s.around x.around (Some (record { 0 = k })) (suc p.0) f.chain whole in
      let inner : IsLabelOf nest s.around 0 (Some (record { 0 = b })) = subst (IsLabelOf nest s.around 0) some (first_label nest x.around s.around f.chain) in
      let rise = stops_rise s.around 0 0 outer.0 f.rises (omega arith) outer.1.0 in
      let same : inner.0 ≡ a.spot = same_Some inner.0 a.spot (sym inner.1.0 ∙ a.at) in
      let same' : outer.1.1.0 ≡ y = same_Some outer.1.1.0 y (sym outer.1.1.1.0 ∙ at_k) in
      omega (arith, a.past, ap (λ (w : Spot). w.stop) same, inner.1.1.1.1.1, rise.1, outer.1.1.1.1.1.1.1, ap (λ (w : Spot). w.stop) same')

  module _ (S : Sites) (fit : AllZip (IsFit nest) nest S) where
    number_before : (one : Option Pos) (p : ℕ) → Leaves nest one p → number one ≤ p
    number_before None p l = omega arith
    number_before (Some b) p l = let h = passes_before body nest is p l.spot l.spot.around (Some b) l.label b l.at l.passes refl refl in omega (arith, h)

    -- the position q is live and directly in the block, loop or if at b
    record Directly (b q : ℕ) : Type 0 where
      site : Site
      there : IsSite S q site
      spot : Spot
      at : slice_get nest q ≡ Some spot
      fits : Fits nest spot site
      around : spot.around ≡ Some (record { 0 = b })
      outer : Spot
      outer_at : slice_get nest b ≡ Some outer
      before : b < q

    below : (one : Option Pos) (b q e : ℕ) → Directly b q → EndsAt nest one e → number one ≤ b → b < e → q < e
    below None b q e d end le lt = let within = slice_get_within nest q d.spot d.at in omega (arith, within, end)
    below (Some k) b q e d (y, (at_k, stop)) le lt =
        let h = inside_outer k.0 b q y d.outer d.spot d.site d.fits at_k (omega (arith, le)) (omega (arith, lt, stop)) d.outer_at d.at d.around in
        omega (arith, h, stop)

    place_of : Node → ℕ
    place_of (node.At p) = p.0
    place_of (node.Join p) = p.0
    place_of node.Exit = 0

    bounds : (a e : ℕ) (n : Node) (b : ℕ) → Inside S a e n → n ≡ At b → (a ≤ b) × (b < e)
    unfolding place_of
    bounds a e n b (at_position {q} t there le lt) same = let f : q ≡ b = ap place_of same in (omega (arith, le, f), omega (arith, lt, f))
    bounds a e n b (at_join {q} t there j le lt) same = absurd (cc)

    no_join : (one : Option Pos) (b : ℕ) → node_of one ≡ At b → ⊥
    no_join None b e = cc
    no_join (Some c) b e = cc

    inward : (p b q : ℕ) (n : Node) → Directly b q → InShadow S p n → n ≡ At b → InShadow S p (At q)
    inward p b q n d (arms kind s there h i) same =
        let x = site_spot nest (slice_get nest p) (slice_get S p) s (fits_at nest nest S p fit) there in
        let within = bounds (p + 1) s.stop n b i same in
        let first : number (Some (record { 0 = p })) ≤ b = omega (arith, within.0) in
        let hi = below (Some (record { 0 = p })) b q s.stop d (x.0, (x.1.0, x.1.1.stop)) first within.1 in
        arms kind s there h (at_position d.site d.there (omega (arith, within.0, d.before)) hi)
    inward p b q n d (if_join kind s there h) same = absurd (no_join (Some (record { 0 = p })) b same)
    inward p b q n d (later l s there br i) same =
        let k = left_by body nest is S fit p l l s there br (omega arith) in
        let within = bounds (p + 1) (stop_of s.around l) n b i same in
        let first = number_before k.one p k.leaves in
        let hi = below k.one b q (stop_of s.around l) d (label_end nest s.around l k.one k.of) (omega (arith, first, within.0)) within.1 in
        later l s there br (at_position d.site d.there (omega (arith, within.0, d.before)) hi)
    inward p b q n d (around l j s there br le) same =
        let k = left_by body nest is S fit p l j s there br le in
        absurd (no_join k.one b (sym (label_join nest s.around j k.one k.of) ∙ same))
    inward p b q n d (looping l j s there br le lp i) same =
        let k = left_by body nest is S fit p l j s there br le in
        let within = bounds (start_of s.around j) (stop_of s.around j) n b i same in
        let hi = below k.one b q (stop_of s.around j) d (label_end nest s.around j k.one k.of) (starts k.one k.of within.0) within.1 in
        looping l j s there br le lp (at_position d.site d.there (omega (arith, within.0, d.before)) hi)
      where
        starts : (one : Option Pos) → IsLabelOf nest s.around j one → start_of s.around j ≤ b → number one ≤ b
        starts None of lo = omega arith
        starts (Some c) of lo = omega (arith, lo, of.1.1.1.1.0)

    inside_join : (a e b : ℕ) (n : Node) (s : Site) → IsSite S b s → HasJoin s.head → Inside S a e n → n ≡ At b → Inside S a e (Join b)
    inside_join a e b n s there j i same = let within = bounds a e n b i same in at_join s there j within.0 within.1

    inward_join : (p b : ℕ) (n : Node) (s : Site) → IsSite S b s → HasJoin s.head → InShadow S p n → n ≡ At b → InShadow S p (Join b)
    inward_join p b n s there j (arms kind r at h i) same = arms kind r at h (inside_join (p + 1) r.stop b n s there j i same)
    inward_join p b n s there j (if_join kind r at h) same = absurd (no_join (Some (record { 0 = p })) b same)
    inward_join p b n s there j (later l r at br i) same = later l r at br (inside_join (p + 1) (stop_of r.around l) b n s there j i same)
    inward_join p b n s there j (around l k r at br le) same =
        let c = left_by body nest is S fit p l k r at br le in
        absurd (no_join c.one b (sym (label_join nest r.around k c.one c.of) ∙ same))
    inward_join p b n s there j (looping l k r at br le lp i) same =
        looping l k r at br le lp (inside_join (start_of r.around k) (stop_of r.around k) b n s there j i same)

-- ---- by sites

-- what decides about a block, loop or if decides about each live position directly in it
pub shadow_inward : (body : Body) (nest : List Spot) → IsNestOf body nest → (cs : Callees) (t : ℕ) (w : ℕ → Bool) (p q : ℕ) (b : Pos) (s : Site)
    → IsSite (body_sites cs t (marked w 0 (code_of body.code))) q s → IsAround (code_of body.code) q (Some b)
    → InShadow (body_sites cs t (marked w 0 (code_of body.code))) p (At b.0) → InShadow (body_sites cs t (marked w 0 (code_of body.code))) p (At q)
shadow_inward body nest is cs t w p q b s there a h =
    let S : Sites = body_sites cs t (marked w 0 (code_of body.code)) in
    let fit = fit_of nest body cs t w is in
    let x = site_spot nest (slice_get nest q) (slice_get S q) s (fits_at nest nest S q fit) there in
    let some : x.0.around ≡ Some b = around_once (code_of body.code) q x.0.around b (is_around body nest q x.0 is x.1.0) a in
    let y = around_spot body nest is q x.0 b x.1.0 some in
    inward body nest is S fit p b.0 q (At b.0) (record {
      site = s;
      there = there;
      spot = x.0;
      at = x.1.0;
      fits = x.1.1;
      around = some;
      outer = y.spot;
      outer_at = y.at;
      before = y.before;
    }) h refl

-- and about its join
pub shadow_join : (body : Body) (nest : List Spot) → IsNestOf body nest → (cs : Callees) (t : ℕ) (w : ℕ → Bool) (p b : ℕ) (s : Site)
    → IsSite (body_sites cs t (marked w 0 (code_of body.code))) b s → HasJoin s.head → InShadow (body_sites cs t (marked w 0 (code_of body.code))) p (At b)
    → InShadow (body_sites cs t (marked w 0 (code_of body.code))) p (Join b)
shadow_join body nest is cs t w p b s there j h =
    inward_join body nest is (body_sites cs t (marked w 0 (code_of body.code))) (fit_of nest body cs t w is) p b (At b) s there j h refl
