-- What stands inside what, by what is kept of positions.
use Rattle.std.proofs.Common.{◌≡◌, ℕ, zero, suc, ◌+◌, ◌≤◌, ◌<◌, ◌&&◌, Bool, true, false, true≢false, List, [], ◌∷◌, ◌++◌, Option, Some, None, IfSome}
use Rattle.std.proofs.Common.{length, refl, sym, ap, ◌∙◌, subst, arith, length-append}
use Rattle.std.specs.List.{slice_get}
use Rattle.std.proofs.lemmas.List.{append_assoc}
use Rattle.std.proofs.lemmas.Option.{same_Some, slice_get_within}
use Rattle.wasm_types.specs.declared.module.Body.{Body}
use Rattle.wasm_types.specs.declared.module.Pos.{Pos}
use Rattle.wasm_types.specs.declared.instr.Instr.{Instr}
use Rattle.wasm_types.specs.Code.{Code, done, one, block, repeat, branch, code_of, count, flatten}
use Rattle.wasm_types.proofs.CodeLemmas.{length-flatten}
use Rattle.block_cfg.specs.Walk.{goes_on}
use Rattle.control_deps.specs.declared.spot.Spot.{Spot}
use Rattle.control_deps.specs.Chain.{live_at}
use Rattle.control_deps.specs.Spots.{place, spots_in}
use Rattle.control_deps.specs.Nest.{Encloses, IsAround, IsNestOf}
use Rattle.control_deps.proofs.SpotLemmas.{length_spots}
use Rattle.control_deps.proofs.FitLemmas.{HasAt, has_front, has_back, has_itself, AreDead, dead_spots}
use Rattle.control_deps.proofs.ShadowLemmas.{is_branch}
use Rattle.control_deps.proofs.AroundLemmas.{Leafy, leafy_code, span, span_one, span_block, span_loop, span_if, closed_in, is_around}

-- ---- where instructions end

-- a position ends behind all that its instruction holds, and a branch holds nothing
pub record IsSized (p : ℕ) (i : Instr) (x : Spot) : Type 0 where
  pub stop : x.stop ≡ p + span i
  pub leaf : is_branch x.form ≡ true → x.stop ≡ p + 1

abbrev AreSized : ℕ → List Instr → List Spot → Type 0
AreSized p [] [] = Unit {0}
AreSized p [] (x ∷ xs) = ⊥
AreSized p (i ∷ is) [] = ⊥
AreSized p (i ∷ is) (x ∷ xs) = IsSized p i x × AreSized (p + 1) is xs

sized_append : (p q : ℕ) (is js : List Instr) (xs ys : List Spot) → q ≡ p + length xs → AreSized p is xs → AreSized q js ys → AreSized p (is ++ js) (xs ++ ys)
sized_append p q [] js [] ys e f g = let same : q ≡ p = omega arith in subst (λ z. AreSized z js ys) same g
sized_append p q [] js (x ∷ xs) ys e f g = absurd f
sized_append p q (i ∷ is) js [] ys e f g = absurd f
sized_append p q (i ∷ is) js (x ∷ xs) ys e f g = (f.0, sized_append (p + 1) q is js xs ys (omega arith) f.1 g)

sized_in : (live : Bool) (around : Option Pos) (depth : ℕ) (c : Code) (p : ℕ) → Leafy c → AreSized p (flatten c) (spots_in live around depth c p)
sized_in live around depth done p l = tt
sized_in live around depth (one i rest) p l =
    (record { stop = omega (arith, span_one i l.0); leaf = λ b. refl }, sized_in (goes_on i && live) around depth rest (p + 1) l.1)
sized_in live around depth (block k inner rest) p l =
    let e = p + 1 + count inner in
    let I = spots_in live (Some (place p)) (depth + 1) inner (p + 1) in
    let long : e ≡ p + 1 + length I = omega (arith, length_spots live (Some (place p)) (depth + 1) inner (p + 1)) in (
      record { stop = omega (arith, span_block k inner l.0); leaf = λ b. absurd (true≢false (sym b)) },
      sized_append (p + 1) e (flatten inner) (flatten rest) I (spots_in live around depth rest e) long
          (sized_in live (Some (place p)) (depth + 1) inner (p + 1) l.0) (sized_in live around depth rest e l.1),
    )
sized_in live around depth (repeat k inner rest) p l =
    let e = p + 1 + count inner in
    let I = spots_in live (Some (place p)) (depth + 1) inner (p + 1) in
    let long : e ≡ p + 1 + length I = omega (arith, length_spots live (Some (place p)) (depth + 1) inner (p + 1)) in (
      record { stop = omega (arith, span_loop k inner l.0); leaf = λ b. absurd (true≢false (sym b)) },
      sized_append (p + 1) e (flatten inner) (flatten rest) I (spots_in live around depth rest e) long
          (sized_in live (Some (place p)) (depth + 1) inner (p + 1) l.0) (sized_in live around depth rest e l.1),
    )
sized_in live around depth (branch k x y rest) p l =
    let f = p + 1 + count x in
    let e = p + 1 + count x + count y in
    let X = spots_in live (Some (place p)) (depth + 1) x (p + 1) in
    let Y = spots_in live (Some (place p)) (depth + 1) y f in
    let R = spots_in live around depth rest e in
    let long_x : f ≡ p + 1 + length X = omega (arith, length_spots live (Some (place p)) (depth + 1) x (p + 1)) in
    let long : e ≡ p + 1 + length (X ++ Y) =
    omega (arith, length_spots live (Some (place p)) (depth + 1) x (p + 1), length_spots live (Some (place p)) (depth + 1) y f, length-append X Y) in
    let inner = sized_append (p + 1) f (flatten x) (flatten y) X Y long_x (sized_in live (Some (place p)) (depth + 1) x (p + 1) l.0)
    (sized_in live (Some (place p)) (depth + 1) y f l.1) in (
      record { stop = omega (arith, span_if k x y l.0 l.1); leaf = λ b. absurd (true≢false (sym b)) },
      subst (AreSized (p + 1) ((flatten x ++ flatten y) ++ flatten rest)) (append_assoc X Y R)
          (sized_append (p + 1) e (flatten x ++ flatten y) (flatten rest) (X ++ Y) R long inner (sized_in live around depth rest e l.2)),
    )

sized_at : (p q : ℕ) (is : List Instr) (xs : List Spot) (k : ℕ) (x : Spot) → q ≡ p + k → AreSized p is xs → slice_get xs k ≡ Some x
    → (i : Instr) × ((slice_get is k ≡ Some i) × IsSized q i x)
sized_at p q is [] k x at f e = absurd cc
sized_at p q [] (y ∷ xs) k x at f e = absurd f
sized_at p q (i ∷ is) (y ∷ xs) zero x at f e =
    let same : y ≡ x = cc in
    let here : p ≡ q = omega arith in (i, (refl, subst (IsSized q i) same (subst (λ z. IsSized z i y) here f.0)))
sized_at p q (i ∷ is) (y ∷ xs) (suc k) x at f e = sized_at (p + 1) q is xs k x (omega arith) f.1 e

-- ---- what is around a live position is live

abbrev IsHeld : List Spot → Spot → Type 0
IsHeld nest x = x.live ≡ true → IfSome x.around (λ (b : Pos). live_at (slice_get nest b.0) ≡ true)

abbrev AreHeld : List Spot → List Spot → Type 0
AreHeld nest [] = Unit {0}
AreHeld nest (x ∷ xs) = IsHeld nest x × AreHeld nest xs

held_append : (nest xs ys : List Spot) → AreHeld nest xs → AreHeld nest ys → AreHeld nest (xs ++ ys)
held_append nest [] ys f g = g
held_append nest (x ∷ xs) ys f g = (f.0, held_append nest xs ys f.1 g)

dead_held : (nest xs : List Spot) → AreDead xs → AreHeld nest xs
dead_held nest [] d = tt
dead_held nest (x ∷ xs) d = ((λ on. absurd (true≢false (sym on ∙ d.0))), dead_held nest xs d.1)

rest_held : (nest : List Spot) (b : Bool) (around : Option Pos) (depth : ℕ) (c : Code) (p : ℕ)
    → (HasAt nest p (spots_in true around depth c p) → AreHeld nest (spots_in true around depth c p)) → HasAt nest p (spots_in (b && true) around depth c p)
    → AreHeld nest (spots_in (b && true) around depth c p)
rest_held nest true around depth c p go has = go has
rest_held nest false around depth c p go has = dead_held nest _ (dead_spots around depth c p)

held_in : (nest : List Spot) (around : Option Pos) (depth : ℕ) (c : Code) (p : ℕ) → HasAt nest p (spots_in true around depth c p)
    → IfSome around (λ (b : Pos). live_at (slice_get nest b.0) ≡ true) → AreHeld nest (spots_in true around depth c p)
held_in nest around depth done p has h = tt
held_in nest around depth (one i rest) p has h = (
  (λ on. h),
  rest_held nest (goes_on i) around depth rest (p + 1)
      (λ has'. held_in nest around depth rest (p + 1) has' h) has.1,
)
held_in nest around depth (block k inner rest) p has h =
    let e = p + 1 + count inner in
    let I = spots_in true (Some (place p)) (depth + 1) inner (p + 1) in
    let R = spots_in true around depth rest e in
    let past : e ≡ p + 1 + length I = omega (arith, length_spots true (Some (place p)) (depth + 1) inner (p + 1)) in (
      (λ on. h),
      held_append nest I R (held_in nest (Some (place p)) (depth + 1) inner (p + 1) (has_front nest (p + 1) I R has.1) (ap live_at has.0))
          (held_in nest around depth rest e (has_back nest (p + 1) e I R past has.1) h),
    )
held_in nest around depth (repeat k inner rest) p has h =
    let e = p + 1 + count inner in
    let I = spots_in true (Some (place p)) (depth + 1) inner (p + 1) in
    let R = spots_in true around depth rest e in
    let past : e ≡ p + 1 + length I = omega (arith, length_spots true (Some (place p)) (depth + 1) inner (p + 1)) in (
      (λ on. h),
      held_append nest I R (held_in nest (Some (place p)) (depth + 1) inner (p + 1) (has_front nest (p + 1) I R has.1) (ap live_at has.0))
          (held_in nest around depth rest e (has_back nest (p + 1) e I R past has.1) h),
    )
held_in nest around depth (branch k x y rest) p has h =
    let f = p + 1 + count x in
    let e = p + 1 + count x + count y in
    let X = spots_in true (Some (place p)) (depth + 1) x (p + 1) in
    let Y = spots_in true (Some (place p)) (depth + 1) y f in
    let R = spots_in true around depth rest e in
    let past_x : f ≡ p + 1 + length X = omega (arith, length_spots true (Some (place p)) (depth + 1) x (p + 1)) in
    let past_y : e ≡ f + length Y = omega (arith, length_spots true (Some (place p)) (depth + 1) y f) in
    let after = has_back nest (p + 1) f X (Y ++ R) past_x has.1 in (
      (λ on. h),
      held_append nest X (Y ++ R) (held_in nest (Some (place p)) (depth + 1) x (p + 1) (has_front nest (p + 1) X (Y ++ R) has.1) (ap live_at has.0))
          (held_append nest Y R (held_in nest (Some (place p)) (depth + 1) y f (has_front nest f Y R after) (ap live_at has.0))
          (held_in nest around depth rest e (has_back nest f e Y R past_y after) h)),
    )

held_at : (nest xs : List Spot) (k : ℕ) (x : Spot) → AreHeld nest xs → slice_get xs k ≡ Some x → IsHeld nest x
held_at nest [] k x f e = absurd cc
held_at nest (y ∷ xs) zero x f e = let same : y ≡ x = cc in subst (IsHeld nest) same f.0
held_at nest (y ∷ xs) (suc k) x f e = held_at nest xs k x f.1 e

-- ---- of a whole body

pub spot_at : (nest : List Spot) (k : ℕ) → k < length nest → (x : Spot) × (slice_get nest k ≡ Some x)
spot_at [] k lt = absurd (omega arith)
spot_at (x ∷ xs) zero lt = (x, refl)
spot_at (x ∷ xs) (suc k) lt = spot_at xs k (omega arith)

-- what is directly around a position
pub record Around (nest : List Spot) (q : ℕ) (b : Pos) : Type 0 where
  pub spot : Spot
  pub at : slice_get nest b.0 ≡ Some spot
  pub before : b.0 < q
  pub past : q < spot.stop
  pub holds : is_branch spot.form ≡ true → ⊥

module _ (body : Body) (nest : List Spot) (is : IsNestOf body nest) where
  sized : (k : ℕ) (x : Spot) → slice_get nest k ≡ Some x → (i : Instr) × ((slice_get (flatten (code_of body.code)) k ≡ Some i) × IsSized k i x)
  sized k x e =
      let c = code_of body.code in
      sized_at 0 k (flatten c) (spots_in true None 0 c 0) k x (omega arith) (sized_in true None 0 c 0 (leafy_code body.code))
      (ap (λ z. slice_get z k) (sym is.is) ∙ e)

  -- nothing ends behind the body
  pub stop_within : (k : ℕ) (x : Spot) → slice_get nest k ≡ Some x → x.stop ≤ length nest
  stop_within k x e =
      let c = code_of body.code in
      let s = sized k x e in
      let within = closed_in c (leafy_code body.code) k s.0 s.1.0 in
      omega (arith, within, s.1.1.stop, length-flatten c, length_spots true None 0 c 0, ap length is.is)

  pub around_spot : (q : ℕ) (x : Spot) (b : Pos) → slice_get nest q ≡ Some x → x.around ≡ Some b → Around nest q b
  around_spot q x b e some =
      let c = code_of body.code in
      let h : Encloses c b.0 q = (subst (IsAround c q) some (is_around body nest q x is e)).0 in
      let lt : b.0 < length (flatten c) = slice_get_within (flatten c) b.0 h.instr h.is in
      let y = spot_at nest b.0 (omega (arith, lt, length-flatten c, length_spots true None 0 c 0, ap length is.is)) in
      go y.0 y.1 h (sized b.0 y.0 y.1)
    where
      go : (y : Spot) → slice_get nest b.0 ≡ Some y → Encloses (code_of body.code) b.0 q
          → (i : Instr) × ((slice_get (flatten (code_of body.code)) b.0 ≡ Some i) × IsSized b.0 i y)
          → Around nest q b
      go y at h (i, (i_at, s)) =
          let same : i ≡ h.instr = same_Some i h.instr (sym i_at ∙ h.is) in
          record {
            spot = y;
            at = at;
            before = h.behind;
            past = omega (arith, h.inside, s.stop, ap span same);
            holds = λ br. let one = s.leaf br in omega (arith, one, h.behind, h.inside, s.stop, ap span same);
          }

  -- what ends behind a position and begins before it is around it, or around what is directly around it
  pub inner_around : (k : ℕ) (y : Spot) (q : ℕ) (x : Spot) → slice_get nest k ≡ Some y → k < q → q < y.stop → slice_get nest q ≡ Some x
      → (b : Pos) × ((x.around ≡ Some b) × (k ≤ b.0))
  inner_around k y q x e lo hi at =
      let c = code_of body.code in
      let s = sized k y e in
      let h : Encloses c k q = record { instr = s.0; is = s.1.0; behind = lo; inside = omega (arith, s.1.1.stop, hi) } in
      go x.around refl (is_around body nest q x is at) h
    where
      go : (o : Option Pos) → x.around ≡ o → IsAround (code_of body.code) q o → Encloses (code_of body.code) k q
          → (b : Pos) × ((x.around ≡ Some b) × (k ≤ b.0))
      go None f a h = absurd (a k h)
      go (Some b) f a h = (b, (f, a.1 k h))

  pub around_live : (q : ℕ) (x : Spot) (b : Pos) → slice_get nest q ≡ Some x → x.live ≡ true → x.around ≡ Some b → live_at (slice_get nest b.0) ≡ true
  around_live q x b e on some =
      let c = code_of body.code in
      let all = spots_in true None 0 c 0 in
      let held = held_in nest None 0 c 0 (subst (HasAt nest 0) is.is (has_itself nest)) tt in
      subst (λ o. IfSome o (λ (z : Pos). live_at (slice_get nest z.0) ≡ true)) some (held_at nest all q x held (ap (λ z. slice_get z q) (sym is.is) ∙ e) on)
