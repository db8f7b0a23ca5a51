-- What is kept of positions fits their sites.
use Rattle.std.proofs.Common.{◌≡◌, ℕ, zero, suc, ◌+◌, ◌≤◌, ◌<◌, ◌&&◌, inl, inr, Bool, true, false, true≢false, List, [], ◌∷◌, ◌++◌, Option, Some, None, length, replicate, drop, refl, sym, ap, ◌∙◌, subst, arith, add-one}
use Rattle.std.specs.List.{All, AllZip, slice_get}
use Rattle.wasm_types.specs.declared.module.Pos.{Pos}
use Rattle.wasm_types.specs.declared.instr.Instr.{Instr}
use Rattle.wasm_types.specs.declared.instr.Instr as instr
use Rattle.wasm_types.specs.declared.place.Node.{Node}
use Rattle.wasm_types.specs.declared.place.Node.TheVariants as node
use Rattle.wasm_types.specs.declared.place.Node.TheVariants.{Exit}
use Rattle.wasm_types.specs.Code.{Code, done, one, block, repeat, branch, count}
use Rattle.wasm_types.specs.Marked.{plain, marked, size}
use Rattle.wasm_types.specs.Actions.{Callees}
use Rattle.wasm_types.specs.Nodes.{Join, named, made}
use Rattle.wasm_types.specs.Labels.{arity, arities, outermost, Label, block_label, loop_label, body_label}
use Rattle.wasm_types.specs.Sites.{Head, DoHead, BlockHead, LoopHead, IfHead, BrHead, BrIfHead, BrTableHead, ReturnHead, UnreachableHead, HasJoin, Branches, OneOf, Site, Sites, sites, body_sites}
use Rattle.wasm_types.specs.Shadow.{Inside, at_position, at_join}
use Rattle.block_cfg.specs.Labels.{LabelsBelow, LabelsExist}
use Rattle.block_cfg.specs.Walk.{goes_on}
use Rattle.block_cfg.proofs.SiteLemmas.{size_marked}
use Rattle.control_deps.specs.declared.spot.Form.{Form}
use Rattle.control_deps.specs.declared.spot.Form.TheVariants as form
use Rattle.control_deps.specs.declared.spot.Spot.{Spot}
use Rattle.control_deps.specs.Spots.{place, greatest, form_of, spots_in}
use Rattle.control_deps.specs.Chain.{holds, live_at, joins_at, StandsWithin, IsLabelAt, IsChain}
use Rattle.control_deps.proofs.SpotLemmas.{length_spots}

-- ---- what fits a site

abbrev pub form_of_head : Head → Form
form_of_head (DoHead op) = form.Other
form_of_head (BlockHead kind) = form.Block
form_of_head (LoopHead kind) = form.Loop
form_of_head (IfHead kind) = form.If
form_of_head (BrHead l) = form.Branch l
form_of_head (BrIfHead l) = form.Branch l
form_of_head (BrTableHead labels other) = form.Branch (greatest other labels)
form_of_head (ReturnHead l) = form.Branch l
form_of_head UnreachableHead = form.Other

-- labels end at rising positions, from this one on
abbrev pub RisesFrom : ℕ → List Label → Type 0
RisesFrom low [] = Unit {0}
RisesFrom low (L ∷ ctx) = (low ≤ L.stop) × RisesFrom L.stop ctx

pub rises_lower : (low low' : ℕ) (ctx : List Label) → low ≤ low' → RisesFrom low' ctx → RisesFrom low ctx
rises_lower low low' [] le r = tt
rises_lower low low' (L ∷ ctx) le r = (omega (arith, r.0), r.1)

pub record Fits (nest : List Spot) (x : Spot) (s : Site) : Type 0 where
  pub live : x.live ≡ true
  pub stop : s.stop ≡ x.stop
  pub form : x.form ≡ form_of_head s.head
  pub chain : IsChain nest x.around s.around
  pub exist : (l : ℕ) → Branches s.head l → l < length s.around
  pub rises : RisesFrom 0 s.around

abbrev pub IsFit : List Spot → Spot → Option Site → Type 0
IsFit nest x None = x.live ≡ false
IsFit nest x (Some s) = Fits nest x s

zip_append : (R : Spot → Option Site → Type 0) (xs xs' : List Spot) (ys ys' : Sites) → AllZip R xs ys → AllZip R xs' ys' → AllZip R (xs ++ xs') (ys ++ ys')
zip_append R [] xs' [] ys' a b = b
zip_append R [] xs' (y ∷ ys) ys' a b = absurd a
zip_append R (x ∷ xs) xs' [] ys' a b = absurd a
zip_append R (x ∷ xs) xs' (y ∷ ys) ys' a b = (a.0, zip_append R xs xs' ys ys' a.1 b)

-- ---- these stand in the nesting, from a position on

abbrev pub HasAt : List Spot → ℕ → List Spot → Type 0
HasAt nest p [] = Unit {0}
HasAt nest p (x ∷ xs) = (slice_get nest p ≡ Some x) × HasAt nest (p + 1) xs

pub has_front : (nest : List Spot) (p : ℕ) (xs ys : List Spot) → HasAt nest p (xs ++ ys) → HasAt nest p xs
has_front nest p [] ys h = tt
has_front nest p (x ∷ xs) ys h = (h.0, has_front nest (p + 1) xs ys h.1)

pub has_back : (nest : List Spot) (p q : ℕ) (xs ys : List Spot) → q ≡ p + length xs → HasAt nest p (xs ++ ys) → HasAt nest q ys
has_back nest p q [] ys e h = let f : p ≡ q = omega arith in subst (λ z. HasAt nest z ys) f h
has_back nest p q (x ∷ xs) ys e h = has_back nest (p + 1) q xs ys (omega arith) h.1

shifted : (x : Spot) (nest xs : List Spot) (p : ℕ) → HasAt nest p xs → HasAt (x ∷ nest) (p + 1) xs
shifted x nest [] p h = tt
shifted x nest (y ∷ xs) p h = (let e : p + 1 ≡ suc p = omega arith in ap (slice_get (x ∷ nest)) e ∙ h.0, shifted x nest xs (p + 1) h.1)

pub has_itself : (nest : List Spot) → HasAt nest 0 nest
has_itself [] = tt
has_itself (x ∷ xs) = (refl, shifted x xs xs 0 (has_itself xs))

-- ---- dead code

abbrev pub AreDead : List Spot → Type 0
AreDead [] = Unit {0}
AreDead (x ∷ xs) = (x.live ≡ false) × AreDead xs

dead_append : (xs ys : List Spot) → AreDead xs → AreDead ys → AreDead (xs ++ ys)
dead_append [] ys f g = g
dead_append (x ∷ xs) ys f g = (f.0, dead_append xs ys f.1 g)

and_false : (b : Bool) → (b && false) ≡ false
and_false true = refl
and_false false = refl

pub dead_spots : (around : Option Pos) (depth : ℕ) (c : Code) (p : ℕ) → AreDead (spots_in false around depth c p)
dead_spots around depth done p = tt
dead_spots around depth (one i rest) p = (refl, subst (λ b. AreDead (spots_in b around depth rest (p + 1))) (sym (and_false (goes_on i))) (dead_spots around depth rest (p + 1)))
dead_spots around depth (block kind inner rest) p =
    (refl, dead_append _ _ (dead_spots (Some (place p)) (depth + 1) inner (p + 1)) (dead_spots around depth rest (p + 1 + count inner)))
dead_spots around depth (repeat kind inner rest) p =
    (refl, dead_append _ _ (dead_spots (Some (place p)) (depth + 1) inner (p + 1)) (dead_spots around depth rest (p + 1 + count inner)))
dead_spots around depth (branch kind x y rest) p = (
  refl,
  dead_append _ _ (dead_spots (Some (place p)) (depth + 1) x (p + 1))
      (dead_append _ _ (dead_spots (Some (place p)) (depth + 1) y (p + 1 + count x)) (dead_spots around depth rest (p + 1 + count x + count y))),
)

none_fit : (nest xs : List Spot) (n : ℕ) → n ≡ length xs → AreDead xs → AllZip (IsFit nest) xs (replicate n None)
none_fit nest [] zero e d = tt
none_fit nest [] (suc n) e d = absurd (omega arith)
none_fit nest (x ∷ xs) zero e d = absurd (omega arith)
none_fit nest (x ∷ xs) (suc n) e d = (d.0, none_fit nest xs n (omega arith) d.1)

-- ---- labels

depth_is : (ctx : List Label) (depth : ℕ) → length ctx ≡ depth + 1 → depth ≡ outermost (arities ctx)
depth_is [] depth e = absurd (omega arith)
depth_is (L ∷ ctx) depth e = omega (arith, length_arities ctx)
  where
    length_arities : (xs : List Label) → length (arities xs) ≡ length xs
    length_arities [] = refl
    length_arities (x ∷ xs) = ap suc (length_arities xs)

one_below : (n : ℕ) (some : List ℕ) (other l : ℕ) → All (λ k. k < n) some → other < n → OneOf some other l → l < n
one_below n [] other l a lt e = subst (λ z. z < n) (sym e) lt
one_below n (x ∷ some) other l a lt (inl e) = subst (λ z. z < n) (sym e) (a 0 x (omega arith))
one_below n (x ∷ some) other l a lt (inr o) = one_below n some other l (λ k d h. a (suc k) d (omega arith)) lt o

-- ---- the sites of live code

module _ (nest : List Spot) (cs : Callees) (w : ℕ → Bool) where
  leaf_fits : (i : Instr) (rest : Code) (ctx : List Label) (k : Node) (p : ℕ) (names : List Node) (around : Option Pos) (depth : ℕ)
      → IsChain nest around ctx → length ctx ≡ depth + 1 → LabelsBelow (length ctx) i → RisesFrom 0 ctx
      → AllZip (IsFit nest) (spots_in false around depth rest (p + 1)) (replicate (size (marked w (p + 1) rest)) None)
      → (HasAt nest (p + 1) (spots_in true around depth rest (p + 1)) → (ns : List Node) → AllZip (IsFit nest) (spots_in true around depth rest (p + 1)) (sites cs ctx k (marked w (p + 1) rest) (p + 1) ns))
      → HasAt nest (p + 1) (spots_in (goes_on i && true) around depth rest (p + 1))
      → AllZip (IsFit nest) (record { around = around; stop = p + 1; live = true; form = form_of depth i } ∷ spots_in (goes_on i && true) around depth rest (p + 1))
      (sites cs ctx k (plain (w p) i (marked w (p + 1) rest)) p names)
  leaf_fits (instr.Br l) rest ctx k p names around depth chain deep below rises dead ih has =
      (record { live = refl; stop = refl; form = refl; chain = chain; exist = λ m e. subst (λ z. z < length ctx) (sym e) below; rises = rises }, dead)
  leaf_fits (instr.BrIf l) rest ctx k p names around depth chain deep below rises dead ih has =
      (record { live = refl; stop = refl; form = refl; chain = chain; exist = λ m e. subst (λ z. z < length ctx) (sym e) below; rises = rises }, ih has _)
  leaf_fits (instr.BrTable some other) rest ctx k p names around depth chain deep below rises dead ih has =
      (record { live = refl; stop = refl; form = refl; chain = chain; exist = λ m o. one_below (length ctx) some other m below.0 below.1 o; rises = rises }, dead)
  leaf_fits instr.Return rest ctx k p names around depth chain deep below rises dead ih has =
      let is = depth_is ctx depth deep in
      (record { live = refl; stop = refl; form = ap form.Branch is; chain = chain; exist = λ m e. omega (arith, deep, is, e); rises = rises }, dead)
  leaf_fits instr.Unreachable rest ctx k p names around depth chain deep below rises dead ih has =
      (record { live = refl; stop = refl; form = refl; chain = chain; exist = λ m b. absurd b; rises = rises }, dead)
  leaf_fits i rest ctx k p names around depth chain deep below rises dead ih has =
      (record { live = refl; stop = refl; form = refl; chain = chain; exist = λ m b. absurd b; rises = rises }, ih has (made cs p i names))

  rest_fits : (c : Code) (ctx : List Label) (k : Node) (e e' : ℕ) (names : List Node) (xs : List Spot) → e ≡ e'
      → AllZip (IsFit nest) xs (sites cs ctx k (marked w e' c) e' names) → AllZip (IsFit nest) xs (sites cs ctx k (marked w e' c) e names)
  rest_fits c ctx k e e' names xs same h = subst (λ z. AllZip (IsFit nest) xs (sites cs ctx k (marked w e' c) z names)) (sym same) h

  pub sites_fit : (c : Code) (ctx : List Label) (k : Node) (p : ℕ) (names : List Node) (around : Option Pos) (depth : ℕ)
      → HasAt nest p (spots_in true around depth c p) → IsChain nest around ctx → length ctx ≡ depth + 1 → LabelsExist (length ctx) c → RisesFrom (p + count c) ctx
      → AllZip (IsFit nest) (spots_in true around depth c p) (sites cs ctx k (marked w p c) p names)
  sites_fit done ctx k p names around depth has chain deep exist rises = tt
  sites_fit (one i rest) ctx k p names around depth has chain deep exist rises =
      leaf_fits i rest ctx k p names around depth chain deep exist.0 (rises_lower 0 (p + count (one i rest)) ctx (omega arith) rises)
      (none_fit nest (spots_in false around depth rest (p + 1)) (size (marked w (p + 1) rest)) (omega (arith, size_marked w rest (p + 1), length_spots false around depth rest (p + 1))) (dead_spots around depth rest (p + 1)))
      (λ h ns. sites_fit rest ctx k (p + 1) ns around depth h chain deep exist.1 (rises_lower (p + 1 + count rest) (p + count (one i rest)) ctx (omega arith) rises))
      has.1
  sites_fit (block kind inner rest) ctx k p names around depth has chain deep exist rises =
      let e = p + 1 + size (marked w (p + 1) inner) in
      let e' = p + 1 + count inner in
      let same : e ≡ e' = omega (arith, size_marked w inner (p + 1)) in
      let L = block_label p (arity kind) e in
      let I = spots_in true (Some (place p)) (depth + 1) inner (p + 1) in
      let R = spots_in true around depth rest e' in
      let after = named (arity kind) (Join p) names in
      let lower : RisesFrom e ctx = rises_lower e (p + count (block kind inner rest)) ctx (omega arith) rises in
      let inner_exist : LabelsExist (length (L ∷ ctx)) inner = subst (λ n. LabelsExist n inner) (add-one (length ctx)) exist.0 in
      let label : IsLabelAt p (record { around = around; stop = e'; live = true; form = form.Block }) L = record { loop = refl; start = refl; stop = same; join = refl } in
      let inner_chain : IsChain nest (Some (place p)) (L ∷ ctx) = (record { around = around; stop = e'; live = true; form = form.Block }, (has.0, (label, chain))) in
      let past : e' ≡ p + 1 + length I = omega (arith, length_spots true (Some (place p)) (depth + 1) inner (p + 1)) in (
        record { live = refl; stop = same; form = refl; chain = chain; exist = λ m b. absurd b; rises = rises_lower 0 e ctx (omega arith) lower },
        zip_append (IsFit nest) I R _ _
            (sites_fit inner (L ∷ ctx) (Join p) (p + 1) [] (Some (place p)) (depth + 1) (has_front nest (p + 1) I R has.1) inner_chain (omega (arith, deep)) inner_exist (omega (arith, same), lower))
            (rest_fits rest ctx k e e' after R same
            (sites_fit rest ctx k e' after around depth (has_back nest (p + 1) e' I R past has.1) chain deep exist.1 (rises_lower (e' + count rest) (p + count (block kind inner rest)) ctx (omega arith) rises))),
      )
  sites_fit (repeat kind inner rest) ctx k p names around depth has chain deep exist rises =
      let e = p + 1 + size (marked w (p + 1) inner) in
      let e' = p + 1 + count inner in
      let same : e ≡ e' = omega (arith, size_marked w inner (p + 1)) in
      let L = loop_label p e in
      let I = spots_in true (Some (place p)) (depth + 1) inner (p + 1) in
      let R = spots_in true around depth rest e' in
      let after = named (arity kind) (Join p) names in
      let lower : RisesFrom e ctx = rises_lower e (p + count (repeat kind inner rest)) ctx (omega arith) rises in
      let inner_exist : LabelsExist (length (L ∷ ctx)) inner = subst (λ n. LabelsExist n inner) (add-one (length ctx)) exist.0 in
      let label : IsLabelAt p (record { around = around; stop = e'; live = true; form = form.Loop }) L = record { loop = refl; start = refl; stop = same; join = refl } in
      let inner_chain : IsChain nest (Some (place p)) (L ∷ ctx) = (record { around = around; stop = e'; live = true; form = form.Loop }, (has.0, (label, chain))) in
      let past : e' ≡ p + 1 + length I = omega (arith, length_spots true (Some (place p)) (depth + 1) inner (p + 1)) in (
        record { live = refl; stop = same; form = refl; chain = chain; exist = λ m b. absurd b; rises = rises_lower 0 e ctx (omega arith) lower },
        zip_append (IsFit nest) I R _ _
            (sites_fit inner (L ∷ ctx) (Join p) (p + 1) [] (Some (place p)) (depth + 1) (has_front nest (p + 1) I R has.1) inner_chain (omega (arith, deep)) inner_exist (omega (arith, same), lower))
            (rest_fits rest ctx k e e' after R same
            (sites_fit rest ctx k e' after around depth (has_back nest (p + 1) e' I R past has.1) chain deep exist.1 (rises_lower (e' + count rest) (p + count (repeat kind inner rest)) ctx (omega arith) rises))),
      )
  sites_fit (branch kind x y rest) ctx k p names around depth has chain deep exist rises =
      let x' = marked w (p + 1) x in
      let f' = p + 1 + count x in
      let y' = marked w f' y in
      let f = p + 1 + size x' in
      let e = p + 1 + size x' + size y' in
      let e' = p + 1 + count x + count y in
      let same_f : f ≡ f' = omega (arith, size_marked w x (p + 1)) in
      let same : e ≡ e' = omega (arith, size_marked w x (p + 1), size_marked w y f') in
      let L = block_label p (arity kind) e in
      let X = spots_in true (Some (place p)) (depth + 1) x (p + 1) in
      let Y = spots_in true (Some (place p)) (depth + 1) y f' in
      let R = spots_in true around depth rest e' in
      let after = named (arity kind) (Join p) (drop 1 names) in
      let lower : RisesFrom e ctx = rises_lower e (p + count (branch kind x y rest)) ctx (omega arith) rises in
      let first_exist : LabelsExist (length (L ∷ ctx)) x = subst (λ n. LabelsExist n x) (add-one (length ctx)) exist.0 in
      let second_exist : LabelsExist (length (L ∷ ctx)) y = subst (λ n. LabelsExist n y) (add-one (length ctx)) exist.1.0 in
      let label : IsLabelAt p (record { around = around; stop = e'; live = true; form = form.If }) L = record { loop = refl; start = refl; stop = same; join = refl } in
      let inner_chain : IsChain nest (Some (place p)) (L ∷ ctx) = (record { around = around; stop = e'; live = true; form = form.If }, (has.0, (label, chain))) in
      let past_x : f' ≡ p + 1 + length X = omega (arith, length_spots true (Some (place p)) (depth + 1) x (p + 1)) in
      let past_y : e' ≡ f' + length Y = omega (arith, length_spots true (Some (place p)) (depth + 1) y f') in
      let behind = has_back nest (p + 1) f' X (Y ++ R) past_x has.1 in (
        record { live = refl; stop = same; form = refl; chain = chain; exist = λ m b. absurd b; rises = rises_lower 0 e ctx (omega arith) lower },
        zip_append (IsFit nest) X (Y ++ R) _ _
            (sites_fit x (L ∷ ctx) (Join p) (p + 1) [] (Some (place p)) (depth + 1) (has_front nest (p + 1) X (Y ++ R) has.1) inner_chain (omega (arith, deep)) first_exist (omega (arith, same), lower))
            (zip_append (IsFit nest) Y R _ _
            (rest_fits y (L ∷ ctx) (Join p) f f' [] Y same_f
            (sites_fit y (L ∷ ctx) (Join p) f' [] (Some (place p)) (depth + 1) (has_front nest f' Y R behind) inner_chain (omega (arith, deep)) second_exist (omega (arith, same), lower)))
            (rest_fits rest ctx k e e' after R same
            (sites_fit rest ctx k e' after around depth (has_back nest f' e' Y R past_y behind) chain deep exist.1.1 (rises_lower (e' + count rest) (p + count (branch kind x y rest)) ctx (omega arith) rises)))),
      )

-- ---- one position

abbrev pub FitsAt : List Spot → Option Spot → Option (Option Site) → Type 0
FitsAt nest None None = Unit {0}
FitsAt nest None (Some o) = ⊥
FitsAt nest (Some x) None = ⊥
FitsAt nest (Some x) (Some o) = IsFit nest x o

pub fits_at : (nest xs : List Spot) (S : Sites) (p : ℕ) → AllZip (IsFit nest) xs S → FitsAt nest (slice_get xs p) (slice_get S p)
fits_at nest [] [] p a = tt
fits_at nest [] (o ∷ S) p a = absurd a
fits_at nest (x ∷ xs) [] p a = absurd a
fits_at nest (x ∷ xs) (o ∷ S) zero a = a.0
fits_at nest (x ∷ xs) (o ∷ S) (suc p) a = fits_at nest xs S p a.1

live_site : (nest : List Spot) (o : Option Spot) (q : Option (Option Site)) → FitsAt nest o q → live_at o ≡ true → (s : Site) × (q ≡ Some (Some s))
live_site nest None q f e = absurd (true≢false (sym e))
live_site nest (Some x) None f e = absurd f
live_site nest (Some x) (Some None) f e = absurd (true≢false (sym e ∙ f))
live_site nest (Some x) (Some (Some s)) f e = (s, refl)

pub site_spot : (nest : List Spot) (o : Option Spot) (q : Option (Option Site)) (s : Site) → FitsAt nest o q → q ≡ Some (Some s) → (x : Spot) × ((o ≡ Some x) × Fits nest x s)
site_spot nest None None s f e = absurd cc
site_spot nest None (Some o) s f e = absurd f
site_spot nest (Some x) None s f e = absurd f
site_spot nest (Some x) (Some None) s f e = absurd cc
site_spot nest (Some x) (Some (Some r)) s f e = let same : r ≡ s = cc in (x, (refl, subst (Fits nest x) same f))

head_joins : (h : Head) → holds (form_of_head h) ≡ true → HasJoin h
head_joins (DoHead op) e = absurd (true≢false (sym e))
head_joins (BlockHead kind) e = tt
head_joins (LoopHead kind) e = tt
head_joins (IfHead kind) e = tt
head_joins (BrHead l) e = absurd (true≢false (sym e))
head_joins (BrIfHead l) e = absurd (true≢false (sym e))
head_joins (BrTableHead labels other) e = absurd (true≢false (sym e))
head_joins (ReturnHead l) e = absurd (true≢false (sym e))
head_joins UnreachableHead e = absurd (true≢false (sym e))

joins_head : (h : Head) → HasJoin h → holds (form_of_head h) ≡ true
joins_head (DoHead op) j = absurd j
joins_head (BlockHead kind) j = refl
joins_head (LoopHead kind) j = refl
joins_head (IfHead kind) j = refl
joins_head (BrHead l) j = absurd j
joins_head (BrIfHead l) j = absurd j
joins_head (BrTableHead labels other) j = absurd j
joins_head (ReturnHead l) j = absurd j
joins_head UnreachableHead j = absurd j

both_on : (a b : Bool) → (a && b) ≡ true → (a ≡ true) × (b ≡ true)
both_on true true e = (refl, refl)
both_on true false e = absurd (true≢false (sym e))
both_on false b e = absurd (true≢false (sym e))

on_both : (a b : Bool) → a ≡ true → b ≡ true → (a && b) ≡ true
on_both a b e f = rw (e, f)

joins_live : (o : Option Spot) → joins_at o ≡ true → live_at o ≡ true
joins_live None e = e
joins_live (Some x) e = (both_on (holds x.form) x.live e).1

joins_hold : (x : Spot) → joins_at (Some x) ≡ true → holds x.form ≡ true
joins_hold x e = (both_on (holds x.form) x.live e).0

-- what stands at positions is inside, as sites tell
module _ (nest : List Spot) (S : Sites) (fit : AllZip (IsFit nest) nest S) where
  pub within_inside : (a b : ℕ) (n : Node) → StandsWithin nest a b n → Inside S a b n
  within_inside a b (node.At p) h =
      let s = live_site nest (slice_get nest p.0) (slice_get S p.0) (fits_at nest nest S p.0 fit) h.0 in at_position s.0 s.1 h.1.0 h.1.1
  within_inside a b (node.Join p) h =
      let at = fits_at nest nest S p.0 fit in
      let s = live_site nest (slice_get nest p.0) (slice_get S p.0) at (joins_live (slice_get nest p.0) h.0) in
      let x = site_spot nest (slice_get nest p.0) (slice_get S p.0) s.0 at s.1 in
      let held : holds x.0.form ≡ true = joins_hold x.0 (ap joins_at (sym x.1.0) ∙ h.0) in
      at_join s.0 s.1 (head_joins s.0.head (ap holds (sym x.1.1.form) ∙ held)) h.1.0 h.1.1
  within_inside a b node.Exit h = absurd h

  pub inside_within : (a b : ℕ) (n : Node) → Inside S a b n → StandsWithin nest a b n
  inside_within a b n (at_position {q} t is le lt) =
      let x = site_spot nest (slice_get nest q) (slice_get S q) t (fits_at nest nest S q fit) is in
      (ap live_at x.1.0 ∙ x.1.1.live, (le, lt))
  inside_within a b n (at_join {q} t is j le lt) =
      let x = site_spot nest (slice_get nest q) (slice_get S q) t (fits_at nest nest S q fit) is in
      (ap joins_at x.1.0 ∙ on_both (holds x.0.form) x.0.live (ap holds x.1.1.form ∙ joins_head t.head j) x.1.1.live, (le, lt))

-- ---- the whole body

pub body_fits : (cs : Callees) (w : ℕ → Bool) (t : ℕ) (c : Code) (nest : List Spot) → nest ≡ spots_in true None 0 c 0 → LabelsExist 1 c
    → AllZip (IsFit nest) nest (body_sites cs t (marked w 0 c))
body_fits cs w t c nest is exist =
    let long : size (marked w 0 c) ≡ length nest = omega (arith, size_marked w c 0, length_spots true None 0 c 0, ap length is) in
    let le : 0 + count c ≤ size (marked w 0 c) = omega (arith, size_marked w c 0) in
    subst (λ z. AllZip (IsFit nest) z (body_sites cs t (marked w 0 c))) (sym is)
    (sites_fit nest cs w c (body_label t (size (marked w 0 c)) ∷ []) Exit 0 [] None 0 (subst (HasAt nest 0) is (has_itself nest)) (record { loop = refl; stop = long; join = refl }) refl exist (le, tt))
