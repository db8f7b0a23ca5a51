-- What the test of a shadow tells.
use Rattle.std.proofs.Common.{◌≡◌, ℕ, zero, suc, ◌+◌, ◌≤◌, ◌<◌, ◌⊎◌, ◌↔◌, inl, inr, ⊎_elim, Bool, true, false, true≢false, List, [], ◌∷◌, Option, Some, None, length, max, IsTrue, IfSome, not, refl, sym, ap, ◌∙◌, subst, arith}
use Rattle.std.specs.List.{AllZip, slice_get}
use Rattle.std.proofs.lemmas.Bool.{cases_lt}
use Rattle.std.proofs.lemmas.Option.{slice_get_within}
use Rattle.wasm_types.specs.declared.module.Body.{Body}
use Rattle.wasm_types.specs.declared.module.Pos.{Pos}
use Rattle.wasm_types.specs.declared.module.ValType.{ValType}
use Rattle.wasm_types.specs.declared.place.Node.{Node}
use Rattle.wasm_types.specs.declared.place.Node.TheVariants as node
use Rattle.wasm_types.specs.Code.{code_of}
use Rattle.wasm_types.specs.Marked.{marked}
use Rattle.wasm_types.specs.Actions.{Callees}
use Rattle.wasm_types.specs.Nodes.{Join}
use Rattle.wasm_types.specs.Labels.{Label, join_of, loop_of, start_of, stop_of}
use Rattle.wasm_types.specs.Shadow.{InShadow, arms, if_join, later, around, looping}
use Rattle.wasm_types.specs.Sites.{Head, DoHead, BlockHead, LoopHead, IfHead, BrHead, BrIfHead, BrTableHead, ReturnHead, UnreachableHead, Branches, OneOf, Site, Sites, IsSite, body_sites}
use Rattle.control_deps.specs.declared.spot.Form.{Form}
use Rattle.control_deps.specs.declared.spot.Form.TheVariants as form
use Rattle.control_deps.specs.declared.spot.Spot.{Spot}
use Rattle.control_deps.specs.Spots.{greatest}
use Rattle.control_deps.specs.Nest.{AreNested, IsNestOf}
use Rattle.control_deps.specs.Chain.{StandsWithin, IsChain, IsLabelAt, IsOfLabel, Decides}
use Rattle.control_deps.specs.Deciders.{Tells}
use Rattle.control_deps.proofs.FitLemmas.{form_of_head, RisesFrom, Fits, IsFit, FitsAt, fits_at, site_spot, within_inside, inside_within, body_fits}

-- ---- the outermost target

one_of_change : (xs : List ℕ) (d m : ℕ) → OneOf xs d m → (m ≡ d) ⊎ ((d' : ℕ) → OneOf xs d' m)
one_of_change [] d m e = inl e
one_of_change (x ∷ xs) d m (inl e) = inr (λ d'. inl e)
one_of_change (x ∷ xs) d m (inr o) = ⊎_elim (λ e. inl e) (λ f. inr (λ d'. inr (f d'))) (one_of_change xs d m o)

default_one_of : (xs : List ℕ) (d : ℕ) → OneOf xs d d
default_one_of [] d = refl
default_one_of (x ∷ xs) d = inr (default_one_of xs d)

greatest_one_of : (xs : List ℕ) (l : ℕ) → OneOf xs l (greatest l xs)
greatest_one_of [] l = refl
greatest_one_of (x ∷ xs) l =
    let g = greatest (max l x) xs in
    ⊎_elim
    (λ (e : g ≡ max l x). ⊎_elim
    (λ lt. let f : g ≡ x = omega (arith, e) in inl f)
    (λ le. let f : l ≡ g = omega (arith, e) in inr (subst (λ z. OneOf xs l z) f (default_one_of xs l)))
    (cases_lt l x))
    (λ o. inr (o l))
    (one_of_change xs (max l x) g (greatest_one_of xs (max l x)))

greatest_least : (xs : List ℕ) (l : ℕ) → l ≤ greatest l xs
greatest_least [] l = omega arith
greatest_least (x ∷ xs) l = let h = greatest_least xs (max l x) in omega (arith, h)

greatest_above : (xs : List ℕ) (l k : ℕ) → OneOf xs l k → k ≤ greatest l xs
greatest_above [] l k e = omega (arith, e)
greatest_above (x ∷ xs) l k (inl e) = let h = greatest_least xs (max l x) in omega (arith, h, e)
greatest_above (x ∷ xs) l k (inr o) =
    ⊎_elim (λ e. let h = greatest_least xs (max l x) in omega (arith, h, e)) (λ f. greatest_above xs (max l x) k (f (max l x))) (one_of_change xs l k o)

-- of a branch the outermost target, and of nothing else
pub furthest : (h : Head) (m : ℕ) → form_of_head h ≡ form.Branch m → Branches h m × ((k : ℕ) → Branches h k → k ≤ m)
furthest (DoHead op) m e = absurd cc
furthest (BlockHead kind) m e = absurd cc
furthest (LoopHead kind) m e = absurd cc
furthest (IfHead kind) m e = absurd cc
furthest (BrHead l) m e = let f : l ≡ m = cc in (sym f, (λ k b. omega (arith, f, b)))
furthest (BrIfHead l) m e = let f : l ≡ m = cc in (sym f, (λ k b. omega (arith, f, b)))
furthest (BrTableHead labels other) m e =
    let f : greatest other labels ≡ m = cc in (subst (OneOf labels other) f (greatest_one_of labels other), (λ k b. let h = greatest_above labels other k b in omega (arith, f, h)))
furthest (ReturnHead l) m e = let f : l ≡ m = cc in (sym f, (λ k b. omega (arith, f, b)))
furthest UnreachableHead m e = absurd cc

-- what is no branch
abbrev pub is_branch : Form → Bool
is_branch (form.Branch m) = true
is_branch _ = false

pub branch_form : (h : Head) (l : ℕ) → Branches h l → is_branch (form_of_head h) ≡ true
branch_form (DoHead op) l b = absurd b
branch_form (BlockHead kind) l b = absurd b
branch_form (LoopHead kind) l b = absurd b
branch_form (IfHead kind) l b = absurd b
branch_form (BrHead m) l b = refl
branch_form (BrIfHead m) l b = refl
branch_form (BrTableHead labels other) l b = refl
branch_form (ReturnHead m) l b = refl
branch_form UnreachableHead l b = absurd b

if_head : (h : Head) → form_of_head h ≡ form.If → (kind : Option ValType) × (h ≡ IfHead kind)
if_head (DoHead op) e = absurd cc
if_head (BlockHead kind) e = absurd cc
if_head (LoopHead kind) e = absurd cc
if_head (IfHead kind) e = (kind, refl)
if_head (BrHead l) e = absurd cc
if_head (BrIfHead l) e = absurd cc
if_head (BrTableHead labels other) e = absurd cc
if_head (ReturnHead l) e = absurd cc
if_head UnreachableHead e = absurd cc

-- ---- along the labels

pub stops_rise : (ctx : List Label) (low k m : ℕ) → RisesFrom low ctx → k ≤ m → m < length ctx → (low ≤ stop_of ctx k) × (stop_of ctx k ≤ stop_of ctx m)
stops_rise [] low k m r le lt = absurd (omega arith)
stops_rise (L ∷ ctx) low zero zero r le lt = (r.0, omega arith)
stops_rise (L ∷ ctx) low (suc k) zero r le lt = absurd (omega arith)
stops_rise (L ∷ ctx) low zero (suc m) r le lt = let h = stops_rise ctx L.stop m m r.1 (omega arith) (omega arith) in (r.0, h.0)
stops_rise (L ∷ ctx) low (suc k) (suc m) r le lt = let h = stops_rise ctx L.stop k m r.1 (omega arith) (omega arith) in (omega (arith, r.0, h.0), h.1)

wider : (nest : List Spot) (a b b' : ℕ) (n : Node) → b ≤ b' → StandsWithin nest a b n → StandsWithin nest a b' n
wider nest a b b' (node.At p) le h = (h.0, (h.1.0, omega (arith, h.1.1)))
wider nest a b b' (node.Join p) le h = (h.0, (h.1.0, omega (arith, h.1.1)))
wider nest a b b' node.Exit le h = h

later_decides : (nest : List Spot) (after : ℕ) (ctx : List Label) (l : ℕ) (n : Node) → l < length ctx → StandsWithin nest after (stop_of ctx l) n → Decides nest after ctx l n
later_decides nest after [] l n lt h = absurd (omega arith)
later_decides nest after (L ∷ ctx) zero n lt h = inr h
later_decides nest after (L ∷ ctx) (suc l) n lt h = inr (later_decides nest after ctx l n (omega arith) h)

label_decides : (nest : List Spot) (after : ℕ) (ctx : List Label) (j l : ℕ) (n : Node) → j ≤ l → l < length ctx
    → (join_of ctx j ≡ n) ⊎ ((loop_of ctx j ≡ true) × StandsWithin nest (start_of ctx j) (stop_of ctx j) n) → Decides nest after ctx l n
label_decides nest after [] j l n le lt h = absurd (omega arith)
label_decides nest after (L ∷ ctx) zero zero n le lt h = inl h
label_decides nest after (L ∷ ctx) zero (suc l) n le lt h = inl h
label_decides nest after (L ∷ ctx) (suc j) zero n le lt h = absurd (omega arith)
label_decides nest after (L ∷ ctx) (suc j) (suc l) n le lt h = inr (label_decides nest after ctx j l n (omega arith) (omega arith) h)

-- a label up to this one has the node
pub record ByLabel (nest : List Spot) (ctx : List Label) (l : ℕ) (n : Node) : Type 0 where
  pub label : ℕ
  pub low : label ≤ l
  pub has : (join_of ctx label ≡ n) ⊎ ((loop_of ctx label ≡ true) × StandsWithin nest (start_of ctx label) (stop_of ctx label) n)

decides_split : (nest : List Spot) (after : ℕ) (ctx : List Label) (l : ℕ) (n : Node) → Decides nest after ctx l n → ByLabel nest ctx l n ⊎ StandsWithin nest after (stop_of ctx l) n
decides_split nest after [] l n d = absurd d
decides_split nest after (L ∷ ctx) zero n (inl h) = inl (record { label = 0; low = omega arith; has = h })
decides_split nest after (L ∷ ctx) zero n (inr h) = inr h
decides_split nest after (L ∷ ctx) (suc l) n (inl h) = inl (record { label = 0; low = omega arith; has = h })
decides_split nest after (L ∷ ctx) (suc l) n (inr d) =
    ⊎_elim (λ b. inl (record { label = suc b.label; low = omega (arith, b.low); has = b.has })) (λ h. inr h) (decides_split nest after ctx l n d)

-- ---- the shadow of a position

module _ (nest : List Spot) (S : Sites) (fit : AllZip (IsFit nest) nest S) where
  same_site : (p : ℕ) (n : Node) → (s r : Site) → IsSite S p s → IsSite S p r → r ≡ s
  same_site p n s r is is' = cc (sym is ∙ is')

  -- the site of a shadow
  shadow_site : (p : ℕ) (n : Node) → InShadow S p n → (s : Site) × (IsSite S p s)
  shadow_site p n (arms kind s is e i) = (s, is)
  shadow_site p n (if_join kind s is e) = (s, is)
  shadow_site p n (later l s is b i) = (s, is)
  shadow_site p n (around l j s is b le) = (s, is)
  shadow_site p n (looping l j s is b le lp i) = (s, is)

  pub no_spot : (p : ℕ) (n : Node) → slice_get nest p ≡ None → InShadow S p n → ⊥
  no_spot p n e h =
      let s = shadow_site p n h in
      let x = site_spot nest (slice_get nest p) (slice_get S p) s.0 (fits_at nest nest S p fit) s.1 in
      absurd (cc (sym e ∙ x.1.0))

  pub spot_fits : (p : ℕ) (n : Node) → (x : Spot) (s : Site) → slice_get nest p ≡ Some x → IsSite S p s → Fits nest x s
  spot_fits p n x s e is =
      let y = site_spot nest (slice_get nest p) (slice_get S p) s (fits_at nest nest S p fit) is in
      let same : y.0 ≡ x = cc (sym y.1.0 ∙ e) in subst (λ z. Fits nest z s) same y.1.1

  pub dead_spot : (p : ℕ) (n : Node) → (x : Spot) → slice_get nest p ≡ Some x → x.live ≡ false → InShadow S p n → ⊥
  dead_spot p n x e off h = let s = shadow_site p n h in true≢false (sym (spot_fits p n x s.0 e s.1).live ∙ off)

  -- neither if nor branch
  pub no_decider : (p : ℕ) (n : Node) → (x : Spot) → slice_get nest p ≡ Some x → is_branch x.form ≡ false → (x.form ≡ form.If → ⊥) → InShadow S p n → ⊥
  no_decider p n x e off not_if (arms kind s is h i) = not_if ((spot_fits p n x s e is).form ∙ ap form_of_head h)
  no_decider p n x e off not_if (if_join kind s is h) = not_if ((spot_fits p n x s e is).form ∙ ap form_of_head h)
  no_decider p n x e off not_if (later l s is b i) = true≢false (sym (ap is_branch (spot_fits p n x s e is).form ∙ branch_form s.head l b) ∙ off)
  no_decider p n x e off not_if (around l j s is b le) = true≢false (sym (ap is_branch (spot_fits p n x s e is).form ∙ branch_form s.head l b) ∙ off)
  no_decider p n x e off not_if (looping l j s is b le lp i) = true≢false (sym (ap is_branch (spot_fits p n x s e is).form ∙ branch_form s.head l b) ∙ off)

  -- a live spot has a site
  pub live_has : (p : ℕ) (n : Node) → (x : Spot) → slice_get nest p ≡ Some x → x.live ≡ true → (s : Site) × (IsSite S p s)
  live_has p n x e on = go (slice_get nest p) (slice_get S p) e refl (fits_at nest nest S p fit)
    where
      go : (o : Option Spot) (q : Option (Option Site)) → o ≡ Some x → slice_get S p ≡ q → FitsAt nest o q → (s : Site) × (IsSite S p s)
      go None q f g h = absurd cc
      go (Some y) None f g h = absurd h
      go (Some y) (Some None) f g h = let same : y ≡ x = cc in absurd (true≢false (sym on ∙ ap (λ (z : Spot). z.live) (sym same) ∙ h))
      go (Some y) (Some (Some s)) f g h = (s, g)

  pub if_shadow : (p : ℕ) (n : Node) → (x : Spot) → slice_get nest p ≡ Some x → x.live ≡ true → x.form ≡ form.If → (n ≡ Join p) ⊎ StandsWithin nest (p + 1) x.stop n → InShadow S p n
  if_shadow p n x e on is_if h =
      let s = live_has p n x e on in
      let f = spot_fits p n x s.0 e s.1 in
      let head = if_head s.0.head (sym f.form ∙ is_if) in
      ⊎_elim
      (λ j. subst (InShadow S p) (sym j) (if_join head.0 s.0 s.1 head.1))
      (λ i. arms head.0 s.0 s.1 head.1 (within_inside nest S fit (p + 1) s.0.stop n (subst (λ z. StandsWithin nest (p + 1) z n) (sym f.stop) i)))
      h

  not_branch : (h : Head) (kind : Option ValType) (m : ℕ) → h ≡ IfHead kind → form_of_head h ≡ form.Branch m → ⊥
  not_branch h kind m e f = absurd (cc (sym (ap form_of_head e) ∙ f))

  pub shadow_if : (p : ℕ) (n : Node) → (x : Spot) → slice_get nest p ≡ Some x → x.form ≡ form.If → InShadow S p n → (n ≡ Join p) ⊎ StandsWithin nest (p + 1) x.stop n
  shadow_if p n x e is_if (arms kind s is h i) =
      let f = spot_fits p n x s e is in inr (subst (λ z. StandsWithin nest (p + 1) z n) f.stop (inside_within nest S fit (p + 1) s.stop n i))
  shadow_if p n x e is_if (if_join kind s is h) = inl refl
  shadow_if p n x e is_if (later l s is b i) = absurd (true≢false (sym (branch_form s.head l b) ∙ ap is_branch (sym (spot_fits p n x s e is).form ∙ is_if)))
  shadow_if p n x e is_if (around l j s is b le) = absurd (true≢false (sym (branch_form s.head l b) ∙ ap is_branch (sym (spot_fits p n x s e is).form ∙ is_if)))
  shadow_if p n x e is_if (looping l j s is b le lp i) = absurd (true≢false (sym (branch_form s.head l b) ∙ ap is_branch (sym (spot_fits p n x s e is).form ∙ is_if)))

  -- a branch, by the labels of its site
  pub branch_shadow : (p : ℕ) (n : Node) → (x : Spot) (m : ℕ) (s : Site) → slice_get nest p ≡ Some x → IsSite S p s → x.form ≡ form.Branch m → Decides nest (p + 1) s.around m n → InShadow S p n
  branch_shadow p n x m s e is br d =
      let f = spot_fits p n x s e is in
      let far = furthest s.head m (sym f.form ∙ br) in
      ⊎_elim
      (λ b. ⊎_elim
      (λ j. subst (InShadow S p) j (around m b.label s is far.0 b.low))
      (λ i. looping m b.label s is far.0 b.low i.0 (within_inside nest S fit (start_of s.around b.label) (stop_of s.around b.label) n i.1))
      b.has)
      (λ h. later m s is far.0 (within_inside nest S fit (p + 1) (stop_of s.around m) n h))
      (decides_split nest (p + 1) s.around m n d)

  pub shadow_branch : (p : ℕ) (n : Node) → (x : Spot) (m : ℕ) (s : Site) → slice_get nest p ≡ Some x → IsSite S p s → x.form ≡ form.Branch m → InShadow S p n → Decides nest (p + 1) s.around m n
  shadow_branch p n x m s e is br (arms kind r is' h i) = absurd (not_branch r.head kind m h (sym (spot_fits p n x r e is').form ∙ br))
  shadow_branch p n x m s e is br (if_join kind r is' h) = absurd (not_branch r.head kind m h (sym (spot_fits p n x r e is').form ∙ br))
  shadow_branch p n x m s e is br (later l r is' b i) =
      let f = spot_fits p n x r e is' in
      let far = furthest r.head m (sym f.form ∙ br) in
      let there = f.exist m far.0 in
      let rise = stops_rise r.around 0 l m f.rises (far.1 l b) there in
      subst (λ (z : Site). Decides nest (p + 1) z.around m n) (same_site p n s r is is')
      (later_decides nest (p + 1) r.around m n there (wider nest (p + 1) (stop_of r.around l) (stop_of r.around m) n rise.1 (inside_within nest S fit (p + 1) (stop_of r.around l) n i)))
  shadow_branch p n x m s e is br (around l j r is' b le) =
      let f = spot_fits p n x r e is' in
      let far = furthest r.head m (sym f.form ∙ br) in
      let low = far.1 l b in
      subst (λ (z : Site). Decides nest (p + 1) z.around m n) (same_site p n s r is is') (label_decides nest (p + 1) r.around j m n (omega (arith, low, le)) (f.exist m far.0) (inl refl))
  shadow_branch p n x m s e is br (looping l j r is' b le lp i) =
      let f = spot_fits p n x r e is' in
      let far = furthest r.head m (sym f.form ∙ br) in
      let low = far.1 l b in
      subst (λ (z : Site). Decides nest (p + 1) z.around m n) (same_site p n s r is is')
      (label_decides nest (p + 1) r.around j m n (omega (arith, low, le)) (f.exist m far.0) (inr (lp, inside_within nest S fit (start_of r.around j) (stop_of r.around j) n i)))

  pub branch_fits : (p : ℕ) (n : Node) → (x : Spot) (m : ℕ) (s : Site) → slice_get nest p ≡ Some x → IsSite S p s → x.form ≡ form.Branch m → IsChain nest x.around s.around × (m < length s.around)
  branch_fits p n x m s e is br = let f = spot_fits p n x s e is in (f.chain, f.exist m (furthest s.head m (sym f.form ∙ br)).0)

-- ---- what is told of each body

pub fit_of : (nest : List Spot) (body : Body) (cs : Callees) (t : ℕ) (w : ℕ → Bool) → IsNestOf body nest → AllZip (IsFit nest) nest (body_sites cs t (marked w 0 (code_of body.code)))
fit_of nest body cs t w is = body_fits cs w t (code_of body.code) nest is.is is.has_points.labels

pub tells_no_spot : (nest : List Spot) (p : ℕ) (n : Node) → slice_get nest p ≡ None → Tells nest p n false
tells_no_spot nest p n e body is cs t w = ((λ h. absurd (true≢false (sym h))), (λ h. absurd (no_spot nest _ (fit_of nest body cs t w is) p n e h)))

pub tells_dead : (nest : List Spot) (p : ℕ) (n : Node) (x : Spot) → slice_get nest p ≡ Some x → x.live ≡ false → Tells nest p n false
tells_dead nest p n x e off body is cs t w = ((λ h. absurd (true≢false (sym h))), (λ h. absurd (dead_spot nest _ (fit_of nest body cs t w is) p n x e off h)))

pub tells_other : (nest : List Spot) (p : ℕ) (n : Node) (x : Spot) → slice_get nest p ≡ Some x → is_branch x.form ≡ false → (x.form ≡ form.If → ⊥) → Tells nest p n false
tells_other nest p n x e off not_if body is cs t w = ((λ h. absurd (true≢false (sym h))), (λ h. absurd (no_decider nest _ (fit_of nest body cs t w is) p n x e off not_if h)))

pub tells_if : (nest : List Spot) (p : ℕ) (n : Node) (x : Spot) (b : Bool) → slice_get nest p ≡ Some x → x.live ≡ true → x.form ≡ form.If
    → IsTrue b ↔ ((n ≡ Join p) ⊎ StandsWithin nest (p + 1) x.stop n) → Tells nest p n b
tells_if nest p n x b e on is_if both body is cs t w =
    let fit = fit_of nest body cs t w is in
    ((λ h. if_shadow nest _ fit p n x e on is_if (both.0 h)), (λ h. both.1 (shadow_if nest _ fit p n x e is_if h)))

pub tells_branch : (nest : List Spot) (p : ℕ) (n : Node) (x : Spot) (m : ℕ) (b : Bool) → slice_get nest p ≡ Some x → x.live ≡ true → x.form ≡ form.Branch m
    → ((ctx : List Label) → IsChain nest x.around ctx → m < length ctx → IsTrue b ↔ Decides nest (p + 1) ctx m n) → Tells nest p n b
tells_branch nest p n x m b e on br both body is cs t w =
    let S = body_sites cs t (marked w 0 (code_of body.code)) in
    let fit = fit_of nest body cs t w is in
    let s = live_has nest S fit p n x e on in
    let there = branch_fits nest S fit p n x m s.0 e s.1 br in
    let exact = both s.0.around there.0 there.1 in
    ((λ h. branch_shadow nest S fit p n x m s.0 e s.1 br (exact.0 h)), (λ h. exact.1 (shadow_branch nest S fit p n x m s.0 e s.1 br h)))

-- ---- along what is around

if_some : (o : Option Pos) (b : Pos) (P : Pos → Type 0) → o ≡ Some b → IfSome o P → P b
if_some o b P e h = subst (λ z. IfSome z P) e h

pub block_within : (nest : List Spot) (o : Option Pos) (b : Pos) → o ≡ Some b → IfSome o (λ (z : Pos). z.0 < length nest) → b.0 < length nest
block_within nest o b e h = if_some o b (λ (z : Pos). z.0 < length nest) e h

if_weaker : (o : Option Pos) (P Q : Pos → Type 0) → ((b : Pos) → P b → Q b) → IfSome o P → IfSome o Q
if_weaker None P Q f h = tt
if_weaker (Some b) P Q f h = f b h

-- what is around a position of the nesting is one
pub around_within : (nest : List Spot) (k : ℕ) (x : Spot) → AreNested nest → slice_get nest k ≡ Some x → IfSome x.around (λ (b : Pos). b.0 < length nest)
around_within nest k x nested e =
    let lt = slice_get_within nest k x e in
    if_weaker x.around (λ (b : Pos). b.0 < k) (λ (b : Pos). b.0 < length nest) (λ b h. omega (arith, h, lt)) (nested.before k x e)

outermost_decides : (nest : List Spot) (after : ℕ) (ctx : List Label) (l : ℕ) (n : Node) → IsChain nest None ctx → l < length ctx
    → ((n ≡ node.Exit) ⊎ StandsWithin nest after (length nest) n → Decides nest after ctx l n) × (Decides nest after ctx l n → (n ≡ node.Exit) ⊎ StandsWithin nest after (length nest) n)
outermost_decides nest after [] l n chain lt = absurd chain
outermost_decides nest after (L ∷ M ∷ ctx) l n chain lt = absurd chain
outermost_decides nest after (L ∷ []) (suc l) n chain lt = absurd (omega arith)
outermost_decides nest after (L ∷ []) zero n chain lt = (
  (λ h. ⊎_elim (λ e. inl (inl (chain.join ∙ sym e))) (λ i. inr (subst (λ z. StandsWithin nest after z n) (sym chain.stop) i)) h),
  (λ d. ⊎_elim
      (λ o. ⊎_elim (λ e. inl (sym e ∙ chain.join)) (λ lp. absurd (true≢false (sym lp.0 ∙ chain.loop))) o)
      (λ i. inr (subst (λ z. StandsWithin nest after z n) chain.stop i)) d),
)

pub body_decides : (nest : List Spot) (after : ℕ) (o : Option Pos) (l : ℕ) (n : Node) (b : Bool) → o ≡ None
    → IsTrue b ↔ ((n ≡ node.Exit) ⊎ StandsWithin nest after (length nest) n) → (ctx : List Label) → IsChain nest o ctx → l < length ctx → IsTrue b ↔ Decides nest after ctx l n
body_decides nest after o l n b e both ctx chain lt =
    let exact = outermost_decides nest after ctx l n (subst (λ z. IsChain nest z ctx) e chain) lt in
    ((λ h. exact.0 (both.0 h)), (λ d. both.1 (exact.1 d)))

-- the innermost label is that of what is around
pub record Innermost (nest : List Spot) (b : Pos) (x : Spot) (ctx : List Label) : Type 0 where
  pub label : Label
  pub others : List Label
  pub is : ctx ≡ label ∷ others
  pub at : IsLabelAt b.0 x label
  pub chain : IsChain nest x.around others

innermost_of : (nest : List Spot) (b : Pos) (x : Spot) (ctx : List Label) → slice_get nest b.0 ≡ Some x → IsChain nest (Some b) ctx → Innermost nest b x ctx
innermost_of nest b x [] e chain = absurd chain
innermost_of nest b x (L ∷ ctx) e (y, (is, (label, rest))) =
    let same : y ≡ x = cc (sym is ∙ e) in
    record { label = L; others = ctx; is = refl; at = subst (λ z. IsLabelAt b.0 z L) same label; chain = subst (λ (z : Spot). IsChain nest z.around ctx) same rest }

pub innermost : (nest : List Spot) (o : Option Pos) (b : Pos) (x : Spot) (ctx : List Label) → o ≡ Some b → slice_get nest b.0 ≡ Some x → IsChain nest o ctx → Innermost nest b x ctx
innermost nest o b x ctx e at chain = innermost_of nest b x ctx at (subst (λ z. IsChain nest z ctx) e chain)

decides_here : (nest : List Spot) (after : ℕ) (L : Label) (ctx : List Label) (l : ℕ) (n : Node) → IsOfLabel nest L n → Decides nest after (L ∷ ctx) l n
decides_here nest after L ctx zero n h = inl h
decides_here nest after L ctx (suc l) n h = inl h

pub here_decides : (nest : List Spot) (after : ℕ) (b : Pos) (x : Spot) (ctx : List Label) (l : ℕ) (n : Node) (r : Bool) → Innermost nest b x ctx → r ≡ true
    → ((L : Label) → IsLabelAt b.0 x L → IsTrue r ↔ IsOfLabel nest L n) → IsTrue true ↔ Decides nest after ctx l n
here_decides nest after b x ctx l n r i on told =
    ((λ h. subst (λ z. Decides nest after z l n) (sym i.is) (decides_here nest after i.label i.others l n ((told i.label i.at).0 on))), (λ d. refl))

pub last_decides : (nest : List Spot) (after : ℕ) (b : Pos) (x : Spot) (ctx : List Label) (l : ℕ) (n : Node) (r q : Bool) → Innermost nest b x ctx → r ≡ false
    → ((L : Label) → IsLabelAt b.0 x L → IsTrue r ↔ IsOfLabel nest L n) → l ≡ 0 → IsTrue q ↔ StandsWithin nest after x.stop n → IsTrue q ↔ Decides nest after ctx l n
last_decides nest after b x ctx l n r q i off told zero_is both =
    let there : ctx ≡ i.label ∷ i.others = i.is in (
      (λ h. subst (λ z. Decides nest after z l n) (sym there) (subst (λ z. Decides nest after (i.label ∷ i.others) z n) (sym zero_is) (inr (subst (λ z. StandsWithin nest after z n) (sym i.at.stop) (both.0 h))))),
      (λ d. ⊎_elim
          (λ o. absurd (true≢false (sym ((told i.label i.at).1 o) ∙ off)))
          (λ h. both.1 (subst (λ z. StandsWithin nest after z n) i.at.stop h))
          (subst (λ z. Decides nest after (i.label ∷ i.others) z n) zero_is (subst (λ z. Decides nest after z l n) there d))),
    )

pub outer_decides : (nest : List Spot) (after : ℕ) (b : Pos) (x : Spot) (ctx : List Label) (l k : ℕ) (n : Node) (r q : Bool) → Innermost nest b x ctx → r ≡ false
    → ((L : Label) → IsLabelAt b.0 x L → IsTrue r ↔ IsOfLabel nest L n) → l ≡ suc k → l < length ctx
    → ((ls : List Label) → IsChain nest x.around ls → k < length ls → IsTrue q ↔ Decides nest after ls k n) → IsTrue q ↔ Decides nest after ctx l n
outer_decides nest after b x ctx l k n r q i off told suc_is lt both =
    let there : ctx ≡ i.label ∷ i.others = i.is in
    let within : k < length i.others = omega (arith, suc_is, lt, ap length there) in
    let exact = both i.others i.chain within in (
      (λ h. subst (λ z. Decides nest after z l n) (sym there) (subst (λ z. Decides nest after (i.label ∷ i.others) z n) (sym suc_is) (inr (exact.0 h)))),
      (λ d. ⊎_elim
          (λ o. absurd (true≢false (sym ((told i.label i.at).1 o) ∙ off)))
          (λ h. exact.1 h)
          (subst (λ z. Decides nest after (i.label ∷ i.others) z n) suc_is (subst (λ z. Decides nest after z l n) there d))),
    )

-- ---- forms

pub other_form : (f : Form) → (f ≡ form.If → ⊥) → ((m : ℕ) → f ≡ form.Branch m → ⊥) → is_branch f ≡ false
other_form form.Other a b = refl
other_form form.Block a b = refl
other_form form.Loop a b = refl
other_form form.If a b = refl
other_form (form.Branch m) a b = absurd (b m refl)

pub not_off : (b : Bool) → not b ≡ false → b ≡ true
not_off true e = refl
not_off false e = absurd (true≢false e)

pub not_on : (b : Bool) → not b ≡ true → b ≡ false
not_on true e = absurd (true≢false (sym e))
not_on false e = refl
