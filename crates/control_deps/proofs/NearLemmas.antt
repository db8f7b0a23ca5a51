-- All deciders of a node are found from its nearest ones.
use Rattle.std.proofs.Common.{◌≡◌, ◌≢◌, ℕ, zero, suc, ◌+◌, ◌≤◌, ◌<◌, Bool, true, false, true≢false, if◌then◌else◌, List, [], ◌∷◌, Option, Some}
use Rattle.std.proofs.Common.{inl, inr, ⊎_elim, None, IfSome, length, refl, sym, ap, ◌∙◌, subst, arith}
use Rattle.std.specs.List.{AllZip, slice_get}
use Rattle.std.proofs.lemmas.Bool.{cases_eq, cases_lt}
use Rattle.std.proofs.lemmas.Option.{none-some, same_Some, slice_get_within}
use Rattle.std.proofs.lemmas.List.{get_or_past}
use Rattle.wasm_types.specs.declared.module.Body.{Body}
use Rattle.wasm_types.specs.declared.module.Pos.{Pos}
use Rattle.wasm_types.specs.declared.place.Node.{Node}
use Rattle.wasm_types.specs.declared.place.Node.TheVariants as node
use Rattle.wasm_types.specs.Code.{Code, code_of}
use Rattle.wasm_types.specs.Marked.{marked}
use Rattle.wasm_types.specs.Nodes.{At, Join}
use Rattle.wasm_types.specs.Labels.{Label, join_of, loop_of, start_of, stop_of}
use Rattle.wasm_types.specs.Shadow.{Inside, at_position, at_join, InShadow, arms, if_join, later, around, looping}
use Rattle.wasm_types.specs.Sites.{Branches, Site, Sites, IsSite, body_sites}
use Rattle.control_deps.specs.declared.deciders.Nearest.{Nearest}
use Rattle.control_deps.specs.declared.deciders.Row.{Row}
use Rattle.control_deps.specs.declared.spot.Form.{Form}
use Rattle.control_deps.specs.declared.spot.Form.TheVariants as form
use Rattle.control_deps.specs.declared.spot.Spot.{Spot}
use Rattle.control_deps.specs.Chain.{is_loop, live_at, IsChain}
use Rattle.control_deps.specs.Leaving.{number, Passes, here, outward, Leaves, IsLast, exit_of, AreExits, loops_at, loop_around, row_of, AreRows}
use Rattle.control_deps.specs.Nearest.{earlier, latest, own_join, Finds, itself, onward, AreNearestAt, AreNearest, Table, latest_in, nearest_of_row}
use Rattle.control_deps.specs.Nearest.{nearest_in, IsNearest, IsIf, FoundFrom}
use Rattle.control_deps.specs.Nest.{IsNestOf}
use Rattle.control_deps.proofs.FitLemmas.{IsFit, fits_at, site_spot, form_of_head, within_inside}
use Rattle.control_deps.proofs.ShadowLemmas.{furthest, is_branch, branch_form, stops_rise, live_has, spot_fits, fit_of}
use Rattle.control_deps.proofs.EncloseLemmas.{spot_at, around_spot, inner_around}
use Rattle.control_deps.proofs.FindLemmas.{Steps, finds_on, steps_on, live_around, go_around, climb_steps}
use Rattle.control_deps.proofs.LeaveLemmas.{number_once}

-- ---- what is found by a nearest decider at the end

abbrev ByNearest : Code → (Node → Nearest) → Node → ℕ → Type 0
ByNearest c near n p = (k : Node) × (Finds c near n k × IsNearest (near k) p)

nearest_find : (c : Code) (near : Node → Nearest) (n : Node) (p : ℕ) → ByNearest c near n p → Finds c near n (At p)
nearest_find c near n p (k, (f, inl e)) = onward k f (earlier (record { 0 = p }) e)
nearest_find c near n p (k, (f, inr e)) = onward k f (latest (record { 0 = p }) e)

nearest_on : (c : Code) (near : Node → Nearest) (n m : Node) (p : ℕ) → Finds c near n m → ByNearest c near m p → ByNearest c near n p
nearest_on c near n m p f (k, (g, e)) = (k, (finds_on c near n m k f g, e))

-- ---- labels

-- the end of the body, and the join of a block, loop or if
abbrev pub node_of : Option Pos → Node
node_of None = node.Exit
node_of (Some b) = Join b.0

-- where the body ends, and the contents of a block, loop or if
abbrev pub EndsAt : List Spot → Option Pos → ℕ → Type 0
EndsAt nest None e = e ≡ length nest
EndsAt nest (Some b) e = (y : Spot) × ((slice_get nest b.0 ≡ Some y) × (e ≡ y.stop))

-- a label of this number is that of the body, or of the block, loop or if at a position
abbrev pub IsLabelOf : List Spot → List Label → ℕ → Option Pos → Type 0
IsLabelOf nest ctx j None = (join_of ctx j ≡ node.Exit) × ((loop_of ctx j ≡ false) × (stop_of ctx j ≡ length nest))
IsLabelOf nest ctx j (Some b) =
    (y : Spot) × ((slice_get nest b.0 ≡ Some y) × ((join_of ctx j ≡ Join b.0) ×
    ((loop_of ctx j ≡ is_loop y.form) × ((start_of ctx j ≡ b.0 + 1) × (stop_of ctx j ≡ y.stop)))))

pub label_join : (nest : List Spot) (ctx : List Label) (j : ℕ) (one : Option Pos) → IsLabelOf nest ctx j one → join_of ctx j ≡ node_of one
label_join nest ctx j None h = h.0
label_join nest ctx j (Some b) h = h.1.1.0

pub label_end : (nest : List Spot) (ctx : List Label) (j : ℕ) (one : Option Pos) → IsLabelOf nest ctx j one → EndsAt nest one (stop_of ctx j)
label_end nest ctx j None h = h.1.1
label_end nest ctx j (Some b) h = (h.0, (h.1.0, h.1.1.1.1.1))

label_within : (nest : List Spot) (ctx : List Label) (j : ℕ) (one : Option Pos) → IsLabelOf nest ctx j one → IfSome one (λ (b : Pos). b.0 < length nest)
label_within nest ctx j None h = tt
label_within nest ctx j (Some b) h = slice_get_within nest b.0 h.0 h.1.0

pub label_more : (nest : List Spot) (L : Label) (ctx : List Label) (j : ℕ) (one : Option Pos) → IsLabelOf nest ctx j one → IsLabelOf nest (L ∷ ctx) (suc j) one
label_more nest L ctx j None h = h
label_more nest L ctx j (Some b) h = h

pub first_label : (nest : List Spot) (first : Option Pos) (ctx : List Label) → IsChain nest first ctx → IsLabelOf nest ctx 0 first
first_label nest first [] chain = absurd chain
first_label nest None (L ∷ []) chain = (chain.join, (chain.loop, chain.stop))
first_label nest None (L ∷ M ∷ ctx) chain = absurd chain
first_label nest (Some b) (L ∷ ctx) (y, (is, (l, rest))) = (y, (is, (l.join, (l.loop, (l.start, l.stop)))))

-- each label up to one that there is is that of what is passed on the way
label_passes : (nest : List Spot) (ctx : List Label) (first : Option Pos) (j m : ℕ) → IsChain nest first ctx → j ≤ m → m < length ctx
    → (one : Option Pos) × (Passes nest first m one × IsLabelOf nest ctx j one)
label_passes nest ctx first zero m chain le lt = (first, (here, first_label nest first ctx chain))
label_passes nest [] first (suc j) m chain le lt = absurd chain
label_passes nest (L ∷ ctx) first (suc j) zero chain le lt = absurd (omega arith)
label_passes nest (L ∷ []) None (suc j) (suc m) chain le lt = absurd (omega arith)
label_passes nest (L ∷ M ∷ ctx) None (suc j) (suc m) chain le lt = absurd chain
label_passes nest (L ∷ ctx) (Some b) (suc j) (suc m) (y, (is, (l, rest))) le lt =
    let h = label_passes nest ctx y.around j m rest (omega arith) (omega arith) in (h.0, (outward b y is h.1.0, label_more nest L ctx j h.0 h.1.1))

passes_label : (nest : List Spot) (ctx : List Label) (first one : Option Pos) (m : ℕ) → IsChain nest first ctx → m < length ctx → Passes nest first m one
    → (j : ℕ) × ((j ≤ m) × IsLabelOf nest ctx j one)
passes_label nest ctx first one m chain lt here = (0, (omega arith, first_label nest first ctx chain))
passes_label nest [] first other m chain lt (outward b spot at p) = absurd chain
passes_label nest (L ∷ ctx) first other m chain lt (outward {label} b spot at p) =
    let same : chain.0 ≡ spot = same_Some chain.0 spot (sym chain.1.0 ∙ at) in
    let h = passes_label nest ctx spot.around other label (subst (λ (z : Spot). IsChain nest z.around ctx) same chain.1.1.1) (omega (arith, lt)) p in
    (suc h.0, (omega (arith, h.1.0), label_more nest L ctx h.0 other h.1.1))

branch_of : (f : Form) → is_branch f ≡ true → (m : ℕ) × (f ≡ form.Branch m)
branch_of (form.Branch m) e = (m, refl)
branch_of form.Other e = absurd (true≢false (sym e))
branch_of form.Block e = absurd (true≢false (sym e))
branch_of form.Loop e = absurd (true≢false (sym e))
branch_of form.If e = absurd (true≢false (sym e))

last_is : (P : ℕ → Type 0) (k : ℕ) (o : Option Pos) (p : Pos) → o ≡ Some p → IsLast P k o → (p.0 < k) × P p.0
last_is P k o p e last = let h : IsLast P k (Some p) = subst (IsLast P k) e last in (h.0, h.1.0)

-- what has the property is not behind the last one
record Later (P : ℕ → Type 0) (k : ℕ) (o : Option Pos) (p : ℕ) : Type 0 where
  last : Pos
  is : o ≡ Some last
  below : last.0 < k
  has : P last.0
  most : p ≤ last.0

last_some : (P : ℕ → Type 0) (k : ℕ) (o : Option Pos) (p : ℕ) → IsLast P k o → p < k → P p → Later P k o p
last_some P k None p last lt h = absurd (last p lt h)
last_some P k (Some b) p last lt h = record { last = b; is = refl; below = last.0; has = last.1.0; most = last.1.1 p lt h }

pub row_live : (nest : List Spot) (exits : List (Option Pos)) (x : Spot) → x.live ≡ true
    → ((row_of nest exits x).earlier ≡ exit_of exits x.around) × ((row_of nest exits x).inside ≡ loop_around nest x.around)
row_live nest exits x live = rw live (refl, refl)

row_dead : (nest : List Spot) (exits : List (Option Pos)) (x : Spot) → x.live ≡ false
    → ((row_of nest exits x).earlier ≡ None) × ((row_of nest exits x).inside ≡ None)
row_dead nest exits x dead = rw dead (refl, refl)

-- ---- where branches lead

module _ (body : Body) (nest : List Spot) (is : IsNestOf body nest) where
  around_within : (q : ℕ) (x : Spot) → slice_get nest q ≡ Some x → IfSome x.around (λ (b : Pos). b.0 < length nest)
  around_within q x at = go x.around refl
    where
      go : (o : Option Pos) → x.around ≡ o → IfSome o (λ (b : Pos). b.0 < length nest)
      go None e = tt
      go (Some b) e = let a = around_spot body nest is q x b at e in slice_get_within nest b.0 a.spot a.at

  pub passes_before : (q : ℕ) (x : Spot) (first one : Option Pos) (m : ℕ) (b : Pos) → slice_get nest q ≡ Some x → Passes nest first m one → first ≡ x.around
      → one ≡ Some b → b.0 < q
  passes_before q x first one m b at here e some = (around_spot body nest is q x b at (sym e ∙ some)).before
  passes_before q x first one m b at (outward {label} c y at_c p) e some =
      let inner = passes_before c.0 y y.around one label b at_c p refl some in
      let outside = (around_spot body nest is q x c at (sym e)).before in omega (arith, inner, outside)

  -- on the way outwards nothing that is around is left out
  narrow : (q : ℕ) (x : Spot) (first one : Option Pos) (m : ℕ) (b : Pos) (y : Spot) → slice_get nest q ≡ Some x → first ≡ x.around
      → slice_get nest b.0 ≡ Some y
      → b.0 < q → q < y.stop → number one ≤ b.0 + 1 → Passes nest first m one → Passes nest first m (Some b)
  narrow q x first one m b y at e at_b lo hi le here =
      let a = inner_around body nest is b.0 y q x at_b lo hi at in
      let around_is : first ≡ Some a.0 = e ∙ a.1.0 in
      let numbers : number first ≡ a.0.0 + 1 = ap number around_is in
      let same : first ≡ Some b = number_once first (Some b) (omega (arith, numbers, a.1.1, le)) in
      subst (λ z. Passes nest first m z) same here
  narrow q x first one m b y at e at_b lo hi le (outward {label} c z at_c p) =
      let a = inner_around body nest is b.0 y q x at_b lo hi at in
      let same : c ≡ a.0 = same_Some c a.0 (e ∙ a.1.0) in
      let low : b.0 ≤ c.0 = omega (arith, a.1.1, ap (λ (k : Pos). k.0) same) in
      let outer : c.0 < q = (around_spot body nest is q x c at (sym e)).before in
      ⊎_elim
      (λ (eq : b.0 ≡ c.0). subst (λ k. Passes nest (Some c) (suc label) k) (number_once (Some c) (Some b) (omega (arith, eq))) here)
      (λ (ne : b.0 ≢ c.0). outward c z at_c (narrow c.0 z z.around one label b y at_c refl at_b (omega (arith, low, ne)) (omega (arith, outer, hi)) le p))
      (cases_eq b.0 c.0)

  module _ (S : Sites) (fit : AllZip (IsFit nest) nest S) where
    -- a branch that leaves one, by its site
    record Left (one : Option Pos) (p : ℕ) : Type 0 where
      site : Site
      at : IsSite S p site
      label : ℕ
      branches : Branches site.head label
      number : ℕ
      low : number ≤ label
      of : IsLabelOf nest site.around number one
      further : stop_of site.around number ≤ stop_of site.around label
      inside : p < stop_of site.around number

    left : (one : Option Pos) (p : ℕ) → Leaves nest one p → Left one p
    left one p l =
        let s = live_has nest S fit p node.Exit l.spot l.at l.live in
        let f = spot_fits nest S fit p node.Exit l.spot s.0 l.at s.1 in
        let far = furthest s.0.head l.label (sym f.form ∙ l.branches) in
        let there = f.exist l.label far.0 in
        let j = passes_label nest s.0.around l.spot.around one l.label f.chain there l.passes in
        let first_rise = stops_rise s.0.around 0 0 j.0 f.rises (omega arith) (omega (arith, there, j.1.0)) in
        let rise = stops_rise s.0.around 0 j.0 l.label f.rises j.1.0 there in
        let first : p < stop_of s.0.around 0 = innermost p l.spot s.0.around l.spot.around l.at refl (first_label nest l.spot.around s.0.around f.chain) in
        record {
          site = s.0;
          at = s.1;
          label = l.label;
          branches = far.0;
          number = j.0;
          low = j.1.0;
          of = j.1.1;
          further = rise.1;
          inside = omega (arith, first, first_rise.1);
        }
      where
        innermost : (p : ℕ) (x : Spot) (ctx : List Label) (first : Option Pos) → slice_get nest p ≡ Some x → x.around ≡ first → IsLabelOf nest ctx 0 first
            → p < stop_of ctx 0
        innermost p x ctx None at e h = let lt = slice_get_within nest p x at in omega (arith, lt, h.1.1)
        innermost p x ctx (Some b) at e h =
            let a = around_spot body nest is p x b at e in
            let same : a.spot ≡ h.0 = same_Some a.spot h.0 (sym a.at ∙ h.1.0) in
            omega (arith, a.past, ap (λ (z : Spot). z.stop) same, h.1.1.1.1.1)

    ends : (one : Option Pos) (p : ℕ) → Leaves nest one p → (e : ℕ) × (EndsAt nest one e × (p < e))
    ends one p l = let h = left one p l in (stop_of h.site.around h.number, (label_end nest h.site.around h.number one h.of, h.inside))

    -- what begins before a branch and ends behind a position behind it is around what is directly around that position, or is that
    outer : (one : Option Pos) (p q e : ℕ) (x : Spot) → Leaves nest one p → EndsAt nest one e → p < q → q < e → slice_get nest q ≡ Some x
        → number one ≤ number x.around
    outer None p q e x l end lo hi at = omega arith
    outer (Some b) p q e x l (y, (at_b, stop)) lo hi at =
        let before = passes_before p l.spot l.spot.around (Some b) l.label b l.at l.passes refl refl in
        let a = inner_around body nest is b.0 y q x at_b (omega (arith, before, lo)) (omega (arith, hi, stop)) at in
        let numbers : number x.around ≡ a.0.0 + 1 = ap number a.1.0 in
        omega (arith, numbers, a.1.1)

    -- so it leaves that too
    leaves_none : (one : Option Pos) (p q e : ℕ) (x : Spot) → Leaves nest one p → EndsAt nest one e → p < q → q < e → slice_get nest q ≡ Some x
        → x.around ≡ None → Leaves nest x.around p
    leaves_none one p q e x l end lo hi at none =
        let le = outer one p q e x l end lo hi at in
        let zero_is : number x.around ≡ 0 = ap number none in
        let same : one ≡ x.around = number_once one x.around (omega (arith, le, zero_is)) in
        subst (λ z. Leaves nest z p) same l

    leaves_some : (one : Option Pos) (p q e : ℕ) (x : Spot) (b : Pos) → Leaves nest one p → EndsAt nest one e → p < q → q < e → slice_get nest q ≡ Some x
        → x.around ≡ Some b
        → b.0 < p → Leaves nest x.around p
    leaves_some one p q e x b l end lo hi at some before =
        let le = outer one p q e x l end lo hi at in
        let numbers : number x.around ≡ b.0 + 1 = ap number some in
        let a = around_spot body nest is q x b at some in
        let past : p < a.spot.stop = omega (arith, a.past, lo) in
        let p' = narrow p l.spot l.spot.around one l.label b a.spot l.at refl a.at before past (omega (arith, le, numbers)) l.passes in
        subst (λ z. Leaves nest z p) (sym some) (record { spot = l.spot; label = l.label; at = l.at; live = l.live; branches = l.branches; passes = p' })

    -- ---- each has the node in its shadow

    join_shadow : (one : Option Pos) (p : ℕ) → Leaves nest one p → InShadow S p (node_of one)
    join_shadow one p l = let h = left one p l in subst (InShadow S p) (label_join nest h.site.around h.number one h.of)
        (around h.label h.number h.site h.at h.branches h.low)

    earlier_shadow : (q p : ℕ) (x : Spot) → slice_get nest q ≡ Some x → x.live ≡ true → Leaves nest x.around p → p < q → InShadow S p (At q)
    earlier_shadow q p x at live l lo =
        let h = left x.around p l in
        let hi : q < stop_of h.site.around h.label = below x.around refl h in
        later h.label h.site h.at h.branches (within_inside nest S fit (p + 1) (stop_of h.site.around h.label) (At q)
        (ap live_at at ∙ live, (omega (arith, lo), hi)))
      where
        below : (one : Option Pos) → x.around ≡ one → (h : Left one p) → q < stop_of h.site.around h.label
        below None e h = let lt = slice_get_within nest q x at in omega (arith, lt, h.of.1.1, h.further)
        below (Some b) e h =
            let a = around_spot body nest is q x b at e in
            let same : a.spot ≡ h.of.0 = same_Some a.spot h.of.0 (sym a.at ∙ h.of.1.0) in
            omega (arith, a.past, ap (λ (z : Spot). z.stop) same, h.of.1.1.1.1.1, h.further)

    loop_shadow : (q p : ℕ) (x : Spot) (b : Pos) (y : Spot) → slice_get nest q ≡ Some x → x.live ≡ true → x.around ≡ Some b → slice_get nest b.0 ≡ Some y
        → is_loop y.form ≡ true
        → Leaves nest (Some b) p → InShadow S p (At q)
    loop_shadow q p x b y at live some at_b loop l =
        let h = left (Some b) p l in
        let a = around_spot body nest is q x b at some in
        let same : h.of.0 ≡ y = same_Some h.of.0 y (sym h.of.1.0 ∙ at_b) in
        let looped : loop_of h.site.around h.number ≡ true = h.of.1.1.1.0 ∙ ap (λ (z : Spot). is_loop z.form) same ∙ loop in
        let same' : a.spot ≡ h.of.0 = same_Some a.spot h.of.0 (sym a.at ∙ h.of.1.0) in
        let lo : start_of h.site.around h.number ≤ q = omega (arith, h.of.1.1.1.1.0, a.before) in
        let hi : q < stop_of h.site.around h.number = omega (arith, a.past, ap (λ (z : Spot). z.stop) same', h.of.1.1.1.1.1) in
        looping h.label h.number h.site h.at h.branches h.low looped
        (within_inside nest S fit (start_of h.site.around h.number) (stop_of h.site.around h.number) (At q) (ap live_at at ∙ live, (lo, hi)))

    -- what a branch leaves, by a label
    pub record LeftBy (p j : ℕ) (s : Site) : Type 0 where
      pub one : Option Pos
      pub leaves : Leaves nest one p
      pub of : IsLabelOf nest s.around j one

    pub left_by : (p l j : ℕ) (s : Site) → IsSite S p s → Branches s.head l → j ≤ l → LeftBy p j s
    left_by p l j s there br le =
        let x = site_spot nest (slice_get nest p) (slice_get S p) s (fits_at nest nest S p fit) there in
        let m = branch_of (form_of_head s.head) (branch_form s.head l br) in
        let far = furthest s.head m.0 m.1 in
        let more = far.1 l br in
        let h = label_passes nest s.around x.0.around j m.0 x.1.1.chain (omega (arith, le, more)) (x.1.1.exist m.0 far.0) in
        record {
          one = h.0;
          leaves = record { spot = x.0; label = m.0; at = x.1.0; live = x.1.1.live; branches = x.1.1.form ∙ m.1; passes = h.1.0 };
          of =
              h.1.1;
        }

    -- ---- what a table tells

    module _ (rows : List Row) (exits : List (Option Pos)) (has_rows : AreRows nest (length nest) rows) (has_exits : AreExits nest (length nest) exits) where
      abbrev table : Table
      table = record { rows = rows; exits = exits }

      abbrev near : Node → Nearest
      near = nearest_in table

      abbrev code : Code
      code = code_of body.code

      -- the row of a position
      row_at : (q : ℕ) (x : Spot) → slice_get nest q ≡ Some x
          → (before : List (Option Pos)) × (AreExits nest q before × (slice_get rows q ≡ Some (row_of nest before x)))
      row_at q x at = has_rows.is q x (slice_get_within nest q x at) at

      -- the last branch before a live position that leaves what is directly around it
      earlier_is : (q p : ℕ) (x : Spot) → slice_get nest q ≡ Some x → x.live ≡ true → Leaves nest x.around p → p < q
          → Later (Leaves nest x.around) q (near (At q)).earlier p
      earlier_is q p x at live l lt =
          let r = row_at q x at in
          let told : (near (At q)).earlier ≡ exit_of r.0 x.around = ap (λ (z : Option Row). (nearest_of_row exits z).earlier) r.1.1
          ∙ (row_live nest r.0 x live).0 in
          last_some (Leaves nest x.around) q (near (At q)).earlier p (subst (IsLast (Leaves nest x.around) q) (sym told)
          (r.1.0.is x.around (around_within q x at))) lt l

      loop_is : (b : Pos) (y : Spot) (first : Option Pos) → first ≡ Some b → slice_get nest b.0 ≡ Some y → is_loop y.form ≡ true
          → loop_around nest first ≡ Some b
      loop_is b y first some at_b loop =
          let looped : loops_at (slice_get nest b.0) ≡ true = ap loops_at at_b ∙ loop in
          ap (loop_around nest) some ∙ ap (λ (z : Bool). if z then Some b else None) looped

      -- of a live position directly in a loop, the last branch that leaves the loop
      latest_is : (q : ℕ) (x : Spot) (b : Pos) (y : Spot) → slice_get nest q ≡ Some x → x.live ≡ true → x.around ≡ Some b → slice_get nest b.0 ≡ Some y
          → is_loop y.form ≡ true
          → (near (At q)).latest ≡ exit_of exits (Some b)
      latest_is q x b y at live some at_b loop =
          let r = row_at q x at in
          ap (λ (z : Option Row). (nearest_of_row exits z).latest) r.1.1
          ∙ ap (latest_in exits) ((row_live nest r.0 x live).1 ∙ loop_is b y x.around some at_b loop)

      -- each branch before a position below f that leaves what goes on behind it is found
      abbrev Backs : ℕ → Type 0
      Backs f =
          (p q e : ℕ) (one : Option Pos) (x : Spot) → q < f → Leaves nest one p → EndsAt nest one e → p < q → q < e → slice_get nest q ≡ Some x → x.live ≡
          true → ByNearest code near (At q) p

      back_more : (f : ℕ) → Backs f → Backs (suc f)
      back_more f before p q e one x lt l end lo hi at live = go x.around refl
        where
          found : Leaves nest x.around p → ByNearest code near (At q) p
          found k =
              let h = earlier_is q p x at live k lo in
              let step : ByNearest code near (At q) h.last.0 = (At q, (itself, inl h.is)) in
              ⊎_elim
              (λ (eq : p ≡ h.last.0). subst (λ z. ByNearest code near (At q) z) (sym eq) step)
              (λ (ne : p ≢ h.last.0). nearest_on code near (At q) (At h.last.0) p (nearest_find code near (At q) h.last.0 step)
              (before p h.last.0 e one h.has.spot (omega (arith, lt, h.below)) l end (omega (arith, h.most, ne)) (omega (arith, h.below, hi)) h.has.at
              h.has.live))
              (cases_eq p h.last.0)

          go : (o : Option Pos) → x.around ≡ o → ByNearest code near (At q) p
          go None none = found (leaves_none one p q e x l end lo hi at none)
          go (Some b) some =
              let a = around_spot body nest is q x b at some in
              ⊎_elim
              (λ (inside : b.0 < p). found (leaves_some one p q e x b l end lo hi at some inside))
              (λ (le : p ≤ b.0). ⊎_elim
              (λ (eq : p ≡ b.0).
              let same : l.spot ≡ a.spot = same_Some l.spot a.spot (sym l.at ∙ ap (slice_get nest) eq ∙ a.at) in
              absurd (a.holds (ap (λ (z : Spot). is_branch z.form) (sym same) ∙ ap is_branch l.branches)))
              (λ (ne : p ≢ b.0). nearest_on code near (At q) (At b.0) p (go_around body nest is near q x b at some)
              (before p b.0 e one a.spot (omega (arith, lt, a.before)) l end (omega (arith, le, ne)) (omega (arith, a.before, hi)) a.at
              (live_around body nest is q x b a.spot at live some a.at)))
              (cases_eq p b.0))
              (cases_lt b.0 p)

      back : (f : ℕ) → Backs f
      back zero = λ p q e one x lt l end lo hi at live. absurd (omega (arith, lt))
      back (suc f) = back_more f (back f)

      -- each branch that leaves one is found from where the last is told
      from_last : (n : Node) (one : Option Pos) (p : ℕ) → Leaves nest one p → IfSome one (λ (b : Pos). b.0 < length nest) → (near n).latest ≡ exit_of exits one
          → ByNearest code near n p
      from_last n one p l within told =
          let h = last_some (Leaves nest one) (length nest) (exit_of exits one) p (has_exits.is one within) (slice_get_within nest p l.spot l.at) l in
          let step : ByNearest code near n h.last.0 = (n, (itself, inr (told ∙ h.is))) in
          let end = ends one h.last.0 h.has in
          ⊎_elim
          (λ (eq : p ≡ h.last.0). subst (λ z. ByNearest code near n z) (sym eq) step)
          (λ (ne : p ≢ h.last.0). nearest_on code near n (At h.last.0) p (nearest_find code near n h.last.0 step)
          (back (suc h.last.0) p h.last.0 end.0 one h.has.spot (omega arith) l end.1.0 (omega (arith, h.most, ne)) end.1.1 h.has.at h.has.live))
          (cases_eq p h.last.0)

      -- each branch that leaves a loop is found from what is in the loop
      in_loop : (f p q : ℕ) (b : Pos) (y x : Spot) → q < f → slice_get nest b.0 ≡ Some y → is_loop y.form ≡ true → Leaves nest (Some b) p → b.0 < q
          → q < y.stop
          → slice_get nest q ≡ Some x → x.live ≡ true → ByNearest code near (At q) p
      in_loop zero p q b y x lt at_b loop l lo hi at live = absurd (omega arith)
      in_loop (suc f) p q b y x lt at_b loop l lo hi at live =
          let a = inner_around body nest is b.0 y q x at_b lo hi at in
          let c = around_spot body nest is q x a.0 at a.1.0 in
          ⊎_elim
          (λ (eq : b.0 ≡ a.0.0).
          let same : a.0 ≡ b = same_Some a.0 b (number_once (Some a.0) (Some b) (omega (arith, eq))) in
          from_last (At q) (Some b) p l (slice_get_within nest b.0 y at_b) (latest_is q x b y at live (a.1.0 ∙ ap (λ (z : Pos). Some z) same) at_b loop))
          (λ (ne : b.0 ≢ a.0.0). nearest_on code near (At q) (At a.0.0) p (go_around body nest is near q x a.0 at a.1.0)
          (in_loop f p a.0.0 b y c.spot (omega (arith, lt, c.before)) at_b loop l (omega (arith, a.1.1, ne)) (omega (arith, c.before, hi)) c.at
          (live_around body nest is q x a.0 c.spot at live a.1.0 c.at)))
          (cases_eq b.0 a.0.0)

      -- ---- whatever has a node in its shadow is found

      -- the position of a node inside
      record Stands (a b : ℕ) (n : Node) : Type 0 where
        pos : ℕ
        spot : Spot
        at : slice_get nest pos ≡ Some spot
        live : spot.live ≡ true
        low : a ≤ pos
        high : pos < b
        finds : Finds code near n (At pos)

      stands : (a b : ℕ) (n : Node) → Inside S a b n → Stands a b n
      stands a b n (at_position {q} t there le lt) =
          let x = site_spot nest (slice_get nest q) (slice_get S q) t (fits_at nest nest S q fit) there in
          record { pos = q; spot = x.0; at = x.1.0; live = x.1.1.live; low = le; high = lt; finds = itself }
      stands a b n (at_join {q} t there j le lt) =
          let x = site_spot nest (slice_get nest q) (slice_get S q) t (fits_at nest nest S q fit) there in
          record { pos = q; spot = x.0; at = x.1.0; live = x.1.1.live; low = le; high = lt; finds = onward (Join q) itself own_join }

      latest_of : (one : Option Pos) → (near (node_of one)).latest ≡ exit_of exits one
      latest_of None = refl
      latest_of (Some b) = refl

      -- by a nearest decider at the end
      by_nearest : (n : Node) (p : ℕ) → ByNearest code near n p → FoundFrom S code near n p
      by_nearest n p (k, (f, e)) = record { last = k; finds = f; step = inl e }

      -- from what an if holds
      by_if : (n : Node) (p : ℕ) → IsIf S p → Steps code near n (At p) → FoundFrom S code near n p
      by_if n p is (k, (f, on)) = record { last = k; finds = f; step = inr (on, is) }

      found : (p : ℕ) (n : Node) → InShadow S p n → FoundFrom S code near n p
      found p n (arms kind s there h i) =
          let x = site_spot nest (slice_get nest p) (slice_get S p) s (fits_at nest nest S p fit) there in
          let t = stands (p + 1) s.stop n i in
          by_if n p (kind, (s, (there, h))) (steps_on code near n (At t.pos) (At p) t.finds (climb_steps body nest is near (suc t.pos) p t.pos x.0 t.spot
          (omega arith) x.1.0 (omega (arith, t.low)) (omega (arith, t.high, x.1.1.stop)) t.at))
      found p n (if_join kind s there h) = by_if n p (kind, (s, (there, h))) (Join p, (itself, own_join))
      found p n (later l s there br i) =
          let k = left_by p l l s there br (omega arith) in
          let t = stands (p + 1) (stop_of s.around l) n i in
          by_nearest n p (nearest_on code near n (At t.pos) p t.finds
          (back (suc t.pos) p t.pos (stop_of s.around l) k.one t.spot (omega arith) k.leaves (label_end nest s.around l k.one k.of) (omega (arith, t.low))
          t.high t.at t.live))
      found p n (around l j s there br le) =
          let k = left_by p l j s there br le in
          by_nearest n p (subst (λ z. ByNearest code near z p) (sym (label_join nest s.around j k.one k.of))
          (from_last (node_of k.one) k.one p k.leaves (label_within nest s.around j k.one k.of) (latest_of k.one)))
      found p n (looping l j s there br le lp i) =
          let k = left_by p l j s there br le in
          let t = stands (start_of s.around j) (stop_of s.around j) n i in
          by_nearest n p (nearest_on code near n (At t.pos) p t.finds (go k.one k.leaves k.of t.pos t.spot t.at t.live t.low t.high))
        where
          go : (one : Option Pos) → Leaves nest one p → IsLabelOf nest s.around j one → (q : ℕ) (x : Spot) → slice_get nest q ≡ Some x → x.live ≡ true
              → start_of s.around j ≤ q → q < stop_of s.around j
              → ByNearest code near (At q) p
          go None leaves of q x at live lo hi = absurd (true≢false (sym lp ∙ of.1.0))
          go (Some b) leaves of q x at live lo hi =
              in_loop (suc q) p q b of.0 x (omega arith) of.1.0 (sym of.1.1.1.0 ∙ lp) leaves (omega (arith, lo, of.1.1.1.1.0))
              (omega (arith, hi, of.1.1.1.1.1)) at live

      found_finds : (n : Node) (p : ℕ) → FoundFrom S code near n p → Finds code near n (At p)
      found_finds n p f = ⊎_elim
          (λ near'. ⊎_elim (λ e. onward f.last f.finds (earlier (record { 0 = p }) e)) (λ e. onward f.last f.finds (latest (record { 0 = p }) e)) near')
          (λ (on, arm). onward f.last f.finds on)
          f.step

      -- ---- each nearest decider has the node in its shadow

      end_shadow : (one : Option Pos) (p : Pos) → IfSome one (λ (b : Pos). b.0 < length nest) → exit_of exits one ≡ Some p → InShadow S p.0 (node_of one)
      end_shadow one p within told = join_shadow one p.0 (last_is (Leaves nest one) (length nest) (exit_of exits one) p told (has_exits.is one within)).1

      -- a join that is none has nothing written down
      join_within : (b p : Pos) → exit_of exits (Some b) ≡ Some p → b.0 < length nest
      join_within b p told = ⊎_elim
          (λ lt. lt)
          (λ (ge : length nest ≤ b.0).
          let none : exit_of exits (Some b) ≡ None = get_or_past exits (b.0 + 1) None (omega (arith, ge, has_exits.long)) in absurd (cc))
          (cases_lt b.0 (length nest))

      position_earlier : (q p : Pos) (r : Option Row) → slice_get rows q.0 ≡ r → (nearest_of_row exits r).earlier ≡ Some p → InShadow S p.0 (node.At q)
      position_earlier q p None e told = absurd (cc)
      position_earlier q p (Some row) e told =
          let lt = slice_get_within rows q.0 row e in
          let x = spot_at nest q.0 (omega (arith, lt, has_rows.long)) in
          let r = row_at q.0 x.0 x.1 in
          let same : row ≡ row_of nest r.0 x.0 = same_Some row (row_of nest r.0 x.0) (sym e ∙ r.1.1) in
          go x.0 x.1 r.0 r.1.0 (ap (λ (z : Row). z.earlier) (sym same) ∙ told) x.0.live refl
        where
          go : (x : Spot) → slice_get nest q.0 ≡ Some x → (before : List (Option Pos)) → AreExits nest q.0 before → (row_of nest before x).earlier ≡ Some p
              → (b : Bool) → x.live ≡ b
              → InShadow S p.0 (node.At q)
          go x at before h told false off = absurd (none-some p (sym (row_dead nest before x off).0 ∙ told))
          go x at before h told true live =
              let last = last_is (Leaves nest x.around) q.0 (exit_of before x.around) p (sym (row_live nest before x live).0 ∙ told)
              (h.is x.around (around_within q.0 x at)) in
              earlier_shadow q.0 p.0 x at live last.1 last.0

      position_latest : (q p : Pos) (r : Option Row) → slice_get rows q.0 ≡ r → (nearest_of_row exits r).latest ≡ Some p → InShadow S p.0 (node.At q)
      position_latest q p None e told = absurd (cc)
      position_latest q p (Some row) e told =
          let lt = slice_get_within rows q.0 row e in
          let x = spot_at nest q.0 (omega (arith, lt, has_rows.long)) in
          let r = row_at q.0 x.0 x.1 in
          let same : row ≡ row_of nest r.0 x.0 = same_Some row (row_of nest r.0 x.0) (sym e ∙ r.1.1) in
          go x.0 x.1 r.0 (ap (λ (z : Row). latest_in exits z.inside) (sym same) ∙ told) x.0.live refl
        where
          looped : (x : Spot) → slice_get nest q.0 ≡ Some x → x.live ≡ true → (b : Pos) (y : Spot) → x.around ≡ Some b → slice_get nest b.0 ≡ Some y
              → (l : Bool) → is_loop y.form ≡ l
              → latest_in exits (if l then Some b else None) ≡ Some p → InShadow S p.0 (node.At q)
          looped x at live b y some at_b false off told = absurd (none-some p told)
          looped x at live b y some at_b true loop told =
              let last = last_is (Leaves nest (Some b)) (length nest) (exit_of exits (Some b)) p told
              (has_exits.is (Some b) (slice_get_within nest b.0 y at_b)) in
              loop_shadow q.0 p.0 x b y at live some at_b loop last.1

          inside : (x : Spot) → slice_get nest q.0 ≡ Some x → x.live ≡ true → (first : Option Pos) → x.around ≡ first
              → latest_in exits (loop_around nest first) ≡ Some p → InShadow S p.0 (node.At q)
          inside x at live None e told = absurd (none-some p told)
          inside x at live (Some b) e told =
              let a = around_spot body nest is q.0 x b at e in
              looped x at live b a.spot e a.at (is_loop a.spot.form) refl
              (ap (λ (z : Bool). latest_in exits (if z then Some b else None)) (ap loops_at (sym a.at)) ∙ told)

          go : (x : Spot) → slice_get nest q.0 ≡ Some x → (before : List (Option Pos)) → latest_in exits (row_of nest before x).inside ≡ Some p
              → (b : Bool) → x.live ≡ b
              → InShadow S p.0 (node.At q)
          go x at before told false off = absurd (none-some p (ap (latest_in exits) (sym (row_dead nest before x off).1) ∙ told))
          go x at before told true live = inside x at live x.around refl (ap (latest_in exits) (sym (row_live nest before x live).1) ∙ told)

      earlier_right : (n : Node) (p : Pos) → (near n).earlier ≡ Some p → InShadow S p.0 n
      earlier_right (node.At q) p told = position_earlier q p (slice_get rows q.0) refl told
      earlier_right (node.Join b) p told = absurd (none-some p told)
      earlier_right node.Exit p told = absurd (none-some p told)

      latest_right : (n : Node) (p : Pos) → (near n).latest ≡ Some p → InShadow S p.0 n
      latest_right (node.At q) p told = position_latest q p (slice_get rows q.0) refl told
      latest_right (node.Join b) p told = end_shadow (Some b) p (join_within b p told) told
      latest_right node.Exit p told = end_shadow None p tt told

      pub are_nearest : AreNearestAt S (code_of body.code) (nearest_in (record { rows = rows; exits = exits }))
      are_nearest = record { earlier = earlier_right; latest = latest_right; all = λ p n h. found_finds n p (found p n h); found = found }

-- ---- of each body

pub nearest_of : (nest : List Spot) (k : ℕ) (rows : List Row) (exits : List (Option Pos)) → k ≡ length nest → AreRows nest k rows → AreExits nest k exits
    → AreNearest nest (record { rows = rows; exits = exits })
nearest_of nest k rows exits whole has_rows has_exits body is cs t w =
    are_nearest body nest is (body_sites cs t (marked w 0 (code_of body.code))) (fit_of nest body cs t w is) rows exits
    (subst (λ z. AreRows nest z rows) whole has_rows)
    (subst (λ z. AreExits nest z exits) whole has_exits)
