-- What a list of roots gains.
use Rattle.std.proofs.Common.{◌≡◌, ℕ, ◌+◌, ◌<◌, ◌≤◌, List, [], ◌∷◌, ◌++◌, length, get_or, take, refl, sym, ap, ◌∙◌, subst, inl, inr, ◌⊎◌, ⊎_elim, arith}
use Rattle.std.specs.List.{Contains}
use Rattle.std.proofs.lemmas.List.{take_all, take_more}
use Rattle.std.proofs.lemmas.List.Elements.{Contains-push, Contains-push_cases, Contains-append_left}
use Rattle.std.proofs.lemmas.Bool.{cases_lt}
use Rattle.std.proofs.Common.{Bool, true, false, Some}
use Rattle.std.proofs.lemmas.Option.{slice_get-get_or, get_or_from_slice_get}
use Rattle.wasm_types.specs.declared.module.Pos.{Pos}
use Rattle.wasm_types.specs.declared.place.Node.{Node}
use Rattle.wasm_types.specs.Nodes.{At}
use Rattle.worklist.specs.declared.labels.Root.{Root}
use Rattle.func_flow.specs.declared.items.Item.{Item}
use Rattle.func_flow.specs.declared.numbering.Numbering.{Numbering}
use Rattle.func_flow.specs.Items.{item_number}
use Rattle.func_flow.specs.Next.{FromEach, FromBelow}
use Rattle.func_flow.specs.Roots.{Adds, Begins}

none_there : {A : Type 0} (x : A) → Contains [] x → ⊥
none_there x (k, lt, is) = omega arith

pub adds_none : (K : Numbering) (R : ℕ → Item → Type 0) (xs : List Root) → ((l : ℕ) (j : Item) → R l j → ⊥) → Adds (Begins K R) xs xs
adds_none K R xs none r = (λ h. inl h, λ h. ⊎_elim (λ o. o) (λ (j, (q, e)). absurd (none r.label j q)) h)

pub adds_one : (K : Numbering) (label node : ℕ) (i : Item) (xs : List Root) → node ≡ item_number K i
    → Adds (Begins K (λ l j. (l ≡ label) × (j ≡ i))) xs (xs ++ record { label = label; node = node } ∷ [])
adds_one K label node i xs is r = (
  λ h. ⊎_elim
      (λ o. inl o)
      (λ e. inr (i, ((sym (ap (λ (z : Root). z.label) e), refl), sym (ap (λ (z : Root). z.node) e) ∙ is)))
      (Contains-push_cases xs (record { label = label; node = node }) r h),
  λ h. ⊎_elim
      (λ o. Contains-append_left xs (record { label = label; node = node } ∷ []) r o)
      (λ (j, ((l, same), e)).
      let node_is : r.node ≡ node = e ∙ (ap (item_number K) same ∙ sym is) in
      let made : record { label = label; node = node } ≡ r =
      ap (λ z. record { label = z; node = node }) (sym l) ∙ ap (λ z. record { label = r.label; node = z }) (sym node_is) in
      subst (λ z. Contains (xs ++ record { label = label; node = node } ∷ []) z) made (Contains-push xs (record { label = label; node = node })))
      h,
)

pub adds_same : (K : Numbering) (P Q : ℕ → Item → Type 0) (xs ys : List Root) → ((l : ℕ) (j : Item) → P l j → Q l j) → ((l : ℕ) (j : Item) → Q l j → P l j)
    → Adds (Begins K P) xs ys → Adds (Begins K Q) xs ys
adds_same K P Q xs ys to from g r = (
  λ h. ⊎_elim (λ o. inl o) (λ (j, (p, e)). inr (j, (to r.label j p, e))) ((g r).0 h),
  λ h. (g r).1 (⊎_elim (λ o. inl o) (λ (j, (q, e)). inr (j, (from r.label j q, e))) h),
)

-- one rule after the other
pub adds_both : (K : Numbering) (P Q : ℕ → Item → Type 0) (xs ys zs : List Root) → Adds (Begins K P) xs ys → Adds (Begins K Q) ys zs
    → Adds (Begins K (λ l j. P l j ⊎ Q l j)) xs zs
adds_both K P Q xs ys zs g h r = (
  λ k. ⊎_elim
      (λ o. ⊎_elim (λ u. inl u) (λ (j, (p, e)). inr (j, (inl p, e))) ((g r).0 o))
      (λ (j, (q, e)). inr (j, (inr q, e)))
      ((h r).0 k),
  λ k. ⊎_elim
      (λ o. (h r).1 (inl ((g r).1 (inl o))))
      (λ (j, (either, e)). ⊎_elim (λ p. (h r).1 (inl ((g r).1 (inr (j, (p, e)))))) (λ q. (h r).1 (inr (j, (q, e)))) either)
      k,
)

-- ---- each number below a bound

pub adds_start : (K : Numbering) (Q : ℕ → ℕ → Item → Type 0) (xs : List Root) → Adds (Begins K (λ l. FromBelow 0 (Q l))) xs xs
adds_start K Q xs = adds_none K (λ l. FromBelow 0 (Q l)) xs (λ l j (k, (lt, q)). omega arith)

pub adds_next : (K : Numbering) (Q : ℕ → ℕ → Item → Type 0) (i : ℕ) (xs ys zs : List Root) → Adds (Begins K (λ l. FromBelow i (Q l))) xs ys
    → Adds (Begins K (λ l. Q l i)) ys zs → Adds (Begins K (λ l. FromBelow (i + 1) (Q l))) xs zs
adds_next K Q i xs ys zs g h = adds_same K (λ l j. FromBelow i (Q l) j ⊎ Q l i j) (λ l. FromBelow (i + 1) (Q l)) xs zs
    (λ l j r. ⊎_elim (λ (k, (lt, q)). (k, (omega arith, q))) (λ q. (i, (omega arith, q))) r)
    (λ l j (k, (lt, q)). elim (cases_lt k i) [
      | inl less ↦ inl (k, (less, q))
      | inr ge ↦ let e : k ≡ i = omega arith in inr (subst (λ n. Q l n j) e q)
    ])
    (adds_both K (λ l. FromBelow i (Q l)) (λ l. Q l i) xs ys zs g h)

-- ---- each element of a list

pub adds_each_none : {A : Type 0} (K : Numbering) (Q : A → Item → Type 0) (xs : List Root) → Adds (Begins K (λ l j. (l ≡ 0) × FromEach [] Q j)) xs xs
adds_each_none {A} K Q xs = adds_none K (λ l j. (l ≡ 0) × FromEach [] Q j) xs (λ l j (e, (x, (has, q))). none_there x has)

pub adds_each : {A : Type 0} (K : Numbering) (Q : A → Item → Type 0) (list : List A) (i : ℕ) (d : A) (xs ys zs : List Root) → i < length list
    → Adds (Begins K (λ l j. (l ≡ 0) × FromEach (take i list) Q j)) xs ys → Adds (Begins K (λ l j. (l ≡ 0) × Q (get_or list i d) j)) ys zs
    → Adds (Begins K (λ l j. (l ≡ 0) × FromEach (take (i + 1) list) Q j)) xs zs
adds_each {A} K Q list i d xs ys zs lt g h =
    let x = get_or list i d in
    let front = take i list in
    let e : take (i + 1) list ≡ front ++ x ∷ [] = take_more list i d lt in
    rw e (adds_same K (λ l j. ((l ≡ 0) × FromEach front Q j) ⊎ ((l ≡ 0) × Q x j)) (λ l j. (l ≡ 0) × FromEach (front ++ x ∷ []) Q j) xs zs
    (λ l j r. ⊎_elim
    (λ (z, (y, (has, q))). (z, (y, (Contains-append_left front (x ∷ []) y has, q))))
    (λ (z, q). (z, (x, (Contains-push front x, q)))) r)
    (λ l j (z, (y, (has, q))). ⊎_elim (λ old. inl (z, (y, (old, q)))) (λ is. inr (z, subst (λ w. Q w j) (sym is) q)) (Contains-push_cases front x y has))
    (adds_both K (λ l j. (l ≡ 0) × FromEach front Q j) (λ l j. (l ≡ 0) × Q x j) xs ys zs g h))

pub adds_all : {A : Type 0} (K : Numbering) (Q : A → Item → Type 0) (list all : List A) (i : ℕ) (xs ys : List Root) → length list ≤ i → list ≡ all
    → Adds (Begins K (λ l j. (l ≡ 0) × FromEach (take i list) Q j)) xs ys → Adds (Begins K (λ l j. (l ≡ 0) × FromEach all Q j)) xs ys
adds_all {A} K Q list all i xs ys le same g =
    subst (λ (z : List A). Adds (Begins K (λ l j. (l ≡ 0) × FromEach z Q j)) xs ys) (take_all i list le ∙ same) g

-- ---- a position that doesn't stand behind another

pub back_more : (nodes : List Node) (i : ℕ) (d : Node) (pos : ℕ) (b : Bool) → i < length nodes
    → ((q : Pos) → Contains (take i nodes) (At q.0) → q.0 ≤ pos → ⊥) → (((q : Pos) × ((get_or nodes i d ≡ At q.0) × (q.0 ≤ pos))) → b ≡ true) → b ≡ false
    → (q : Pos) → Contains (take (i + 1) nodes) (At q.0) → q.0 ≤ pos → ⊥
back_more nodes i d pos b lt none tells off q has le =
    let x = get_or nodes i d in
    let e : take (i + 1) nodes ≡ take i nodes ++ x ∷ [] = take_more nodes i d lt in
    let has' : Contains (take i nodes ++ x ∷ []) (At q.0) = subst (λ (ns : List Node). Contains ns (At q.0)) e has in
    ⊎_elim (λ old. none q old le) (λ is. let on = tells (q, (is, le)) in cc) (Contains-push_cases (take i nodes) x (At q.0) has')

pub back_found : (nodes : List Node) (i : ℕ) (d : Node) (pos : ℕ) → i < length nodes → ((q : Pos) × ((get_or nodes i d ≡ At q.0) × (q.0 ≤ pos)))
    → (q : Pos) × (Contains nodes (At q.0) × (q.0 ≤ pos))
back_found nodes i d pos lt (q, (is, le)) =
    (q, ((i, lt, get_or_from_slice_get nodes i (At q.0) (At q.0) (slice_get-get_or nodes i d lt ∙ ap Some is)), le))

pub back_none : (nodes : List Node) (i pos : ℕ) → length nodes ≤ i → ((q : Pos) → Contains (take i nodes) (At q.0) → q.0 ≤ pos → ⊥)
    → ((q : Pos) × (Contains nodes (At q.0) × (q.0 ≤ pos))) → ⊥
back_none nodes i pos whole none (q, (has, le)) = none q (subst (λ (ns : List Node). Contains ns (At q.0)) (sym (take_all i nodes whole)) has) le
