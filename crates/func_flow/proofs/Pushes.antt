-- What a list gains, by items.
use Rattle.std.proofs.Common.{◌≡◌, ℕ, ◌+◌, ◌<◌, ◌≤◌, List, [], ◌∷◌, ◌++◌, length, get_or, take, Bool, true, false, ◌↔◌, Some, None, refl, sym, ap, ◌∙◌, subst}
use Rattle.std.proofs.Common.{inl, inr, ◌⊎◌, ⊎_elim, arith}
use Rattle.std.specs.Prelude.{slice_get, reverse, ◌-◌}
use Rattle.std.specs.List.{Contains}
use Rattle.std.proofs.lemmas.List.{take_all, take_more}
use Rattle.std.proofs.lemmas.List.Elements.{Contains-push, Contains-push_cases, Contains-append_left}
use Rattle.std.proofs.lemmas.Bool.{cases_eq, cases_lt}
use Rattle.std.proofs.lemmas.Grind.{not_there}
use Rattle.wasm_types.specs.declared.module.Body.{Body}
use Rattle.wasm_types.specs.declared.module.Pos.{Pos}
use Rattle.wasm_types.specs.declared.place.Loc.{Loc}
use Rattle.wasm_types.specs.declared.place.Node.{Node}
use Rattle.wasm_types.specs.declared.place.Node.TheVariants as node
use Rattle.wasm_types.specs.Nodes.{At}
use Rattle.wasm_types.specs.Takers.{is_among}
use Rattle.wasm_types.specs.Reaching.{Table, Writes, writes_it}
use Rattle.block_cfg.specs.Graph.{number}
use Rattle.block_cfg.proofs.MemberLemmas.{among_of, contains_of}
use Rattle.slice_closure.proofs.Joined.{among_is, is_among_of}
use Rattle.slice_closure.proofs.Placed.{top_read}
use Rattle.wasm_types.specs.Code.{code_of}
use Rattle.control_deps.specs.Nest.{IsAround, IsNestOf}
use Rattle.worklist.specs.Gains.{Gains}
use Rattle.worklist.proofs.Pushing.{gains_none, gains_push, gains_same, gains_then}
use Rattle.func_flow.specs.declared.items.Item.{Item}
use Rattle.func_flow.specs.declared.numbering.Numbering.{Numbering}
use Rattle.func_flow.specs.declared.tables.Tables.{Tables}
use Rattle.func_flow.specs.Items.{item_number, Numbered}
use Rattle.std.proofs.lemmas.Option.{same_Some, slice_get-get_or}
use Rattle.stack_names.specs.declared.place.Place.{Place}
use Rattle.flow_domain.specs.Rows.{Output}
use Rattle.func_flow.specs.declared.items.Item.TheVariants.{Value}
use Rattle.func_flow.specs.declared.steps.Picks.{Picks}
use Rattle.called_rows.specs.declared.instrs.Whom.{Whom}
use Rattle.func_flow.specs.Steps.{IsPicked}
use Rattle.called_rows.specs.Called.{TakesIn}
use Rattle.func_flow.specs.Next.{FromEach, FromBelow, IsHolder, AreMarked, PickedAt, ArgumentAt}

none_there : {A : Type 0} (x : A) → Contains [] x → ⊥
none_there x (k, lt, is) = omega arith

pub numbered_none : (K : Numbering) (R : Item → Type 0) (xs : List ℕ) → ((j : Item) → R j → ⊥) → Gains (Numbered K R) xs xs
numbered_none K R xs none = gains_none (Numbered K R) xs (λ y (j, (r, e)). none j r)

pub numbered_one : (K : Numbering) (i : Item) (k : ℕ) (xs ys : List ℕ) → k ≡ item_number K i → ys ≡ xs ++ k ∷ [] → Gains (Numbered K (λ j. j ≡ i)) xs ys
numbered_one K i k xs ys is pushed = rw pushed (gains_same (λ y. y ≡ k) (Numbered K (λ j. j ≡ i)) xs (xs ++ k ∷ [])
    (λ y e. (i, (refl, e ∙ is)))
    (λ y (j, (same, e)). e ∙ (ap (item_number K) same ∙ sym is))
    (gains_push xs k))

pub numbered_same : (K : Numbering) (P Q : Item → Type 0) (xs ys : List ℕ) → ((j : Item) → P j → Q j) → ((j : Item) → Q j → P j) → Gains (Numbered K P) xs ys
    → Gains (Numbered K Q) xs ys
numbered_same K P Q xs ys to from g = gains_same (Numbered K P) (Numbered K Q) xs ys (λ y (j, (p, e)). (j, (to j p, e))) (λ y (j, (q, e)). (
  j,
  (from j q, e),
)) g

-- one rule after the other
pub numbered_both : (K : Numbering) (P Q : Item → Type 0) (xs ys zs : List ℕ) → Gains (Numbered K P) xs ys → Gains (Numbered K Q) ys zs
    → Gains (Numbered K (λ j. P j ⊎ Q j)) xs zs
numbered_both K P Q xs ys zs g h = gains_then (Numbered K P) (Numbered K Q) (Numbered K (λ j. P j ⊎ Q j)) xs ys zs
    (λ y (j, (r, e)). ⊎_elim (λ p. inl (j, (p, e))) (λ q. inr (j, (q, e))) r)
    (λ y (j, (p, e)). (j, (inl p, e)))
    (λ y (j, (q, e)). (j, (inr q, e)))
    g h

-- ---- each element of a list

pub each_none : {A : Type 0} (K : Numbering) (Q : A → Item → Type 0) (xs : List ℕ) → Gains (Numbered K (FromEach [] Q)) xs xs
each_none {A} K Q xs = numbered_none K (FromEach [] Q) xs (λ j (x, (has, q)). none_there x has)

-- one element more
pub each_more : {A : Type 0} (K : Numbering) (Q : A → Item → Type 0) (list : List A) (i : ℕ) (d : A) (xs ys zs : List ℕ) → i < length list
    → Gains (Numbered K (FromEach (take i list) Q)) xs ys → Gains (Numbered K (Q (get_or list i d))) ys zs
    → Gains (Numbered K (FromEach (take (i + 1) list) Q)) xs zs
each_more {A} K Q list i d xs ys zs lt g h =
    let x = get_or list i d in
    let front = take i list in
    let e : take (i + 1) list ≡ front ++ x ∷ [] = take_more list i d lt in
    rw e (numbered_same K (λ j. FromEach front Q j ⊎ Q x j) (FromEach (front ++ x ∷ []) Q) xs zs
    (λ j r. ⊎_elim (λ (y, (has, q)). (y, (Contains-append_left front (x ∷ []) y has, q))) (λ q. (x, (Contains-push front x, q))) r)
    (λ j (y, (has, q)). ⊎_elim (λ old. inl (y, (old, q))) (λ is. inr (subst (λ z. Q z j) (sym is) q)) (Contains-push_cases front x y has))
    (numbered_both K (FromEach front Q) (Q x) xs ys zs g h))

pub each_all : {A : Type 0} (K : Numbering) (Q : A → Item → Type 0) (list all : List A) (i : ℕ) (xs ys : List ℕ) → length list ≤ i → list ≡ all
    → Gains (Numbered K (FromEach (take i list) Q)) xs ys → Gains (Numbered K (FromEach all Q)) xs ys
each_all {A} K Q list all i xs ys le same g =
    subst (λ (z : List A). Gains (Numbered K (FromEach z Q)) xs ys) (take_all i list le ∙ same) g

-- ---- each number below a bound

pub below_start : (K : Numbering) (Q : ℕ → Item → Type 0) (xs : List ℕ) → Gains (Numbered K (FromBelow 0 Q)) xs xs
below_start K Q xs = numbered_none K (FromBelow 0 Q) xs (λ j (k, (lt, q)). omega arith)

pub below_next : (K : Numbering) (Q : ℕ → Item → Type 0) (i : ℕ) (xs ys zs : List ℕ) → Gains (Numbered K (FromBelow i Q)) xs ys
    → Gains (Numbered K (Q i)) ys zs → Gains (Numbered K (FromBelow (i + 1) Q)) xs zs
below_next K Q i xs ys zs g h = numbered_same K (λ j. FromBelow i Q j ⊎ Q i j) (FromBelow (i + 1) Q) xs zs
    (λ j r. ⊎_elim (λ (k, (lt, q)). (k, (omega arith, q))) (λ q. (i, (omega arith, q))) r)
    (λ j (k, (lt, q)). elim (cases_lt k i) [
      | inl less ↦ inl (k, (less, q))
      | inr ge ↦ let e : k ≡ i = omega arith in inr (subst (λ n. Q n j) e q)
    ])
    (numbered_both K (FromBelow i Q) (Q i) xs ys zs g h)

pub below_all : (K : Numbering) (Q : ℕ → Item → Type 0) (i n : ℕ) (xs ys : List ℕ) → i ≡ n → Gains (Numbered K (FromBelow i Q)) xs ys
    → Gains (Numbered K (FromBelow n Q)) xs ys
below_all K Q i n xs ys e g = subst (λ k. Gains (Numbered K (FromBelow k Q)) xs ys) e g

-- ---- what is around a position is one

pub one_holder : (t : Tables) → ∥ IsNestOf t.body.now t.nest.now ∥₁ → (p : ℕ) (b b' : Pos) → IsHolder t p b → IsHolder t p b' → b.0 ≡ b'.0
one_holder t nested p b b' h h' = elim (cases_eq b.0 b'.0) [
  | inl e ↦ e
  | inr ne ↦ absurd (not_there nested (λ n. let x = (h n).1 b'.0 (h' n).0 in let y = (h' n).1 b.0 (h n).0 in ne (omega arith)))
]

pub no_holder : (t : Tables) → ∥ IsNestOf t.body.now t.nest.now ∥₁ → (p : ℕ)
    → ((body : Body) → IsNestOf body t.nest.now → IsAround (code_of body.code) p None) → (b : Pos) → IsHolder t p b → ⊥
no_holder t nested p none b h = not_there nested (λ n. none t.body.now n b.0 (h n).0)

pub same_pos : (p q : Pos) → Some p ≡ Some q → p.0 ≡ q.0
same_pos p q e = let same : p ≡ q = cc in ap (λ (z : Pos). z.0) same

-- ---- writers and points

pub writes_is : (W : Table) (x : Loc) (n : Node) → Writes W x n → (p : ℕ) × ((n ≡ At p) × W p x)
writes_is W x _ (writes_it {p} w) = (p, (refl, w))

pub written_there : (W : Table) (x : Loc) (p : ℕ) → Writes W x (At p) → W p x
written_there W x p (writes_it w) = w

pub writes_at : (W : Table) (x : Loc) (n : Node) (pos : Pos) (b : Bool) → n ≡ node.At pos → (b ≡ true) ↔ W pos.0 x → (b ≡ true) ↔ Writes W x n
writes_at W x n pos b is tells = (
  λ h. subst (λ m. Writes W x m) (sym is) (writes_it (tells.0 h)),
  λ h. tells.1 (written_there W x pos.0 (subst (λ m. Writes W x m) is h)),
)

pub writes_not : (W : Table) (x : Loc) (n : Node) → ((p : ℕ) → n ≡ At p → ⊥) → (false ≡ true) ↔ Writes W x n
writes_not W x n none = (λ h. absurd cc, λ h. let w = writes_is W x n h in absurd (none w.0 w.1.0))

pub join_apart : (n : Node) (b : Pos) → n ≡ node.Join b → (p : ℕ) → n ≡ At p → ⊥
join_apart n b is p e = cc

pub exit_apart : (n : Node) → n ≡ node.Exit → (p : ℕ) → n ≡ At p → ⊥
exit_apart n is p e = cc

pub off_point : (points : List Node) (N : ℕ) (marks : List Bool) → AreMarked points N marks → (n : Node) (k : ℕ) → k ≡ number n → number n < N
    → get_or marks k false ≡ false → Contains points n → ⊥
off_point points N marks marked n k e lt off has =
    let here : get_or marks k false ≡ is_among n points = ap (λ i. get_or marks i false) e ∙ marked.marked n lt in
    let on : is_among n points ≡ true = is_among_of n points (among_of points n has) in
    cc

pub on_point : (points : List Node) (N : ℕ) (marks : List Bool) → AreMarked points N marks → (n : Node) (k : ℕ) → k ≡ number n → number n < N
    → get_or marks k false ≡ true → Contains points n
on_point points N marks marked n k e lt on =
    let here : get_or marks k false ≡ is_among n points = ap (λ i. get_or marks i false) e ∙ marked.marked n lt in
    contains_of points n (among_is n points (sym here ∙ on))

-- ---- operands

pub picked_gains : (K : Numbering) (places : List Place) (picks : Picks) (k : ℕ) (d : Place) (xs ys : List ℕ) → k < length places → IsPicked picks k
    → Gains (Numbered K (λ j. j ≡ Value (get_or places (length places - 1 - k) d).maker)) xs ys → Gains (Numbered K (PickedAt places picks k)) xs ys
picked_gains K places picks k d xs ys lt on g =
    let here = get_or places (length places - 1 - k) d in
    let got : slice_get (reverse places) k ≡ Some here = top_read places k d lt in
    numbered_same K (λ j. j ≡ Value here.maker) (PickedAt places picks k) xs ys
    (λ j e. (on, (here, (got, e))))
    (λ j (picked, (place, (is, e))). e ∙ ap (λ (q : Place). Value q.maker) (same_Some place here (sym is ∙ got)))
    g

pub argument_gains : (t : Tables) (places : List Place) (o : Output) (w : Whom) (k : ℕ) (d : Place) (xs ys : List ℕ) → k < length places
    → TakesIn t.called w o (length places) k
    → Gains (Numbered t.numbering (λ j. j ≡ Value (get_or places k d).maker)) xs ys → Gains (Numbered t.numbering (ArgumentAt t places o w k)) xs ys
argument_gains t places o w k d xs ys lt on g =
    let here = get_or places k d in
    let got : slice_get places k ≡ Some here = slice_get-get_or places k d lt in
    numbered_same t.numbering (λ j. j ≡ Value here.maker) (ArgumentAt t places o w k) xs ys
    (λ j e. (on, (here, (got, e))))
    (λ j (needed, (place, (is, e))). e ∙ ap (λ (q : Place). Value q.maker) (same_Some place here (sym is ∙ got)))
    g
