-- What a list gains, by items.
use Rattle.std.proofs.Common.{◌≡◌, ℕ, zero, suc, ◌+◌, ◌<◌, ◌≤◌, List, [], ◌∷◌, ◌++◌, length, get_or, take, Bool, true, false, ◌↔◌, Some, None, refl, sym, ap, ◌∙◌, subst, inl, inr, ◌⊎◌, ⊎_elim, arith}
use Rattle.std.specs.Prelude.{slice_get}
use Rattle.std.specs.List.{All, Contains}
use Rattle.std.proofs.lemmas.List.{take_all, take_more}
use Rattle.std.proofs.lemmas.List.Elements.{All-contains_itself, Contains-push, Contains-push_cases, Contains-append_left}
use Rattle.std.proofs.lemmas.Bool.{cases_eq, cases_lt}
use Rattle.std.proofs.lemmas.Grind.{not_there}
use Rattle.wasm_types.specs.declared.module.Pos.{Pos}
use Rattle.wasm_types.specs.declared.module.Body.{Body}
use Rattle.wasm_types.specs.declared.place.Loc.{Loc}
use Rattle.wasm_types.specs.declared.place.Loc.TheVariants.{Mem, Size}
use Rattle.wasm_types.specs.declared.place.Node.{Node}
use Rattle.wasm_types.specs.declared.place.Node.TheVariants as node
use Rattle.wasm_types.specs.Nodes.{At}
use Rattle.wasm_types.specs.Reaching.{Table, Writes, writes_it}
use Rattle.block_cfg.specs.Graph.{number}
use Rattle.wasm_types.specs.Code.{code_of}
use Rattle.control_deps.specs.Nest.{IsAround, IsNestOf}
use Rattle.slice_closure.specs.declared.tables.Tables.{Tables}
use Rattle.worklist.specs.Gains.{Gains}
use Rattle.worklist.proofs.Pushing.{gains_none, gains_push, gains_same, gains_then}
use Rattle.std.proofs.lemmas.Option.{same_Some, slice_get-get_or}
use Rattle.stack_names.specs.declared.place.Place.{Place}
use Rattle.flow_domain.specs.Rows.{Output}
use Rattle.called_rows.specs.declared.instrs.Whom.{Whom}
use Rattle.called_rows.specs.Called.{globals_in, RowIn, TakesIn}
use Rattle.called_rows.specs.Locs.{loc_number as outer_number, IsLoc}
use Rattle.slice_closure.specs.declared.items.Item.{Item}
use Rattle.slice_closure.specs.declared.items.Item.TheVariants.{Needs}
use Rattle.slice_closure.specs.declared.spot.Spot.{Spot}
use Rattle.slice_closure.specs.declared.spot.Touch.{Touch}
use Rattle.slice_closure.specs.declared.spot.Touch.TheVariants as touch
use Rattle.slice_closure.specs.declared.spot.Came.TheVariants.{After}
use Rattle.slice_closure.specs.Flow.{AsksBelow, touch_at, ways_to}
use Rattle.slice_closure.specs.Items.{loc_number, item_number, Numbered}
use Rattle.slice_closure.specs.Next.{FromEach, FromBelow, value_item, Maker, ArgumentAt, InputAt, Asks, Arrives, Fits, IsHolder}
use Rattle.slice_closure.specs.Runs.{Lands}
use Rattle.slice_closure.proofs.Numbers.{outer_once}

none_there : {A : Type 0} (x : A) → Contains [] x → ⊥
none_there x (k, lt, is) = omega arith

pub numbered_none : (N : ℕ) (R : Item → Type 0) (xs : List ℕ) → ((j : Item) → R j → ⊥) → Gains (Numbered N R) xs xs
numbered_none N R xs none = gains_none (Numbered N R) xs (λ y (j, (r, e)). none j r)

pub numbered_one : (N : ℕ) (i : Item) (k : ℕ) (xs ys : List ℕ) → k ≡ item_number N i → ys ≡ xs ++ k ∷ [] → Gains (Numbered N (λ j. j ≡ i)) xs ys
numbered_one N i k xs ys is pushed = rw pushed (gains_same (λ y. y ≡ k) (Numbered N (λ j. j ≡ i)) xs (xs ++ k ∷ [])
    (λ y e. (i, (refl, e ∙ is)))
    (λ y (j, (same, e)). e ∙ (ap (item_number N) same ∙ sym is))
    (gains_push xs k))

pub numbered_same : (N : ℕ) (P Q : Item → Type 0) (xs ys : List ℕ) → ((j : Item) → P j → Q j) → ((j : Item) → Q j → P j) → Gains (Numbered N P) xs ys
    → Gains (Numbered N Q) xs ys
numbered_same N P Q xs ys to from g = gains_same (Numbered N P) (Numbered N Q) xs ys (λ y (j, (p, e)). (j, (to j p, e))) (λ y (j, (q, e)). (
  j,
  (from j q, e),
)) g

-- one rule after the other
pub numbered_both : (N : ℕ) (P Q : Item → Type 0) (xs ys zs : List ℕ) → Gains (Numbered N P) xs ys → Gains (Numbered N Q) ys zs
    → Gains (Numbered N (λ j. P j ⊎ Q j)) xs zs
numbered_both N P Q xs ys zs g h = gains_then (Numbered N P) (Numbered N Q) (Numbered N (λ j. P j ⊎ Q j)) xs ys zs
    (λ y (j, (r, e)). ⊎_elim (λ p. inl (j, (p, e))) (λ q. inr (j, (q, e))) r)
    (λ y (j, (p, e)). (j, (inl p, e)))
    (λ y (j, (q, e)). (j, (inr q, e)))
    g h

pub each_none : {A : Type 0} (N : ℕ) (Q : A → Item → Type 0) (xs : List ℕ) → Gains (Numbered N (FromEach [] Q)) xs xs
each_none {A} N Q xs = numbered_none N (FromEach [] Q) xs (λ j (x, (has, q)). none_there x has)

-- one element more
pub each_more : {A : Type 0} (N : ℕ) (Q : A → Item → Type 0) (list : List A) (i : ℕ) (d : A) (xs ys zs : List ℕ) → i < length list
    → Gains (Numbered N (FromEach (take i list) Q)) xs ys → Gains (Numbered N (Q (get_or list i d))) ys zs
    → Gains (Numbered N (FromEach (take (i + 1) list) Q)) xs zs
each_more {A} N Q list i d xs ys zs lt g h =
    let x = get_or list i d in
    let front = take i list in
    let e : take (i + 1) list ≡ front ++ x ∷ [] = take_more list i d lt in
    rw e (numbered_same N (λ j. FromEach front Q j ⊎ Q x j) (FromEach (front ++ x ∷ []) Q) xs zs
    (λ j r. ⊎_elim (λ (y, (has, q)). (y, (Contains-append_left front (x ∷ []) y has, q))) (λ q. (x, (Contains-push front x, q))) r)
    (λ j (y, (has, q)). ⊎_elim (λ old. inl (y, (old, q))) (λ is. inr (subst (λ z. Q z j) (sym is) q)) (Contains-push_cases front x y has))
    (numbered_both N (FromEach front Q) (Q x) xs ys zs g h))

pub each_all : {A : Type 0} (N : ℕ) (Q : A → Item → Type 0) (list all : List A) (i : ℕ) (xs ys : List ℕ) → length list ≤ i → list ≡ all
    → Gains (Numbered N (FromEach (take i list) Q)) xs ys → Gains (Numbered N (FromEach all Q)) xs ys
each_all {A} N Q list all i xs ys le same g =
    subst (λ (z : List A). Gains (Numbered N (FromEach z Q)) xs ys) (take_all i list le ∙ same) g

-- ---- each number below a bound

pub below_start : (N : ℕ) (Q : ℕ → Item → Type 0) (xs : List ℕ) → Gains (Numbered N (FromBelow 0 Q)) xs xs
below_start N Q xs = numbered_none N (FromBelow 0 Q) xs (λ j (k, (lt, q)). omega arith)

pub below_next : (N : ℕ) (Q : ℕ → Item → Type 0) (i : ℕ) (xs ys zs : List ℕ) → Gains (Numbered N (FromBelow i Q)) xs ys → Gains (Numbered N (Q i)) ys zs
    → Gains (Numbered N (FromBelow (i + 1) Q)) xs zs
below_next N Q i xs ys zs g h = numbered_same N (λ j. FromBelow i Q j ⊎ Q i j) (FromBelow (i + 1) Q) xs zs
    (λ j r. ⊎_elim (λ (k, (lt, q)). (k, (omega arith, q))) (λ q. (i, (omega arith, q))) r)
    (λ j (k, (lt, q)). elim (cases_lt k i) [
      | inl less ↦ inl (k, (less, q))
      | inr ge ↦ let e : k ≡ i = omega arith in inr (subst (λ n. Q n j) e q)
    ])
    (numbered_both N (FromBelow i Q) (Q i) xs ys zs g h)

pub below_all : (N : ℕ) (Q : ℕ → Item → Type 0) (i n : ℕ) (xs ys : List ℕ) → i ≡ n → Gains (Numbered N (FromBelow i Q)) xs ys
    → Gains (Numbered N (FromBelow n Q)) xs ys
below_all N Q i n xs ys e g = subst (λ k. Gains (Numbered N (FromBelow k Q)) xs ys) e g

-- ---- what a call needs

-- where the output depends on the operand
pub argument_gains : (N : ℕ) (t : Tables) (places : List Place) (o : Output) (w : Whom) (k : ℕ) (d : Place) (xs ys : List ℕ) → k < length places
    → TakesIn t.called w o (length places) k → Gains (Numbered N (Maker t (get_or places k d))) xs ys → Gains (Numbered N (ArgumentAt t places o w k)) xs ys
argument_gains N t places o w k d xs ys lt on g =
    let here = get_or places k d in
    let got : slice_get places k ≡ Some here = slice_get-get_or places k d lt in
    numbered_same N (Maker t here) (ArgumentAt t places o w k) xs ys
    (λ j e. (on, (here, (got, e))))
    (λ j (needed, (place, (is, e))). e ∙ ap (λ (q : Place). value_item t q.maker) (same_Some place here (sym is ∙ got)))
    g

pub argument_none : (N : ℕ) (t : Tables) (places : List Place) (o : Output) (w : Whom) (k : ℕ) (xs : List ℕ)
    → (TakesIn t.called w o (length places) k → ⊥) → Gains (Numbered N (ArgumentAt t places o w k)) xs xs
argument_none N t places o w k xs off = numbered_none N (ArgumentAt t places o w k) xs (λ j (on, h). off on)

-- where it depends on the location
pub input_gains : (N : ℕ) (t : Tables) (p : ℕ) (o : Output) (w : Whom) (i : ℕ) (x : Loc) (xs ys : List ℕ) → IsLoc (globals_in t.called) 0 x
    → outer_number (globals_in t.called) x ≡ i → RowIn t.called w o x → Gains (Numbered N (λ j. j ≡ Needs x (At p))) xs ys
    → Gains (Numbered N (InputAt t p o w i)) xs ys
input_gains N t p o w i x xs ys ok at row g = numbered_same N (λ j. j ≡ Needs x (At p)) (InputAt t p o w i) xs ys
    (λ j e. (x, (ok, (at, (row, e)))))
    (λ j (y, (ok', (at', (row', e)))). e ∙ ap (λ z. Needs z (At p)) (outer_once (globals_in t.called) y x ok' ok (at' ∙ sym at)))
    g

pub input_none : (N : ℕ) (t : Tables) (p : ℕ) (o : Output) (w : Whom) (i : ℕ) (x : Loc) (xs : List ℕ) → IsLoc (globals_in t.called) 0 x
    → outer_number (globals_in t.called) x ≡ i → (RowIn t.called w o x → ⊥) → Gains (Numbered N (InputAt t p o w i)) xs xs
input_none N t p o w i x xs ok at off = numbered_none N (InputAt t p o w i) xs
    (λ j (y, (ok', (at', (row, e)))). off (subst (λ z. RowIn t.called w o z) (outer_once (globals_in t.called) y x ok' ok (at' ∙ sym at)) row))

-- ---- what is around a position is one

pub one_holder : (t : Tables) → ∥ IsNestOf t.body.now t.nest.now ∥₁ → (p : ℕ) (b b' : Pos) → IsHolder t p b → IsHolder t p b' → b.0 ≡ b'.0
one_holder t nested p b b' h h' = elim (cases_eq b.0 b'.0) [
  | inl e ↦ e
  | inr ne ↦ absurd (not_there nested (λ n. let x = (h n).1 b'.0 (h' n).0 in let y = (h' n).1 b.0 (h n).0 in ne (omega arith)))
]

pub no_holder : (t : Tables) → ∥ IsNestOf t.body.now t.nest.now ∥₁ → (p : ℕ)
    → ((body : Body) → IsNestOf body t.nest.now → IsAround (code_of body.code) p None) → (b : Pos) → IsHolder t p b → ⊥
no_holder t nested p none b h = not_there nested (λ n. none t.body.now n b.0 (h n).0)

pub same_pos : (p q : Pos) → Some p ≡ Some q → p.0 ≡ q.0
same_pos p q e = let same : p ≡ q = cc in ap (λ (z : Pos). z.0) same

-- ---- writers and points

writes_is : (W : Table) (x : Loc) (n : Node) → Writes W x n → (p : ℕ) × ((n ≡ At p) × W p x)
writes_is W x _ (writes_it {p} w) = (p, (refl, w))

pub written_there : (W : Table) (x : Loc) (p : ℕ) → Writes W x (At p) → W p x
written_there W x p (writes_it w) = w

pub writes_at : (W : Table) (x : Loc) (n : Node) (pos : Pos) (b : Bool) → n ≡ node.At pos → (b ≡ true) ↔ W pos.0 x → (b ≡ true) ↔ Writes W x n
writes_at W x n pos b is tells = (
  λ h. subst (λ m. Writes W x m) (sym is) (writes_it (tells.0 h)),
  λ h. tells.1 (written_there W x pos.0 (subst (λ m. Writes W x m) is h)),
)

pub writes_not : (W : Table) (x : Loc) (n : Node) → ((p : ℕ) → n ≡ At p → ⊥) → (false ≡ true) ↔ Writes W x n
writes_not W x n none = (λ h. absurd cc, λ h. let w = writes_is W x n h in absurd (none w.0 w.1.0))

pub join_apart : (n : Node) (b : Pos) → n ≡ node.Join b → (p : ℕ) → n ≡ At p → ⊥
join_apart n b is p e = cc

pub exit_apart : (n : Node) → n ≡ node.Exit → (p : ℕ) → n ≡ At p → ⊥
exit_apart n is p e = cc

-- ---- what is read or checked has a number

pub reads_fit : (L : ℕ) (t : Touch) (x : Loc) → AsksBelow L t → t ≡ touch.Reads x → loc_number x < L
reads_fit L t x fits is = subst (AsksBelow L) is fits 0 x (omega arith)

pub changes_fit : (L : ℕ) (t : Touch) (x : Loc) → AsksBelow L t → t ≡ touch.Changes x → loc_number x < L
changes_fit L t x fits is = subst (AsksBelow L) is fits 0 x (omega arith)

pub loads_fit : (L : ℕ) (t : Touch) → AsksBelow L t → t ≡ touch.Loads → 2 ≤ L
loads_fit L t fits is = let lt : loc_number Size < L = subst (AsksBelow L) is fits 1 Mem (omega arith) in omega arith

pub stores_fit : (L : ℕ) (t : Touch) → AsksBelow L t → t ≡ touch.Stores → 2 ≤ L
stores_fit L t fits is = let lt : loc_number Size < L = subst (AsksBelow L) is fits 1 Mem (omega arith) in omega arith

pub asks_more : (b c : ℕ) (t : Touch) → b ≤ c → AsksBelow b t → AsksBelow c t
asks_more b c t le h k d lt = let below = h k d lt in omega arith

touch_read : (spots : List Spot) (i : ℕ) (d : Spot) → i < length spots → touch_at (slice_get spots i) ≡ (get_or spots i d).touch
touch_read [] i d lt = absurd (omega arith)
touch_read (s ∷ spots) zero d lt = refl
touch_read (s ∷ spots) (suc i) d lt = touch_read spots i d (omega arith)

touch_past : (spots : List Spot) (i : ℕ) → length spots ≤ i → touch_at (slice_get spots i) ≡ touch.Nothing
touch_past [] i le = refl
touch_past (s ∷ spots) zero le = absurd (omega arith)
touch_past (s ∷ spots) (suc i) le = touch_past spots i (omega arith)

-- a bound of those so far, and of one more
pub asks_step : (spots : List Spot) (i : ℕ) (d : Spot) (b c n : ℕ) → i < length spots → b ≤ n → c ≤ n → AsksBelow c (get_or spots i d).touch
    → ((p : ℕ) → p < i → AsksBelow b (touch_at (slice_get spots p))) → (p : ℕ) → p < i + 1 → AsksBelow n (touch_at (slice_get spots p))
asks_step spots i d b c n lt le le' here so_far p less = elim (cases_lt p i) [
  | inl before ↦ asks_more b n (touch_at (slice_get spots p)) le (so_far p before)
  | inr at ↦
      let e : i ≡ p = omega arith in
      subst (λ k. AsksBelow n (touch_at (slice_get spots k))) e (asks_more c n (touch_at (slice_get spots i)) le'
      (subst (AsksBelow c) (sym (touch_read spots i d lt)) here))
]

pub asks_all : (spots whole : List Spot) (i b : ℕ) → length spots ≤ i → spots ≡ whole → ((p : ℕ) → p < i → AsksBelow b (touch_at (slice_get spots p)))
    → (p : ℕ) → AsksBelow b (touch_at (slice_get whole p))
asks_all spots whole i b le same so_far p = subst (λ zs. AsksBelow b (touch_at (slice_get zs p))) same (elim (cases_lt p i) [
  | inl before ↦ so_far p before
  | inr past ↦ subst (AsksBelow b) (sym (touch_past spots p (omega arith))) (λ k d lt. absurd (omega arith))
])

-- what is asked for, where the touch is known
pub asked_same : (N : ℕ) (t u : Touch) (p : ℕ) (xs ys : List ℕ) → t ≡ u → Gains (Numbered N (Asks u p)) xs ys → Gains (Numbered N (Asks t p)) xs ys
asked_same N t u p xs ys is g = subst (λ z. Gains (Numbered N (Asks z p)) xs ys) (sym is) g

-- ---- points before a point

pub one_after : (N : ℕ) (t : Tables) (point earlier : Node) (x : Loc) (xs ys : List ℕ) → Arrives t point earlier
    → Gains (Numbered N (Lands t x earlier)) xs ys → Gains (Numbered N (λ j. (b : Node) × (Arrives t point b × Lands t x b j))) xs ys
one_after N t point earlier x xs ys came g =
    numbered_same N (Lands t x earlier) (λ j. (b : Node) × (Arrives t point b × Lands t x b j)) xs ys
    (λ j p. (earlier, (came, p)))
    (λ j (b, (also, p)). subst (λ z. Lands t x z j) (same_after b earlier (sym also ∙ came)) p)
    g
  where
    same_after : (a b : Node) → After a ≡ After b → a ≡ b
    same_after a b e = cc

pub way_below : (N L : ℕ) (t : Tables) → Fits N L t → (point : Node) (row : List Node) → row ≡ ways_to t.flow.now.before.items point
    → All (λ (b : Node). number b < N) row
way_below N L t fits point row is k d lt =
    let x = get_or row k d in
    fits.before point x (inr (subst (λ zs. Contains zs x) is (All-contains_itself row k d lt)))
