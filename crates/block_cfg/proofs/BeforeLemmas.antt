-- Lists turned round, a point at a time.
use Rattle.std.proofs.Common.{◌≡◌, ◌≢◌, ℕ, ◌+◌, ◌<◌, ◌≤◌, ◌⊎◌, inl, inr, ⊎_elim, List, [], ◌∷◌, ◌++◌, length, get_or, set, take, replicate, sym, ap, ◌∙◌, subst, arith}
use Rattle.std.specs.List.{Contains}
use Rattle.std.proofs.lemmas.Bool.{cases_eq, cases_lt}
use Rattle.std.proofs.lemmas.List.{get_or-set_same, get_or-set_other, get_or-take, get_or-replicate, get_or_past, take_more, take_all, get_or_default, get_or_read, length-take-le, length-replicate}
use Rattle.std.proofs.lemmas.List.Elements.{Contains-append_left, Contains-push, Contains-push_cases}
use Rattle.wasm_types.specs.declared.place.Node.{Node}
use Rattle.wasm_types.specs.declared.place.Node.TheVariants.{Exit}
use Rattle.block_cfg.specs.Graph.{EachOnce, number, row_of}
use Rattle.block_cfg.proofs.MemberLemmas.{number_injective, once_push, once_nil}

-- the lists after a point is pushed on that of another
same_row : (rows : List (List Node)) (to b : Node) (r : List Node) → number to < length rows → b ≡ to → row_of (set rows (number to) r) b ≡ r
same_row rows to b r lt e = ap (λ z. row_of (set rows (number to) r) z) e ∙ get_or-set_same rows (number to) r [] lt

other_row : (rows : List (List Node)) (to b : Node) (r : List Node) → b ≢ to → row_of (set rows (number to) r) b ≡ row_of rows b
other_row rows to b r ne = get_or-set_other rows (number to) (number b) r [] (λ e. ne (number_injective b to e))

same_or_other : (a b : Node) → (a ≡ b) ⊎ (a ≢ b)
same_or_other a b = ⊎_elim (λ e. inl (number_injective a b e)) (λ ne. inr (λ e. ne (ap number e))) (cases_eq (number a) (number b))

-- what each list has after the first points of a row were gone through
abbrev pub IsAdded : List (List Node) → List (List Node) → Node → List Node → Type 0
IsAdded old new from row = (a b : Node) → (Contains (row_of new b) a → Contains (row_of old b) a ⊎ ((a ≡ from) × Contains row b)) × (Contains (row_of old b) a ⊎ ((a ≡ from) × Contains row b) → Contains (row_of new b) a)

pub added_none : (old : List (List Node)) (from : Node) → IsAdded old old from []
added_none old from a b = ((λ c. inl c), (λ either. ⊎_elim (λ c. c) (λ (e, c). absurd (omega (arith, c.1))) either))

module _ (old mid : List (List Node)) (from : Node) (row : List Node) (j : ℕ) (to : Node) (in_row : j < length row) (is : to ≡ get_or row j Exit) (within : number to < length mid) where
  taken : take (j + 1) row ≡ take j row ++ to ∷ []
  taken = take_more row j Exit in_row ∙ ap (λ (z : Node). take j row ++ z ∷ []) (sym is)

  now : List (List Node)
  now = set mid (number to) (row_of mid to ++ from ∷ [])

  pub added_more : IsAdded old mid from (take j row) → IsAdded old (set mid (number to) (row_of mid to ++ from ∷ [])) from (take (j + 1) row)
  added_more added a b = ⊎_elim
      (λ (e : b ≡ to).
      let row_is : row_of (set mid (number to) (row_of mid to ++ from ∷ [])) b ≡ row_of mid b ++ from ∷ [] = same_row mid to b (row_of mid to ++ from ∷ []) within e ∙ ap (λ z. row_of mid z ++ from ∷ []) (sym e) in
      let here : Contains (take (j + 1) row) b = subst (λ l. Contains l b) (sym taken) (subst (λ z. Contains (take j row ++ to ∷ []) z) (sym e) (Contains-push (take j row) to)) in (
        (λ c. ⊎_elim
            (λ d. ⊎_elim (λ o. inl o) (λ (f, g). inr (f, here)) ((added a b).0 d))
            (λ d. inr (sym d, here))
            (Contains-push_cases (row_of mid b) from a (subst (λ l. Contains l a) row_is c))),
        (λ either. subst (λ l. Contains l a) (sym row_is) (⊎_elim
            (λ o. Contains-append_left (row_of mid b) (from ∷ []) a ((added a b).1 (inl o)))
            (λ (f, g). subst (λ z. Contains (row_of mid b ++ from ∷ []) z) (sym f) (Contains-push (row_of mid b) from)) either)),
      ))
      (λ (ne : b ≢ to).
      let row_is : row_of (set mid (number to) (row_of mid to ++ from ∷ [])) b ≡ row_of mid b = other_row mid to b (row_of mid to ++ from ∷ []) ne in (
        (λ c. ⊎_elim
            (λ o. inl o)
            (λ (f, g). inr (f, subst (λ l. Contains l b) (sym taken) (Contains-append_left (take j row) (to ∷ []) b g)))
            ((added a b).0 (subst (λ l. Contains l a) row_is c))),
        (λ either. subst (λ l. Contains l a) (sym row_is) ((added a b).1 (⊎_elim
            (λ o. inl o)
            (λ (f, g). ⊎_elim (λ h. inr (f, h)) (λ h. absurd (ne (sym h))) (Contains-push_cases (take j row) to b (subst (λ l. Contains l b) taken g))) either))),
      ))
      (same_or_other b to)

  -- it wasn't there: the row has each point once
  pub once_more : IsAdded old mid from (take j row) → EachOnce row → ((b : Node) → Contains (row_of old b) from → ⊥) → ((b : Node) → EachOnce (row_of mid b))
      → (b : Node) → EachOnce (row_of (set mid (number to) (row_of mid to ++ from ∷ [])) b)
  once_more added row_once new once b =
      let short : length (take j row) ≡ j = length-take-le j row (omega arith) in
      let missing : Contains (row_of mid to) from → ⊥ = λ c. ⊎_elim
      (λ o. new to o)
      (λ (f, (k, lt, e)).
      let lower : k < j = omega (arith, lt, short) in
      row_once k j to lower in_row (sym (get_or-take j row k to lower) ∙ e ∙ is ∙ get_or_default row j Exit to in_row))
      ((added from to).0 c) in
      ⊎_elim
      (λ (e : b ≡ to). subst EachOnce (sym (same_row mid to b (row_of mid to ++ from ∷ []) within e)) (once_push (row_of mid to) from (once to) missing))
      (λ (ne : b ≢ to). subst EachOnce (sym (other_row mid to b (row_of mid to ++ from ∷ []) ne)) (once b))
      (same_or_other b to)

-- one point more of a row, by what the code says of it
pub one_added : (mid : List (List Node)) (from to : Node) (k : ℕ) (x r : List Node) → k ≡ number to → k < length mid → x ≡ get_or mid k x → r ≡ x ++ from ∷ []
    → set mid k r ≡ set mid (number to) (row_of mid to ++ from ∷ [])
one_added mid from to k x r at within x_is r_is =
    ap (λ z. set mid k z) (r_is ∙ ap (λ z. z ++ from ∷ []) (get_or_read mid k x within x_is [])) ∙ ap (λ z. set mid z (get_or mid z [] ++ from ∷ [])) at

-- the whole row
pub added_all : (old new : List (List Node)) (from : Node) (row : List Node) (j : ℕ) → length row ≤ j → IsAdded old new from (take j row) → IsAdded old new from row
added_all old new from row j le added = subst (λ l. IsAdded old new from l) (take_all j row le) added

-- ---- all rows

-- what each list has after the lists of the first points were gone through
abbrev pub IsTurned : List (List Node) → List (List Node) → ℕ → Type 0
IsTurned next before i = (a b : Node) → (Contains (row_of before b) a → (number a < i) × Contains (row_of next a) b) × ((number a < i) × Contains (row_of next a) b → Contains (row_of before b) a)

pub empty_row : (n : ℕ) (b : Node) → row_of (replicate n []) b ≡ []
empty_row n b = ⊎_elim (λ lt. get_or-replicate n (number b) [] [] lt) (λ le. get_or_past (replicate n []) (number b) [] (omega (arith, length-replicate {A = List Node} n []))) (cases_lt (number b) n)

pub turned_none : (next : List (List Node)) (n : ℕ) → IsTurned next (replicate n []) 0
turned_none next n a b = (
  (λ c. let d : Contains [] a = subst (λ l. Contains l a) (empty_row n b) c in absurd (omega (arith, d.1))),
  (λ (lt, c). absurd (omega arith)),
)

pub once_none : (n : ℕ) (b : Node) → EachOnce (row_of (replicate n []) b)
once_none n b = subst EachOnce (sym (empty_row n b)) once_nil

-- the list of a point, by what the code says of it
pub read_row : (next : List (List Node)) (i : ℕ) (from : Node) (x y : List Node) → i < length next → x ≡ get_or next i x → y ≡ x → number from ≡ i → y ≡ row_of next from
read_row next i from x y lt is same at = same ∙ get_or_read next i x lt is [] ∙ ap (λ z. get_or next z []) (sym at)

-- the point of the next number is in no list yet
pub turned_new : (next before : List (List Node)) (i : ℕ) (from : Node) → number from ≡ i → IsTurned next before i → (b : Node) → Contains (row_of before b) from → ⊥
turned_new next before i from e t b c = let h = ((t from b).0 c).0 in absurd (omega (arith, h))

pub turned_more : (next before after : List (List Node)) (i : ℕ) (from : Node) → number from ≡ i → IsTurned next before i → IsAdded before after from (row_of next from)
    → IsTurned next after (i + 1)
turned_more next before after i from e t added a b = (
  (λ c. ⊎_elim
      (λ o. let h = (t a b).0 o in (omega (arith, h.0), h.1))
      (λ (f, g). (omega (arith, ap number f), subst (λ z. Contains (row_of next z) b) (sym f) g))
      ((added a b).0 c)),
  (λ (lt, g). (added a b).1 (⊎_elim
      (λ (f : a ≡ from). inr (f, subst (λ z. Contains (row_of next z) b) f g))
      (λ (ne : a ≢ from).
      let other : number a ≢ number from = λ f. ne (number_injective a from f) in
      let lower : number a < i = omega (arith, lt, other) in inl ((t a b).1 (lower, g)))
      (same_or_other a from))),
)

-- a list past the end has nothing
pub turned_all : (next before : List (List Node)) (i : ℕ) → length next ≤ i → IsTurned next before i
    → (a b : Node) → (Contains (row_of before b) a → Contains (row_of next a) b) × (Contains (row_of next a) b → Contains (row_of before b) a)
turned_all next before i le t a b = (
  (λ c. ((t a b).0 c).1),
  (λ c. ⊎_elim
      (λ lt. (t a b).1 (lt, c))
      (λ past. let d : Contains [] b = subst (λ l. Contains l b) (get_or_past next (number a) [] (omega arith)) c in absurd (omega (arith, d.1)))
      (cases_lt (number a) i)),
)
