-- What short lists, lists that are mapped, and lists that are picked from others contain.
use Rattle.std.proofs.Common.{◌≡◌, ℕ, zero, suc, ◌+◌, ◌<◌, List, [], ◌∷◌, ◌++◌, Option, Some, None, length, get_or, take, map, refl, ap, sym, ◌∙◌, arith, inl, inr, ◌⊎◌, ⊎_elim}
use Rattle.std.specs.List.{Contains, filter_map}
use Rattle.std.proofs.lemmas.List.{take_more, append-nil, append_assoc}
use Rattle.std.proofs.lemmas.List.Elements.{filter_map-append}

pub none_in : {A : Type 0} (x : A) → Contains [] x → ⊥
none_in x (k, lt, is) = omega arith

pub in_later : {A : Type 0} (y x : A) (ys : List A) → Contains ys x → Contains (y ∷ ys) x
in_later y x ys (k, lt, is) = (suc k, omega arith, is)

pub in_first : {A : Type 0} (y x : A) (ys : List A) → y ≡ x → Contains (y ∷ ys) x
in_first y x ys e = (0, omega arith, e)

pub in_split : {A : Type 0} (y x : A) (ys : List A) → Contains (y ∷ ys) x → (y ≡ x) ⊎ Contains ys x
in_split y x ys (zero, lt, is) = inl is
in_split y x ys (suc k, lt, is) = inr (k, omega arith, is)

pub one_in : {A : Type 0} (y x : A) → Contains (y ∷ []) x → x ≡ y
one_in y x h = ⊎_elim (λ e. sym e) (λ k. absurd (none_in x k)) (in_split y x [] h)

pub in_map : {A B : Type 0} (f : A → B) (xs : List A) (x : A) → Contains xs x → Contains (map f xs) (f x)
in_map f [] x h = absurd (none_in x h)
in_map f (y ∷ ys) x h = ⊎_elim
    (λ e. in_first (f y) (f x) (map f ys) (ap f e))
    (λ k. in_later (f y) (f x) (map f ys) (in_map f ys x k))
    (in_split y x ys h)

pub map_in : {A B : Type 0} (f : A → B) (xs : List A) (z : B) → Contains (map f xs) z → (x : A) × (Contains xs x × (f x ≡ z))
map_in f [] z h = absurd (none_in z h)
map_in f (y ∷ ys) z h = ⊎_elim
    (λ e. (y, (in_first y y ys refl, e)))
    (λ k. let r = map_in f ys z k in (r.0, (in_later y r.0 ys r.1.0, r.1.1)))
    (in_split (f y) z (map f ys) h)

-- by what is picked of the first element
first_in : {A B : Type 0} (f : A → Option B) (y x : A) (ys : List A) (z : B) (o : Option B) → f y ≡ o → f x ≡ Some z → (y ≡ x) ⊎ Contains (filter_map f ys) z
    → Contains (filter_map f (y ∷ ys)) z
first_in f y x ys z None e is h = rw e (⊎_elim (λ s. let wrong : None ≡ Some z = sym e ∙ (ap f s ∙ is) in absurd cc) (λ k. k) h)
first_in f y x ys z (Some w) e is h = rw e (⊎_elim
    (λ s. let same : Some w ≡ Some z = sym e ∙ (ap f s ∙ is) in let one : w ≡ z = cc in in_first w z (filter_map f ys) one)
    (λ k. in_later w z (filter_map f ys) k)
    h)

pub in_picked : {A B : Type 0} (f : A → Option B) (xs : List A) (x : A) (z : B) → Contains xs x → f x ≡ Some z → Contains (filter_map f xs) z
in_picked f [] x z h is = absurd (none_in x h)
in_picked f (y ∷ ys) x z h is = first_in f y x ys z (f y) refl is (⊎_elim inl (λ k. inr (in_picked f ys x z k is)) (in_split y x ys h))

first_of : {A B : Type 0} (f : A → Option B) (y : A) (ys : List A) (z : B) (o : Option B) → f y ≡ o → Contains (filter_map f (y ∷ ys)) z
    → (f y ≡ Some z) ⊎ Contains (filter_map f ys) z
first_of f y ys z None e h = inr (rw e at h)
first_of f y ys z (Some w) e h = ⊎_elim (λ s. inl (e ∙ ap Some s)) inr (in_split w z (filter_map f ys) (rw e at h))

pub picked_in : {A B : Type 0} (f : A → Option B) (xs : List A) (z : B) → Contains (filter_map f xs) z → (x : A) × (Contains xs x × (f x ≡ Some z))
picked_in f [] z h = absurd (none_in z h)
picked_in f (y ∷ ys) z h = ⊎_elim
    (λ e. (y, (in_first y y ys refl, e)))
    (λ k. let r = picked_in f ys z k in (r.0, (in_later y r.0 ys r.1.0, r.1.1)))
    (first_of f y ys z (f y) refl h)

-- one element more of a list that is picked from
module _ {A B : Type 0} (f : A → Option B) (xs : List A) (i : ℕ) (x : A) (lt : i < length xs) (here : x ≡ get_or xs i x) (first old : List B)
    (so_far : old ≡ first ++ filter_map f (take i xs)) where
  next : filter_map f (take (i + 1) xs) ≡ filter_map f (take i xs) ++ filter_map f (x ∷ [])
  next = ap (filter_map f) (take_more xs i x lt ∙ ap (λ (y : A). take i xs ++ y ∷ []) (sym here)) ∙ filter_map-append f (take i xs) (x ∷ [])

  pub picked_more : (y : B) (new : List B) → f x ≡ Some y → new ≡ old ++ y ∷ [] → new ≡ first ++ filter_map f (take (i + 1) xs)
  picked_more y new is made =
      let one : filter_map f (x ∷ []) ≡ y ∷ [] = rw is refl in
      made ∙ (ap (λ (ys : List B). ys ++ y ∷ []) so_far ∙ (append_assoc first (filter_map f (take i xs)) (y ∷ [])
      ∙ ap (λ (ys : List B). first ++ ys) (ap (λ (ys : List B). filter_map f (take i xs) ++ ys) (sym one) ∙ sym next)))

  pub picked_skip : f x ≡ None → old ≡ first ++ filter_map f (take (i + 1) xs)
  picked_skip is =
      let none : filter_map f (x ∷ []) ≡ [] = rw is refl in
      so_far ∙ ap (λ (ys : List B). first ++ ys) (sym (next ∙ (ap (λ (ys : List B). filter_map f (take i xs) ++ ys) none ∙ append-nil (filter_map f (take i xs)))))
