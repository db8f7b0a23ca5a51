-- Targets that are marked as they are added.
use Rattle.std.proofs.Common.{◌≡◌, ◌≢◌, ℕ, ◌+◌, ◌-◌, ◌<◌, ◌≤◌, ◌⊎◌, inl, inr, ⊎_elim, Bool, true, false, List, [], ◌∷◌, ◌++◌, length, get_or, set, take, map, reverse, sym, ap, ◌∙◌, subst, arith}
use Rattle.std.specs.List.{Contains}
use Rattle.std.proofs.lemmas.Bool.{cases_eq, cases_lt, false≢true}
use Rattle.std.proofs.lemmas.List.{get_or-set_same, get_or-set_other, length-set, take_more, take_all, map_push, get_or-reverse}
use Rattle.std.proofs.lemmas.List.Elements.{Contains-append_left, Contains-push, Contains-push_cases}
use Rattle.wasm_types.specs.declared.place.Node.{Node}
use Rattle.wasm_types.specs.declared.place.Node.TheVariants.{Exit}
use Rattle.block_cfg.specs.Graph.{EachOnce}
use Rattle.block_cfg.specs.Walk.{Marks, SameOnce, target_of}
use Rattle.block_cfg.proofs.MemberLemmas.{once_push}

-- a label by its place among the labels, the outermost first
pub target_place : (labels : List Node) (l : ℕ) → l < length labels → target_of (reverse labels) l ≡ get_or labels (length labels - 1 - l) Exit
target_place labels l lt = get_or-reverse labels l Exit lt

-- two labels at different places are two points
places_differ : (labels : List Node) (j k : ℕ) → EachOnce labels → j < length labels → k < length labels → j ≢ k → get_or labels k Exit ≢ get_or labels j Exit
places_differ labels j k once in_j in_k ne =
    ⊎_elim (λ lt e. once j k Exit lt in_k (sym e)) (λ le e. let lt : k < j = omega arith in once k j Exit lt in_j e) (cases_lt j k)

one_marked : (labels : List Node) (marks : List Bool) (row : List Node) (k : ℕ) → k < length labels → EachOnce labels → Marks labels marks row
    → get_or marks k false ≡ false → Marks labels (set marks k true) (row ++ get_or labels k Exit ∷ [])
one_marked labels marks row k in_k once m off =
    let k_in : k < length marks = omega (arith, m.same) in
    record {
      same = length-set marks k true ∙ m.same;
      in_row = λ j in_j on. ⊎_elim
          (λ (e : j ≡ k). subst (λ z. Contains (row ++ get_or labels k Exit ∷ []) (get_or labels z Exit)) (sym e) (Contains-push row (get_or labels k Exit)))
          (λ (ne : j ≢ k). Contains-append_left row (get_or labels k Exit ∷ []) (get_or labels j Exit) (m.in_row j in_j (sym (get_or-set_other marks k j true false ne) ∙ on)))
          (cases_eq j k);
      seen = λ j in_j there. ⊎_elim
          (λ (e : j ≡ k). ap (λ z. get_or (set marks k true) z false) e ∙ get_or-set_same marks k true false k_in)
          (λ (ne : j ≢ k). get_or-set_other marks k j true false ne ∙ ⊎_elim
          (λ c. m.seen j in_j c)
          (λ e. absurd (places_differ labels j k once in_j in_k ne e))
          (Contains-push_cases row (get_or labels k Exit) (get_or labels j Exit) there))
          (cases_eq j k);
      once = once_push row (get_or labels k Exit) m.once (λ c. false≢true (sym off ∙ m.seen k in_k c));
    }

pub one_more_mark : (labels : List Node) (marks : List Bool) (row row' : List Node) (k : ℕ) (x : Node) → k < length labels → EachOnce labels → Marks labels marks row
    → get_or marks k false ≡ false → x ≡ get_or labels k Exit → row' ≡ row ++ x ∷ [] → Marks labels (set marks k true) row'
one_more_mark labels marks row row' k x in_k once m off is e =
    subst (λ z. Marks labels (set marks k true) z) (sym (e ∙ ap (λ (z : Node). row ++ z ∷ []) is)) (one_marked labels marks row k in_k once m off)

abbrev pub HasMore : List Node → List Node → Node → Type 0
HasMore row row' x = (n : Node) → (Contains row' n → Contains row n ⊎ (n ≡ x)) × (Contains row n ⊎ (n ≡ x) → Contains row' n)

pub one_more : (row row' : List Node) (x : Node) → row' ≡ row ++ x ∷ [] → HasMore row row' x
one_more row row' x e n = (
  (λ c. ⊎_elim (λ a. inl a) (λ b. inr (sym b)) (Contains-push_cases row x n (subst (λ z. Contains z n) e c))),
  (λ either. subst (λ z. Contains z n) (sym e) (⊎_elim (λ a. Contains-append_left row (x ∷ []) n a) (λ b. subst (λ z. Contains (row ++ x ∷ []) z) (sym b) (Contains-push row x)) either)),
)

-- one label more of a table
pub table_more : (f : ℕ → Node) (row row' : List Node) (some : List ℕ) (i other : ℕ) → i < length some
    → ((n : Node) → (Contains row n → Contains (map f (other ∷ take i some)) n) × (Contains (map f (other ∷ take i some)) n → Contains row n))
    → HasMore row row' (f (get_or some i 0))
    → (n : Node) → (Contains row' n → Contains (map f (other ∷ take (i + 1) some)) n) × (Contains (map f (other ∷ take (i + 1) some)) n → Contains row' n)
table_more f row row' some i other lt so_far more n =
    let x = get_or some i 0 in
    let parts : take (i + 1) some ≡ take i some ++ x ∷ [] = take_more some i 0 lt in
    let e : map f (other ∷ take (i + 1) some) ≡ map f (other ∷ take i some) ++ f x ∷ [] = ap (λ l. map f (other ∷ l)) parts ∙ map_push f (other ∷ take i some) x in
    let both = one_more (map f (other ∷ take i some)) (map f (other ∷ take (i + 1) some)) (f x) e n in (
      (λ c. both.1 (⊎_elim (λ a. inl ((so_far n).0 a)) (λ b. inr b) ((more n).0 c))),
      (λ c. (more n).1 (⊎_elim (λ a. inl ((so_far n).1 a)) (λ b. inr b) (both.0 c))),
    )

-- the whole table
pub table_all : (f : ℕ → Node) (row : List Node) (some : List ℕ) (i other : ℕ) → length some ≤ i
    → ((n : Node) → (Contains row n → Contains (map f (other ∷ take i some)) n) × (Contains (map f (other ∷ take i some)) n → Contains row n))
    → EachOnce row → SameOnce row (map f (other ∷ some))
table_all f row some i other le so_far once =
    (subst (λ l. (n : Node) → (Contains row n → Contains (map f (other ∷ l)) n) × (Contains (map f (other ∷ l)) n → Contains row n)) (take_all i some le) so_far, once)

-- nothing marked so far
pub no_marks : (labels : List Node) (marks : List Bool) → length marks ≡ length labels → ((k : ℕ) → get_or marks k false ≡ false) → Marks labels marks []
no_marks labels marks same off = record {
  same = same;
  in_row = λ k lt on. absurd (false≢true (sym (off k) ∙ on));
  seen = λ k lt c. absurd (omega (arith, c.1));
  once = λ i j d lt in_nil. absurd (omega arith);
}

-- the label that is always there
pub table_begin : (f : ℕ → Node) (none row : List Node) (other : ℕ) → none ≡ [] → HasMore none row (f other)
    → (n : Node) → (Contains row n → Contains (map f (other ∷ [])) n) × (Contains (map f (other ∷ [])) n → Contains row n)
table_begin f none row other e more n =
    let begun : HasMore [] row (f other) = subst (λ z. HasMore z row (f other)) e more in (
      (λ c. ⊎_elim (λ a. absurd (omega (arith, a.1))) (λ b. subst (λ z. Contains (f other ∷ []) z) (sym b) (Contains-push [] (f other))) ((begun n).0 c)),
      (λ c. (begun n).1 (⊎_elim (λ a. inl a) (λ b. inr (sym b)) (Contains-push_cases [] (f other) n c))),
    )
