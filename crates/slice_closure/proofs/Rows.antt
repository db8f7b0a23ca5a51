-- Points in rows by the numbers of the points that they lead to.
use Rattle.std.proofs.Common.{◌≡◌, ◌≢◌, ℕ, zero, suc, ◌+◌, ◌<◌, ◌≤◌, List, [], ◌∷◌, ◌++◌, Vec, Global, length, get_or, set, take, refl, sym, ap, ◌∙◌, subst, inl, inr, ⊎_elim, arith}
use Rattle.std.specs.Prelude.{slice_get}
use Rattle.std.specs.List.{Contains}
use Rattle.std.proofs.lemmas.Bool.{cases_eq}
use Rattle.std.proofs.lemmas.List.{take_more, take_all}
use Rattle.std.proofs.lemmas.Option.{slice_get_read}
use Rattle.std.proofs.lemmas.List.Elements.{Contains-push, Contains-push_cases, Contains-append_left}
use Rattle.wasm_types.specs.declared.place.Node.{Node}
use Rattle.block_cfg.specs.Graph.{number}
use Rattle.block_cfg.proofs.MemberLemmas.{number_injective}
use Rattle.slice_closure.specs.Flow.{Way, items_of, ways_to, AreRows}

abbrev pub row_at : List (Vec Node Global) → ℕ → List Node
row_at rows n = items_of (slice_get rows n)

pub row_pushed : (rows : List (Vec Node Global)) (r : Vec Node Global) → r.items ≡ [] → (n : ℕ) → row_at (rows ++ r ∷ []) n ≡ row_at rows n
row_pushed [] r empty zero = empty
row_pushed [] r empty (suc n) = refl
row_pushed (q ∷ rows) r empty zero = refl
row_pushed (q ∷ rows) r empty (suc n) = row_pushed rows r empty n

pub row_set : (rows : List (Vec Node Global)) (k : ℕ) (new : Vec Node Global) → k < length rows → row_at (set rows k new) k ≡ new.items
row_set [] k new lt = absurd (omega arith)
row_set (r ∷ rows) zero new lt = refl
row_set (r ∷ rows) (suc k) new lt = row_set rows k new (omega arith)

pub row_apart : (rows : List (Vec Node Global)) (k n : ℕ) (new : Vec Node Global) → n ≢ k → row_at (set rows k new) n ≡ row_at rows n
row_apart [] k n new ne = refl
row_apart (r ∷ rows) zero zero new ne = absurd (ne refl)
row_apart (r ∷ rows) zero (suc n) new ne = refl
row_apart (r ∷ rows) (suc k) zero new ne = refl
row_apart (r ∷ rows) (suc k) (suc n) new ne = row_apart rows k n new (λ e. ne (omega arith))

pub row_here : (rows : List (Vec Node Global)) (k : ℕ) (row : Vec Node Global) → k < length rows → row ≡ get_or rows k row → row_at rows k ≡ row.items
row_here rows k row lt is = ap items_of (slice_get_read rows (length rows) k row refl lt is)

-- no way, and one more
pub rows_none : (rows : List (Vec Node Global)) → rows ≡ [] → AreRows [] rows
rows_none rows empty b a = (
  λ (k, lt, is). absurd (let e : ways_to rows b ≡ [] = ap (λ rs. ways_to rs b) empty in omega (arith, ap length e)),
  λ (k, lt, is). absurd (omega arith),
)

pub rows_more : (ways : List Way) (i : ℕ) (d : Way) (old new : List (Vec Node Global)) → i < length ways → AreRows (take i ways) old
    → ways_to new (get_or ways i d).0 ≡ ways_to old (get_or ways i d).0 ++ (get_or ways i d).1 ∷ []
    → ((n : Node) → number n ≢ number (get_or ways i d).0 → ways_to new n ≡ ways_to old n) → AreRows (take (i + 1) ways) new
rows_more ways i d old new lt made here others b a =
    let w = get_or ways i d in
    let front = take i ways in
    let more : take (i + 1) ways ≡ front ++ w ∷ [] = take_more ways i d lt in (
      λ has. elim (cases_eq (number b) (number w.0)) [
        | inl e ↦
            let same : b ≡ w.0 = number_injective b w.0 e in
            let at : Contains (ways_to old w.0 ++ w.1 ∷ []) a = subst (λ zs. Contains zs a) (ap (ways_to new) same ∙ here) has in
            ⊎_elim
            (λ was. subst (λ zs. Contains zs (b, a)) (sym more) (Contains-append_left front (w ∷ []) (b, a) ((made b a).0
            (subst (λ z. Contains (ways_to old z) a) (sym same) was))))
            (λ is.
            let pair : w ≡ (b, a) = both w b a same is in
            subst (λ zs. Contains zs (b, a)) (sym more) (subst (λ (z : Way). Contains (front ++ w ∷ []) z) pair (Contains-push front w)))
            (Contains-push_cases (ways_to old w.0) w.1 a at)
        | inr ne ↦
            subst (λ zs. Contains zs (b, a)) (sym more) (Contains-append_left front (w ∷ []) (b, a) ((made b a).0
            (subst (λ zs. Contains zs a) (others b ne) has)))
      ],
      λ has. ⊎_elim
          (λ was.
          let there = (made b a).1 was in
          elim (cases_eq (number b) (number w.0)) [
            | inl e ↦
                let same : b ≡ w.0 = number_injective b w.0 e in
                subst (λ zs. Contains zs a) (sym (ap (ways_to new) same ∙ here)) (Contains-append_left (ways_to old w.0) (w.1 ∷ []) a
                (subst (λ z. Contains (ways_to old z) a) same there))
            | inr ne ↦ subst (λ zs. Contains zs a) (sym (others b ne)) there
          ])
          (λ is.
          let to : w.0 ≡ b = ap (λ (z : Way). z.0) is in
          let from : w.1 ≡ a = ap (λ (z : Way). z.1) is in
          subst (λ zs. Contains zs a) (sym (ap (ways_to new) (sym to) ∙ here)) (subst (λ z. Contains (ways_to old w.0 ++ w.1 ∷ []) z) from
          (Contains-push (ways_to old w.0) w.1)))
          (Contains-push_cases front w (b, a) (subst (λ zs. Contains zs (b, a)) more has)),
    )
  where
    both : (w : Way) (b a : Node) → b ≡ w.0 → w.1 ≡ a → w ≡ (b, a)
    both (x, y) b a e f = let g : x ≡ b = sym e in ap (λ (z : Node). (z, y)) g ∙ ap (λ (z : Node). (b, z)) f

pub rows_all : (ways whole : List Way) (i : ℕ) (rows : List (Vec Node Global)) → length ways ≤ i → ways ≡ whole → AreRows (take i ways) rows
    → AreRows whole rows
rows_all ways whole i rows le same made = subst (λ zs. AreRows zs rows) (take_all i ways le ∙ same) made
