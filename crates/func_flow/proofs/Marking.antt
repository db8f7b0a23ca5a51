-- Marks by the numbers of nodes.
use Rattle.std.proofs.Common.{◌≡◌, ℕ, ◌+◌, ◌<◌, ◌||◌, List, [], ◌∷◌, ◌++◌, Bool, true, false, take, length, get_or, set, refl, sym, ap, ◌∙◌, inl, inr, arith}
use Rattle.std.proofs.Common.{get_or-set_other, get_or-set_same}
use Rattle.std.proofs.lemmas.Bool.{cases_Bool, cases_eq}
use Rattle.std.proofs.lemmas.List.{take_more}
use Rattle.wasm_types.specs.declared.place.Node.{Node}
use Rattle.wasm_types.specs.Takers.{node_eq, is_among}
use Rattle.block_cfg.specs.Graph.{number}
use Rattle.block_cfg.proofs.MemberLemmas.{number_injective}
use Rattle.slice_closure.proofs.Joined.{same_node, node_itself}

or_true : (b : Bool) → (b || true) ≡ true
or_true true = refl
or_true false = refl

or_false : (b : Bool) → (b || false) ≡ b
or_false true = refl
or_false false = refl

among_push : (n x : Node) (xs : List Node) → is_among n (xs ++ x ∷ []) ≡ (is_among n xs || node_eq n x)
among_push n x [] = elim (cases_Bool (node_eq n x)) [ inl on ↦ rw on refl | inr off ↦ rw off refl ]
among_push n x (y ∷ xs) = elim (cases_Bool (node_eq n y)) [ inl on ↦ rw on refl | inr off ↦ rw off (among_push n x xs) ]

-- one point more is marked
pub mark_more : (points : List Node) (i : ℕ) (d : Node) (N : ℕ) (marks new : List Bool) → i < length points → length marks ≡ N
    → number (get_or points i d) < N → new ≡ set marks (number (get_or points i d)) true
    → ((n : Node) → number n < N → get_or marks (number n) false ≡ is_among n (take i points))
    → (n : Node) → number n < N → get_or new (number n) false ≡ is_among n (take (i + 1) points)
mark_more points i d N marks new lt long fits is so n below =
    let x = get_or points i d in
    let before = take i points in
    let split : is_among n (take (i + 1) points) ≡ (is_among n before || node_eq n x) = ap (is_among n) (take_more points i d lt) ∙ among_push n x before in
    elim (cases_eq (number n) (number x)) [
      | inl e ↦
          let equal : node_eq n x ≡ true = ap (λ z. node_eq z x) (number_injective n x e) ∙ node_itself x in
          let here : number x < length marks = omega arith in
          let marked : get_or (set marks (number x) true) (number n) false ≡ true =
          ap (λ k. get_or (set marks (number x) true) k false) e ∙ get_or-set_same marks (number x) true false here in
          (ap (λ l. get_or l (number n) false) is ∙ marked) ∙ sym (split ∙ (ap (λ b. is_among n before || b) equal ∙ or_true (is_among n before)))
      | inr ne ↦
          let apart : node_eq n x ≡ false = elim (cases_Bool (node_eq n x)) [ inl on ↦ absurd (ne (ap number (same_node n x on))) | inr differs ↦ differs ] in
          let other = get_or-set_other marks (number x) (number n) true false ne in
          (ap (λ l. get_or l (number n) false) is ∙ (other ∙ so n below)) ∙ sym (split ∙ (ap (λ b. is_among n before || b) apart ∙ or_false (is_among n before)))
    ]
