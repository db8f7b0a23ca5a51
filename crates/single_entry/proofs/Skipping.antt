-- A search that jumps, from each node that it comes to, to one further on reaches the same as one that goes by edges, but for what stands between.
use Rattle.std.proofs.Common.{◌≡◌, sym, subst, inl, inr, ◌⊎◌, ⊎_elim}
use Rattle.worklist.specs.Reached.{Reached, root, step}

-- where nodes jump to, and what stands between
module _ {A : Type 0} (Root : A → Type 0) (Edge Jump : A → A → Type 0) where
  -- the roots and edges of the search that jumps
  abbrev pub Roots : A → Type 0
  Roots j = (k : A) × (Root k × Jump k j)

  abbrev pub Short : A → A → Type 0
  Short i j = (k : A) × (Edge i k × Jump k j)

  pub reached_on : (k y : A) → Reached Root Edge k → Reached (λ i. i ≡ k) Edge y → Reached Root Edge y
  reached_on k y h (root e) = subst (λ i. Reached Root Edge i) (sym e) h
  reached_on k y h (step w r e) = step w (reached_on k w h r) e

  module _ (leads : (k j : A) → Jump k j → Reached (λ i. i ≡ k) Edge j) where
    pub skipping_sound : (y : A) → Reached Roots Short y → Reached Root Edge y
    skipping_sound y (root (k, (r, jump))) = reached_on k y (root r) (leads k y jump)
    skipping_sound y (step w h (k, (e, jump))) = reached_on k y (step w (skipping_sound w h) e) (leads k y jump)

  module _ (Inside : A → A → A → Type 0) (jumps : (k : A) → Reached Root Edge k → (j : A) × Jump k j)
      (begins : (k j : A) → Jump k j → (k ≡ j) ⊎ Inside k j k)
      (stays : (k j c d : A) → Jump k j → Inside k j c → Edge c d → Inside k j d ⊎ (d ≡ j)) where
    -- it stands inside a jump of that search
    abbrev pub Between : A → Type 0
    Between y = (k : A) × ((j : A) × (Jump k j × (Reached Roots Short j × Inside k j y)))

    jumped : (k j : A) → Jump k j → Reached Roots Short j → Reached Roots Short k ⊎ Between k
    jumped k j jump h = ⊎_elim (λ e. inl (subst (λ i. Reached Roots Short i) (sym e) h)) (λ inside. inr (k, (j, (jump, (h, inside))))) (begins k j jump)

    pub skipping_complete : (y : A) → Reached Root Edge y → Reached Roots Short y ⊎ Between y
    skipping_complete y (root r) = let (j, jump) = jumps y (root r) in jumped y j jump (root (y, (r, jump)))
    skipping_complete y (step w h e) = ⊎_elim
        (λ short. let (j, jump) = jumps y (step w h e) in jumped y j jump (step w short (y, (e, jump))))
        (λ (k, (j, (jump, (reached, inside)))). ⊎_elim
        (λ more. inr (k, (j, (jump, (reached, more)))))
        (λ is. inl (subst (λ i. Reached Roots Short i) (sym is) reached))
        (stays k j w y jump inside e))
        (skipping_complete w h)
