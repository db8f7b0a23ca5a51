-- A search among marks of which there may be more than nodes.
use Rattle.std.proofs.Common.{◌≡◌, ℕ, ◌<◌, ◌≤◌, List, [], ◌∷◌, ◌++◌, Bool, false, get_or, subst, ⊎_elim, arith}
use Rattle.std.specs.List.{All, Contains}
use Rattle.std.proofs.lemmas.Bool.{cases_Bool}
use Rattle.std.proofs.lemmas.List.Elements.{All-contains, All-contains_itself, Contains-push}
use Rattle.worklist.specs.Gains.{Gains}
use Rattle.worklist.specs.Reached.{Reached, root, step}
use Rattle.worklist.specs.Search.{IsMarked}
use Rattle.worklist.proofs.Searching.{Searching, none_waits}

-- what isn't marked
pub unmarked : (marks : List Bool) (x : ℕ) → (IsMarked marks x → ⊥) → get_or marks x false ≡ false
unmarked marks x none = ⊎_elim (λ on. absurd (none on)) (λ off. off) (cases_Bool (get_or marks x false))

module _ (Edge : ℕ → ℕ → Type 0) (n : ℕ) (roots : List ℕ) (first : All (λ x. x < n) roots) (stays : (x y : ℕ) → x < n → Edge x y → y < n) where
  reached_below : (x : ℕ) → Reached (Contains roots) Edge x → x < n
  reached_below x (root r) = All-contains (λ y. y < n) roots x first r
  reached_below x (step w h e) = stays w x (reached_below w h) e

  -- the node of a turn
  pub turn_below : (marks : List Bool) (before waiting : List ℕ) (node : ℕ) → before ≡ waiting ++ node ∷ []
      → Searching (Contains roots) Edge marks before → node < n
  turn_below marks before waiting node taken s = reached_below node (s.sound node (s.waits node (rw taken (Contains-push waiting node))))

-- what a node below n leads to
pub next_below : (Edge : ℕ → ℕ → Type 0) (n m node : ℕ) → ((x y : ℕ) → x < n → Edge x y → y < n) → n ≤ m → node < n → (none next list : List ℕ)
    → none ≡ [] → Gains (Edge node) none next → list ≡ next → All (λ y. y < m) list
next_below Edge n m node stays le lt none next list empty gains same k d less =
    let there : Contains next (get_or list k d) = subst (λ zs. Contains zs (get_or list k d)) same (All-contains_itself list k d less) in
    let edge : Edge node (get_or list k d) = ⊎_elim (λ h. absurd (none_waits (get_or list k d) (rw empty at h))) (λ e. e) (gains.only (get_or list k d) there) in
    let below = stays node (get_or list k d) lt edge in
    omega arith
