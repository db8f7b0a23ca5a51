-- The state of a search: which nodes were met, and which of them still wait.
use Rattle.std.specs.Prelude.{◌≡◌, ◌≢◌, ℕ, ◌+◌, ◌*◌, ◌≤◌, List, Bool, true, false, not, length, slice_index_or, count_by, ◌⊎◌}
use Rattle.std.specs.List.{AllPairs, Contains}

abbrev pub IsMarked : List Bool → ℕ → Type 0
IsMarked marks x = slice_index_or marks x false ≡ true

-- no node is marked
abbrev pub IsClear : List Bool → Type 0
IsClear marks = (x : ℕ) → slice_index_or marks x false ≡ false

-- the marked nodes as a list, each once
pub record Lists (marks : List Bool) (met : List ℕ) : Type 0 where
  pub marked : (x : ℕ) → IsMarked marks x → Contains met x
  pub only : (x : ℕ) → Contains met x → IsMarked marks x
  pub once : AllPairs (λ x y. x ≢ y) met

-- what is left to do: each node that isn't marked may wait once
abbrev pub work_left : List Bool → List ℕ → ℕ
work_left marks waiting = 2 * count_by not marks + length waiting

-- each node of P is marked, those that weren't wait, and nothing else changed
pub record Meets (P : ℕ → Type 0) (marks marks' : List Bool) (waiting waiting' : List ℕ) : Type 0 where
  pub length_is : length marks' ≡ length marks
  pub kept : (x : ℕ) → IsMarked marks x → IsMarked marks' x
  pub all : (x : ℕ) → P x → IsMarked marks' x
  pub only : (x : ℕ) → IsMarked marks' x → IsMarked marks x ⊎ (P x × Contains waiting' x)
  pub waits : (x : ℕ) → Contains waiting x → Contains waiting' x
  pub waits_only : (x : ℕ) → Contains waiting' x → Contains waiting x ⊎ P x
  pub less : work_left marks' waiting' ≤ work_left marks waiting
