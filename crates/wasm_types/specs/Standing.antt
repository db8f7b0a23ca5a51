-- What stands at a place of a text, and what a reader of it answers.
use Rattle.std.specs.Prelude.{◌≡◌, ℕ, ◌≤◌, List, ◌++◌, length, drop, Option, Some, None}

-- a text of the value stands between the two places
pub record Stands {A : Type 0} (Spelled : List ℕ → A → Type 0) (bytes : List ℕ) (start end : ℕ) (v : A) : Type 0 where
  pub text : List ℕ
  pub spelled : Spelled text v
  pub here : drop start bytes ≡ text ++ drop end bytes
  pub within : end ≤ length bytes

-- no text of any value stands at the place
abbrev pub NoneStands : {A : Type 0} → (List ℕ → A → Type 0) → List ℕ → ℕ → Type 0
NoneStands {A} Spelled bytes start = (text rest : List ℕ) (v : A) → drop start bytes ≡ text ++ rest → Spelled text v → ⊥

-- what a reader answers: the value that stands at the place and the place after it, or none where nothing stands there
abbrev pub Reads : {A : Type 0} → (List ℕ → A → Type 0) → List ℕ → ℕ → Option (A × ℕ) → Type 0
Reads Spelled bytes start (Some found) = Stands Spelled bytes start found.1 found.0
Reads Spelled bytes start None = NoneStands Spelled bytes start
