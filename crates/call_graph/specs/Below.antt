-- Lists of classes.
use Rattle.std.specs.Prelude.{◌≡◌, ℕ, ◌<◌, List, Option, Some, slice_get}

-- each class is below n
abbrev pub AllBelow : ℕ → List (Option ℕ) → Type 0
AllBelow n classes = (k c : ℕ) → slice_get classes k ≡ Some (Some c) → c < n
