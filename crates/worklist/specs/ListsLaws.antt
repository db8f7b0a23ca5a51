-- What a table's lists have is below their bound.
use Rattle.std.specs.Prelude.{◌≡◌, ℕ, ◌<◌, List, Some, slice_get, Vec}
use Rattle.std.proofs.Common.{subst}
use Rattle.std.specs.Global.{Global}
use Rattle.std.specs.List.{All}
use Rattle.std.proofs.lemmas.Option.{get_or_from_slice_get, slice_get_within}
use Rattle.std.proofs.lemmas.List.Elements.{All-contains}
use Rattle.worklist.specs.Lists.{Has, RowsBelow}

row_below : (n : ℕ) (table : List (Vec ℕ Global)) → RowsBelow n table → (x : ℕ) (row : Vec ℕ Global) → slice_get table x ≡ Some row
    → All (λ y. y < n) row.items
row_below n table below x row is =
    subst (λ (r : Vec ℕ Global). All (λ y. y < n) r.items) (get_or_from_slice_get table x row row is) (below x row (slice_get_within table x row is))

pub has_below : (n : ℕ) (table : List (Vec ℕ Global)) → RowsBelow n table → (x y : ℕ) → Has table x y → y < n
has_below n table below x y h = All-contains (λ z. z < n) h.0.items y (row_below n table below x h.0 h.1.0) h.1.1
