-- A search backwards stays among the places and the entry.
use Rattle.std.specs.Prelude.{◌≡◌, ℕ, ◌+◌, ◌<◌, List, length}
use Rattle.std.specs.List.{Contains}
use Rattle.std.proofs.Common.{⊎_elim, arith}
use Rattle.std.proofs.lemmas.List.Elements.{All-contains}
use Rattle.wasm_types.specs.declared.place.Loc.{Loc}
use Rattle.wasm_types.specs.declared.place.Node.{Node}
use Rattle.block_cfg.specs.Graph.{Graph, number, row_of}
use Rattle.flow_domain.specs.LocTables.{Rows}
use Rattle.single_entry.specs.declared.skips.Skips.{Skips}
use Rattle.def_use.specs.Places.{point_at, place_of, IsPlaced, AllPlaced, TopsPlaced, Steps, GoesBack}

-- what leads to a point has a place
pub earlier_placed : (g : Graph) (places : List ℕ) → AllPlaced g places → (n a : Node) → Contains (row_of g.before n) a → IsPlaced g places a
earlier_placed g places all n a has = All-contains (IsPlaced g places) (row_of g.before n) a (all (number n)) has

pub steps_stay : (g : Graph) (s : Skips) (places writers : List ℕ) → AllPlaced g places → TopsPlaced g s places writers → (k y : ℕ)
    → Steps g s places writers k y → y < length g.points + 1
steps_stay g s places writers all tops k y steps = ⊎_elim
    (λ (first, is). let e : y ≡ length g.points = is in omega arith)
    (λ (a, (has, (b, (top, is)))).
    let placed = tops a b top (earlier_placed g places all (point_at g.points k) a has) in
    let e : y ≡ place_of places b = is in
    omega (arith, placed.1))
    steps

pub back_stays : (g : Graph) (T : Rows) (s : Skips) (places writers : List ℕ) (x : Loc) → AllPlaced g places → TopsPlaced g s places writers → (k y : ℕ)
    → GoesBack g T s places writers x k y → y < length g.points + 1
back_stays g T s places writers x all tops k y b = steps_stay g s places writers all tops k y b.1.1
