-- A search for what writes a location goes back at once along instructions that leave the location alone, where each is the only point that leads to the next
-- and leads to that alone.
use Rattle.std.specs.Prelude.{◌≡◌, ℕ, zero, suc, ◌+◌, ◌⊎◌, ◌&&◌, not, nat_eq, nat_lt, Bool, true, false, List, [], Option, Some, None, if◌then◌else◌}
use Rattle.wasm_types.specs.declared.module.Pos.{Pos}
use Rattle.wasm_types.specs.declared.place.Loc.{Loc}
use Rattle.wasm_types.specs.declared.place.Node.{Node}
use Rattle.wasm_types.specs.declared.place.Node.TheVariants as node
use Rattle.wasm_types.specs.Nodes.{At}
use Rattle.wasm_types.specs.Reaching.{Writes}
use Rattle.slice_closure.specs.declared.spot.Came.{Came}
use Rattle.slice_closure.specs.declared.spot.Came.TheVariants.{After}
use Rattle.slice_closure.specs.declared.spot.Spot.{Spot}
use Rattle.slice_closure.specs.declared.spot.Taken.{Taken}
use Rattle.slice_closure.specs.declared.spot.Taken.TheVariants as taken
use Rattle.slice_closure.specs.declared.spot.Touch.{Touch}
use Rattle.slice_closure.specs.declared.spot.Touch.TheVariants as touch
use Rattle.slice_closure.specs.declared.tables.Tables.{Tables}
use Rattle.slice_closure.specs.declared.items.Item.{Item}
use Rattle.slice_closure.specs.declared.items.Item.TheVariants.{Needs}
use Rattle.slice_closure.specs.Flow.{came_to, touch_at, ways_to}
use Rattle.slice_closure.specs.Items.{loc_number}
use Rattle.slice_closure.specs.Next.{spot_in, Touched, written_item, IsBefore, Next}

-- one point alone comes after it
abbrev pub goes_straight : Taken → Bool
goes_straight taken.All = true
goes_straight _ = false

-- it neither reads nor writes the location, or checks it: of a call that isn't told
abbrev pub is_quiet : Touch → Loc → Bool
is_quiet touch.Nothing x = true
is_quiet (touch.Reads y) x = not (nat_eq (loc_number y) (loc_number x))
is_quiet (touch.Writes y) x = not (nat_eq (loc_number y) (loc_number x))
is_quiet (touch.Changes y) x = not (nat_eq (loc_number y) (loc_number x))
is_quiet touch.Loads x = nat_lt 1 (loc_number x)
is_quiet touch.Stores x = nat_lt 1 (loc_number x)
is_quiet (touch.Calls w) x = false

abbrev pub straight_at : Option Spot → Bool
straight_at None = false
straight_at (Some spot) = goes_straight spot.taken

-- by whether one point alone comes after position p, how the walk came there, and what else leads there
abbrev pub back_by : Tables → Loc → ℕ → Bool → Came → List Node → Option Pos
back_by t x p true (After (node.At q)) [] = if nat_lt q.0 p && is_quiet (touch_at (spot_in t q.0)) x then Some q else None
back_by t x p _ _ _ = None

-- the position before p, where the search goes on to that at once
abbrev pub back_at : Tables → Loc → ℕ → Option Pos
back_at t x p = back_by t x p (straight_at (spot_in t p)) (came_to t.flow.now.spots.items (At p)) (ways_to t.flow.now.before.items (At p))

-- on from where it goes, if it goes on
abbrev pub on_from : Option Pos → (ℕ → ℕ) → ℕ → ℕ
on_from (Some q) on p = on q.0
on_from None on p = p

-- where it ends after n steps at most
abbrev pub settled : ℕ → Tables → Loc → ℕ → ℕ
settled zero t x p = p
settled (suc n) t x p = on_from (back_at t x p) (settled n t x) p

-- a position that leaves the location alone is gone back from
abbrev pub back_from : Bool → Tables → Loc → ℕ → ℕ
back_from true t x p = settled (p + 1) t x p
back_from false t x p = p

abbrev pub back : Tables → Loc → Node → Node
back t x (node.At p) = At (back_from (is_quiet (touch_at (spot_in t p.0)) x) t x p.0)
back t x n = n

-- on to a point before the one at which a location is needed: to what that writes, and else to the location as far back as that goes
abbrev pub Lands : Tables → Loc → Node → Item → Type 0
Lands t x b j = (Writes (Touched t) x b × (j ≡ written_item t x b)) ⊎ ((Writes (Touched t) x b → ⊥) × (j ≡ Needs x (back t x b)))

-- from an item
abbrev pub Short : Tables → Item → Item → Type 0
Short t (Needs x a) j = (b : Node) × (IsBefore t a b × Lands t x b j)
Short t i j = Next t i j
