-- How a position is kept in few bytes.
use Rattle.std.specs.Prelude.{ℕ}
use Rattle.wasm_types.specs.declared.place.Loc.{Loc}
use Rattle.wasm_types.specs.declared.place.Loc.TheVariants as loc
use Rattle.wasm_types.specs.declared.place.Node.TheVariants.{Exit}
use Rattle.wasm_types.specs.Nodes.{At, Join}
use Rattle.called_rows.specs.declared.instrs.Whom.TheVariants.{Own, Through}
use Rattle.slice_closure.specs.declared.spot.Came.{Came}
use Rattle.slice_closure.specs.declared.spot.Came.TheVariants as came
use Rattle.slice_closure.specs.declared.spot.Touch.{Touch}
use Rattle.slice_closure.specs.declared.spot.Touch.TheVariants as touch
use Rattle.slice_closure.specs.declared.packed.CameKind.{CameKind}
use Rattle.slice_closure.specs.declared.packed.CameKind.TheVariants as came_kind
use Rattle.slice_closure.specs.declared.packed.LocKind.{LocKind}
use Rattle.slice_closure.specs.declared.packed.LocKind.TheVariants as loc_kind
use Rattle.slice_closure.specs.declared.packed.TouchKind.{TouchKind}
use Rattle.slice_closure.specs.declared.packed.TouchKind.TheVariants as touch_kind

abbrev pub came_back : CameKind → ℕ → Came
came_back came_kind.Never n = came.Never
came_back came_kind.First n = came.First
came_back came_kind.AfterAt n = came.After (At n)
came_back came_kind.AfterJoin n = came.After (Join n)
came_back came_kind.AfterExit n = came.After Exit

abbrev pub loc_back : LocKind → ℕ → Loc
loc_back loc_kind.Mem n = loc.Mem
loc_back loc_kind.Size n = loc.Size
loc_back loc_kind.Host n = loc.Host
loc_back loc_kind.Local n = loc.Local n
loc_back loc_kind.Global n = loc.Global n

abbrev pub touch_back : TouchKind → LocKind → ℕ → Touch
touch_back touch_kind.Nothing l n = touch.Nothing
touch_back touch_kind.Reads l n = touch.Reads (loc_back l n)
touch_back touch_kind.Writes l n = touch.Writes (loc_back l n)
touch_back touch_kind.Changes l n = touch.Changes (loc_back l n)
touch_back touch_kind.Loads l n = touch.Loads
touch_back touch_kind.Stores l n = touch.Stores
touch_back touch_kind.CallsOwn l n = touch.Calls (Own n)
touch_back touch_kind.CallsThrough l n = touch.Calls (Through n)
