-- Locations as labels, and where they begin.
use Rattle.std.specs.Prelude.{ℕ, ◌+◌, Option, Some, None}
use Rattle.std.specs.Option.{option_map}
use Rattle.wasm_types.specs.declared.place.Loc.{Loc}
use Rattle.wasm_types.specs.declared.place.Loc.TheVariants as loc
use Rattle.worklist.specs.declared.labels.Root.{Root}
use Rattle.call_graph.specs.declared.deeds.Deed.{Deed}
use Rattle.call_graph.specs.declared.deeds.Deed.TheVariants.{Touches, Writes}
use Rattle.call_graph.specs.declared.acts.Act.{Act}

-- the number of a location: none of a local
abbrev pub label_of : Loc → Option ℕ
label_of (loc.Local k) = None
label_of loc.Mem = Some 0
label_of loc.Size = Some 1
label_of loc.Host = Some 2
label_of (loc.Global k) = Some (k + 3)

abbrev pub root_at : ℕ → Option ℕ → Option Root
root_at f label = option_map (λ (o : ℕ). record { label = o; node = f }) label

abbrev pub touch_by : ℕ → Deed → Option Root
touch_by f (Touches x) = root_at f (label_of x)
touch_by f _ = None

abbrev pub write_by : ℕ → Deed → Option Root
write_by f (Writes x) = root_at f (label_of x)
write_by f _ = None

-- where a location begins that is touched, and one that is written
abbrev pub touch_root : Act → Option Root
touch_root a = touch_by a.func a.deed

abbrev pub write_root : Act → Option Root
write_root a = write_by a.func a.deed
