use Rattle.std.proofs.Common.{◌≡◌, take}
use Rattle.std.specs.List.{Contains}
use Rattle.wasm_types.specs.declared.place.Node.{Node}
use Rattle.worklist.specs.Gains.{Gains}
use Rattle.single_entry.specs.Climbs.{Tops}
use Rattle.def_use.specs.Places.{place_of}
use Rattle.def_use.proofs.back.Back.push_earlier.Given as goal

abbrev pub invariant-loop-earlier : goal.invariant-loop-earlier
invariant-loop-earlier l =
    Gains (λ y. (a : Node) × (Contains (take l.earlier-index l.earlier-items) a ×
    ((b : Node) × (Tops l.self.skips.now l.self.writers.now a b × (y ≡ place_of l.self.places.now b))))) l.initial.next.items l.next.items
