use Rattle.std.proofs.Common.{◌≡◌, take}
use Rattle.func_flow.specs.Next.{FromEach, Stop}
use Rattle.func_flow.specs.Roots.{Adds, Begins}
use Rattle.func_flow.proofs.search.Flow.push_stops.Given as goal

abbrev pub invariant-loop-point : goal.invariant-loop-point
invariant-loop-point l =
    Adds (Begins l.self.tables.numbering (λ label j. (label ≡ 0) × FromEach (take l.point-index l.point-items) (Stop l.self.tables) j)) l.initial.roots.items
    l.roots.items
