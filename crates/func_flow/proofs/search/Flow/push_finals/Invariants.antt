use Rattle.func_flow.specs.Next.{FromBelow, FirstFinal}
use Rattle.func_flow.specs.Roots.{Adds, Begins}
use Rattle.func_flow.proofs.search.Flow.push_finals.Given as goal

abbrev pub invariant-loop-index : goal.invariant-loop-index
invariant-loop-index l =
    Adds (Begins l.self.tables.numbering (λ label. FromBelow l.index (FirstFinal l.self.tables label))) l.initial.roots.items l.roots.items
