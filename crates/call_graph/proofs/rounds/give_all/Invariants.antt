use Rattle.std.proofs.Common.{◌≡◌, ◌-◌, ◌*◌, ◌^◌, length, sum}
use Rattle.worklist.specs.Lists.{Has}
use Rattle.call_graph.specs.Rounds.{Spreads}
use Rattle.call_graph.proofs.rounds.give_all.Given as goal

abbrev pub invariant-loop-grew : goal.invariant-loop-grew
invariant-loop-grew l = record {
  rows : l.table.rows ≡ l.initial.table.rows;
  words : l.table.words ≡ l.initial.table.words;
  spreads : Spreads l.initial.table.words (Has l.graph.next.items) l.initial.table.bits.items l.table.bits.items;
}

abbrev pub decreases-loop-grew : goal.decreases-loop-grew
decreases-loop-grew l = length l.table.bits.items * 2 ^ 64 - sum l.table.bits.items
