use Rattle.std.proofs.Common.{◌≡◌, ◌<◌, false, IsTrue, sum, take}
use Rattle.std.specs.List.{Contains}
use Rattle.worklist.specs.Lists.{Has}
use Rattle.call_graph.specs.Rounds.{IsClosed, Spreads}
use Rattle.call_graph.proofs.rounds.give_each.Given as goal

abbrev pub invariant-loop-node : goal.invariant-loop-node
invariant-loop-node l = record {
  rows : l.table.rows ≡ l.initial.table.rows;
  words : l.table.words ≡ l.initial.table.words;
  spreads : Spreads l.initial.table.words (Has l.graph.next.items) l.initial.table.bits.items l.table.bits.items;
  closed : l.grew ≡ false → IsClosed l.initial.table.words (λ y x. Contains (take l.node-index l.order) y × Has l.graph.next.items y x) l.table.bits.items;
  same : l.grew ≡ false → l.table.bits.items ≡ l.initial.table.bits.items;
  rose : IsTrue l.grew → sum l.initial.table.bits.items < sum l.table.bits.items;
}
