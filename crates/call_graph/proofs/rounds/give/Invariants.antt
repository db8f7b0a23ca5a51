use Rattle.std.proofs.Common.{◌≡◌, ◌<◌, false, IsTrue, sum, take}
use Rattle.std.specs.List.{Contains}
use Rattle.call_graph.specs.Rounds.{IsClosed, Spreads}
use Rattle.call_graph.proofs.rounds.give.Given as goal

abbrev pub invariant-loop-other : goal.invariant-loop-other
invariant-loop-other l = record {
  rows : l.table.rows ≡ l.initial.table.rows;
  words : l.table.words ≡ l.initial.table.words;
  spreads : Spreads l.initial.table.words (λ y x. (y ≡ l.node) × Contains l.others x) l.initial.table.bits.items l.table.bits.items;
  closed : l.grew ≡ false → IsClosed l.initial.table.words (λ y x. (y ≡ l.node) × Contains (take l.other-index l.others) x) l.table.bits.items;
  same : l.grew ≡ false → l.table.bits.items ≡ l.initial.table.bits.items;
  rose : IsTrue l.grew → sum l.initial.table.bits.items < sum l.table.bits.items;
}
