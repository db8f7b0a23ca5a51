use Rattle.std.proofs.Common.{◌≡◌, ◌↔◌, ◌*◌, ◌<◌, ◌≤◌, ℕ, take}
use Rattle.worklist.specs.Bits.{HasBit}
use Rattle.worklist.specs.Roots.{IsRootOf}
use Rattle.call_graph.proofs.rounds.begin.Given as goal

abbrev pub invariant-loop-root : goal.invariant-loop-root
invariant-loop-root l = record {
  rows : l.table.rows ≡ l.rows;
  words : l.labels ≤ l.table.words * 64;
  exact : (x o : ℕ) → o < l.table.words * 64 → HasBit l.table.words l.table.bits.items x o ↔ IsRootOf (take l.root-index l.roots) o x;
}
