use Rattle.std.proofs.Common.{◌≡◌, length}
use Rattle.func_flow.specs.Runs.{AreStarts}
use Rattle.func_flow.proofs.runs.starts.Given as goal

abbrev pub invariant-loop-pos : goal.invariant-loop-pos
invariant-loop-pos l = record {
  length_is : length l.starts.items ≡ l.pos;
  starts : AreStarts l.tables l.past_calls l.starts.items;
}
