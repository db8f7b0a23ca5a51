-- What is gone from the rest was given to the sink.
use Rattle.std.proofs.Common.{◌≡◌, ◌≤◌, length}
use Rattle.wassail_top.proofs.Delivering.{GivenSoFar}
use Rattle.report_text.specs.Gaps.{left}
use Rattle.wassail_top.proofs.deliver.write_rest.Given as goal

abbrev pub invariant-loop-rest : goal.invariant-loop-rest
invariant-loop-rest g l =
    record {
      done : GivenSoFar (g.O.Sink.held l.fn.out) (g.O.Sink.held l.out) (left l.fn.rest) (left l.rest);
      later : g.O.Sink.faults l.fn.out ≤ g.O.Sink.faults l.out;
      long : length l.piece ≡ 65536;
    }

abbrev pub decreases-loop-rest : goal.decreases-loop-rest
decreases-loop-rest g l = length (left l.rest)
