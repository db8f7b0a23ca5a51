use Rattle.std.proofs.Common.{rules, arith}
use Rattle.wassail_top.proofs.Delivering.{front_left, none_left, on_err_any, piece_left}
use Rattle.wassail_top.proofs.deliver.write_rest.Goals as goal

pub returns-then-count-eq0-clause-ok : goal.returns-then-count-eq0-clause-ok
returns-then-count-eq0-clause-ok g c =
    none_left _ _ _ _ c.loop-rest.invariant.done (c.fill-count.ensures.ended c.if-count-eq0.true (omega (arith, c.loop-rest.invariant.long)))

pub returns-in_err-write_all-clause-failed : goal.returns-in_err-write_all-clause-failed
returns-in_err-write_all-clause-failed g c =
    on_err_any c.from_residual.result (front_left _ _ _ _ _ _ _ c.loop-rest.invariant.done c.fill-count.ensures.put c.in_err-write_all.ensures.failed)

pub loop-rest-preserved : goal.loop-rest-preserved
loop-rest-preserved g c =
    record {
      done = piece_left _ _ _ _ _ _ _ c.loop-rest.invariant.done c.fill-count.ensures.put c.in_ok-write_all.ensures.ok;
      later = search rules;
      long = search rules;
    }
