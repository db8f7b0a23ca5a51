use Rattle.std.proofs.Common.{arith, ◌<◌}
use Rattle.summary_fix.specs.TwoRuns.{CallsLead}
use Rattle.summary_fix.proofs.Starting.{long_pushed, marked_pushed}
use Rattle.summary_fix.proofs.least.reached_from.Goals as goal

pub loop-func-preserved : goal.loop-func-preserved
loop-func-preserved c =
    let m = c.args.m.now in
    let marks = c.loop-func.marks.items in
    let n = c.loop-func.func in
    let old = c.loop-func.invariant in
    record {
      long = long_pushed marks c.push_mark.new.marks.items c.leads_to.result n c.in_ok-push_mark.ensures old.long;
      exact = marked_pushed (λ f. CallsLead m c.args.root f) marks c.push_mark.new.marks.items c.leads_to.result n c.in_ok-push_mark.ensures old.long old.exact
          c.leads_to.ensures;
    }

pub returns-clause-exact : goal.returns-clause-exact
returns-clause-exact c = λ f fn.
    let past = c.loop-func-test.false in
    let count = c.requires.count in
    let below : f < c.loop-func.func = omega arith in
    c.loop-func.invariant.exact f below
