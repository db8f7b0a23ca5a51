use Rattle.std.proofs.Common.{arith, ◌<◌}
use Rattle.wasm_types.specs.declared.place.Loc.TheVariants.{Global}
use Rattle.flow_domain.specs.Reach.{MayWrite}
use Rattle.summary_fix.proofs.Starting.{long_pushed, marked_pushed}
use Rattle.summary_fix.proofs.start.written_globals.Goals as goal

pub loop-global-preserved : goal.loop-global-preserved
loop-global-preserved c =
    let marks = c.loop-global.marks.items in
    let n = c.loop-global.global in
    let old = c.loop-global.invariant in
    record {
      long = long_pushed marks c.push_mark.new.marks.items c.writes.result n c.in_ok-push_mark.ensures old.long;
      exact = marked_pushed (λ k. MayWrite c.args.m.now c.args.func (Global k)) marks c.push_mark.new.marks.items c.writes.result n c.in_ok-push_mark.ensures old.long
          old.exact (c.writes.ensures.writes c.args.m.now c.requires);
    }

pub returns-clause-exact : goal.returns-clause-exact
returns-clause-exact c = λ k lt. let past = c.loop-global-test.false in let below : k < c.loop-global.global = omega arith in c.loop-global.invariant.exact k below
