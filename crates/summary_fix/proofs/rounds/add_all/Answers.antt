use Rattle.std.proofs.Common.{◌≡◌, arith, inl, inr}
use Rattle.summary_fix.proofs.Marking.{grows_then, not_on, nothing_apart}
use Rattle.summary_fix.proofs.rounds.add_all.Goals as goal

pub returns-then-not-grew-clause-full : goal.returns-then-not-grew-clause-full
returns-then-not-grew-clause-full c =
    c.in_ok-grew.ensures.full (nothing_apart c.args.m.now c.in_ok-grew.grew c.args.func c.args.func (not_on c.in_ok-grew.grew.rows c.if-not-grew.true) c.in_ok-grew.ensures.within)

pub returns-then-not-grew-clause-others : goal.returns-then-not-grew-clause-others
returns-then-not-grew-clause-others c = λ f full number every.
    c.in_ok-grew.ensures.others f (c.loop-grew.invariant.others f full number every)
    (nothing_apart c.args.m.now c.in_ok-grew.grew f c.args.func (not_on c.in_ok-grew.grew.rows c.if-not-grew.true) c.in_ok-grew.ensures.within)

pub loop-grew-preserved : goal.loop-grew-preserved
loop-grew-preserved c = record {
  sound = c.in_ok-grew.ensures.sound;
  targets = c.in_ok-grew.ensures.targets;
  others = λ f full number every.
      let both = c.any-wide.ensures in
      c.in_ok-grew.ensures.others f (c.loop-grew.invariant.others f full number (λ on. every (both.1 (inl on)))) (λ on. number, λ on. every (both.1 (inr on)));
  room = let one = c.in_ok-grew.ensures.room in let so_far = c.loop-grew.invariant.room in omega arith;
  only = grows_then (λ f. f ≡ c.args.func) c.args.table.now c.loop-grew.table c.add_rows.new.table c.loop-grew.invariant.only c.in_ok-grew.ensures.only;
}

pub returns-then-not-grew-clause-only : goal.returns-then-not-grew-clause-only
returns-then-not-grew-clause-only c =
    grows_then (λ f. f ≡ c.args.func) c.args.table.now c.loop-grew.table c.add_rows.new.table c.loop-grew.invariant.only c.in_ok-grew.ensures.only
