use Rattle.single_entry.proofs.Meeting.{met_before, last_comes}
use Rattle.single_entry.proofs.reached.meet_all.Goals as goal

pub meet_next-requires-clause-point : goal.meet_next-requires-clause-point
meet_next-requires-clause-point c =
    last_comes c.args.cfg.now c.loop.marks.items c.loop.waiting.items c.pop.new.self.items c.in-Some.point c.in-Some.ensures.items c.loop.invariant

pub meet_next-requires-clause-met : goal.meet_next-requires-clause-met
meet_next-requires-clause-met c =
    met_before c.args.cfg.now c.loop.marks.items c.loop.waiting.items c.pop.new.self.items c.in-Some.point c.in-Some.ensures.items c.loop.invariant
