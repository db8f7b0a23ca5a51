use Rattle.single_entry.proofs.Climbing.{far_step, near_step, no_step}
use Rattle.single_entry.proofs.skips.Skips.step.Goals as goal

pub returns-then-is_quiet : goal.returns-then-is_quiet
returns-then-is_quiet c =
    let known = c.in_ok-hop.ensures in
    far_step c.args.self.now c.args.writers.now c.args.point c.in_ok-hop.hop known.is known.holds c.point_of_number.result c.point_of_number.ensures
    (c.is_quiet.ensures.0 c.if-is_quiet.true)

pub returns-then-is_quiet-2 : goal.returns-then-is_quiet-2
returns-then-is_quiet-2 c =
    let known = c.in_ok-hop.ensures in
    near_step c.args.self.now c.args.writers.now c.args.point c.in_ok-hop.hop known.is known.holds c.point_of_number-then-is_quiet-2.result
    c.point_of_number-then-is_quiet-2.ensures (c.is_quiet-2.ensures.0 c.if-is_quiet-2.true)

pub returns : goal.returns
returns c =
    let known = c.in_ok-hop.ensures in
    no_step c.args.self.now c.args.writers.now c.args.point c.in_ok-hop.hop known.is known.holds
    (λ quiet. let is = c.is_quiet-2.ensures.1 quiet in let not = c.if-is_quiet-2.false in absurd cc)
