use Rattle.std.proofs.Common.{◌∙◌, ap, arith}
use Rattle.stack_repair.specs.Told.{count_present, told}
use Rattle.stack_repair.proofs.Steps.{leaves_out}
use Rattle.stack_repair.proofs.cutting.leave_out.Goals as goal

pub returns-clause-puts : goal.returns-clause-puts
returns-clause-puts c = λ rest.
    leaves_out (told c.args.plan.now) c.args.left c.args.instr.now rest c.args.tally.now.pos c.put_zero.new.tally.pos c.count_present-count.result c.filled.result c.goes_on.result
    c.args.made.now c.put_drops.new.made c.put_zero.new.made c.args.tally.now c.put_drops.new.tally c.put_zero.new.tally
    c.requires.unkept (omega (arith, c.put_zero.ensures.pos, c.put_drops.ensures.pos, c.count_in.ensures))
    (c.count_present-count.ensures ∙ ap (count_present (told c.args.plan.now)) c.dropped.ensures) c.filled.ensures c.goes_on.ensures
    c.in_ok-put_drops.ensures.puts c.in_ok-put_zero.ensures.puts
