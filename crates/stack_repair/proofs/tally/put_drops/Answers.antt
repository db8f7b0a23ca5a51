use Rattle.std.proofs.Common.{◌+◌, arith, ◌∙◌}
use Rattle.stack_repair.proofs.Steps.{drop_more}
use Rattle.stack_repair.proofs.tally.put_drops.Goals as goal

pub loop-preserved : goal.loop-preserved
loop-preserved c = record {
  puts = λ X. drop_more c.args.made.now c.loop.made c.push.new.self c.args.tally.now c.loop.tally c.put.new.self c.loop.counter (c.loop.counter + 1) (omega arith) c.loop.invariant.puts c.in_ok-push.ensures.ok c.put.ensures.place X;
  pos = c.put.ensures.pos ∙ c.loop.invariant.pos;
}
