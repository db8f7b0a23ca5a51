use Rattle.called_rows.specs.Whom.{output_of}
use Rattle.func_flow.specs.Next.{Use}
use Rattle.func_flow.proofs.Pushes.{each_more}
use Rattle.func_flow.proofs.search.Flow.push_uses.Goals as goal

pub loop-one-preserved : goal.loop-one-preserved
loop-one-preserved c =
    each_more c.args.self.now.tables.numbering (Use c.args.pos.0 (output_of c.args.made)) c.uses-one-items.result.now
    c.loop-one.one-index _ c.args.next.now.items c.loop-one.next.items c.push_use.new.next.items
    c.loop-one-test.true c.loop-one.invariant c.in_ok-push_use.ensures
