use Rattle.called_rows.specs.Whom.{output_of}
use Rattle.func_flow.specs.Next.{ArgumentAt}
use Rattle.func_flow.proofs.Pushes.{below_start, below_next}
use Rattle.func_flow.proofs.search.Flow.push_arguments.Goals as goal

pub loop-index-init : goal.loop-index-init
loop-index-init c =
    below_start c.args.self.now.tables.numbering (ArgumentAt c.args.self.now.tables c.args.places.now (output_of c.args.made) c.args.whom) c.args.next.now.items

pub loop-index-preserved : goal.loop-index-preserved
loop-index-preserved c =
    below_next c.args.self.now.tables.numbering (ArgumentAt c.args.self.now.tables c.args.places.now (output_of c.args.made) c.args.whom) c.loop-index.index
    c.args.next.now.items c.loop-index.next.items c.push_argument.new.next.items c.loop-index.invariant c.in_ok-push_argument.ensures
