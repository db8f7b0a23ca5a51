use Rattle.sparse_reach.proofs.Going.{start_here}
use Rattle.sparse_reach.proofs.rounds.start.Goals as goal

pub returns-then-root-batch : goal.returns-then-root-batch
returns-then-root-batch c =
    start_here c.args.batch c.args.root.label c.args.root.node c.args.words.now c.raise.new.words c.if-root-batch.true c.raise.ensures.gains
