use Rattle.slice_closure.specs.Next.{Touched}
use Rattle.slice_closure.proofs.Pushes.{writes_at, writes_not, join_apart, exit_apart}
use Rattle.slice_closure.proofs.search.Closing.writes.Goals as goal

pub returns-in-At : goal.returns-in-At
returns-in-At c =
    writes_at (Touched c.args.self.now.tables) c.args.loc c.args.point c.in-At.pos c.writes_at.result c.in-At.is c.writes_at.ensures

pub returns-in-Join : goal.returns-in-Join
returns-in-Join c = writes_not (Touched c.args.self.now.tables) c.args.loc c.args.point (join_apart c.args.point _ c.in-Join.is)

pub returns-in-Exit : goal.returns-in-Exit
returns-in-Exit c = writes_not (Touched c.args.self.now.tables) c.args.loc c.args.point (exit_apart c.args.point c.in-Exit.is)
