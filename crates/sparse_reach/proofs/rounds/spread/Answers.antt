use Rattle.std.proofs.Common.{rules}
use Rattle.sparse_reach.proofs.Going.{spreading_begins, spreading_on, spreading_ends}
use Rattle.sparse_reach.proofs.rounds.spread.Goals as goal

pub loop-grew-init : goal.loop-grew-init
loop-grew-init c = spreading_begins c.args.edges.now c.args.words.now

pub loop-grew-preserved : goal.loop-grew-preserved
loop-grew-preserved c =
    spreading_on c.args.edges.now c.args.words.now c.loop-grew.words c.round-grew.new.words c.loop-grew.invariant c.round-grew.ensures.kept
    c.round-grew.ensures.led c.round-grew.ensures.length

pub returns-then-not-grew-clause-exact : goal.returns-then-not-grew-clause-exact
returns-then-not-grew-clause-exact c =
    spreading_ends c.args.edges.now c.args.words.now c.loop-grew.words c.round-grew.new.words c.loop-grew.invariant c.round-grew.ensures.kept
    c.round-grew.ensures.led (c.round-grew.ensures.closed (search rules))
