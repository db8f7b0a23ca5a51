use Rattle.std.proofs.Common.{◌*◌, ◌<◌, arith}
use Rattle.worklist.specs.Lists.{Has}
use Rattle.call_graph.proofs.RoundLemmas.{spread_exact}
use Rattle.call_graph.proofs.rounds.spread_labels.Goals as goal

pub returns-clause-exact : goal.returns-clause-exact
returns-clause-exact c = λ x o lt.
    let table = c.in_ok-table.table in
    let within : o < table.words * 64 = omega (arith, lt, c.in_ok-table.ensures.words) in
    rw c.give_all.ensures.words (spread_exact table.words (Has c.args.graph.now.next.items) c.args.roots.now table.bits.items c.give_all.new.table.bits.items
    c.in_ok-table.ensures.exact c.give_all.ensures.spreads c.give_all.ensures.closed x o within)
