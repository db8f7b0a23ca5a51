use Rattle.call_graph.proofs.HostLemmas.{global_more}
use Rattle.call_graph.proofs.hosts.add_global.Goals as goal

pub returns-in_ok-add : goal.returns-in_ok-add
returns-in_ok-add c = global_more c.args.seen c.args.global c.args.deeds.now.items c.add.new.deeds.items c.if-seen.true c.in_ok-add.ensures
