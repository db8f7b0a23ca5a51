use Rattle.std.proofs.Common.{sym, ◌∙◌}
use Rattle.call_graph.proofs.HostLemmas.{memory_more}
use Rattle.call_graph.proofs.hosts.add_memory.Goals as goal

pub returns-in_ok-add : goal.returns-in_ok-add
returns-in_ok-add c =
    memory_more c.args.m.now c.args.deeds.now.items c.add.new.deeds.items (sym c.is_memory_seen.ensures ∙ c.if-is_memory_seen.true) c.in_ok-add.ensures
