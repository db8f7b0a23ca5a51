use Rattle.std.proofs.Common.{rules, ◌≡◌, ◌++◌, ◌∷◌, []}
use Rattle.single_entry.proofs.Hopping.{hops_grown}
use Rattle.single_entry.proofs.far.push_hop.Goals as goal

pub returns-clause-hops : goal.returns-clause-hops
returns-clause-hops c =
    let hop = c.hop_of-hop.result in
    let pushed : c.push-2.new.self.items ≡ c.args.hops.now.items ++ hop ∷ [] = search rules in
    hops_grown c.args.hops.now.items c.push-2.new.self.items hop c.args.near c.requires.hops c.requires.falls c.hop_of-hop.ensures.near
    (rw c.deref.ensures.value at c.hop_of-hop.ensures.far) pushed
