use Rattle.std.proofs.Common.{◌≡◌, ◌++◌, ◌∷◌, [], List, ap, ◌∙◌}
use Rattle.wasm_types.specs.declared.place.Loc.TheVariants.{Host}
use Rattle.call_graph.specs.declared.deeds.Deed.{Deed}
use Rattle.call_graph.specs.declared.deeds.Deed.TheVariants.{Touches, Writes}
use Rattle.call_graph.proofs.HostLemmas.{host_deeds_made}
use Rattle.call_graph.proofs.hosts.host_deeds.Goals as goal

pub returns : goal.returns
returns c =
    let two : List Deed = Touches Host ∷ Writes Host ∷ [] in
    let start : c.add.new.deeds.items ≡ two = c.in_ok-add.ensures ∙ ap (λ (ds : List Deed). ds ++ two) c.new-deeds.ensures.items in
    host_deeds_made c.args.m.now c.add.new.deeds.items c.add_memory.new.deeds.items c.add_globals.new.deeds.items start c.in_ok-add_memory.ensures
    c.in_ok-add_globals.ensures
