use Rattle.std.proofs.Common.{◌⊎◌}
use Rattle.stack_names.specs.Named.{of_node}
use Rattle.slice_closure.specs.Next.{FromEach, Joins, NextAt, NextDecider}
use Rattle.slice_closure.proofs.Pushes.{numbered_both}
use Rattle.slice_closure.proofs.search.Closing.push_kept.Goals as goal

pub returns : goal.returns
returns c =
    let N = c.args.self.now.numbering.nodes in
    let t = c.args.self.now.tables in
    let n = c.args.node in
    let joined = FromEach (of_node t.names.now.joined n) (Joins t) in
    let nodes = rw c.joined.ensures at c.in_ok-push_nodes.ensures in
    numbered_both N (NextAt t n) (λ j. joined j ⊎ NextDecider t n j) c.args.next.now.items c.push_near.new.next.items c.push_deciders.new.next.items
    c.in_ok-push_near.ensures
    (numbered_both N joined (NextDecider t n) c.push_near.new.next.items c.push_nodes.new.next.items c.push_deciders.new.next.items nodes
    c.in_ok-push_deciders.ensures)
