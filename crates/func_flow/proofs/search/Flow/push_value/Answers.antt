use Rattle.stack_names.specs.Named.{of_node}
use Rattle.flow_domain.specs.Rows.{Ret}
use Rattle.func_flow.specs.Next.{FromEach, Joins, Makes}
use Rattle.func_flow.proofs.Pushes.{numbered_both}
use Rattle.func_flow.proofs.search.Flow.push_value.Goals as goal

pub returns : goal.returns
returns c =
    let t = c.args.self.now.tables in
    let nodes = rw c.joined.ensures at c.in_ok-push_nodes.ensures in
    numbered_both t.numbering (Makes t Ret c.args.node) (FromEach (of_node t.names.now.joined c.args.node) Joins)
    c.args.next.now.items c.push_made.new.next.items c.push_nodes.new.next.items c.in_ok-push_made.ensures nodes
