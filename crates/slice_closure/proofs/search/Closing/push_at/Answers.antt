use Rattle.wasm_types.specs.Nodes.{At}
use Rattle.slice_closure.specs.Next.{Uses, Holder, whom_in}
use Rattle.slice_closure.proofs.Pushes.{numbered_both}
use Rattle.slice_closure.proofs.search.Closing.push_at.Goals as goal

pub returns : goal.returns
returns c =
    let t = c.args.self.now.tables in
    let p = c.args.pos.0 in
    numbered_both c.args.self.now.numbering.nodes (Uses t p (whom_in t (At p))) (Holder t p) c.args.next.now.items c.push_needs.new.next.items
    c.push_holder.new.next.items c.in_ok-push_needs.ensures c.in_ok-push_holder.ensures
