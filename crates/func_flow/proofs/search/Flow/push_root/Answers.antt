use Rattle.func_flow.proofs.RootLemmas.{adds_one}
use Rattle.func_flow.proofs.search.Flow.push_root.Goals as goal

pub returns : goal.returns
returns c =
    rw c.in_ok-put.ensures (adds_one c.args.self.now.tables.numbering c.args.label c.number-node.result c.args.item c.args.roots.now.items c.number-node.ensures)
