use Rattle.std.proofs.Common.{◌≡◌, ◌∙◌, ◌+◌, ◌*◌, ◌/◌, ◌<◌, ap, arith}
use Rattle.block_cfg.specs.Graph.{number}
use Rattle.slice_closure.specs.Items.{loc_number}
use Rattle.slice_closure.proofs.items.Numbering.item.Goals as goal

pub returns-then-kind-eq0-2-clause-number : goal.returns-then-kind-eq0-2-clause-number
returns-then-kind-eq0-2-clause-number c =
    let K = c.args.self.now in
    let some : 0 < K.nodes = K.some in
    let e : 2 * loc_number c.loc_of_number-loc.result + 2 ≡ c.args.index / K.nodes = omega (arith, c.loc_of_number-loc.ensures, c.if-kind-eq0-2.true) in
    ap (λ k. k * K.nodes + number c.point_of_number-node.result) e ∙ omega (arith, c.point_of_number-node.ensures)

pub returns-else-kind-eq0-2-clause-number : goal.returns-else-kind-eq0-2-clause-number
returns-else-kind-eq0-2-clause-number c =
    let K = c.args.self.now in
    let some : 0 < K.nodes = K.some in
    let e : 2 * loc_number c.loc_of_number-loc.result + 3 ≡ c.args.index / K.nodes = omega (arith, c.loc_of_number-loc.ensures, c.if-kind-eq0-2.false) in
    ap (λ k. k * K.nodes + number c.point_of_number-node.result) e ∙ omega (arith, c.point_of_number-node.ensures)
