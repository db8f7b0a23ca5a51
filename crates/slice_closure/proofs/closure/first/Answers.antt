use Rattle.std.proofs.Common.{◌≡◌, ℕ, List, [], subst}
use Rattle.wasm_types.specs.Nodes.{At}
use Rattle.stack_names.specs.Named.{operands_in}
use Rattle.worklist.specs.Gains.{Gains}
use Rattle.slice_closure.specs.Items.{Numbered}
use Rattle.slice_closure.specs.Next.{FromEach, value_item, Maker, First}
use Rattle.slice_closure.proofs.Pushes.{numbered_both}
use Rattle.slice_closure.proofs.closure.first.Goals as goal

pub returns : goal.returns
returns c =
    let N = c.args.closing.now.numbering.nodes in
    let t = c.args.closing.now.tables in
    let empty : c.new-list.result.items ≡ [] = c.new-list.ensures.items in
    let makers = rw c.operands.ensures at c.in_ok-push_makers.ensures in
    subst (λ (z : List ℕ). Gains (Numbered N (First t c.args.at)) z c.push_makers.new.next.items) empty
    (numbered_both N (λ j. j ≡ value_item t (At c.args.at.0)) (FromEach
    (operands_in t.names.now.positions c.args.at.0) (Maker t)) c.new-list.result.items c.push_value.new.next.items
    c.push_makers.new.next.items
    c.in_ok-push_value.ensures makers)
