use Rattle.std.proofs.Common.{◌≡◌, ◌∙◌, sym}
use Rattle.slice_closure.specs.Next.{value_item}
use Rattle.slice_closure.proofs.Pushes.{numbered_same}
use Rattle.slice_closure.proofs.search.Closing.push_value.Goals as goal

pub returns : goal.returns
returns c =
    numbered_same c.args.self.now.numbering.nodes (λ j. j ≡ c.value-item.result) (λ j. j ≡ value_item c.args.self.now.tables c.args.node) c.args.next.now.items
    c.push.new.next.items
    (λ j e. e ∙ c.value-item.ensures.value) (λ j e. e ∙ sym c.value-item.ensures.value) c.in_ok-push.ensures
