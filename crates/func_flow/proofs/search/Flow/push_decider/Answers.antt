use Rattle.std.proofs.Common.{◌≡◌}
use Rattle.func_flow.specs.declared.items.Item.TheVariants.{Decided}
use Rattle.func_flow.specs.Next.{Condition}
use Rattle.func_flow.proofs.Pushes.{numbered_both}
use Rattle.func_flow.proofs.search.Flow.push_decider.Goals as goal

pub returns : goal.returns
returns c =
    numbered_both c.args.self.now.tables.numbering (Condition c.args.self.now.tables c.args.node) (λ j. j ≡ Decided c.args.node) c.args.next.now.items
    c.push_condition.new.next.items c.push.new.next.items c.in_ok-push_condition.ensures c.in_ok-push.ensures
