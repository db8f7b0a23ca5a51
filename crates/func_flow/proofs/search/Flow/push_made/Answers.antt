use Rattle.std.proofs.Common.{◌≡◌}
use Rattle.func_flow.specs.declared.items.Item.TheVariants.{Decided}
use Rattle.called_rows.specs.Whom.{output_of}
use Rattle.func_flow.specs.Next.{AtNode}
use Rattle.func_flow.proofs.Pushes.{numbered_both}
use Rattle.func_flow.proofs.search.Flow.push_made.Goals as goal

pub returns : goal.returns
returns c =
    numbered_both c.args.self.now.tables.numbering (AtNode c.args.self.now.tables (output_of c.args.made) c.args.node) (λ j. j ≡ Decided c.args.node)
    c.args.next.now.items c.push_near.new.next.items c.push.new.next.items c.in_ok-push_near.ensures c.in_ok-push.ensures
