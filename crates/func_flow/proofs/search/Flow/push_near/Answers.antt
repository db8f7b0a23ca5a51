use Rattle.std.proofs.Common.{sym, subst}
use Rattle.wasm_types.specs.declared.place.Node.{Node}
use Rattle.worklist.specs.Gains.{Gains}
use Rattle.func_flow.specs.Items.{Numbered}
use Rattle.called_rows.specs.Whom.{output_of}
use Rattle.func_flow.specs.Next.{AtNode}
use Rattle.func_flow.proofs.search.Flow.push_near.Goals as goal

pub returns-in_ok-push_at-in-At : goal.returns-in_ok-push_at-in-At
returns-in_ok-push_at-in-At c =
    subst (λ (n : Node). Gains (Numbered c.args.self.now.tables.numbering (AtNode c.args.self.now.tables (output_of c.args.made) n)) c.args.next.now.items
    c.push_at.new.next.items)
    (sym c.in-At.is) c.in_ok-push_at-in-At.ensures
