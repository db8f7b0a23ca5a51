use Rattle.std.proofs.Common.{sym, subst}
use Rattle.wasm_types.specs.declared.place.Node.{Node}
use Rattle.worklist.specs.Gains.{Gains}
use Rattle.slice_closure.specs.Items.{Numbered}
use Rattle.slice_closure.specs.Next.{NextAt}
use Rattle.slice_closure.proofs.search.Closing.push_near.Goals as goal

pub returns-in_ok-push_at-in-At : goal.returns-in_ok-push_at-in-At
returns-in_ok-push_at-in-At c =
    subst (λ (n : Node). Gains (Numbered c.args.self.now.numbering.nodes (NextAt c.args.self.now.tables n)) c.args.next.now.items c.push_at.new.next.items)
    (sym c.in-At.is) c.in_ok-push_at-in-At.ensures

pub returns-in_ok-push-in-Join : goal.returns-in_ok-push-in-Join
returns-in_ok-push-in-Join c =
    subst (λ (n : Node). Gains (Numbered c.args.self.now.numbering.nodes (NextAt c.args.self.now.tables n)) c.args.next.now.items c.push.new.next.items)
    (sym c.in-Join.is) c.in_ok-push-in-Join.ensures
