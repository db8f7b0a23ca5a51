use Rattle.std.proofs.Common.{sym, subst}
use Rattle.wasm_types.specs.declared.place.Node.{Node}
use Rattle.worklist.specs.Gains.{Gains}
use Rattle.func_flow.specs.Items.{Numbered}
use Rattle.func_flow.specs.Next.{Condition}
use Rattle.func_flow.proofs.search.Flow.push_condition.Goals as goal

pub returns-in_ok-push_picked-in-At : goal.returns-in_ok-push_picked-in-At
returns-in_ok-push_picked-in-At c =
    let picked = rw (c.operands.ensures, c.conditions-picks.ensures) at c.in_ok-push_picked-in-At.ensures in
    subst (λ (n : Node). Gains (Numbered c.args.self.now.tables.numbering (Condition c.args.self.now.tables n)) c.args.next.now.items c.push_picked.new.next.items)
    (sym c.in-At.is) picked
