use Rattle.std.proofs.Common.{sym, subst}
use Rattle.worklist.specs.Gains.{Gains}
use Rattle.func_flow.specs.declared.items.Item.{Item}
use Rattle.func_flow.specs.Items.{Numbered}
use Rattle.func_flow.specs.Runs.{Short}
use Rattle.func_flow.proofs.search.Flow.push_from.Goals as goal

pub returns-in_ok-push_value-in-Value : goal.returns-in_ok-push_value-in-Value
returns-in_ok-push_value-in-Value c =
    let flow = c.args.self.now in
    subst (λ (i : Item). Gains (Numbered flow.tables.numbering (Short flow.tables flow.runs.now i)) c.args.next.now.items c.push_value.new.next.items)
    (sym c.in-Value.is) c.in_ok-push_value-in-Value.ensures

pub returns-in_ok-push_made-in-Completion : goal.returns-in_ok-push_made-in-Completion
returns-in_ok-push_made-in-Completion c =
    let flow = c.args.self.now in
    subst (λ (i : Item). Gains (Numbered flow.tables.numbering (Short flow.tables flow.runs.now i)) c.args.next.now.items c.push_made.new.next.items)
    (sym c.in-Completion.is) c.in_ok-push_made-in-Completion.ensures

pub returns-in_ok-push_made-in-Written : goal.returns-in_ok-push_made-in-Written
returns-in_ok-push_made-in-Written c =
    let flow = c.args.self.now in
    subst (λ (i : Item). Gains (Numbered flow.tables.numbering (Short flow.tables flow.runs.now i)) c.args.next.now.items c.push_made-in-Written.new.next.items)
    (sym c.in-Written.is) c.in_ok-push_made-in-Written.ensures

pub returns-in_ok-push_decider-in-Decider : goal.returns-in_ok-push_decider-in-Decider
returns-in_ok-push_decider-in-Decider c =
    let flow = c.args.self.now in
    subst (λ (i : Item). Gains (Numbered flow.tables.numbering (Short flow.tables flow.runs.now i)) c.args.next.now.items c.push_decider.new.next.items)
    (sym c.in-Decider.is) c.in_ok-push_decider-in-Decider.ensures

pub returns-in_ok-push_decided-in-Decided : goal.returns-in_ok-push_decided-in-Decided
returns-in_ok-push_decided-in-Decided c =
    let flow = c.args.self.now in
    subst (λ (i : Item). Gains (Numbered flow.tables.numbering (Short flow.tables flow.runs.now i)) c.args.next.now.items c.push_decided.new.next.items)
    (sym c.in-Decided.is) c.in_ok-push_decided-in-Decided.ensures

pub returns-in_ok-push_before-in-Needed : goal.returns-in_ok-push_before-in-Needed
returns-in_ok-push_before-in-Needed c =
    let flow = c.args.self.now in
    subst (λ (i : Item). Gains (Numbered flow.tables.numbering (Short flow.tables flow.runs.now i)) c.args.next.now.items c.push_before.new.next.items)
    (sym c.in-Needed.is) c.in_ok-push_before-in-Needed.ensures
