use Rattle.std.proofs.Common.{sym, subst}
use Rattle.worklist.specs.Gains.{Gains}
use Rattle.slice_closure.specs.declared.items.Item.{Item}
use Rattle.slice_closure.specs.Items.{Numbered}
use Rattle.slice_closure.specs.Runs.{Short}
use Rattle.slice_closure.proofs.search.Closing.push_from.Goals as goal

pub returns-in_ok-push_kept-in-Keeps : goal.returns-in_ok-push_kept-in-Keeps
returns-in_ok-push_kept-in-Keeps c =
    subst (λ (i : Item). Gains (Numbered c.args.self.now.numbering.nodes (Short c.args.self.now.tables i)) c.args.next.now.items c.push_kept.new.next.items)
    (sym c.in-Keeps.is) c.in_ok-push_kept-in-Keeps.ensures

pub returns-in_ok-push_made-in-Value : goal.returns-in_ok-push_made-in-Value
returns-in_ok-push_made-in-Value c =
    subst (λ (i : Item). Gains (Numbered c.args.self.now.numbering.nodes (Short c.args.self.now.tables i)) c.args.next.now.items c.push_made.new.next.items)
    (sym c.in-Value.is) c.in_ok-push_made-in-Value.ensures

pub returns-in_ok-push_made-in-Written : goal.returns-in_ok-push_made-in-Written
returns-in_ok-push_made-in-Written c =
    subst (λ (i : Item). Gains (Numbered c.args.self.now.numbering.nodes (Short c.args.self.now.tables i)) c.args.next.now.items
    c.push_made-in-Written.new.next.items)
    (sym c.in-Written.is) c.in_ok-push_made-in-Written.ensures

pub returns-in_ok-push_before-in-Needs : goal.returns-in_ok-push_before-in-Needs
returns-in_ok-push_before-in-Needs c =
    subst (λ (i : Item). Gains (Numbered c.args.self.now.numbering.nodes (Short c.args.self.now.tables i)) c.args.next.now.items c.push_before.new.next.items)
    (sym c.in-Needs.is) c.in_ok-push_before-in-Needs.ensures
