use Rattle.std.proofs.Common.{Option, subst}
use Rattle.worklist.specs.Gains.{Gains}
use Rattle.called_rows.specs.declared.instrs.Whom.{Whom}
use Rattle.slice_closure.specs.Items.{Numbered}
use Rattle.slice_closure.specs.Next.{Uses}
use Rattle.slice_closure.proofs.search.Closing.push_needs.Goals as goal

pub returns-in_ok-push_row-in-Some : goal.returns-in_ok-push_row-in-Some
returns-in_ok-push_row-in-Some c =
    subst (λ (w : Option Whom). Gains (Numbered c.args.self.now.numbering.nodes (Uses c.args.self.now.tables c.args.pos.0 w)) c.args.next.now.items
    c.push_row.new.next.items)
    c.in-Some.ensures c.in_ok-push_row-in-Some.ensures

pub returns-in_ok-push_plain-in-None : goal.returns-in_ok-push_plain-in-None
returns-in_ok-push_plain-in-None c =
    subst (λ (w : Option Whom). Gains (Numbered c.args.self.now.numbering.nodes (Uses c.args.self.now.tables c.args.pos.0 w)) c.args.next.now.items
    c.push_plain.new.next.items)
    c.in-None.ensures c.in_ok-push_plain-in-None.ensures
