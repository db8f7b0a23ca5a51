use Rattle.std.proofs.Common.{Option, subst}
use Rattle.std.specs.Prelude.{slice_get}
use Rattle.worklist.specs.Gains.{Gains}
use Rattle.called_rows.specs.declared.instrs.Whom.{Whom}
use Rattle.func_flow.specs.Items.{Numbered}
use Rattle.called_rows.specs.Whom.{output_of}
use Rattle.func_flow.specs.Next.{ByStep}
use Rattle.func_flow.proofs.search.Flow.push_at.Goals as goal

pub returns-in_ok-push_call-in-Some : goal.returns-in_ok-push_call-in-Some
returns-in_ok-push_call-in-Some c =
    let t = c.args.self.now.tables in
    subst (λ (w : Option Whom). Gains (Numbered t.numbering (ByStep t c.args.pos.0 (output_of c.args.made) (slice_get t.steps.now c.args.pos.0) w))
    c.args.next.now.items c.push_call.new.next.items)
    c.in-Some.ensures c.in_ok-push_call-in-Some.ensures

pub returns-in_ok-push_plain-in-None : goal.returns-in_ok-push_plain-in-None
returns-in_ok-push_plain-in-None c =
    let t = c.args.self.now.tables in
    subst (λ (w : Option Whom). Gains (Numbered t.numbering (ByStep t c.args.pos.0 (output_of c.args.made) (slice_get t.steps.now c.args.pos.0) w))
    c.args.next.now.items c.push_plain.new.next.items)
    c.in-None.ensures c.in_ok-push_plain-in-None.ensures
