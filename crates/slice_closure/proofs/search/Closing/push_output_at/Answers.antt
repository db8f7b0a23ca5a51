use Rattle.std.proofs.Common.{Option, subst}
use Rattle.worklist.specs.Gains.{Gains}
use Rattle.wasm_types.specs.declared.place.Node.TheVariants as node
use Rattle.called_rows.specs.declared.instrs.Whom.{Whom}
use Rattle.called_rows.specs.Whom.{output_of}
use Rattle.slice_closure.specs.Items.{Numbered}
use Rattle.slice_closure.specs.Next.{ForOutput}
use Rattle.slice_closure.proofs.Pushes.{numbered_none}
use Rattle.slice_closure.proofs.search.Closing.push_output_at.Goals as goal

pub returns-in_ok-push_row-in-Some : goal.returns-in_ok-push_row-in-Some
returns-in_ok-push_row-in-Some c =
    let t = c.args.self.now.tables in
    subst (λ (w : Option Whom). Gains (Numbered c.args.self.now.numbering.nodes (ForOutput t (output_of c.args.made) (node.At c.args.pos) w)) c.args.next.now.items
    c.push_row.new.next.items)
    c.in-Some.ensures c.in_ok-push_row-in-Some.ensures

pub returns-in-None : goal.returns-in-None
returns-in-None c =
    let t = c.args.self.now.tables in
    subst (λ (w : Option Whom). Gains (Numbered c.args.self.now.numbering.nodes (ForOutput t (output_of c.args.made) (node.At c.args.pos) w)) c.args.next.now.items
    c.args.next.now.items)
    c.in-None.ensures (numbered_none c.args.self.now.numbering.nodes _ c.args.next.now.items (λ j h. h))
