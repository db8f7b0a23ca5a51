use Rattle.std.proofs.Common.{sym, subst}
use Rattle.wasm_types.specs.declared.place.Node.{Node}
use Rattle.worklist.specs.Gains.{Gains}
use Rattle.called_rows.specs.Whom.{output_of}
use Rattle.slice_closure.specs.Items.{Numbered}
use Rattle.slice_closure.specs.Next.{ForOutput, whom_in}
use Rattle.slice_closure.proofs.search.Closing.push_output.Goals as goal

pub returns-in_ok-push_output_at-in-At : goal.returns-in_ok-push_output_at-in-At
returns-in_ok-push_output_at-in-At c =
    let t = c.args.self.now.tables in
    subst (λ (n : Node). Gains (Numbered c.args.self.now.numbering.nodes (ForOutput t (output_of c.args.made) n (whom_in t n))) c.args.next.now.items
    c.push_output_at.new.next.items)
    (sym c.in-At.is) c.in_ok-push_output_at-in-At.ensures
