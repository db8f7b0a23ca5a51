use Rattle.std.proofs.Common.{◌+◌, length}
use Rattle.called_rows.specs.Called.{globals_in}
use Rattle.called_rows.specs.Whom.{output_of}
use Rattle.slice_closure.specs.Next.{FromBelow, ArgumentAt, InputAt, operands_at}
use Rattle.slice_closure.proofs.Pushes.{numbered_both}
use Rattle.slice_closure.proofs.search.Closing.push_row.Goals as goal

pub returns : goal.returns
returns c =
    let t = c.args.self.now.tables in
    let p = c.args.pos.0 in
    let o = output_of c.args.made in
    let arguments = rw c.operands.ensures at c.in_ok-push_arguments.ensures in
    numbered_both c.args.self.now.numbering.nodes (FromBelow (length (operands_at t p)) (ArgumentAt t (operands_at t p) o c.args.whom))
    (FromBelow (globals_in t.called + 3) (InputAt t p o c.args.whom))
    c.args.next.now.items c.push_arguments.new.next.items c.push_inputs.new.next.items arguments c.in_ok-push_inputs.ensures
