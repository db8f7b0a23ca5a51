use Rattle.std.proofs.Common.{◌+◌, length}
use Rattle.called_rows.specs.Whom.{output_of}
use Rattle.func_flow.specs.Next.{FromBelow, ArgumentAt, PlaceAt, operands_at}
use Rattle.func_flow.proofs.Pushes.{numbered_both}
use Rattle.func_flow.proofs.search.Flow.push_call.Goals as goal

pub returns : goal.returns
returns c =
    let t = c.args.self.now.tables in
    let p = c.args.pos.0 in
    let o = output_of c.args.made in
    let arguments = rw c.operands.ensures at c.in_ok-push_arguments.ensures in
    numbered_both t.numbering (FromBelow (length (operands_at t p)) (ArgumentAt t (operands_at t p) o c.args.whom))
    (FromBelow (t.numbering.globals + 3) (PlaceAt t p o c.args.whom))
    c.args.next.now.items c.push_arguments.new.next.items c.push_places.new.next.items arguments c.in_ok-push_places.ensures
