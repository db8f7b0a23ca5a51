use Rattle.std.proofs.Common.{◌≡◌}
use Rattle.called_rows.specs.Whom.{output_of}
use Rattle.slice_closure.specs.declared.items.Item.TheVariants.{Keeps}
use Rattle.slice_closure.specs.Next.{ForOutput, whom_in}
use Rattle.slice_closure.proofs.Pushes.{numbered_both}
use Rattle.slice_closure.proofs.search.Closing.push_made.Goals as goal

pub returns : goal.returns
returns c =
    let t = c.args.self.now.tables in
    numbered_both c.args.self.now.numbering.nodes (λ j. j ≡ Keeps c.args.node) (ForOutput t (output_of c.args.made) c.args.node (whom_in t c.args.node))
    c.args.next.now.items c.push.new.next.items c.push_output.new.next.items c.in_ok-push.ensures c.in_ok-push_output.ensures
