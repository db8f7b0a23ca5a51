use Rattle.std.proofs.Common.{◌⊎◌, subst}
use Rattle.worklist.specs.Gains.{Gains}
use Rattle.control_deps.specs.declared.deciders.Nearest.{Nearest}
use Rattle.slice_closure.specs.Items.{Numbered}
use Rattle.slice_closure.specs.Next.{Decider}
use Rattle.slice_closure.proofs.Pushes.{numbered_both}
use Rattle.slice_closure.proofs.search.Closing.push_deciders.Goals as goal

pub returns : goal.returns
returns c =
    let N = c.args.self.now.numbering.nodes in
    let near = c.nearest-nearest.result in
    subst (λ (z : Nearest). Gains (Numbered N (λ j. Decider z.earlier j ⊎ Decider z.latest j)) c.args.next.now.items c.push_decider-2.new.next.items)
    c.nearest-nearest.ensures
    (numbered_both N (Decider near.earlier) (Decider near.latest) c.args.next.now.items c.push_decider.new.next.items c.push_decider-2.new.next.items
    c.in_ok-push_decider.ensures c.in_ok-push_decider-2.ensures)
