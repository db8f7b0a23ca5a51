use Rattle.std.proofs.Common.{◌⊎◌, subst}
use Rattle.worklist.specs.Gains.{Gains}
use Rattle.control_deps.specs.declared.deciders.Nearest.{Nearest}
use Rattle.func_flow.specs.Items.{Numbered}
use Rattle.func_flow.specs.Next.{DeciderOf, Outward}
use Rattle.func_flow.proofs.Pushes.{numbered_both}
use Rattle.func_flow.proofs.search.Flow.push_decided.Goals as goal

pub returns : goal.returns
returns c =
    let K = c.args.self.now.tables.numbering in
    let t = c.args.self.now.tables in
    let near = c.nearest-nearest.result in
    subst (λ (z : Nearest). Gains (Numbered K (λ j. DeciderOf z.earlier j ⊎ (DeciderOf z.latest j ⊎ Outward t c.args.node j))) c.args.next.now.items
    c.push_outward.new.next.items)
    c.nearest-nearest.ensures
    (numbered_both K (DeciderOf near.earlier) (λ j. DeciderOf near.latest j ⊎ Outward t c.args.node j) c.args.next.now.items c.push_nearest.new.next.items
    c.push_outward.new.next.items
    c.in_ok-push_nearest.ensures
    (numbered_both K (DeciderOf near.latest) (Outward t c.args.node) c.push_nearest.new.next.items c.push_nearest-2.new.next.items c.push_outward.new.next.items
    c.in_ok-push_nearest-2.ensures c.in_ok-push_outward.ensures))
