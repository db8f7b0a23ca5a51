use Rattle.std.proofs.Common.{◌≡◌, ◌∙◌, ap, ℕ}
use Rattle.wasm_types.specs.Nodes.{At}
use Rattle.slice_closure.specs.declared.items.Item.TheVariants.{Keeps}
use Rattle.slice_closure.specs.Next.{Holder}
use Rattle.slice_closure.proofs.Pushes.{numbered_none, numbered_same, one_holder, no_holder}
use Rattle.slice_closure.proofs.search.Closing.push_holder.Goals as goal

pub returns-in_ok-push-in-Some : goal.returns-in_ok-push-in-Some
returns-in_ok-push-in-Some c =
    let t = c.args.self.now.tables in
    let held = c.in-Some.ensures t.body.now in
    numbered_same c.args.self.now.numbering.nodes (λ j. j ≡ Keeps (At c.in-Some.block.0)) (Holder t c.args.pos.0) c.args.next.now.items c.push.new.next.items
    (λ j e. (c.in-Some.block, (held, e)))
    (λ j (b, (around, e)). e ∙ ap (λ (z : ℕ). Keeps (At z)) (one_holder t c.args.self.now.fits.nested c.args.pos.0 b c.in-Some.block around held))
    c.in_ok-push-in-Some.ensures

pub returns-in-None : goal.returns-in-None
returns-in-None c =
    let t = c.args.self.now.tables in
    numbered_none c.args.self.now.numbering.nodes (Holder t c.args.pos.0) c.args.next.now.items
    (λ j (b, (around, e)). no_holder t c.args.self.now.fits.nested c.args.pos.0 c.in-None.ensures b around)
