use Rattle.std.proofs.Common.{◌≡◌, ◌∙◌, ap, sym, ℕ}
use Rattle.wasm_types.specs.declared.place.Node.TheVariants as node
use Rattle.func_flow.specs.Next.{Outward, holder_at}
use Rattle.func_flow.proofs.Pushes.{numbered_none, numbered_same, one_holder, no_holder}
use Rattle.func_flow.proofs.search.Flow.push_holder.Goals as goal

pub returns-in_ok-push-in-Some : goal.returns-in_ok-push-in-Some
returns-in_ok-push-in-Some c =
    let t = c.args.self.now.tables in
    let held = c.in-Some.ensures t.body.now in
    numbered_same c.args.self.now.tables.numbering (λ j. j ≡ c.holder.result) (Outward t (node.At c.args.pos)) c.args.next.now.items c.push.new.next.items
    (λ j e. (c.in-Some.block, (held, e ∙ c.holder.ensures)))
    (λ j (b, (around, e)). e ∙ (ap (λ (z : ℕ). holder_at t (record { 0 = z })) (one_holder t c.args.self.now.fits.nested c.args.pos.0 b c.in-Some.block around held)
    ∙ sym c.holder.ensures))
    c.in_ok-push-in-Some.ensures

pub returns-in-None : goal.returns-in-None
returns-in-None c =
    let t = c.args.self.now.tables in
    numbered_none c.args.self.now.tables.numbering (Outward t (node.At c.args.pos)) c.args.next.now.items
    (λ j (b, (around, e)). no_holder t c.args.self.now.fits.nested c.args.pos.0 c.in-None.ensures b around)
