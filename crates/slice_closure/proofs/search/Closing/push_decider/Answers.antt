use Rattle.std.proofs.Common.{◌≡◌, ◌∙◌, sym, ap, ℕ}
use Rattle.wasm_types.specs.Nodes.{At}
use Rattle.slice_closure.specs.declared.items.Item.TheVariants.{Keeps}
use Rattle.slice_closure.specs.Next.{Decider}
use Rattle.slice_closure.proofs.Pushes.{numbered_same, same_pos}
use Rattle.slice_closure.proofs.search.Closing.push_decider.Goals as goal

pub returns-in_ok-push-in-Some : goal.returns-in_ok-push-in-Some
returns-in_ok-push-in-Some c =
    numbered_same c.args.self.now.numbering.nodes (λ j. j ≡ Keeps (At c.in-Some.pos.0)) (Decider c.args.decider) c.args.next.now.items c.push.new.next.items
    (λ j e. (c.in-Some.pos, (c.in-Some.is, e)))
    (λ j (p, (is, e)). e ∙ ap (λ (z : ℕ). Keeps (At z)) (same_pos p c.in-Some.pos (sym is ∙ c.in-Some.is)))
    c.in_ok-push-in-Some.ensures
