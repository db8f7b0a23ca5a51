use Rattle.std.proofs.Common.{◌≡◌, ◌∙◌, sym, ap, ℕ}
use Rattle.wasm_types.specs.Nodes.{At}
use Rattle.func_flow.specs.declared.items.Item.TheVariants.{Decider}
use Rattle.func_flow.specs.Next.{DeciderOf}
use Rattle.func_flow.proofs.Pushes.{numbered_same, same_pos}
use Rattle.func_flow.proofs.search.Flow.push_nearest.Goals as goal

pub returns-in_ok-push-in-Some : goal.returns-in_ok-push-in-Some
returns-in_ok-push-in-Some c =
    numbered_same c.args.self.now.tables.numbering (λ j. j ≡ Decider (At c.in-Some.pos.0)) (DeciderOf c.args.decider) c.args.next.now.items c.push.new.next.items
    (λ j e. (c.in-Some.pos, (c.in-Some.is, e)))
    (λ j (p, (is, e)). e ∙ ap (λ (z : ℕ). Decider (At z)) (same_pos p c.in-Some.pos (sym is ∙ c.in-Some.is)))
    c.in_ok-push-in-Some.ensures
