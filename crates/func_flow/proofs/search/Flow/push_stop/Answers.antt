use Rattle.std.proofs.Common.{◌≡◌, ◌⊎◌, ℕ, true, sym, subst, inl, inr, ⊎_elim}
use Rattle.std.specs.Prelude.{slice_get}
use Rattle.wasm_types.specs.declared.place.Node.{Node}
use Rattle.wasm_types.specs.declared.place.Node.TheVariants as node
use Rattle.wasm_types.specs.Nodes.{At}
use Rattle.func_flow.specs.declared.items.Item.{Item}
use Rattle.func_flow.specs.declared.items.Item.TheVariants.{Completion, Decider}
use Rattle.func_flow.specs.Next.{LeadsBack, Stop}
use Rattle.func_flow.specs.Roots.{Adds, Begins}
use Rattle.func_flow.specs.Steps.{stops_of}
use Rattle.func_flow.proofs.RootLemmas.{adds_same, adds_both}
use Rattle.func_flow.proofs.search.Flow.push_stop.Goals as goal

pub returns-in_ok-push_looping-in-At : goal.returns-in_ok-push_looping-in-At
returns-in_ok-push_looping-in-At c =
    let t = c.args.self.now.tables in
    let pos = c.in-At.pos in
    let p = pos.0 in
    let stops = λ (l : ℕ) (j : Item). (l ≡ 0) × ((stops_of (slice_get t.steps.now p) ≡ true) × (j ≡ Completion (At p))) in
    let loops = λ (l : ℕ) (j : Item). (l ≡ 0) × (LeadsBack t p × (j ≡ Decider (At p))) in
    subst (λ (n : Node). Adds (Begins t.numbering (λ l j. (l ≡ 0) × Stop t n j)) c.args.roots.now.items c.push_looping.new.roots.items) (sym c.in-At.is)
    (adds_same t.numbering (λ l j. stops l j ⊎ loops l j) (λ l j. (l ≡ 0) × Stop t (node.At pos) j) c.args.roots.now.items c.push_looping.new.roots.items
    (λ l j r. ⊎_elim (λ (is, h). (is, inl h)) (λ (is, h). (is, inr h)) r)
    (λ l j (is, r). ⊎_elim (λ h. inl (is, h)) (λ h. inr (is, h)) r)
    (adds_both t.numbering stops loops c.args.roots.now.items c.push_stopping.new.roots.items c.push_looping.new.roots.items
    c.in_ok-push_stopping-in-At.ensures c.in_ok-push_looping-in-At.ensures))
