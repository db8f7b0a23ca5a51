use Rattle.std.proofs.Common.{◌≡◌, ◌∙◌, true, sym}
use Rattle.std.specs.Prelude.{slice_get}
use Rattle.wasm_types.specs.Nodes.{At}
use Rattle.func_flow.specs.declared.items.Item.TheVariants.{Completion}
use Rattle.func_flow.specs.Steps.{stops_of}
use Rattle.func_flow.proofs.RootLemmas.{adds_same, adds_none}
use Rattle.func_flow.proofs.search.Flow.push_stopping.Goals as goal

pub returns-in_ok-push_root : goal.returns-in_ok-push_root
returns-in_ok-push_root c =
    let t = c.args.self.now.tables in
    let p = c.args.pos.0 in
    let on : stops_of (slice_get t.steps.now p) ≡ true = sym c.stops.ensures ∙ c.if-stops.true in
    adds_same t.numbering (λ l j. (l ≡ 0) × (j ≡ Completion (At p))) (λ l j. (l ≡ 0) × ((stops_of (slice_get t.steps.now p) ≡ true) × (j ≡ Completion (At p))))
    c.args.roots.now.items c.push_root.new.roots.items
    (λ l j (is, e). (is, (on, e))) (λ l j (is, (o, e)). (is, e)) c.in_ok-push_root.ensures

pub returns-else-stops : goal.returns-else-stops
returns-else-stops c =
    let t = c.args.self.now.tables in
    let p = c.args.pos.0 in
    adds_none t.numbering (λ l j. (l ≡ 0) × ((stops_of (slice_get t.steps.now p) ≡ true) × (j ≡ Completion (At p)))) c.args.roots.now.items
    (λ l j (is, (on, e)). let off = sym c.stops.ensures ∙ c.if-stops.false in cc)
