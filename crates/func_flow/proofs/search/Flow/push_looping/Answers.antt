use Rattle.std.proofs.Common.{◌≡◌}
use Rattle.wasm_types.specs.Nodes.{At}
use Rattle.func_flow.specs.declared.items.Item.TheVariants.{Decider}
use Rattle.func_flow.specs.Next.{LeadsBack}
use Rattle.func_flow.proofs.RootLemmas.{adds_same, adds_none}
use Rattle.func_flow.proofs.search.Flow.push_looping.Goals as goal

pub returns-in_ok-push_root : goal.returns-in_ok-push_root
returns-in_ok-push_root c =
    let t = c.args.self.now.tables in
    let p = c.args.pos.0 in
    let back : LeadsBack t p = (rw c.next.ensures at c.any_back.ensures).0 c.if-any_back.true in
    adds_same t.numbering (λ l j. (l ≡ 0) × (j ≡ Decider (At p))) (λ l j. (l ≡ 0) × (LeadsBack t p × (j ≡ Decider (At p)))) c.args.roots.now.items
    c.push_root.new.roots.items
    (λ l j (is, e). (is, (back, e))) (λ l j (is, (b, e)). (is, e)) c.in_ok-push_root.ensures

pub returns-else-any_back : goal.returns-else-any_back
returns-else-any_back c =
    let t = c.args.self.now.tables in
    let p = c.args.pos.0 in
    adds_none t.numbering (λ l j. (l ≡ 0) × (LeadsBack t p × (j ≡ Decider (At p)))) c.args.roots.now.items
    (λ l j (is, (back, e)). let on = (rw c.next.ensures at c.any_back.ensures).1 back in let off = c.if-any_back.false in cc)
