use Rattle.std.proofs.Common.{◌≡◌, ◌⊎◌, ◌+◌, ℕ, List, [], subst}
use Rattle.worklist.specs.declared.labels.Root.{Root}
use Rattle.wasm_types.specs.declared.place.Node.TheVariants.{Exit}
use Rattle.func_flow.specs.declared.items.Item.{Item}
use Rattle.func_flow.specs.declared.items.Item.TheVariants.{Value}
use Rattle.func_flow.specs.Next.{FromEach, FromBelow, FirstFinal, Stop, First}
use Rattle.func_flow.specs.Roots.{Adds, Begins}
use Rattle.func_flow.proofs.RootLemmas.{adds_both}
use Rattle.func_flow.proofs.search.Flow.roots.Goals as goal

pub returns : goal.returns
returns c =
    let t = c.args.self.now.tables in
    let K = t.numbering in
    let ret = λ (l : ℕ) (j : Item). (l ≡ 1) × (j ≡ Value Exit) in
    let finals = λ (l : ℕ) (j : Item). FromBelow (K.globals + 3) (FirstFinal t l) j in
    let stops = λ (l : ℕ) (j : Item). (l ≡ 0) × FromEach t.cfg.now.points (Stop t) j in
    let empty : c.new-roots.result.items ≡ [] = c.new-roots.ensures.items in
    subst (λ (z : List Root). Adds (Begins K (First t)) z c.push_stops.new.roots.items) empty
    (adds_both K ret (λ l j. finals l j ⊎ stops l j) c.new-roots.result.items c.push_root.new.roots.items c.push_stops.new.roots.items c.in_ok-push_root.ensures
    (adds_both K finals stops c.push_root.new.roots.items c.push_finals.new.roots.items c.push_stops.new.roots.items c.in_ok-push_finals.ensures
    c.in_ok-push_stops.ensures))
