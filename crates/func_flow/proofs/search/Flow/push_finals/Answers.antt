use Rattle.std.proofs.Common.{◌≡◌, ◌+◌, subst, arith}
use Rattle.func_flow.specs.Next.{FromBelow, FirstFinal}
use Rattle.func_flow.specs.Roots.{Adds, Begins}
use Rattle.func_flow.proofs.RootLemmas.{adds_start, adds_next}
use Rattle.func_flow.proofs.search.Flow.push_finals.Goals as goal

pub loop-index-init : goal.loop-index-init
loop-index-init c = adds_start c.args.self.now.tables.numbering (FirstFinal c.args.self.now.tables) c.args.roots.now.items

pub loop-index-preserved : goal.loop-index-preserved
loop-index-preserved c =
    adds_next c.args.self.now.tables.numbering (FirstFinal c.args.self.now.tables) c.loop-index.index c.args.roots.now.items c.loop-index.roots.items
    c.push_final.new.roots.items c.loop-index.invariant c.in_ok-push_final.ensures

pub returns : goal.returns
returns c =
    let t = c.args.self.now.tables in
    let n = t.numbering.globals + 3 in
    let all : c.loop-index.index ≡ n = omega arith in
    subst (λ k. Adds (Begins t.numbering (λ l. FromBelow k (FirstFinal t l))) c.args.roots.now.items c.loop-index.roots.items) all c.loop-index.invariant
