use Rattle.std.proofs.Common.{rules, ◌≡◌, ◌++◌, ◌∷◌, ◌<◌, [], ℕ, List, length, get_or, take, refl, sym, subst, ◌∙◌, arith}
use Rattle.std.specs.List.{Contains}
use Rattle.std.proofs.Math.Seq.{take_all}
use Rattle.worklist.specs.Lists.{Has}
use Rattle.worklist.proofs.Pushing.{gains_same}
use Rattle.call_graph.proofs.ListLemmas.{below_more, below_skip, got_row, has_row}
use Rattle.call_graph.proofs.calls.CallGraph.push_functions.Goals as goal
use Rattle.call_graph.proofs.calls.CallGraph.push_functions.Goals.{then-other-len+in_ok-map_err, else-other-len}

pub loop-other-preserved : goal.loop-other-preserved
loop-other-preserved c =
    let n = length c.args.self.now.classes.by_func.items in
    let list = c.deref-other-items.result.now in
    let i = c.loop-other.other-index in
    let x = get_or list i 0 in
    let long = c.args.self.now.classes.by_func.ok.0 in
    elim c.if-other-len.branch [
      | then-other-len+in_ok-map_err w ↦
          let pushed : w.push.new.self.items ≡ c.loop-other.funcs.items ++ x ∷ [] = search rules in
          rw w.funcs-is (below_more n list c.args.funcs.now.items c.loop-other.funcs.items i x c.loop-other-test.true refl c.loop-other.invariant
          (omega (arith, w.if-other-len.true, long, c.len.ensures)) w.push.new.self.items pushed)
      | else-other-len w ↦
          rw w.funcs-is (below_skip n list c.args.funcs.now.items c.loop-other.funcs.items i x c.loop-other-test.true refl c.loop-other.invariant
          (omega (arith, w.if-other-len.false, long, c.len.ensures)))
    ]

pub returns : goal.returns
returns c =
    let n = length c.args.self.now.classes.by_func.items in
    let next = c.args.self.now.callers.next.items in
    let node = c.args.node in
    let row = c.in-Some.nodes.now in
    let at = got_row next c.deref.result.now node row c.deref.ensures.value c.in-Some.ensures.lookup.3.0 c.in-Some.ensures.lookup.1 in
    let list = c.deref-other-items.result.now in
    let i = c.loop-other.other-index in
    let whole : take i list ≡ list = take_all i list (omega arith) in
    let same : take i list ≡ row.items = whole ∙ c.deref-other-items.ensures.value in
    gains_same (λ f. (f < n) × Contains (take i list) f) (λ f. (f < n) × Has next node f) c.args.funcs.now.items c.loop-other.funcs.items
    (λ f p. (p.0, (has_row next node row at f).0 (subst (λ (xs : List ℕ). Contains xs f) same p.1)))
    (λ f p. (p.0, subst (λ (xs : List ℕ). Contains xs f) (sym same) ((has_row next node row at f).1 p.1)))
    c.loop-other.invariant
