use Rattle.std.proofs.Common.{◌≡◌, ◌↔◌, ◌⊎◌, ◌<◌, ℕ, List, length, get_or, take, refl, subst, arith}
use Rattle.std.specs.List.{Contains}
use Rattle.std.proofs.Math.Seq.{take_all}
use Rattle.worklist.specs.Search.{IsMarked}
use Rattle.call_graph.proofs.ClassLemmas.{mark_more, mark_skip}
use Rattle.call_graph.proofs.classes.mark_each.Goals as goal
use Rattle.call_graph.proofs.classes.mark_each.Goals.{then-func-marks, else-func-marks}

pub loop-func-preserved : goal.loop-func-preserved
loop-func-preserved c =
    let funcs = c.args.funcs.now in
    let i = c.loop-func.func-index in
    let func = get_or funcs i 0 in
    elim c.if-func-marks.branch [
      | then-func-marks w ↦
          rw w.marks-is (mark_more c.args.marks.now c.loop-func.marks funcs i func c.loop-func-test.true refl c.loop-func.invariant w.if-func-marks.true)
      | else-func-marks w ↦
          rw w.marks-is (mark_skip c.args.marks.now c.loop-func.marks funcs i func c.loop-func-test.true refl c.loop-func.invariant w.if-func-marks.false)
    ]

pub returns : goal.returns
returns c =
    let funcs = c.args.funcs.now in
    let whole : take c.loop-func.func-index funcs ≡ funcs = take_all c.loop-func.func-index funcs (omega arith) in
    subst (λ (fs : List ℕ). (f : ℕ) → f < length c.loop-func.marks → IsMarked c.loop-func.marks f ↔ (IsMarked c.args.marks.now f ⊎ Contains fs f)) whole
    c.loop-func.invariant
