use Rattle.std.proofs.Common.{◌≡◌, ◌↔◌, ◌⊎◌, ◌<◌, ℕ, List, length, take, subst, arith}
use Rattle.std.specs.Prelude.{Any}
use Rattle.std.specs.List.{Contains}
use Rattle.std.proofs.Math.Seq.{take_all}
use Rattle.wasm_types.specs.declared.module.Elem.{Elem}
use Rattle.worklist.specs.Search.{IsMarked}
use Rattle.call_graph.proofs.ClassLemmas.{named_more}
use Rattle.call_graph.proofs.classes.mark_named.Goals as goal

pub loop-elem-preserved : goal.loop-elem-preserved
loop-elem-preserved c =
    let marks = c.loop-elem.marks in
    let now = c.mark_each.new.marks in
    let same : length now ≡ length marks = omega arith in
    let one : (f : ℕ) → f < length now → IsMarked now f ↔ (IsMarked marks f ⊎ Contains c.elem-item.result.funcs f) =
    subst (λ (fs : List ℕ). (f : ℕ) → f < length now → IsMarked now f ↔ (IsMarked marks f ⊎ Contains fs f)) c.as_slice.ensures c.mark_each.ensures in
    named_more c.args.marks.now marks now c.args.elems.now c.loop-elem.elem-index c.elem-item.result c.loop-elem-test.true c.elem-item.is same
    c.loop-elem.invariant one

pub returns : goal.returns
returns c =
    let elems = c.args.elems.now in
    let whole : take c.loop-elem.elem-index elems ≡ elems = take_all c.loop-elem.elem-index elems (omega arith) in
    subst (λ (es : List Elem). (f : ℕ) → f < length c.loop-elem.marks
    → IsMarked c.loop-elem.marks f ↔ (IsMarked c.args.marks.now f ⊎ Any (λ (e : Elem). Contains e.funcs f) es)) whole c.loop-elem.invariant
