use Rattle.std.proofs.Common.{true≢false, sym, ◌∙◌}
use Rattle.wasm_types.specs.Validity.{ElemHolds}
use Rattle.wasm_validate.proofs.EntryLemmas.{entry, one_more, found_here, none_left}
use Rattle.wasm_validate.proofs.segments.first_elem.Goals as goal

pub loop-k-preserved : goal.loop-k-preserved
loop-k-preserved c =
    let here = entry c.as_slice-elem-items.result.now c.args.m.now.elems c.loop-k.k c.elem-item.result c.as_slice-elem-items.ensures c.loop-k-test.true c.elem-item.is in
    one_more (ElemHolds c.args.m.now) c.args.m.now.elems c.loop-k.k c.elem-item.result here (c.elem_holds.ensures.0 c.if-not-elem_holds.false) c.loop-k.invariant

pub returns-then-not-elem_holds : goal.returns-then-not-elem_holds
returns-then-not-elem_holds c =
    let here = entry c.as_slice-elem-items.result.now c.args.m.now.elems c.loop-k.k c.elem-item.result c.as_slice-elem-items.ensures c.loop-k-test.true c.elem-item.is in
    found_here (ElemHolds c.args.m.now) c.args.m.now.elems c.loop-k.k c.elem-item.result here (λ h. true≢false (sym (c.elem_holds.ensures.1 h) ∙ c.if-not-elem_holds.true)) c.loop-k.invariant

pub returns : goal.returns
returns c = none_left (ElemHolds c.args.m.now) c.as_slice-elem-items.result.now c.args.m.now.elems c.loop-k.k c.as_slice-elem-items.ensures c.loop-k-test.false c.loop-k.invariant
