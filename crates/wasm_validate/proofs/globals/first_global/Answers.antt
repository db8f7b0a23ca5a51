use Rattle.std.proofs.Common.{true≢false, sym, ap, ◌∙◌, length, arith, Some, None}
use Rattle.wasm_types.specs.Validity.{GlobalHolds}
use Rattle.wasm_validate.proofs.EntryLemmas.{entry, one_more, found_here, none_left}
use Rattle.wasm_validate.proofs.ImportLemmas.{length-imported_globals}
use Rattle.wasm_validate.proofs.OwnLemmas.{own_global}
use Rattle.wasm_validate.proofs.globals.first_global.Goals as goal

pub overflow_cast-result : goal.overflow_cast-result
overflow_cast-result c =
    let count = ap length c.imported_types-imported.ensures in
    let items = ap length c.as_slice-global-items.ensures in
    omega (arith, length-imported_globals c.args.m.now.imports)

pub loop-k-preserved : goal.loop-k-preserved
loop-k-preserved c =
    let here = entry c.as_slice-global-items.result.now c.args.m.now.globals c.loop-k.k c.global-item.result c.as_slice-global-items.ensures c.loop-k-test.true c.global-item.is in
    one_more (GlobalHolds c.args.m.now) c.args.m.now.globals c.loop-k.k c.global-item.result here (c.global_holds.ensures.0 c.if-not-global_holds.false) c.loop-k.invariant

pub returns-then-not-global_holds : goal.returns-then-not-global_holds
returns-then-not-global_holds c =
    let here = entry c.as_slice-global-items.result.now c.args.m.now.globals c.loop-k.k c.global-item.result c.as_slice-global-items.ensures c.loop-k-test.true c.global-item.is in
    own_global c.args.m.now (length c.imported_types-imported.result.now) (Some c.loop-k.k) (ap length c.imported_types-imported.ensures)
    (found_here (GlobalHolds c.args.m.now) c.args.m.now.globals c.loop-k.k c.global-item.result here (λ h. true≢false (sym (c.global_holds.ensures.1 h) ∙ c.if-not-global_holds.true)) c.loop-k.invariant)

pub returns : goal.returns
returns c = own_global c.args.m.now (length c.imported_types-imported.result.now) None (ap length c.imported_types-imported.ensures) (none_left (GlobalHolds c.args.m.now) c.as_slice-global-items.result.now c.args.m.now.globals c.loop-k.k c.as_slice-global-items.ensures c.loop-k-test.false c.loop-k.invariant)
