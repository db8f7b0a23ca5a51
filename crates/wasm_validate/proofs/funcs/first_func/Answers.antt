use Rattle.std.proofs.Common.{◌≤◌, length, arith, true≢false, sym, ap, ◌∙◌, below_more, Some, None}
use Rattle.std.specs.Prelude.{List}
use Rattle.wasm_types.specs.declared.module.Body.{Body}
use Rattle.wasm_types.specs.WellFormed.{ProperBody}
use Rattle.wasm_validate.proofs.EntryLemmas.{all_at, entry}
use Rattle.wasm_validate.proofs.ImportLemmas.{length-imported_funcs}
use Rattle.wasm_validate.proofs.OwnLemmas.{OwnBody, body_valid, past_bodies, own_func}
use Rattle.wasm_validate.proofs.funcs.first_func.Goals as goal

pub body_holds-requires-clause-locals : goal.body_holds-requires-clause-locals
body_holds-requires-clause-locals c =
    let here = entry c.as_slice-body-items.result.now c.args.m.now.bodies c.loop-k.k c.body-item.result c.as_slice-body-items.ensures c.loop-k-test.true c.body-item.is in
    (all_at ProperBody c.args.m.now.bodies c.loop-k.k c.body-item.result here c.requires.well_formed.bodies).1

pub overflow_add-result : goal.overflow_add-result
overflow_add-result c =
    let items = ap length c.as_slice-body-items.ensures in
    omega (arith, length-imported_funcs c.args.m.now.imports)

pub loop-k-preserved : goal.loop-k-preserved
loop-k-preserved c =
    let here = entry c.as_slice-body-items.result.now c.args.m.now.bodies c.loop-k.k c.body-item.result c.as_slice-body-items.ensures c.loop-k-test.true c.body-item.is in
    below_more (OwnBody c.args.m.now) c.loop-k.k c.loop-k.invariant (body_valid c.args.m.now c.loop-k.k c.body-item.result here (c.in_ok-holds.ensures.0 c.if-not-holds.false))

pub returns-then-not-holds : goal.returns-then-not-holds
returns-then-not-holds c =
    let here = entry c.as_slice-body-items.result.now c.args.m.now.bodies c.loop-k.k c.body-item.result c.as_slice-body-items.ensures c.loop-k-test.true c.body-item.is in
    own_func c.args.m.now c.first_own_func-imported.result (Some c.loop-k.k) c.first_own_func-imported.ensures
    (λ h. true≢false (sym (c.in_ok-holds.ensures.1 (λ F is. h F c.body-item.result is here)) ∙ c.if-not-holds.true), c.loop-k.invariant)

pub returns : goal.returns
returns c =
    own_func c.args.m.now c.first_own_func-imported.result None c.first_own_func-imported.ensures
    (past_bodies c.args.m.now c.as_slice-body-items.result.now c.loop-k.k c.as_slice-body-items.ensures c.loop-k-test.false c.loop-k.invariant)
