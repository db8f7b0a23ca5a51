use Rattle.std.proofs.Common.{◌≡◌, ◌∙◌, List, ap, arith, get_or}
use Rattle.wasm_types.specs.declared.module.Body.{Body}
use Rattle.wasm_types.specs.declared.module.Module.{Module}
use Rattle.wasm_types.specs.Sizes.{positions}
use Rattle.mill_report.proofs.CountLemmas.{few_positions, more_positions}
use Rattle.mill_report.proofs.counts.count_positions.Goals as goal

pub loop-body-preserved : goal.loop-body-preserved
loop-body-preserved c =
    let m = c.args.valid.now in
    let xs : List Body = c.as_slice-body-items.result.now in
    let same : xs ≡ m.bodies = c.as_slice-body-items.ensures ∙ ap (λ (n : Module). n.bodies) c.module-module.ensures.same in
    let b = c.body-item.result in
    let few = few_positions m c.module-module.ensures.sealed xs same c.loop-body.body-index b c.loop-body-test.true in
    let many : c.count.result ≡ positions (get_or xs c.loop-body.body-index b).code = c.count.ensures ∙ ap (λ (x : Body). positions x.code) c.body-item.is in
    record {
      sum = more_positions xs m.bodies same c.loop-body.body-index c.loop-body.total c.count.result b c.loop-body-test.true c.loop-body.invariant.sum
          many;
      few = omega (arith, few, many, c.loop-body.invariant.few);
    }
