use Rattle.std.proofs.Common.{◌≡◌, ◌*◌, ◌≤◌, take}
use Rattle.std.specs.Prelude.{sum_by}
use Rattle.wasm_types.specs.declared.module.Body.{Body}
use Rattle.wasm_types.specs.Sizes.{positions}
use Rattle.mill_report.proofs.counts.count_positions.Given as goal

abbrev pub invariant-loop-body : goal.invariant-loop-body
invariant-loop-body l =
    record { sum : l.total ≡ sum_by (λ (b : Body). positions b.code) (take l.body-index l.valid.bodies); few : l.total ≤ 200000 * l.body-index }
