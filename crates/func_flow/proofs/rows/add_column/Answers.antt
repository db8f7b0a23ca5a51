use Rattle.std.proofs.Common.{◌∙◌, subst}
use Rattle.wasm_types.specs.declared.place.Loc.{Loc}
use Rattle.flow_domain.specs.Rows.{Output}
use Rattle.flow_domain.specs.Summaries.{HasInput}
use Rattle.func_flow.specs.Met.{IsMetAt}
use Rattle.func_flow.proofs.MetLemmas.{Grows, rows_next}
use Rattle.func_flow.proofs.rows.add_column.Goals as goal

pub loop-row-preserved : goal.loop-row-preserved
loop-row-preserved c =
    let old = c.args.summary.now in
    let mid = c.loop-row.summary in
    let new = c.add_bit.new.summary in
    let inv = c.loop-row.invariant in
    let bit = c.add_bit.ensures in
    let before = λ (o : Output) (x : Loc). HasInput old o x in
    let now = λ (o : Output) (x : Loc). HasInput mid o x in
    let after = λ (o : Output) (x : Loc). HasInput new o x in
    record {
      shape = record { globals_is = bit.shape.globals_is ∙ inv.shape.globals_is; params_is = bit.shape.params_is ∙ inv.shape.params_is };
      added = rows_next c.args.met.now c.args.item old.globals old.params c.loop-row.row c.args.column before now after inv.added
          (subst (λ g. Grows now (λ o x. IsMetAt c.args.met.now c.args.item g old.params c.loop-row.row c.args.column o x) after) inv.shape.globals_is
          (subst (λ p. Grows now (λ o x. IsMetAt c.args.met.now c.args.item mid.globals p c.loop-row.row c.args.column o x) after) inv.shape.params_is bit.added));
    }
