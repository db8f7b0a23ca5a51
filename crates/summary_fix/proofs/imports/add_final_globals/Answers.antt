use Rattle.std.proofs.Common.{◌∙◌, get_or, false}
use Rattle.wasm_types.specs.declared.place.Loc.TheVariants.{Global}
use Rattle.flow_domain.specs.Rows.{Final}
use Rattle.flow_domain.specs.Summaries.{HasInput}
use Rattle.summary_fix.proofs.Importing.{adds_then, global_more, row_of}
use Rattle.summary_fix.proofs.imports.add_final_globals.Goals as goal

pub loop-global-preserved : goal.loop-global-preserved
loop-global-preserved c =
    let seen = c.args.seen.now in
    let memory = c.args.memory in
    let params = c.args.rows.now.params in
    let k = c.loop-global.global in
    let old = c.loop-global.invariant.shape in
    let new = c.add_row.ensures.shape in
    record {
      shape = record { globals_is = new.globals_is ∙ old.globals_is; params_is = new.params_is ∙ old.params_is };
      added = adds_then _ _ _ (HasInput c.args.rows.now) (HasInput c.loop-global.rows) (HasInput c.add_row.new.rows) c.loop-global.invariant.added
          (row_of seen memory params c.loop-global.rows.params old.params_is (Final (Global k)) (get_or seen k false) (Global k) (HasInput c.loop-global.rows)
          (HasInput c.add_row.new.rows) c.add_row.ensures.added)
          (global_more seen memory params k);
    }
