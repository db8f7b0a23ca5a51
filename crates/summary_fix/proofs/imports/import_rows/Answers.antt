use Rattle.std.proofs.Common.{◌≡◌, ◌∙◌, length, true, false}
use Rattle.wasm_types.specs.declared.place.Loc.TheVariants.{Mem, Size, Host}
use Rattle.flow_domain.specs.Rows.{Ret, Final, Done}
use Rattle.flow_domain.specs.Summaries.{HasInput}
use Rattle.summary_fix.proofs.Importing.{row_of, globals_of_rows, import_exact}
use Rattle.summary_fix.proofs.imports.import_rows.Goals as goal

pub returns-clause-rows : goal.returns-clause-rows
returns-clause-rows c =
    let seen = c.args.seen.now in
    let memory = c.args.memory in
    let params = c.args.params in
    let p0 = c.in_ok-rows.ensures.shape.params_is in
    let p1 = c.add_row.ensures.shape.params_is ∙ p0 in
    let p2 = c.add_row-2.ensures.shape.params_is ∙ p1 in
    let p3 = c.add_row-3.ensures.shape.params_is ∙ p2 in
    let p4 = c.add_row-4.ensures.shape.params_is ∙ p3 in
    let p5 = c.add_row-5.ensures.shape.params_is ∙ p4 in
    let g0 : c.in_ok-rows.rows.globals ≡ length seen = c.in_ok-rows.ensures.shape.globals_is in
    let g5 : c.add_row-5.new.rows.globals ≡ length seen =
    c.add_row-5.ensures.shape.globals_is
    ∙ (c.add_row-4.ensures.shape.globals_is ∙ (c.add_row-3.ensures.shape.globals_is ∙ (c.add_row-2.ensures.shape.globals_is ∙ (c.add_row.ensures.shape.globals_is ∙ g0)))) in
    import_exact seen memory params (HasInput c.add_row.new.rows) (HasInput c.add_row-2.new.rows) (HasInput c.add_row-3.new.rows) (HasInput c.add_row-4.new.rows)
    (HasInput c.add_row-5.new.rows) (HasInput c.add_final_globals.new.rows) (HasInput c.in_ok-rows.rows) c.in_ok-rows.ensures.none
    (row_of seen memory params _ p0 Ret true Host _ _ c.add_row.ensures.added)
    (row_of seen memory params _ p1 Done true Host _ _ c.add_row-2.ensures.added)
    (row_of seen memory params _ p2 (Final Host) true Host _ _ c.add_row-3.ensures.added)
    (row_of seen memory params _ p3 (Final Mem) memory Mem _ _ c.add_row-4.ensures.added)
    (row_of seen memory params _ p4 (Final Size) false Size _ _ c.add_row-5.ensures.added)
    (globals_of_rows seen memory params _ _ p5 g5 _ _ c.add_final_globals.ensures.added)
