use Rattle.std.proofs.Common.{rules, ◌≡◌, Some, refl}
use Rattle.std.specs.Prelude.{slice_get}
use Rattle.std.proofs.lemmas.Option.{slice_get_read}
use Rattle.flow_domain.proofs.Tabling.{table_merged}
use Rattle.flow_domain.proofs.summary_table.SummaryTable.merge.Goals as goal

pub returns-clause-merged : goal.returns-clause-merged
returns-clause-merged c =
    let rows = c.args.self.now.rows in
    let a = c.index_mut.result.now in
    let here : slice_get rows.items c.args.func ≡ Some a = slice_get_read rows.items _ c.args.func a rows.ok.0 (search rules) c.index_mut.ensures.value in
    table_merged c.args.func c.args.rows.now a c.merge.new.self c.args.self.now _ here refl c.merge.ensures.shape c.merge.ensures.merged

pub returns-clause-same : goal.returns-clause-same
returns-clause-same c = λ off o x h.
    let rows = c.args.self.now.rows in
    let a = c.index_mut.result.now in
    let here : slice_get rows.items c.args.func ≡ Some a = slice_get_read rows.items _ c.args.func a rows.ok.0 (search rules) c.index_mut.ensures.value in
    (a, (here, c.merge.ensures.same off o x h))
