use Rattle.std.proofs.Common.{◌≡◌, ◌∙◌, Some, None, ap, sym}
use Rattle.std.specs.Prelude.{slice_get}
use Rattle.std.specs.Option.{option_copied}
use Rattle.called_rows.proofs.FuncLemmas.{rows_none, rows_some}
use Rattle.called_rows.proofs.funcs.add_func.Goals as goal

pub merge-requires : goal.merge-requires
merge-requires c =
    let found : slice_get c.args.table.now.rows.items c.args.func ≡ Some c.in-Some.more.now = sym c.get.ensures ∙ ap option_copied c.in-Some.is in
    c.requires.shape c.in-Some.more.now found

pub returns-in_default-clause-added : goal.returns-in_default-clause-added
returns-in_default-clause-added c =
    let none : slice_get c.args.table.now.rows.items c.args.func ≡ None = sym c.get.ensures ∙ ap option_copied c.in_default.is in
    rows_none c.args.table.now c.args.func c.args.rows.now none

pub returns-clause-added : goal.returns-clause-added
returns-clause-added c =
    let found : slice_get c.args.table.now.rows.items c.args.func ≡ Some c.in-Some.more.now = sym c.get.ensures ∙ ap option_copied c.in-Some.is in
    rows_some c.args.table.now c.args.func c.in-Some.more.now c.args.rows.now c.merge.new.self found c.merge.ensures.merged
