use Rattle.std.proofs.Common.{◌≡◌, List, Some, None, sym, ap, ◌∙◌}
use Rattle.std.specs.Prelude.{slice_get}
use Rattle.wasm_types.specs.declared.module.Import.{Import}
use Rattle.wasm_types.specs.Spaces.{imported, table_import, tables_of}
use Rattle.inst_make.proofs.FirstLimits.{first_least, first_back, none_least}
use Rattle.inst_make.proofs.spaces.table_size.Goals as goal

pub returns-in-Some-get : goal.returns-in-Some-get
returns-in-Some-get c =
    let m = c.args.m.now in
    let none : slice_get (imported table_import m.imports) 0 ≡ None =
    sym (c.in-None.ensures ∙ ap (λ (l : List Import). slice_get (imported table_import l) 0) c.as_slice.ensures) in
    let own : slice_get m.tables 0 ≡ Some c.in-Some-get.limits.now = sym c.in-Some-get.ensures.value in
    sym (first_least (tables_of m) c.in-Some-get.limits.now (first_back (imported table_import m.imports) m.tables none ∙ own))

pub returns-in-None-get : goal.returns-in-None-get
returns-in-None-get c =
    let m = c.args.m.now in
    let none : slice_get (imported table_import m.imports) 0 ≡ None =
    sym (c.in-None.ensures ∙ ap (λ (l : List Import). slice_get (imported table_import l) 0) c.as_slice.ensures) in
    let own : slice_get m.tables 0 ≡ None = sym c.in-None-get.ensures.value in
    sym (none_least (tables_of m) (first_back (imported table_import m.imports) m.tables none ∙ own))
