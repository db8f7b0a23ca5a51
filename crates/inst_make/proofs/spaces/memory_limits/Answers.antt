use Rattle.std.proofs.Common.{◌≡◌, List, Some, None, sym, ap, ◌∙◌}
use Rattle.std.specs.Prelude.{slice_get}
use Rattle.wasm_types.specs.declared.module.Import.{Import}
use Rattle.wasm_types.specs.Spaces.{imported, memory_import, mems_of}
use Rattle.inst_make.proofs.FirstLimits.{first_least, first_max, first_back, none_least, none_max}
use Rattle.inst_make.proofs.spaces.memory_limits.Goals as goal

pub returns-in-Some-get-clause-min : goal.returns-in-Some-get-clause-min
returns-in-Some-get-clause-min c =
    let m = c.args.m.now in
    let none : slice_get (imported memory_import m.imports) 0 ≡ None =
    sym (c.in-None.ensures ∙ ap (λ (l : List Import). slice_get (imported memory_import l) 0) c.as_slice.ensures) in
    let own : slice_get m.mems 0 ≡ Some c.in-Some-get.limits.now = sym c.in-Some-get.ensures.value in
    sym (first_least (mems_of m) c.in-Some-get.limits.now (first_back (imported memory_import m.imports) m.mems none ∙ own))

pub returns-in-Some-get-clause-max : goal.returns-in-Some-get-clause-max
returns-in-Some-get-clause-max c =
    let m = c.args.m.now in
    let none : slice_get (imported memory_import m.imports) 0 ≡ None =
    sym (c.in-None.ensures ∙ ap (λ (l : List Import). slice_get (imported memory_import l) 0) c.as_slice.ensures) in
    let own : slice_get m.mems 0 ≡ Some c.in-Some-get.limits.now = sym c.in-Some-get.ensures.value in
    sym (first_max (mems_of m) c.in-Some-get.limits.now (first_back (imported memory_import m.imports) m.mems none ∙ own))

pub returns-in-None-get-clause-min : goal.returns-in-None-get-clause-min
returns-in-None-get-clause-min c =
    let m = c.args.m.now in
    let none : slice_get (imported memory_import m.imports) 0 ≡ None =
    sym (c.in-None.ensures ∙ ap (λ (l : List Import). slice_get (imported memory_import l) 0) c.as_slice.ensures) in
    let own : slice_get m.mems 0 ≡ None = sym c.in-None-get.ensures.value in
    sym (none_least (mems_of m) (first_back (imported memory_import m.imports) m.mems none ∙ own))

pub returns-in-None-get-clause-max : goal.returns-in-None-get-clause-max
returns-in-None-get-clause-max c =
    let m = c.args.m.now in
    let none : slice_get (imported memory_import m.imports) 0 ≡ None =
    sym (c.in-None.ensures ∙ ap (λ (l : List Import). slice_get (imported memory_import l) 0) c.as_slice.ensures) in
    let own : slice_get m.mems 0 ≡ None = sym c.in-None-get.ensures.value in
    sym (none_max (mems_of m) (first_back (imported memory_import m.imports) m.mems none ∙ own))
