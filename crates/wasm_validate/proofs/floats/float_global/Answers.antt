use Rattle.std.proofs.Common.{◌≡◌, ◌+◌, length, ap, arith, rules, List}
use borrow.Author.Tests.{tests}
use Rattle.std.proofs.lemmas.Iterator.{IsFirst-from_position, YieldsList-from_slice}
use Rattle.wasm_types.specs.declared.module.Import.{Import}
use Rattle.wasm_types.specs.Spaces.{global_import, imported}
use Rattle.wasm_types.specs.Subset.{IsIntegerGlobal}
use Rattle.wasm_validate.proofs.EntryLemmas.{first_own}
use Rattle.wasm_validate.proofs.ImportLemmas.{length-imported_globals}
use Rattle.wasm_validate.proofs.floats.float_global.Goals as goal

pub overflow_add-result : goal.overflow_add-result
overflow_add-result c =
    omega (arith, length-imported_globals c.args.m.now.imports, c.in_ok-at.ensures.bound, ap (λ (xs : List _). length xs) c.as_slice.ensures)

pub returns : goal.returns
returns c =
    let globals = c.args.m.now.globals in
    let n = length (imported global_import c.args.m.now.imports) in
    let own : c.first_own_global.result + c.in_ok-at.at ≡ n + c.in_ok-at.at = cc in
    first_own IsIntegerGlobal globals n c.in_ok-at.at (c.first_own_global.result + c.in_ok-at.at) own
    (IsFirst-from_position _ _ _ (λ x. IsIntegerGlobal x → ⊥) IsIntegerGlobal c.in_ok-at.ensures.ran (YieldsList-from_slice globals cc) (λ x q k. search (rules, tests)) (λ x q k. search (rules, tests)))
