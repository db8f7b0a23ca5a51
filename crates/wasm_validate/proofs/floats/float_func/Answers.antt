use Rattle.std.proofs.Common.{◌≡◌, ◌+◌, length, ap, arith, rules, List}
use borrow.Author.Tests.{tests}
use Rattle.std.proofs.lemmas.Iterator.{IsFirst-from_position, YieldsList-from_slice}
use Rattle.wasm_types.specs.declared.module.Import.{Import}
use Rattle.wasm_types.specs.Spaces.{func_import, imported}
use Rattle.wasm_types.specs.Subset.{IsIntegerBody}
use Rattle.wasm_validate.proofs.EntryLemmas.{first_own}
use Rattle.wasm_validate.proofs.ImportLemmas.{length-imported_funcs}
use Rattle.wasm_validate.proofs.floats.float_func.Goals as goal

pub overflow_add-result : goal.overflow_add-result
overflow_add-result c = omega (arith, length-imported_funcs c.args.m.now.imports, c.in_ok-at.ensures.bound, ap (λ (xs : List _). length xs) c.as_slice.ensures)

pub returns : goal.returns
returns c =
    let bodies = c.args.m.now.bodies in
    let n = length (imported func_import c.args.m.now.imports) in
    let own : c.first_own_func.result + c.in_ok-at.at ≡ n + c.in_ok-at.at = cc in
    let found = first_own IsIntegerBody bodies n c.in_ok-at.at (c.first_own_func.result + c.in_ok-at.at) own
    (IsFirst-from_position _ _ _ (λ x. IsIntegerBody x → ⊥) IsIntegerBody c.in_ok-at.ensures.ran (YieldsList-from_slice bodies cc) (λ x q k. search (rules, tests)) (λ x q k. search (rules, tests))) in
    (λ h. found.0 (λ b le is. h b (le, is)), λ f lt b has. found.1 f lt b has.0 has.1)
