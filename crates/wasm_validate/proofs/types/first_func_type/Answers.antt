use Rattle.std.proofs.Common.{◌<◌, length, arith, Some}
use Rattle.wasm_validate.proofs.EntryLemmas.{found_within}
use Rattle.wasm_validate.proofs.ImportLemmas.{length-imported_funcs}
use Rattle.wasm_validate.proofs.OwnLemmas.{own_func_type}
use Rattle.wasm_validate.proofs.types.first_func_type.Goals as goal

pub overflow_add-result : goal.overflow_add-result
overflow_add-result c =
    let m = c.args.m.now in
    let own = found_within (λ type. type < length m.types) m.funcs c.in_ok-own.own c.in_ok-own.ensures.0 in
    omega (arith, length-imported_funcs m.imports)

pub returns : goal.returns
returns c = own_func_type c.args.m.now c.first_own_func.result (Some c.in_ok-own.own) c.first_own_func.ensures c.in_ok-own.ensures
