use Rattle.std.proofs.Common.{ap, arith, length, map, length-append}
use Rattle.std.proofs.lemmas.List.{length-map}
use Rattle.wasm_types.specs.Spaces.{global_import, global_kind, imported}
use Rattle.wasm_validate.proofs.ImportLemmas.{length-imported_globals}
use Rattle.wasm_validate.proofs.imports.first_own_global.Goals as goal

pub overflow_cast-result : goal.overflow_cast-result
overflow_cast-result c =
    let m = c.args.m.now in
    let whole = ap length c.requires.described.globals in
    omega (arith, length-imported_globals m.imports, length-append (imported global_import m.imports) (map global_kind m.globals), length-map m.globals global_kind)
