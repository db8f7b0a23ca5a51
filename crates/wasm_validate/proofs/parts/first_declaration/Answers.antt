use Rattle.wasm_types.specs.declared.place.Part.TheVariants as part
use Rattle.wasm_types.specs.Validity.{Holds}
use Rattle.wasm_validate.specs.First.{valid_order}
use Rattle.wasm_validate.proofs.PartLemmas.{none_yet, first_numbered, past_numbered, types, imports, func_types}
use Rattle.wasm_validate.proofs.parts.first_declaration.Goals as goal

pub returns-in-Some : goal.returns-in-Some
returns-in-Some c =
    first_numbered (Holds c.args.m.now) valid_order 0 part.TypeAt c.in-Some.k types (none_yet (Holds c.args.m.now) valid_order) c.in-Some.ensures

pub returns-in-Some-first_import : goal.returns-in-Some-first_import
returns-in-Some-first_import c =
    let P = Holds c.args.m.now in
    let after_types = past_numbered P valid_order 0 part.TypeAt types (none_yet P valid_order) c.in_default.ensures in
    first_numbered P valid_order 1 part.ImportAt c.in-Some-first_import.k imports after_types c.in-Some-first_import.ensures

pub returns-in-Some-first_func_type : goal.returns-in-Some-first_func_type
returns-in-Some-first_func_type c =
    let P = Holds c.args.m.now in
    let after_types = past_numbered P valid_order 0 part.TypeAt types (none_yet P valid_order) c.in_default.ensures in
    let after_imports = past_numbered P valid_order 1 part.ImportAt imports after_types c.in_default-first_import.ensures in
    first_numbered P valid_order 2 part.FuncTypeAt c.in-Some-first_func_type.func func_types after_imports c.in-Some-first_func_type.ensures

pub returns-in-None : goal.returns-in-None
returns-in-None c =
    let P = Holds c.args.m.now in
    let after_types = past_numbered P valid_order 0 part.TypeAt types (none_yet P valid_order) c.in_default.ensures in
    let after_imports = past_numbered P valid_order 1 part.ImportAt imports after_types c.in_default-first_import.ensures in
    past_numbered P valid_order 2 part.FuncTypeAt func_types after_imports c.in-None.ensures
