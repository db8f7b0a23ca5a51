use Rattle.std.proofs.Common.{rules}
use Rattle.wasm_types.specs.declared.place.LimitKind.TheVariants.{Params, Globals, TableSize, Locals, Positions}
use Rattle.wasm_validate.proofs.LimitLemmas.{first_kind, one_kind_more, all_kinds}
use Rattle.wasm_validate.proofs.limits.first_over.Goals as goal

pub returns : goal.returns
returns c =
    let m = c.args.m.now in
    let functions = first_kind m c.over_functions.result c.over_functions.ensures in
    let params = one_kind_more m Params c.over_functions.result c.or_else.result _ (λ told. search rules) functions c.or_else.ensures in
    let globals = one_kind_more m Globals c.or_else.result c.or_else-2.result _ (λ told. search rules) params c.or_else-2.ensures in
    let tables = one_kind_more m TableSize c.or_else-2.result c.or_else-3.result _ (λ told. search rules) globals c.or_else-3.ensures in
    let locals = one_kind_more m Locals c.or_else-3.result c.or_else-4.result _ (λ told. search rules) tables c.or_else-4.ensures in
    let positions = one_kind_more m Positions c.or_else-4.result c.or_else-5.result _ (λ told. search rules) locals c.or_else-5.ensures in
    all_kinds m c.or_else-5.result positions
