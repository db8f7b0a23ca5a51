use Rattle.std.proofs.Common.{rules, ap, ◌∙◌}
use Rattle.std.specs.Prelude.{List, find, map, nat_lt}
use Rattle.wasm_types.specs.declared.module.Limits.{Limits}
use Rattle.wasm_validate.specs.Limits.{initial_size}
use Rattle.wasm_validate.proofs.LimitLemmas.{table_found}
use Rattle.wasm_validate.proofs.limits.over_tables.Goals as goal

pub returns : goal.returns
returns c =
    let large = c.large_table.ensures ∙ ap (λ (ts : List Limits). find (nat_lt 1000000) (map initial_size ts)) (c.as_slice.ensures.value ∙ c.requires.tables) in
    table_found c.args.m.now c.large_table.result c.map.result _ (λ n over told. search rules) large c.map.ensures.cases
