use Rattle.std.proofs.Common.{◌≡◌, ◌++◌, drop}
use Rattle.wasm_types.specs.Canon.{canon_each, canon_table_type}
use Rattle.wasm_encode.proofs.sections.write_each_table.Given as goal

abbrev pub invariant-loop-limits : goal.invariant-loop-limits
invariant-loop-limits l =
    l.out.items ++ canon_each canon_table_type (drop l.limits-index l.tables) ≡ l.initial.out.items ++ canon_each canon_table_type l.tables
