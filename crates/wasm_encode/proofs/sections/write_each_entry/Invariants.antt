use Rattle.std.proofs.Common.{◌≡◌, ◌++◌, drop}
use Rattle.wasm_types.specs.Canon.{canon_each, canon_entry}
use Rattle.wasm_encode.proofs.sections.write_each_entry.Given as goal

abbrev pub invariant-loop-body : goal.invariant-loop-body
invariant-loop-body l = l.out.items ++ canon_each canon_entry (drop l.body-index l.bodies) ≡ l.initial.out.items ++ canon_each canon_entry l.bodies
