use Rattle.std.proofs.Common.{◌≡◌, ◌++◌, drop}
use Rattle.wasm_types.specs.Canon.{canon_each}
use Rattle.wasm_encode.proofs.items.write_each.Given as goal

-- what is written, and what is still to come
abbrev pub invariant-loop-item : goal.invariant-loop-item
invariant-loop-item g l =
    l.out.items ++ canon_each g.T.Canonical.text (drop l.item-index l.items) ≡ l.initial.out.items ++ canon_each g.T.Canonical.text l.items
