use Rattle.std.proofs.Common.{◌≡◌}
use Rattle.wasm_types.specs.Marked.{Marked}
use Rattle.flow_domain.specs.Cut.{drops}
use Rattle.stack_repair.specs.Told.{Puts}
use Rattle.stack_repair.proofs.tally.put_drops.Given as goal

abbrev pub invariant-loop : goal.invariant-loop
invariant-loop l = record {
  puts : (X : Marked) → Puts l.initial.made l.initial.tally (drops l.counter X) l.made l.tally X;
  pos : l.tally.pos ≡ l.initial.tally.pos;
}
