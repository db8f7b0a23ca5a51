use Rattle.std.proofs.Common.{◌≡◌, ◌≤◌, ◌+◌, ◌*◌, ◌^◌, drop, reverse, length}
use Rattle.wasm_types.specs.Code.{done, onto, code_of, count}
use Rattle.slice_closure.proofs.Walking.{Leaves}
use Rattle.slice_closure.proofs.walk.+walk.Given as goal

abbrev pub decreases-walk_instr : goal.decreases-walk_instr
decreases-walk_instr l = 4 * count (onto l.instr.now done)

abbrev pub decreases-walk_inner : goal.decreases-walk_inner
decreases-walk_inner l = 4 * count (code_of l.code.now) + 2

abbrev pub decreases-walk_code : goal.decreases-walk_code
decreases-walk_code l = 4 * count (code_of l.code.now) + 1

abbrev pub invariant-walk_code-loop-instr : goal.invariant-walk_code-loop-instr
invariant-walk_code-loop-instr l = record {
  labels_are : l.labels.items ≡ l.fn.labels.items;
  room : length l.trail.spots.items + count (code_of (drop l.instr-index l.code)) ≤ 2 ^ 32;
  found : Leaves (reverse l.fn.labels.items) l.fn.came (code_of l.fn.code) l.fn.trail l.end (code_of (drop l.instr-index l.code)) l.trail;
  smaller : count (code_of (drop l.instr-index l.code)) ≤ count (code_of l.fn.code);
}
