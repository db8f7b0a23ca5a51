use Rattle.std.proofs.Common.{◌≡◌, ◌≤◌, ◌+◌, ◌*◌, ◌++◌, drop}
use Rattle.wasm_types.specs.Code.{done, onto, code_of, count}
use Rattle.control_deps.specs.Spots.{spots_in}
use Rattle.control_deps.proofs.walk.+walk.Given as goal

abbrev pub decreases-walk_instr : goal.decreases-walk_instr
decreases-walk_instr l = 4 * count (onto l.instr.now done)

abbrev pub decreases-walk_block : goal.decreases-walk_block
decreases-walk_block l = 4 * count (code_of l.inner.now) + 2

abbrev pub decreases-walk_if : goal.decreases-walk_if
decreases-walk_if l = 4 * (count (code_of l.first.now) + count (code_of l.second.now)) + 2

abbrev pub decreases-walk_code : goal.decreases-walk_code
decreases-walk_code l = 4 * count (code_of l.code.now) + 1

-- what was added, and what is still to be added, is all
abbrev pub invariant-walk_code-loop-instr : goal.invariant-walk_code-loop-instr
invariant-walk_code-loop-instr l = record {
  later : l.at ≤ l.here;
  place : l.here + count (code_of (drop l.instr-index l.code)) ≡ l.at + count (code_of l.code);
  spots : l.spots.items ++ spots_in l.reached l.around l.depth (code_of (drop l.instr-index l.code)) l.here ≡ l.fn.spots.items ++ spots_in l.live l.around l.depth (code_of l.code) l.at;
  smaller : count (code_of (drop l.instr-index l.code)) ≤ count (code_of l.code);
}
