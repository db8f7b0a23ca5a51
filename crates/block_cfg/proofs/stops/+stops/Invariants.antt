use Rattle.std.proofs.Common.{◌≡◌, ◌≤◌, ◌+◌, ◌*◌, ◌++◌, drop, length}
use Rattle.wasm_types.specs.Code.{done, onto, code_of, count}
use Rattle.block_cfg.specs.Stops.{stops_in}
use Rattle.block_cfg.proofs.stops.+stops.Given as goal

abbrev pub decreases-add_instr : goal.decreases-add_instr
decreases-add_instr l = 2 * count (onto l.instr.now done)

abbrev pub decreases-add_code : goal.decreases-add_code
decreases-add_code l = 2 * count (code_of l.code.now) + 1

-- those so far and those of the rest are those of all
abbrev pub invariant-add_code-loop-instr : goal.invariant-add_code-loop-instr
invariant-add_code-loop-instr l = record {
  whole : l.stops.items ++ stops_in (code_of (drop l.instr-index l.code)) (length l.stops.items)
      ≡ l.fn.stops.items ++ stops_in (code_of l.fn.code) (length l.fn.stops.items);
  smaller : count (code_of (drop l.instr-index l.code)) ≤ count (code_of l.fn.code);
}
