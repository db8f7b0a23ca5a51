use Rattle.std.proofs.Common.{◌≡◌, ◌≤◌, ◌+◌, ◌*◌, ◌++◌, drop}
use Rattle.wasm_types.specs.Code.{done, onto, code_of, count}
use Rattle.call_graph.specs.Lists.{live_deeds}
use Rattle.call_graph.proofs.deeds.+live.Given as goal

abbrev pub decreases-add_instr : goal.decreases-add_instr
decreases-add_instr l = 2 * count (onto l.instr.now done)

abbrev pub decreases-add_code : goal.decreases-add_code
decreases-add_code l = 2 * count (code_of l.code.now) + 1

-- the deeds so far and those of the rest are those of all
abbrev pub invariant-add_code-loop-instr : goal.invariant-add_code-loop-instr
invariant-add_code-loop-instr l = record {
  whole : l.deeds.items ++ live_deeds (code_of (drop l.instr-index l.code)) ≡ l.fn.deeds.items ++ live_deeds (code_of l.fn.code);
  smaller : count (code_of (drop l.instr-index l.code)) ≤ count (code_of l.fn.code);
}
