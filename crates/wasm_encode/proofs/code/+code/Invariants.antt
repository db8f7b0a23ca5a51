use Rattle.std.proofs.Common.{◌≡◌, ◌+◌, ◌*◌, ◌<◌, ◌^◌, ◌≤◌, ◌++◌, length, drop}
use Rattle.wasm_types.specs.Code.{done, onto, code_of, count}
use Rattle.wasm_types.specs.Canon.{canon_code}
use Rattle.wasm_types.specs.WellFormed.{ProperCode}
use Rattle.wasm_encode.proofs.code.+code.Given as goal

abbrev pub decreases-write_instr : goal.decreases-write_instr
decreases-write_instr l = 4 * count (onto l.instr.now done)

abbrev pub decreases-write_code : goal.decreases-write_code
decreases-write_code l = 4 * count (code_of l.code.now) + 1

abbrev pub decreases-write_enclosed : goal.decreases-write_enclosed
decreases-write_enclosed l = 4 * count (code_of l.code.now) + 2

abbrev pub decreases-write_else : goal.decreases-write_else
decreases-write_else l = 4 * count (code_of l.code.now) + 2

abbrev pub decreases-write_if : goal.decreases-write_if
decreases-write_if l = 4 * (count (code_of l.first.now) + count (code_of l.second.now)) + 3

abbrev pub invariant-write_code-loop-instr : goal.invariant-write_code-loop-instr
invariant-write_code-loop-instr l = record {
  so_far : l.out.items ++ canon_code (code_of (drop l.instr-index l.code)) ≡ l.initial.out.items ++ canon_code (code_of l.code);
  ready : ProperCode (code_of (drop l.instr-index l.code));
  short : length (canon_code (code_of (drop l.instr-index l.code))) < 2 ^ 32;
  smaller : count (code_of (drop l.instr-index l.code)) ≤ count (code_of l.fn.code);
}
