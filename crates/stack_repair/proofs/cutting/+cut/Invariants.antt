use Rattle.std.proofs.Common.{◌≡◌, ◌≤◌, ◌+◌, ◌*◌, [], drop}
use Rattle.wasm_types.specs.Code.{done, onto, code_of, count}
use Rattle.stack_repair.specs.Told.{Puts, put_in, put_onward, told}
use Rattle.stack_repair.proofs.cutting.+cut.Given as goal

abbrev pub decreases-keep : goal.decreases-keep
decreases-keep l = 3 * count (onto l.instr.now done)

abbrev pub decreases-cut_next : goal.decreases-cut_next
decreases-cut_next l = 3 * count (onto l.instr.now done) + 1

abbrev pub decreases-cut_code : goal.decreases-cut_code
decreases-cut_code l = 3 * count (code_of l.code.now) + 2

-- what was put and is still to come is all
abbrev pub invariant-cut_code-loop-instr : goal.invariant-cut_code-loop-instr
invariant-cut_code-loop-instr l = record {
  puts : Puts [] l.initial.tally (put_in (told l.plan) l.left (code_of l.code) l.initial.tally.pos) l.made l.tally (put_onward (told l.plan) l.left l.live (code_of (drop l.instr-index l.code)) l.tally.pos);
  smaller : count (code_of (drop l.instr-index l.code)) ≤ count (code_of l.code);
  room : l.tally.pos + count (code_of (drop l.instr-index l.code)) ≡ l.initial.tally.pos + count (code_of l.code);
}
