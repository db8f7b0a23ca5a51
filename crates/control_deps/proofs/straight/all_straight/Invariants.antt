use Rattle.std.proofs.Common.{◌≡◌, drop}
use Rattle.control_deps.specs.Straight.{all_straight}
use Rattle.control_deps.proofs.straight.all_straight.Given as goal

abbrev pub invariant-loop-instr : goal.invariant-loop-instr
invariant-loop-instr l = all_straight l.code ≡ all_straight (drop l.instr-index l.code)
