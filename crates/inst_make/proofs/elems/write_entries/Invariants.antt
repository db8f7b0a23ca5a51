use Rattle.std.proofs.Common.{◌≡◌, ◌+◌, drop}
use Rattle.typed_runs.specs.Start.{named}
use Rattle.inst_make.proofs.elems.write_entries.Given as goal

abbrev pub invariant-loop-k : goal.invariant-loop-k
invariant-loop-k l = named (l.at + l.k) (drop l.k l.funcs) l.entries ≡ named l.at l.funcs l.initial.entries
