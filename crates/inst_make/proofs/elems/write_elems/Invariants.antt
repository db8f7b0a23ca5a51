use Rattle.std.proofs.Common.{◌≡◌, drop}
use Rattle.typed_runs.specs.Start.{table_after}
use Rattle.inst_make.proofs.elems.write_elems.Given as goal

abbrev pub invariant-loop-elem : goal.invariant-loop-elem
invariant-loop-elem l = table_after l.globals (drop l.elem-index l.elems) l.entries ≡ table_after l.globals l.elems l.initial.entries
