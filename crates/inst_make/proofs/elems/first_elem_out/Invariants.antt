use Rattle.std.proofs.Common.{All, take}
use Rattle.inst_make.specs.Starts.{ElemWithin}
use Rattle.inst_make.proofs.elems.first_elem_out.Given as goal

abbrev pub invariant-loop-k : goal.invariant-loop-k
invariant-loop-k l = All (ElemWithin l.globals l.entries) (take l.k l.elems)
