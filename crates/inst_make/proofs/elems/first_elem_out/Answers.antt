use Rattle.std.proofs.Common.{arith, sym, ◌∙◌}
use Rattle.inst_make.specs.Starts.{ElemWithin}
use Rattle.inst_make.proofs.Writes.{one_more, none_left}
use Rattle.inst_make.proofs.elems.first_elem_out.Goals as goal

pub loop-k-preserved : goal.loop-k-preserved
loop-k-preserved c =
    one_more (ElemWithin c.args.globals.now c.args.entries) c.args.elems.now c.loop-k.k c.index-elems-k.result (omega arith) c.index-elems-k.is
    c.loop-k.invariant (sym c.is_elem_within.ensures ∙ c.if-not-is_elem_within.false)

pub returns : goal.returns
returns c = none_left (ElemWithin c.args.globals.now c.args.entries) c.args.elems.now c.loop-k.k (omega arith) c.loop-k.invariant
