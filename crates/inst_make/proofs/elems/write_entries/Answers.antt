use Rattle.std.proofs.Common.{◌∙◌, refl, arith}
use Rattle.inst_make.proofs.Writes.{named_more}
use Rattle.inst_make.proofs.elems.write_entries.Goals as goal

pub loop-k-preserved : goal.loop-k-preserved
loop-k-preserved c =
    named_more c.args.at c.loop-k.k _ c.args.funcs.now c.loop-k.entries (omega arith) refl (omega arith) ∙ c.loop-k.invariant
