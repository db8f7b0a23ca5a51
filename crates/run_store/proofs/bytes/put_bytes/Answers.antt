use Rattle.std.proofs.Common.{length, refl, arith}
use Rattle.run_store.proofs.Ranges.{part_written}
use Rattle.run_store.proofs.bytes.put_bytes.Goals as goal

pub returns : goal.returns
returns c =
    part_written c.args.at (length c.args.these.now) _ c.args.bytes.now c.copy_from_slice.new.self c.args.these.now (omega arith)
    c.copy_from_slice.ensures.after refl c.requires
