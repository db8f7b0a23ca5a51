use Rattle.std.proofs.Common.{◌≡◌, length, vec_len, arith}
use Rattle.std.proofs.lemmas.List.{length-take}
use Rattle.outside_io.proofs.Taking.{took, took_at_most}
use Rattle.outside_io.proofs.whole.read_all.Goals as goal

pub returns-then-count-limit-clause-taken : goal.returns-then-count-limit-clause-taken
returns-then-count-limit-clause-taken g c =
    let len : vec_len c.loop-count.bytes ≡ length c.loop-count.bytes.items = c.loop-count.bytes.ok.0 in
    took _ _ _ _ _ c.in-Ok.count _ c.loop-count.invariant.taken c.in-Ok.ensures.bytes.0 c.in-Ok.ensures.bound.1 (omega (arith, c.in-Ok.ensures.bound.0, c.read.auto.buffer, length-take c.min-room.result c.loop-count.piece))

pub returns-then-is_err-clause-taken : goal.returns-then-is_err-clause-taken
returns-then-is_err-clause-taken g c =
    let len : vec_len c.loop-count.bytes ≡ length c.loop-count.bytes.items = c.loop-count.bytes.ok.0 in
    took_at_most _ _ _ _ _ c.in-Ok.count _ c.loop-count.invariant.taken c.in-Ok.ensures.bytes.0 c.in-Ok.ensures.bound.1 (omega arith)
