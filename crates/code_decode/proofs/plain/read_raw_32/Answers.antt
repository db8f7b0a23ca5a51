use Rattle.std.proofs.Common.{◌+◌, ◌<◌, length, arith}
use Rattle.code_decode.proofs.PlainLemmas.{raw_stands, no_raw}
use Rattle.code_decode.proofs.plain.read_raw_32.Goals.{then-bytes-lt4-via-then-bytes-lt4, then-bytes-lt4-via-else-bytes-lt4+then-at-bytes}
use Rattle.code_decode.proofs.plain.read_raw_32.Goals as goal

pub returns-then-bytes-lt4 : goal.returns-then-bytes-lt4
returns-then-bytes-lt4 c =
    let short : length c.args.bytes.now < c.args.at + 4 = elim c.then-bytes-lt4.branch [ then-bytes-lt4-via-then-bytes-lt4 w ↦ omega (arith, w.if-bytes-lt4.true) | then-bytes-lt4-via-else-bytes-lt4+then-at-bytes w ↦ omega (arith, w.if-bytes-lt4.false, w.if-at-bytes.true) ] in
    no_raw c.args.bytes.now c.args.at short

pub returns : goal.returns
returns c = raw_stands c.args.bytes.now c.args.at _ (omega arith) (λ k. omega (arith, c.type_inv.bytes k)) (omega arith)
