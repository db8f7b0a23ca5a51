use Rattle.std.proofs.Common.{arith}
use Rattle.leb_codec.proofs.Reading.{last_stands}
use Rattle.leb_codec.proofs.read.read_u32.Goals as goal

pub returns-then-bytes-at-lt128 : goal.returns-then-bytes-at-lt128
returns-then-bytes-at-lt128 c = last_stands 4294967296 c.args.bytes.now c.args.at c.from.result c.if-at-bytes.true c.from.ensures (omega (arith, c.from.ensures, c.if-bytes-at-lt128.true)) (omega (arith, c.from.ensures, c.if-bytes-at-lt128.true))
