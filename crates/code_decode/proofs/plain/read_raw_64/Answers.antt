use Rattle.std.proofs.Common.{arith}
use Rattle.code_decode.proofs.PlainLemmas.{raw_64_stands}
use Rattle.code_decode.proofs.plain.read_raw_64.Goals as goal

pub returns-in-Some-read_raw_32 : goal.returns-in-Some-read_raw_32
returns-in-Some-read_raw_32 c = raw_64_stands c.args.bytes.now c.args.at c.in-Some.middle c.in-Some-read_raw_32.end c.in-Some.low c.in-Some-read_raw_32.high _ (omega arith) c.in-Some.ensures c.in-Some-read_raw_32.ensures
