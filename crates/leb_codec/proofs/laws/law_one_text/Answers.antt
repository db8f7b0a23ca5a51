use Rattle.text_laws.proofs.NumberLemmas.{one_unsigned, one_signed}
use Rattle.leb_codec.proofs.laws.law_one_text.Goals as goal

pub returns : goal.returns
returns c = record { unsigned = one_unsigned 4294967296; signed_32 = one_signed 2147483648; signed_64 = one_signed 9223372036854775808 }
