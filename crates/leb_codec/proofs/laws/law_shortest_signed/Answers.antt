use Rattle.std.proofs.Common.{arith}
use Rattle.text_laws.proofs.NumberLemmas.{signed_spells}
use Rattle.leb_codec.proofs.Writing.{signed_is_least}
use Rattle.leb_codec.proofs.laws.law_shortest_signed.Goals as goal

pub returns : goal.returns
returns c = record {
  spelled_32 = λ n h. signed_spells 8 4 n (omega arith) (omega arith) (omega arith);
  spelled_64 = λ n h. signed_spells 1 9 n (omega arith) (omega arith) (omega arith);
  least_32 = λ n text s. signed_is_least 8 4 n text (omega arith) (omega arith) s;
  least_64 = λ n text s. signed_is_least 1 9 n text (omega arith) (omega arith) s;
}
