use Rattle.text_laws.proofs.NumberLemmas.{shortest_spells, shortest_is_least}
use Rattle.leb_codec.proofs.laws.law_shortest_unsigned.Goals as goal

pub returns : goal.returns
returns c = record { spelled = shortest_spells 4; least = shortest_is_least 4 }
