use Rattle.std.proofs.Common.{arith}
use Rattle.std.proofs.lemmas.List.Elements.{All-from_get_or}
use Rattle.wasm_types.specs.WellFormed.{IsU8}
use Rattle.text_laws.proofs.LeastLemmas.{canon_is_least}
use Rattle.text_laws.proofs.ProperLemmas.{spelled_well_formed}
use Rattle.text_laws.proofs.SizeLemmas.{has_at_most, has_at_most_more}
use Rattle.layer_tests.proofs.modules.decoded.Goals as goal

pub returns-in-Ok-clause-well_formed : goal.returns-in-Ok-clause-well_formed
returns-in-Ok-clause-well_formed c =
    spelled_well_formed c.args.bytes.now c.in-Ok.module c.in-Ok.ensures.0 (All-from_get_or IsU8 c.args.bytes.now 0 (λ i lt. omega (arith, c.type_inv.bytes i)))

pub returns-in-Ok-clause-short : goal.returns-in-Ok-clause-short
returns-in-Ok-clause-short c = omega (arith, canon_is_least c.args.bytes.now c.in-Ok.module c.in-Ok.ensures.0, c.requires)

pub returns-in-Ok-clause-entries : goal.returns-in-Ok-clause-entries
returns-in-Ok-clause-entries c =
    has_at_most_more 8388608 0x7FFF_FFFF c.in-Ok.module (omega arith) (has_at_most c.in-Ok.module 8388608 (omega (arith, canon_is_least c.args.bytes.now c.in-Ok.module c.in-Ok.ensures.0, c.requires)))
