use Rattle.std.proofs.Common.{arith}
use Rattle.std.proofs.lemmas.List.Elements.{All-from_get_or}
use Rattle.wasm_types.specs.WellFormed.{IsU8}
use Rattle.text_laws.proofs.LeastLemmas.{canon_is_least}
use Rattle.text_laws.proofs.ProperLemmas.{spelled_well_formed}
use Rattle.wassail_top.proofs.due.answer_bytes.Goals as goal

pub answer_module-requires-clause-well_formed : goal.answer_module-requires-clause-well_formed
answer_module-requires-clause-well_formed c =
    spelled_well_formed c.args.bytes.now c.in-Ok.form c.in-Ok.ensures.0 (All-from_get_or IsU8 c.args.bytes.now 0 (λ i lt. omega (arith, c.type_inv.bytes i)))

pub answer_module-requires-clause-short : goal.answer_module-requires-clause-short
answer_module-requires-clause-short c = omega (arith, canon_is_least c.args.bytes.now c.in-Ok.form c.in-Ok.ensures.0, c.requires)
