use Rattle.wasm_types.specs.Numbers.{SpellsU32}
use Rattle.wasm_types.specs.Parts.{Counted}
use Rattle.text_laws.proofs.Once.{once_u32, once_counted}
use Rattle.text_laws.proofs.StandingLemmas.{none_both_first}
use Rattle.code_decode.proofs.PlainLemmas.{skips_both}
use Rattle.code_decode.proofs.plain.skip_branches.Goals as goal

pub returns-in-Some : goal.returns-in-Some
returns-in-Some c = skips_both (Counted SpellsU32) SpellsU32 c.args.bytes.now c.args.at c.in-Some.middle c.in-Some.ensures.0 c.skip_number.result (once_counted SpellsU32 once_u32) c.in-Some.ensures.1 c.skip_number.ensures

pub returns-in-None : goal.returns-in-None
returns-in-None c = none_both_first (Counted SpellsU32) SpellsU32 c.args.bytes.now c.args.at c.in-None.ensures
