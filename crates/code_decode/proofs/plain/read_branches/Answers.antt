use Rattle.wasm_types.specs.Numbers.{SpellsU32}
use Rattle.wasm_types.specs.Parts.{Counted}
use Rattle.text_laws.proofs.Once.{once_u32, once_counted}
use Rattle.text_laws.proofs.StandingLemmas.{both_stands, none_both_second}
use Rattle.code_decode.proofs.PlainLemmas.{stop_first}
use Rattle.code_decode.proofs.plain.read_branches.Goals as goal

pub returns-in-Some : goal.returns-in-Some
returns-in-Some c = both_stands (Counted SpellsU32) SpellsU32 c.args.bytes.now c.args.at c.in-Ok.middle c.in-Some.end c.in-Ok.some c.in-Some.label c.in-Ok.ensures c.in-Some.ensures

pub returns-in-None : goal.returns-in-None
returns-in-None c = none_both_second (Counted SpellsU32) SpellsU32 c.args.bytes.now c.args.at c.in-Ok.middle c.in-Ok.some (once_counted SpellsU32 once_u32) c.in-Ok.ensures c.in-None.ensures

pub returns-in-Err : goal.returns-in-Err
returns-in-Err c = stop_first (Counted SpellsU32) SpellsU32 c.args.bytes.now c.args.at c.in-Err.stop c.in-Err.ensures
