use Rattle.wasm_types.specs.Numbers.{SpellsU32}
use Rattle.text_laws.proofs.StandingLemmas.{both_stands}
use Rattle.code_decode.proofs.PlainLemmas.{no_offset}
use Rattle.code_decode.proofs.plain.read_address.Goals as goal

pub returns-in-Some-read_u32 : goal.returns-in-Some-read_u32
returns-in-Some-read_u32 c = let s = both_stands SpellsU32 SpellsU32 c.args.bytes.now c.args.at c.in-Some.middle c.in-Some-read_u32.end c.in-Some.align c.in-Some-read_u32.offset c.in-Some.ensures c.in-Some-read_u32.ensures in
    record { text = s.text; spelled = s.spelled; here = s.here; within = s.within }

pub returns-in-None-read_u32 : goal.returns-in-None-read_u32
returns-in-None-read_u32 c = no_offset c.args.bytes.now c.args.at c.in-Some.middle c.in-Some.align c.in-Some.ensures c.in-None-read_u32.ensures
