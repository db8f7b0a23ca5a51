use Rattle.std.proofs.Common.{ℕ, subst}
use Rattle.wasm_types.specs.Numbers.{SpellsU32}
use Rattle.wasm_types.specs.Standing.{Stands}
use Rattle.text_laws.proofs.StandingLemmas.{both_stands}
use Rattle.code_decode.proofs.PlainLemmas.{no_table, not_zero_table}
use Rattle.code_decode.proofs.plain.read_signature.Goals as goal

pub returns-then-table-eq0 : goal.returns-then-table-eq0
returns-then-table-eq0 c =
    let zero : Stands SpellsU32 c.args.bytes.now c.in-Some.middle c.in-Some-read_u32.end 0 = subst (λ (n : ℕ). Stands SpellsU32 c.args.bytes.now c.in-Some.middle c.in-Some-read_u32.end n) c.if-table-eq0.true c.in-Some-read_u32.ensures in
    let s = both_stands SpellsU32 SpellsU32 c.args.bytes.now c.args.at c.in-Some.middle c.in-Some-read_u32.end c.in-Some.kind 0 c.in-Some.ensures zero in
    record { text = s.text; spelled = s.spelled; here = s.here; within = s.within }

pub returns-else-table-eq0 : goal.returns-else-table-eq0
returns-else-table-eq0 c = not_zero_table c.args.bytes.now c.args.at c.in-Some.middle c.in-Some-read_u32.end c.in-Some.kind c.in-Some-read_u32.table c.in-Some.ensures c.in-Some-read_u32.ensures c.if-table-eq0.false

pub returns-in-None-read_u32 : goal.returns-in-None-read_u32
returns-in-None-read_u32 c = no_table c.args.bytes.now c.args.at c.in-Some.middle c.in-Some.kind c.in-Some.ensures c.in-None-read_u32.ensures
