use Rattle.wasm_types.specs.Types.{SpellsValType, SpellsMutable}
use Rattle.text_laws.proofs.SectionLemmas.{once_type}
use Rattle.text_laws.proofs.StandingLemmas.{none_both_second}
use Rattle.wasm_decode.proofs.types.GlobalTypePlain.find.Goals as goal

pub returns-in_err-mutable : goal.returns-in_err-mutable
returns-in_err-mutable c = rw c.from_residual-in_err-mutable.ensures (λ text rest g here s.
    none_both_second SpellsValType SpellsMutable c.args.bytes.now c.args.at c.in_ok-kind.middle c.in_ok-kind.kind once_type c.in_ok-kind.ensures
    c.in_err-mutable.ensures text rest (g.kind, g.mutable) here s)
