use Rattle.std.proofs.Common.{◌<◌, ◌^◌, ◌∙◌, length, sym, subst}
use Rattle.wasm_types.specs.declared.module.Module.{Module}
use Rattle.wasm_types.specs.Canon.{canon}
use Rattle.wasm_types.specs.Subset.{IsSealed, WithinLimits, most_read}
use Rattle.module_mill.proofs.Milled.{sealed, short, within_limits}
use Rattle.module_mill.proofs.whole.mill.Goals as goal

pub seal-requires : goal.seal-requires
seal-requires c = subst IsSealed (sym c.in_ok-made.ensures) (sealed c.args.count c.requires)

pub returns-clause-limits : goal.returns-clause-limits
returns-clause-limits c = subst (WithinLimits most_read) (sym (c.seal.ensures ∙ c.in_ok-made.ensures)) (within_limits c.args.count c.requires)

pub returns-clause-short : goal.returns-clause-short
returns-clause-short c = subst (λ (m : Module). length (canon m) < 2 ^ 28) (sym (c.seal.ensures ∙ c.in_ok-made.ensures)) (short c.args.count c.requires)
