use Rattle.std.proofs.Common.{◌≡◌, None, inl, sym, subst}
use Rattle.wasm_types.specs.declared.module.Module.{Module}
use Rattle.wasm_types.specs.Spaces.{body_of}
use Rattle.summary_fix.proofs.Stepping.{imported_full}
use Rattle.summary_fix.proofs.rounds.fill.Goals as goal

pub returns-in-None-clause-full : goal.returns-in-None-clause-full
returns-in-None-clause-full c =
    imported_full c.args.m.now c.args.table.now c.requires.sound.table c.args.func
    (subst (λ (z : Module). body_of z c.args.func ≡ None) c.module.ensures.same (sym c.in-None.ensures))

pub returns-in-None-clause-only : goal.returns-in-None-clause-only
returns-in-None-clause-only c = λ f o x row. inl row
