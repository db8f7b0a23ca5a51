use Rattle.std.proofs.Common.{◌+◌, refl}
use Rattle.single_entry.proofs.Climbing.{not_quiet}
use Rattle.single_entry.proofs.skips.is_quiet.Goals as goal

pub returns-in-Some : goal.returns-in-Some
returns-in-Some c =
    ((λ no. absurd cc), λ quiet. absurd (not_quiet c.args.writers.now c.args.entry.low (c.args.entry.high + 1) _ c.in-Some.ensures quiet))

pub returns-in-None : goal.returns-in-None
returns-in-None c = ((λ quiet. c.in-None.ensures), λ quiet. refl)
