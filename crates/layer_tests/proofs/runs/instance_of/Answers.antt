use Rattle.std.proofs.Common.{ap}
use Rattle.run_store.specs.Scripts.{Replies}
use Rattle.inst_make.proofs.Standing.{stands_for_start}
use Rattle.layer_tests.proofs.runs.instance_of.Goals as goal

pub returns-in-Ok-clause-stands : goal.returns-in-Ok-clause-stands
returns-in-Ok-clause-stands c =
    let stands = stands_for_start _ _ _ _ c.in-Ok.inst c.in-Ok.ensures.1 (ap (λ (r : Replies). r.used) c.new-script.ensures) in (_, stands)
