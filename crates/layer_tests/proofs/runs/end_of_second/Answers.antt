use Rattle.std.proofs.Common.{◌≡◌, true}
use Rattle.layer_tests.proofs.Spent.{spent_after}
use Rattle.layer_tests.proofs.runs.end_of_second.Goals as goal

pub invoke-requires-2-clause-instance : goal.invoke-requires-2-clause-instance
invoke-requires-2-clause-instance c =
    λ unspent.
    let s = c.requires.stands in
    let spent : c.invoke.new.inst.spent ≡ true = spent_after c.args.m.now _ c.invoke.new.inst _ _ _ c.in-Ok.run' s.0 s.1 c.in-Ok.ensures c.in-OutOfTurns.is in
    absurd cc
