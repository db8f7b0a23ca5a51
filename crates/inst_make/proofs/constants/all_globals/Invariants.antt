use Rattle.std.proofs.Common.{◌≡◌, take}
use Rattle.inst_make.specs.Starts.{with_own}
use Rattle.inst_make.proofs.constants.all_globals.Given as goal

abbrev pub invariant-loop-global : goal.invariant-loop-global
invariant-loop-global l = l.globals.items ≡ with_own l.imported (take l.global-index l.own)
