use Rattle.std.proofs.Common.{◌≡◌, ◌++◌, take}
use Rattle.body_check.proofs.locals.Locals.push_params.Given as goal

abbrev pub invariant-loop-kind : goal.invariant-loop-kind
invariant-loop-kind l = l.self ≡ l.fn.self ++ take l.kind-index l.params
