use Rattle.std.proofs.Common.{◌≡◌, ◌++◌, take, map}
use Rattle.wasm_types.specs.Spaces.{global_kind}
use Rattle.body_check.proofs.spaces.push_own.Given as goal

abbrev pub invariant-loop-global : goal.invariant-loop-global
invariant-loop-global l = l.types.items ≡ l.initial.types.items ++ map global_kind (take l.global-index l.globals)
