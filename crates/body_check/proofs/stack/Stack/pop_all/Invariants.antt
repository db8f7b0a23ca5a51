use Rattle.std.proofs.Common.{Bool, ◌≤◌, length, reverse, take}
use Rattle.body_check.specs.declared.stack.Stack.{Stack}
use Rattle.body_check.specs.Stacks.{Follows, Pops}
use Rattle.body_check.proofs.stack.Stack.pop_all.Given as goal

-- what is answered for the types that are left is answered for all
abbrev pub invariant-loop-left : goal.invariant-loop-left
invariant-loop-left l = record {
  within : l.left ≤ length l.kinds;
  whole : (ok : Bool) (b : Stack) → Follows l.self (Pops (reverse (take l.left l.kinds))) ok b → Follows l.fn.self (Pops (reverse l.fn.kinds)) ok b;
}

abbrev pub decreases-loop-left : goal.decreases-loop-left
decreases-loop-left l = l.left
