use Rattle.std.proofs.Common.{◌≡◌, ◌↔◌, ℕ, ◌<◌, length}
use Rattle.worklist.specs.Search.{IsMarked}
use Rattle.summary_fix.specs.TwoRuns.{CallsLead}
use Rattle.summary_fix.proofs.least.reached_from.Given as goal

abbrev pub invariant-loop-func : goal.invariant-loop-func
invariant-loop-func l = record {
  long : length l.marks.items ≡ l.func;
  exact : (f : ℕ) → f < l.func → IsMarked l.marks.items f ↔ CallsLead l.m l.root f;
}
