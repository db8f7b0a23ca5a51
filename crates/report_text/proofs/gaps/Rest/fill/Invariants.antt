use Rattle.std.proofs.Common.{◌≡◌, ◌+◌, ◌-◌, ◌≤◌, ◌++◌, length, take}
use Rattle.report_text.specs.Gaps.{left, steps}
use Rattle.report_text.proofs.gaps.Rest.fill.Given as goal

abbrev pub invariant-loop-len : goal.invariant-loop-len
invariant-loop-len l = record {
  same : take l.len l.buf ++ left l.self ≡ left l.fn.self;
  long : length l.buf ≡ length l.fn.buf;
  within : l.len ≤ length l.buf;
}

abbrev pub decreases-loop-len : goal.decreases-loop-len
decreases-loop-len l = (length l.buf - l.len) + steps l.self
