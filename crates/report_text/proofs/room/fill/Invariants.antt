use Rattle.std.proofs.Common.{◌≡◌, ◌-◌, ◌≤◌, take, vec_len}
use Rattle.report_text.proofs.room.fill.Given as goal

abbrev pub invariant-loop-bytes : goal.invariant-loop-bytes
invariant-loop-bytes l = record {
  kept : take (vec_len l.fn.bytes) l.bytes.items ≡ l.fn.bytes.items;
  longer : vec_len l.fn.bytes ≤ vec_len l.bytes;
}

abbrev pub decreases-loop-bytes : goal.decreases-loop-bytes
decreases-loop-bytes l = l.len - vec_len l.bytes
