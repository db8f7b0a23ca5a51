use Rattle.std.proofs.Common.{◌≡◌, ◌+◌, ◌*◌, ◌≤◌, ◌++◌, drop}
use Rattle.wasm_types.specs.Code.{done, onto, code_of, count}
use Rattle.report_text.specs.Listing.{ended_by, lines}
use Rattle.report_text.specs.ListingOf.{told_by}
use Rattle.report_text.specs.Gaps.{IsLaid, shown}
use Rattle.report_text.proofs.listing.+sequence.Given as goal

abbrev pub decreases-push_instr : goal.decreases-push_instr
decreases-push_instr l = 4 * count (onto l.instr.now done)

abbrev pub decreases-push_sequence : goal.decreases-push_sequence
decreases-push_sequence l = 4 * count (code_of l.code.now) + 1

abbrev pub decreases-push_contents : goal.decreases-push_contents
decreases-push_contents l = 4 * count (code_of l.code.now) + 2

abbrev pub decreases-push_arms : goal.decreases-push_arms
decreases-push_arms l = 4 * (count (code_of l.first.now) + count (code_of l.second.now)) + 3

abbrev pub invariant-push_sequence-loop-instr : goal.invariant-push_sequence-loop-instr
invariant-push_sequence-loop-instr l = record {
  so_far : shown l.page ++ lines (told_by l.names) l.depth (code_of (drop l.instr-index l.code)) l.next ≡ shown l.initial.page ++ lines (told_by l.names) l.depth (code_of l.code) l.at;
  makers : l.makers.items ++ ended_by (told_by l.names) l.end (code_of (drop l.instr-index l.code)) l.next ≡ ended_by (told_by l.names) l.end (code_of l.code) l.at;
  next : l.next + count (code_of (drop l.instr-index l.code)) ≡ l.at + count (code_of l.code);
  within : l.depth ≤ l.next;
  laid : IsLaid l.page;
  smaller : count (code_of (drop l.instr-index l.code)) ≤ count (code_of l.fn.code);
}
