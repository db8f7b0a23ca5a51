use Rattle.std.proofs.Common.{◌≡◌, ◌≤◌, ◌+◌, ◌*◌, Bool, drop}
use Rattle.wasm_types.specs.Code.{done, onto, code_of, count}
use Rattle.wasm_types.specs.Validity.{Leads}
use Rattle.body_check.specs.declared.stack.Stack.{Stack}
use Rattle.body_check.specs.Labels.{labels_of}
use Rattle.body_check.specs.Signatures.{context_of}
use Rattle.body_check.specs.Stacks.{Follows}
use Rattle.body_check.proofs.check.+check.Given as goal

abbrev pub decreases-check_instr : goal.decreases-check_instr
decreases-check_instr l = 3 * count (onto l.instr.now done)

abbrev pub decreases-check_inner : goal.decreases-check_inner
decreases-check_inner l = 3 * count (code_of l.code.now) + 2

abbrev pub decreases-check_code : goal.decreases-check_code
decreases-check_code l = 3 * count (code_of l.code.now) + 1

-- what is answered for the rest is answered for all
abbrev pub invariant-check_code-loop-instr : goal.invariant-check_code-loop-instr
invariant-check_code-loop-instr l = record {
  labels : l.labels.items ≡ l.fn.labels.items;
  whole : (ok : Bool) (b : Stack) → Follows l.stack (Leads (context_of l.place) (labels_of l.fn.labels.items) (code_of (drop l.instr-index l.code))) ok b → Follows l.fn.stack (Leads (context_of l.place) (labels_of l.fn.labels.items) (code_of l.code)) ok b;
  smaller : count (code_of (drop l.instr-index l.code)) ≤ count (code_of l.code);
}
