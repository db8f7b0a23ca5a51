use Rattle.std.proofs.Common.{rules, ◌≡◌, ◌∙◌, ℕ, get_or, bit_or}
use Rattle.flow_domain.specs.Summaries.{row_number, column_number}
use Rattle.flow_domain.proofs.Summing.{set_merged, set_same, all_new}
use Rattle.flow_domain.proofs.summary.Summary.merge.Goals as goal

pub returns-clause-merged : goal.returns-clause-merged
returns-clause-merged c =
    let s = c.args.self.now in
    let other = c.args.other.now in
    let new = c.raise_each-grew.new.words in
    let words : (k : ℕ) → get_or new k 0 ≡ bit_or (get_or s.bits.items k 0) (get_or other.bits.items k 0) =
    λ k. rw (c.deref_mut.ensures.value, c.deref.ensures.value) at (c.raise_each-grew.ensures.words k) in
    let all = all_new s.bits.len new s.bits.items (search rules) (search rules) in
    λ o x. rw (all, c.requires.globals_is, c.requires.params_is)
    (set_merged s.globals s.params s.bits.items other.bits.items new words (row_number s.globals o) (column_number s.globals s.params x))

pub returns-clause-same : goal.returns-clause-same
returns-clause-same c = λ off o x h.
    let s = c.args.self.now in
    let other = c.args.other.now in
    let new = c.raise_each-grew.new.words in
    let words : (k : ℕ) → get_or new k 0 ≡ bit_or (get_or s.bits.items k 0) (get_or other.bits.items k 0) =
    λ k. rw (c.deref_mut.ensures.value, c.deref.ensures.value) at (c.raise_each-grew.ensures.words k) in
    set_same s.globals s.params s.bits.items other.bits.items new words (c.raise_each-grew.ensures.same off ∙ c.deref_mut.ensures.value)
    (row_number s.globals o) (column_number s.globals s.params x)
    (rw (c.requires.globals_is, c.requires.params_is) at h)
