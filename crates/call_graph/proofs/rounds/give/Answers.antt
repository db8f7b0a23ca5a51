use Rattle.std.proofs.Common.{rules, arith, ℕ, ◌≡◌, ◌<◌, ◌≤◌, ◌∙◌, refl, sym, subst, sum, get_or, take, List}
use Rattle.std.specs.List.{Contains}
use Rattle.std.proofs.Math.Seq.{take_all}
use Rattle.std.proofs.lemmas.List.Elements.{Contains-get_or}
use Rattle.worklist.specs.Bits.{GainsBits, HasBit}
use Rattle.worklist.proofs.Gaining.{not_less}
use Rattle.call_graph.specs.Rounds.{IsClosed}
use Rattle.call_graph.proofs.RoundLemmas.{closed_none, merge_closed, merge_spreads, spreads_none, spreads_then}
use Rattle.call_graph.proofs.rounds.give.Goals as goal
use Rattle.call_graph.proofs.rounds.give.Goals.{then-merge, else-merge}

pub loop-other-init : goal.loop-other-init
loop-other-init c = record {
  rows = refl;
  words = refl;
  spreads = spreads_none c.args.table.now.words (λ y x. (y ≡ c.args.node) × Contains c.args.others.now x) c.args.table.now.bits.items;
  closed = λ e. closed_none c.args.table.now.words c.args.node c.args.table.now.bits.items;
  same = λ e. refl;
  rose = λ t. absurd cc;
}

pub loop-other-preserved : goal.loop-other-preserved
loop-other-preserved c =
    let words = c.args.table.now.words in
    let node = c.args.node in
    let others = c.args.others.now in
    let first = c.args.table.now.bits.items in
    let now = c.loop-other.table.bits.items in
    let new = c.merge.new.self.bits.items in
    let i = c.loop-other.other-index in
    let to = get_or others i 0 in
    let E : ℕ → ℕ → Type 0 = λ y x. (y ≡ node) × Contains others x in
    let gains : GainsBits words (λ r o. (r ≡ to) × HasBit words now node o) now new =
    subst (λ (n : ℕ). GainsBits n (λ r o. (r ≡ to) × HasBit n now node o) now new) c.loop-other.invariant.words c.merge.ensures.gains in
    let up : sum first ≤ sum now = not_less c.loop-other.grew first now c.loop-other.invariant.same c.loop-other.invariant.rose in
    record {
      rows = c.merge.ensures.rows ∙ c.loop-other.invariant.rows;
      words = c.merge.ensures.words ∙ c.loop-other.invariant.words;
      spreads =
          spreads_then words E first now new c.loop-other.invariant.spreads
          (merge_spreads words node others to now new (Contains-get_or others i 0 c.loop-other-test.true) gains);
      closed = λ not_grown. elim c.if-merge.branch [
        | then-merge w ↦ let grown = w.grew-is in absurd (cc)
        | else-merge w ↦
            merge_closed words node others i to now new c.loop-other-test.true refl (c.merge.ensures.same (search rules)) gains
            (c.loop-other.invariant.closed (sym w.grew-is ∙ not_grown))
      ];
      same = λ not_grown. elim c.if-merge.branch [
        | then-merge w ↦ let grown = w.grew-is in absurd (cc)
        | else-merge w ↦ c.merge.ensures.same (search rules) ∙ c.loop-other.invariant.same (sym w.grew-is ∙ not_grown)
      ];
      rose = λ grown. elim c.if-merge.branch [
        | then-merge w ↦ let more : sum now < sum new = c.merge.ensures.rose (search rules) in omega arith
        | else-merge w ↦ rw (c.merge.ensures.same (search rules)) (c.loop-other.invariant.rose (sym w.grew-is ∙ grown))
      ];
    }

pub returns-clause-closed : goal.returns-clause-closed
returns-clause-closed c = λ e.
    let others = c.args.others.now in
    let whole : take c.loop-other.other-index others ≡ others = take_all c.loop-other.other-index others (omega arith) in
    subst (λ (xs : List ℕ). IsClosed c.args.table.now.words (λ y x. (y ≡ c.args.node) × Contains xs x) c.loop-other.table.bits.items) whole
    (c.loop-other.invariant.closed e)
