use Rattle.std.proofs.Common.{rules, arith, ℕ, ◌≡◌, ◌<◌, ◌≤◌, ◌∙◌, Some, List, refl, sym, subst, sum, get_or, take}
use Rattle.std.specs.Prelude.{slice_get}
use Rattle.std.specs.List.{Contains}
use Rattle.std.proofs.Math.Seq.{take_all}
use Rattle.std.proofs.lemmas.Option.{slice_get_read}
use Rattle.worklist.specs.Lists.{Has}
use Rattle.worklist.proofs.Gaining.{not_less}
use Rattle.call_graph.specs.Rounds.{IsClosed, Spreads}
use Rattle.call_graph.proofs.RoundLemmas.{node_closed, node_spreads, order_closed_none, spreads_none, spreads_then}
use Rattle.call_graph.proofs.rounds.give_each.Goals as goal
use Rattle.call_graph.proofs.rounds.give_each.Goals.{then-give, else-give}

pub loop-node-init : goal.loop-node-init
loop-node-init c = record {
  rows = refl;
  words = refl;
  spreads = spreads_none c.args.table.now.words (Has c.args.graph.now.next.items) c.args.table.now.bits.items;
  closed = λ e. order_closed_none c.args.table.now.words c.args.graph.now.next.items c.args.order.now c.args.table.now.bits.items;
  same = λ e. refl;
  rose = λ t. absurd cc;
}

pub loop-node-preserved : goal.loop-node-preserved
loop-node-preserved c =
    let words = c.args.table.now.words in
    let next = c.args.graph.now.next.items in
    let order = c.args.order.now in
    let first = c.args.table.now.bits.items in
    let now = c.loop-node.table.bits.items in
    let new = c.give.new.table.bits.items in
    let i = c.loop-node.node-index in
    let node = get_or order i 0 in
    let row = c.index.result.now in
    let at : slice_get next node ≡ Some row = slice_get_read next _ node row c.args.graph.now.next.ok.0 (search rules) c.index.ensures in
    let list : c.deref.result.now ≡ row.items = c.deref.ensures.value in
    let spread : Spreads words (λ y x. (y ≡ node) × Contains row.items x) now new =
    subst (λ (n : ℕ). Spreads n (λ y x. (y ≡ node) × Contains row.items x) now new) c.loop-node.invariant.words
    (subst (λ (xs : List ℕ). Spreads c.loop-node.table.words (λ y x. (y ≡ node) × Contains xs x) now new) list c.give.ensures.spreads) in
    let up : sum first ≤ sum now = not_less c.loop-node.grew first now c.loop-node.invariant.same c.loop-node.invariant.rose in
    record {
      rows = c.give.ensures.rows ∙ c.loop-node.invariant.rows;
      words = c.give.ensures.words ∙ c.loop-node.invariant.words;
      spreads = spreads_then words (Has next) first now new c.loop-node.invariant.spreads (node_spreads words next order node row now new at spread);
      closed = λ not_grown. elim c.if-give.branch [
        | then-give w ↦ let grown = w.grew-is in absurd (cc)
        | else-give w ↦
            let one : IsClosed words (λ y x. (y ≡ node) × Contains row.items x) new =
            subst (λ (n : ℕ). IsClosed n (λ y x. (y ≡ node) × Contains row.items x) new) c.loop-node.invariant.words
            (subst (λ (xs : List ℕ). IsClosed c.loop-node.table.words (λ y x. (y ≡ node) × Contains xs x) new) list (c.give.ensures.closed (search rules))) in
            node_closed words next order i node row now new c.loop-node-test.true refl at (c.give.ensures.same (search rules)) one
            (c.loop-node.invariant.closed (sym w.grew-is ∙ not_grown))
      ];
      same = λ not_grown. elim c.if-give.branch [
        | then-give w ↦ let grown = w.grew-is in absurd (cc)
        | else-give w ↦ c.give.ensures.same (search rules) ∙ c.loop-node.invariant.same (sym w.grew-is ∙ not_grown)
      ];
      rose = λ grown. elim c.if-give.branch [
        | then-give w ↦ let more : sum now < sum new = c.give.ensures.rose (search rules) in omega arith
        | else-give w ↦ rw (c.give.ensures.same (search rules)) (c.loop-node.invariant.rose (sym w.grew-is ∙ grown))
      ];
    }

pub returns-clause-closed : goal.returns-clause-closed
returns-clause-closed c = λ e.
    let order = c.args.order.now in
    let whole : take c.loop-node.node-index order ≡ order = take_all c.loop-node.node-index order (omega arith) in
    subst (λ (xs : List ℕ). IsClosed c.args.table.now.words (λ y x. Contains xs y × Has c.args.graph.now.next.items y x) c.loop-node.table.bits.items) whole
    (c.loop-node.invariant.closed e)
