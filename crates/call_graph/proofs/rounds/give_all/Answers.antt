use Rattle.std.proofs.Common.{rules, ℕ, ◌∙◌, refl, subst, get_or}
use Rattle.std.specs.List.{Contains}
use Rattle.std.proofs.lemmas.List.Elements.{Contains-get_or}
use Rattle.worklist.specs.Lists.{Has}
use Rattle.std.proofs.lemmas.Option.{slice_get_within}
use Rattle.call_graph.specs.Rounds.{IsClosed, Spreads}
use Rattle.call_graph.proofs.RoundLemmas.{all_closed, spreads_none, spreads_then}
use Rattle.call_graph.proofs.rounds.give_all.Goals as goal

pub give_each-grew-requires-clause-order : goal.give_each-grew-requires-clause-order
give_each-grew-requires-clause-order c = λ k d lt. (c.requires.order (get_or c.args.order.now k d)).0 (Contains-get_or c.args.order.now k d lt)

pub loop-grew-init : goal.loop-grew-init
loop-grew-init c = record {
  rows = refl;
  words = refl;
  spreads = spreads_none c.args.table.now.words (Has c.args.graph.now.next.items) c.args.table.now.bits.items;
}

pub loop-grew-preserved : goal.loop-grew-preserved
loop-grew-preserved c =
    let words = c.args.table.now.words in
    let next = c.args.graph.now.next.items in
    let now = c.loop-grew.table.bits.items in
    let new = c.give_each-grew.new.table.bits.items in
    record {
      rows = c.give_each-grew.ensures.rows ∙ c.loop-grew.invariant.rows;
      words = c.give_each-grew.ensures.words ∙ c.loop-grew.invariant.words;
      spreads =
          spreads_then words (Has next) c.args.table.now.bits.items now new c.loop-grew.invariant.spreads
          (subst (λ (n : ℕ). Spreads n (Has next) now new) c.loop-grew.invariant.words c.give_each-grew.ensures.spreads);
    }

pub returns-then-not-grew-clause-spreads : goal.returns-then-not-grew-clause-spreads
returns-then-not-grew-clause-spreads c =
    let words = c.args.table.now.words in
    let next = c.args.graph.now.next.items in
    let now = c.loop-grew.table.bits.items in
    let new = c.give_each-grew.new.table.bits.items in
    spreads_then words (Has next) c.args.table.now.bits.items now new c.loop-grew.invariant.spreads
    (subst (λ (n : ℕ). Spreads n (Has next) now new) c.loop-grew.invariant.words c.give_each-grew.ensures.spreads)

pub returns-then-not-grew-clause-closed : goal.returns-then-not-grew-clause-closed
returns-then-not-grew-clause-closed c =
    let words = c.args.table.now.words in
    let graph = c.args.graph.now in
    let next = graph.next.items in
    let order = c.args.order.now in
    let new = c.give_each-grew.new.table.bits.items in
    let closed : IsClosed words (λ y x. Contains order y × Has next y x) new =
    subst (λ (n : ℕ). IsClosed n (λ y x. Contains order y × Has next y x) new) c.loop-grew.invariant.words
    (c.give_each-grew.ensures.closed (search rules)) in
    all_closed words next order new (λ y x e. (c.requires.order y).1 (slice_get_within next y e.0 e.1.0)) closed
