use Rattle.std.proofs.Common.{◌≡◌, ◌↔◌, ◌*◌, ◌<◌, ℕ, List, get_or, take, subst, arith}
use Rattle.std.proofs.Math.Seq.{take_all}
use Rattle.std.proofs.lemmas.List.{get_or_default}
use Rattle.worklist.specs.Bits.{HasBit}
use Rattle.worklist.specs.Roots.{IsRootOf}
use Rattle.worklist.specs.declared.labels.Root.{Root}
use Rattle.call_graph.proofs.Members.{none_in}
use Rattle.call_graph.proofs.RoundLemmas.{roots_more}
use Rattle.call_graph.proofs.rounds.begin.Goals as goal

pub loop-root-init : goal.loop-root-init
loop-root-init c = record {
  rows = c.in_ok-table.ensures.rows;
  words = c.in_ok-table.ensures.words;
  exact = λ x o lt. (λ h. absurd (c.in_ok-table.ensures.none x o h), λ k. absurd (none_in (let r : Root = record { label = o; node = x } in r) k));
}

pub insert-requires-clause-row : goal.insert-requires-clause-row
insert-requires-clause-row c =
    let d : Root = record { label = 0; node = 0 } in
    let below = c.requires c.loop-root.root-index d c.loop-root-test.true in
    let lt = below.1 in omega (arith, lt, c.loop-root.invariant.rows)

pub insert-requires-clause-label : goal.insert-requires-clause-label
insert-requires-clause-label c =
    let d : Root = record { label = 0; node = 0 } in
    let below = c.requires c.loop-root.root-index d c.loop-root-test.true in
    let lt = below.0 in omega (arith, lt, c.loop-root.invariant.words)

pub loop-root-preserved : goal.loop-root-preserved
loop-root-preserved c =
    let roots = c.args.roots.now in
    let i = c.loop-root.root-index in
    let d : Root = record { label = 0; node = 0 } in
    let r = get_or roots i d in
    let here : r ≡ get_or roots i r = get_or_default roots i d r c.loop-root-test.true in
    rw (c.insert.ensures.rows, c.insert.ensures.words) (record {
      rows = c.loop-root.invariant.rows;
      words = c.loop-root.invariant.words;
      exact =
          roots_more c.loop-root.table.words roots i r c.loop-root.table.bits.items c.insert.new.self.bits.items c.loop-root-test.true here
          c.insert.ensures.gains c.loop-root.invariant.exact;
    })

pub returns-clause-exact : goal.returns-clause-exact
returns-clause-exact c =
    let roots = c.args.roots.now in
    let table = c.loop-root.table in
    let whole : take c.loop-root.root-index roots ≡ roots = take_all c.loop-root.root-index roots (omega arith) in
    subst (λ (rs : List Root). (x o : ℕ) → o < table.words * 64 → HasBit table.words table.bits.items x o ↔ IsRootOf rs o x) whole c.loop-root.invariant.exact
