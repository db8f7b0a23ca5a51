use Rattle.std.proofs.Common.{◌≡◌, ◌+◌, List, take, refl, rules, sym, subst, arith}
use Rattle.std.proofs.Math.Seq.{take_all}
use Rattle.sparse_reach.specs.declared.met.Edge.{Edge}
use Rattle.sparse_reach.specs.Met.{Listed}
use Rattle.sparse_reach.proofs.Going.{Going, going_begins, going_on, going_still}
use Rattle.sparse_reach.proofs.rounds.round.Goals as goal
use Rattle.sparse_reach.proofs.rounds.round.Goals.{then-more, else-more}

pub loop-edge-init : goal.loop-edge-init
loop-edge-init c = going_begins c.args.edges.now c.args.words.now

pub loop-edge-preserved : goal.loop-edge-preserved
loop-edge-preserved c =
    let inv = c.loop-edge.invariant in
    let edges = c.args.edges.now in
    let i = c.loop-edge.edge-index in
    let old = c.args.words.now in
    let now = c.loop-edge.words in
    let new = c.raise-more.new.words in
    elim c.if-more.branch [
      | then-more w ↦
          subst (λ b. Going edges (i + 1) old new b) (sym w.grew-is)
          (going_on edges i _ c.loop-edge-test.true old now new c.loop-edge.grew inv _ refl c.raise-more.ensures.gains
          (c.raise-more.ensures.rose (search rules)))
      | else-more w ↦
          subst (λ b. Going edges (i + 1) old new b) (sym w.grew-is)
          (going_still edges i _ c.loop-edge-test.true old now new c.loop-edge.grew inv _ refl c.raise-more.ensures.gains
          (c.raise-more.ensures.same (search rules)))
    ]

pub returns-clause-closed : goal.returns-clause-closed
returns-clause-closed c = λ still x y o lt listed h.
    let edges = c.args.edges.now in
    let whole : take c.loop-edge.edge-index edges ≡ edges = take_all c.loop-edge.edge-index edges (omega arith) in
    c.loop-edge.invariant.closed still x y o lt (subst (λ (es : List Edge). Listed es x y) (sym whole) listed) h
