use Rattle.std.proofs.Common.{List, sym, subst}
use Rattle.wasm_types.specs.declared.module.Pos.{Pos}
use Rattle.control_deps.proofs.DeciderLemmas.{DecidersBelow, deciders_none, deciders_more, deciders_all}
use Rattle.control_deps.proofs.shadow.all_of.Goals as goal

pub loop-at-init : goal.loop-at-init
loop-at-init c =
    subst (λ (z : List Pos). DecidersBelow c.args.spots.now c.args.node 0 z) (sym c.new-found.ensures.items) (deciders_none c.args.spots.now c.args.node)

pub loop-at-preserved : goal.loop-at-preserved
loop-at-preserved c =
    deciders_more c.args.spots.now c.args.node c.loop-at.at c.loop-at.found.items c.add_decider.new.found.items c.loop-at.invariant
    c.in_ok-add_decider.ensures

pub returns : goal.returns
returns c = record {
  rising = c.loop-at.invariant.rising;
  exact = deciders_all c.args.spots.now c.args.node c.loop-at.at c.loop-at.found.items c.loop-at-test.false c.loop-at.invariant;
}
