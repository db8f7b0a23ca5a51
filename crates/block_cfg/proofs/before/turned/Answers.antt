use Rattle.std.proofs.Common.{List, sym, ◌∙◌, subst, arith}
use Rattle.std.specs.List.{Contains}
use Rattle.wasm_types.specs.declared.place.Node.{Node}
use Rattle.block_cfg.specs.Graph.{EachOnce}
use Rattle.block_cfg.proofs.BeforeLemmas.{IsAdded, read_row, turned_new, turned_more, turned_all}
use Rattle.block_cfg.proofs.before.turned.Goals as goal

pub add_before-requires-clause-within : goal.add_before-requires-clause-within
add_before-requires-clause-within c =
    let is = read_row c.args.next.now c.loop-number.number c.point_of_number.result c.index-next-number.result c.as_slice.result.now c.loop-number-test.true c.index-next-number.is c.as_slice.ensures c.point_of_number.ensures in
    λ b h. omega (arith, c.loop-number.invariant.same, c.requires.within c.point_of_number.result b (subst (λ (z : List Node). Contains z b) is h))

pub add_before-requires-clause-row : goal.add_before-requires-clause-row
add_before-requires-clause-row c =
    let is = read_row c.args.next.now c.loop-number.number c.point_of_number.result c.index-next-number.result c.as_slice.result.now c.loop-number-test.true c.index-next-number.is c.as_slice.ensures c.point_of_number.ensures in
    subst (λ (z : List Node). EachOnce z) (sym is) (c.requires.once c.point_of_number.result)

pub add_before-requires-clause-new : goal.add_before-requires-clause-new
add_before-requires-clause-new c = turned_new c.args.next.now c.loop-number.before.items c.loop-number.number c.point_of_number.result c.point_of_number.ensures c.loop-number.invariant.turned

pub loop-number-preserved : goal.loop-number-preserved
loop-number-preserved c =
    let is = read_row c.args.next.now c.loop-number.number c.point_of_number.result c.index-next-number.result c.as_slice.result.now c.loop-number-test.true c.index-next-number.is c.as_slice.ensures c.point_of_number.ensures in
    record {
      same = c.in_ok-add_before.ensures.same ∙ c.loop-number.invariant.same;
      once = c.in_ok-add_before.ensures.once;
      turned = turned_more c.args.next.now c.loop-number.before.items c.add_before.new.before.items c.loop-number.number c.point_of_number.result c.point_of_number.ensures c.loop-number.invariant.turned
          (subst (λ (z : List Node). IsAdded c.loop-number.before.items c.add_before.new.before.items c.point_of_number.result z) is c.in_ok-add_before.ensures.exact);
    }

pub returns-clause-exact : goal.returns-clause-exact
returns-clause-exact c = turned_all c.args.next.now c.loop-number.before.items c.loop-number.number (omega arith) c.loop-number.invariant.turned
