use Rattle.std.proofs.Common.{nat_eq}
use Rattle.slice_closure.proofs.Right.{names_same, names_shaped}
use Rattle.slice_closure.proofs.closure.close_live.Goals as goal

pub close_tables-requires-clause-made : goal.close_tables-requires-clause-made
close_tables-requires-clause-made c =
    let m = c.args.m.now in
    let a = c.requires.names (nat_eq c.args.at.0) in
    let b = c.own_body-body.result.now in
    let is = c.own_body-body.ensures.body in
    record {
      sealed = c.own_body-body.ensures.sealed;
      heights = c.law_valid_has_heights.ensures;
      called = c.requires.called;
      names = a;
      same = names_same m c.args.func (nat_eq c.args.at.0) c.args.names.now a b is;
      shaped = names_shaped m c.args.func (nat_eq c.args.at.0) c.args.names.now a b is c.own_body-body.ensures.sealed c.law_valid_has_heights.ensures;
      spots = c.in_ok-flow.ensures.spots;
      ways = c.in_ok-flow.ensures.before;
      nest = c.in_ok-nest.ensures;
      near = c.in_ok-deciders.ensures;
      live = c.requires.live;
    }
