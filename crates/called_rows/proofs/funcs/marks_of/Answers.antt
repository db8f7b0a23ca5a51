use Rattle.std.proofs.Common.{◌<◌, arith}
use Rattle.wasm_types.specs.declared.place.Loc.{Loc}
use Rattle.called_rows.specs.Locs.{loc_number}
use Rattle.called_rows.specs.Funcs.{AnyOf, HasEffect}
use Rattle.called_rows.proofs.FuncLemmas.{long_pushed, marks_more, outer_below}
use Rattle.called_rows.proofs.funcs.marks_of.Goals as goal

pub loop-index-preserved : goal.loop-index-preserved
loop-index-preserved c =
    let marks = c.loop-index.marks.items in
    let all = c.push_mark.new.marks.items in
    let i = c.loop-index.index in
    let globals = c.args.globals in
    let within = c.loop-index-test.true in
    let old = c.loop-index.invariant in
    record {
      long = long_pushed marks all c.any_holds-holds.result i c.in_ok-push_mark.ensures old.long;
      exact = λ m graph. marks_more globals i c.loc_at-loc.result (λ (x : Loc). AnyOf c.args.funcs.now (λ f. HasEffect m c.args.effect f x)) marks all
          c.any_holds-holds.result c.in_ok-push_mark.ensures old.long within c.loc_at-loc.ensures.number (c.any_holds-holds.ensures m graph)
          (old.exact m graph);
    }

pub returns-clause-long : goal.returns-clause-long
returns-clause-long c =
    let past = c.loop-index-test.false in let most = c.loop-index.auto.index-end in let long = c.loop-index.invariant.long in omega arith

pub returns-clause-exact : goal.returns-clause-exact
returns-clause-exact c = λ m graph x ok.
    let past = c.loop-index-test.false in
    let lt = outer_below c.args.globals x ok in
    let below : loc_number c.args.globals x < c.loop-index.index = omega arith in
    c.loop-index.invariant.exact m graph x below
