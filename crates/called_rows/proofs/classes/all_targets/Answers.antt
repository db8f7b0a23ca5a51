use Rattle.std.proofs.Common.{◌∙◌, List, ap, sym, arith, length}
use Rattle.std.specs.Prelude.{slice_get}
use Rattle.called_rows.specs.declared.classes.Targets.{Targets}
use Rattle.called_rows.specs.Classes.{AreTogether}
use Rattle.called_rows.proofs.ClassLemmas.{each_none, each_pushed}
use Rattle.called_rows.proofs.FuncLemmas.{long_pushed}
use Rattle.called_rows.proofs.classes.all_targets.Goals as goal

pub loop-class-init : goal.loop-class-init
loop-class-init c = record {
  long = ap length c.new-all.ensures.items;
  each = λ k u is. each_none (AreTogether c.args.m.now c.args.graph.now c.args.table.now) k u
      (sym (ap (λ (xs : List Targets). slice_get xs k) c.new-all.ensures.items) ∙ is);
}

pub loop-class-preserved : goal.loop-class-preserved
loop-class-preserved c =
    let old = c.loop-class.all.items in
    let new = c.push.new.by_class.items in
    let one = c.in_ok-targets.targets in
    let so = c.loop-class.invariant in
    let made = c.in_ok-push.ensures in
    record {
      long = long_pushed old new one c.loop-class.class made so.long;
      each = each_pushed (AreTogether c.args.m.now c.args.graph.now c.args.table.now) old new one c.loop-class.class made so.long so.each
          c.in_ok-targets.ensures;
    }

pub returns : goal.returns
returns c =
    let past = c.loop-class-test.false in
    let most = c.loop-class.auto.class-end in
    let long = c.loop-class.invariant.long in
    let count = c.class_count-class-end.ensures in
    record { long = omega arith; each = c.loop-class.invariant.each }
