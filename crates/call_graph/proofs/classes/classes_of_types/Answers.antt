use Rattle.std.proofs.Common.{rules, ◌≡◌, ◌+◌, ◌++◌, ◌∷◌, [], ℕ, length, sym, ap, ◌∙◌}
use Rattle.std.proofs.lemmas.List.{length_push}
use Rattle.call_graph.proofs.ClassLemmas.{type_classes_more}
use Rattle.call_graph.proofs.classes.classes_of_types.Goals as goal

pub loop-kind-preserved : goal.loop-kind-preserved
loop-kind-preserved c =
    let pushed : c.push.new.self.items ≡ c.loop-kind.classes.items ++ c.in_ok-class.class ∷ [] = search rules in
    record {
      count = ap length pushed ∙ (length_push c.loop-kind.classes.items c.in_ok-class.class ∙ ap (λ (n : ℕ). n + 1) c.loop-kind.invariant.count);
      so_far =
          rw pushed (type_classes_more c.args.types.now _ c.loop-kind.classes.items c.loop-kind.kind-index c.kind-item.result c.in_ok-class.class
          (sym c.loop-kind.invariant.count) c.loop-kind-test.true c.kind-item.is c.loop-kind.invariant.so_far c.in_ok-class.ensures);
    }
