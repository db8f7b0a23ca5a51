use Rattle.std.proofs.Common.{rules, ◌≡◌, ◌+◌, ◌++◌, ◌∷◌, [], ℕ, length, sym, ap, ◌∙◌, arith}
use Rattle.std.proofs.lemmas.List.{length_push}
use Rattle.call_graph.proofs.ClassLemmas.{func_classes_more}
use Rattle.call_graph.proofs.classes.classes_of_funcs.Goals as goal

pub loop-func-preserved : goal.loop-func-preserved
loop-func-preserved c =
    let pushed : c.push.new.self.items ≡ c.loop-func.classes.items ++ c.in_ok-class.class ∷ [] = search rules in
    let few = c.loop-func.invariant.few in
    let longer = c.in_ok-class.ensures.longer in
    record {
      count = ap length pushed ∙ (length_push c.loop-func.classes.items c.in_ok-class.class ∙ ap (λ (n : ℕ). n + 1) c.loop-func.invariant.count);
      so_far =
          rw pushed (func_classes_more c.args.m.now _ _ c.loop-func.classes.items c.loop-func.func c.in_ok-class.class (sym c.loop-func.invariant.count)
          c.loop-func.invariant.so_far c.in_ok-class.ensures.kept c.in_ok-class.ensures.class);
      apart = c.in_ok-class.ensures.apart;
      few = omega (arith, few, longer);
    }
