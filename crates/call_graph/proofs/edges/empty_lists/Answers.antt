use Rattle.std.proofs.Common.{rules, ◌≡◌, ◌+◌, ◌++◌, ◌∷◌, [], ℕ, length, ap, ◌∙◌}
use Rattle.std.proofs.lemmas.List.{length_push}
use Rattle.call_graph.proofs.Listing.{empty_more}
use Rattle.call_graph.proofs.edges.empty_lists.Goals as goal

pub loop-node-preserved : goal.loop-node-preserved
loop-node-preserved c =
    let pushed : c.push.new.self.items ≡ c.loop-node.lists.items ++ c.new.result ∷ [] = search rules in
    record {
      count = ap length pushed ∙ (length_push c.loop-node.lists.items c.new.result ∙ ap (λ (n : ℕ). n + 1) c.loop-node.invariant.count);
      none = empty_more c.loop-node.lists.items c.push.new.self.items c.new.result pushed c.new.ensures.items c.loop-node.invariant.none;
    }
