use Rattle.std.proofs.Common.{◌≡◌, ◌+◌, ◌++◌, ◌∷◌, [], List, reverse, ap, ◌∙◌, arith}
use Rattle.std.proofs.lemmas.Grind.{common_steps}
use Rattle.wasm_types.specs.declared.place.Node.{Node}
use Rattle.block_cfg.specs.Walk.{goes_of, next_at, where_live}
use Rattle.block_cfg.proofs.WalkLemmas.{plain_adds, row_same}
use Rattle.block_cfg.proofs.walk.walk_plain.Goals as goal

pub returns : goal.returns
returns c =
    let live = c.args.live in
    let labels = reverse c.args.labels.now in
    let first : c.push.new.self.items ≡ c.args.found.now.next.items ++ c.in_ok-row.row ∷ [] = grind (arith, common_steps) in
    let second : c.push-2.new.self.items ≡ c.push.new.self.items ++ c.new.result ∷ [] = grind (arith, common_steps) in
    record {
      points = c.in_ok-push_point.ensures;
      next = plain_adds c.args.found.now.next.items c.push.new.self.items c.push-2.new.self.items c.in_ok-row.row (where_live live (goes_of labels c.args.instr.now (next_at c.args.last (c.args.at + 1))))
          (row_same c.in_ok-row.row _ _ (ap (λ (z : Node). where_live live (goes_of labels c.args.instr.now z)) c.next_point.ensures) c.in_ok-row.ensures) first
          (second ∙ ap (λ (z : List Node). c.push.new.self.items ++ z ∷ []) c.new.ensures);
    }
