use Rattle.std.proofs.Common.{◌≡◌, true, false, nat_eq, ◌++◌, ◌∷◌, [], rules}
use Rattle.std.specs.List.{list_any}
use Rattle.sparse_reach.proofs.Numbering.{inserted_known, inserted_new}
use Rattle.sparse_reach.proofs.met.number_of.Goals as goal

pub returns-in_ok-map_err : goal.returns-in_ok-map_err
returns-in_ok-map_err c =
    let stored = c.in-Ok.ensures.stored in
    let same : c.in_ok-number.number ≡ c.in-Ok.number = search rules in
    let fresh : list_any (nat_eq c.args.node) c.args.nodes.now.keys ≡ false = search rules in
    let pushed : c.push.new.self.items ≡ c.args.waiting.now.items ++ c.in_ok-number.number ∷ [] = search rules in
    rw (pushed, same) (inserted_new c.args.nodes.now.keys c.insert_full.new.self.keys c.args.waiting.now.items c.args.node c.in-Ok.number c.in-Ok.ensures.keys
    stored.0 stored.1 stored.2 fresh)

pub returns-else-new : goal.returns-else-new
returns-else-new c =
    let stored = c.in-Ok.ensures.stored in
    let same : c.in_ok-number.number ≡ c.in-Ok.number = search rules in
    let known : list_any (nat_eq c.args.node) c.args.nodes.now.keys ≡ true = search rules in
    rw same (inserted_known c.args.nodes.now.keys c.insert_full.new.self.keys c.args.waiting.now.items c.args.node c.in-Ok.number c.in-Ok.ensures.keys
    stored.0 stored.1 stored.2 known)
