use Rattle.std.proofs.Common.{rules, ◌≡◌, ◌++◌, ◌∷◌, [], List, Some, ℕ, refl, sym, ap, subst, ◌∙◌}
use Rattle.std.specs.Prelude.{slice_get, slice_set}
use Rattle.std.specs.List.{Contains}
use Rattle.std.proofs.lemmas.Option.{slice_get-get_or, slice_get_read}
use Rattle.call_graph.proofs.Listing.{known_has, pushed_has}
use Rattle.call_graph.proofs.edges.push_at.Goals as goal

pub returns-then-ends_with-clause-gains : goal.returns-then-ends_with-clause-gains
returns-then-ends_with-clause-gains c =
    let lists = c.args.lists.now.items in
    let row = c.index.result.now in
    let was : slice_get lists c.args.list ≡ Some row = slice_get_read lists _ c.args.list row c.args.lists.now.ok.0 (search rules) c.index.ensures in
    let known : Contains row.items c.args.number =
    subst (λ (xs : List ℕ). Contains xs c.args.number) c.deref.ensures.value (c.ends_with.ensures c.if-ends_with.true) in
    known_has lists c.args.list c.args.number (row, (was, known))

pub returns-clause-gains : goal.returns-clause-gains
returns-clause-gains c =
    let lists = c.args.lists.now.items in
    let row = c.index_mut.result.now in
    let was : slice_get lists c.args.list ≡ Some row = slice_get-get_or lists c.args.list row c.requires ∙ ap Some (sym c.index_mut.ensures.value) in
    let more : c.push.new.self.items ≡ row.items ++ c.args.number ∷ [] = search rules in
    pushed_has lists (slice_set lists c.args.list c.push.new.self) c.args.list c.args.number row c.push.new.self c.requires was more refl
