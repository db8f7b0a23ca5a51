use Rattle.std.proofs.Common.{◌≡◌, ◌∙◌, sym, true}
use Rattle.wasm_types.specs.Nodes.{At}
use Rattle.func_flow.specs.declared.items.Item.TheVariants.{Needed}
use Rattle.called_rows.specs.Whom.{output_of}
use Rattle.func_flow.specs.Next.{Use, uses_for}
use Rattle.func_flow.proofs.Pushes.{numbered_same}
use Rattle.func_flow.proofs.search.Flow.push_use.Goals as goal

pub returns-in_ok-push : goal.returns-in_ok-push
returns-in_ok-push c =
    let used : uses_for (output_of c.args.made) c.args.one ≡ true = sym c.uses_for.ensures ∙ c.if-uses_for.true in
    numbered_same c.args.self.now.tables.numbering (λ j. j ≡ Needed c.args.one.loc (At c.args.pos.0)) (Use c.args.pos.0 (output_of c.args.made) c.args.one)
    c.args.next.now.items c.push.new.next.items
    (λ j e. (used, e)) (λ j h. h.1) c.in_ok-push.ensures
