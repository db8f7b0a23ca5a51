use Rattle.std.proofs.Common.{◌≡◌, ◌∙◌, sym, ap, subst, inl, inr, ◌⊎◌, ⊎_elim}
use Rattle.wasm_types.specs.Nodes.{At}
use Rattle.func_flow.specs.declared.items.Item.TheVariants.{Needed}
use Rattle.called_rows.specs.Called.{ChecksBy, RowIn}
use Rattle.called_rows.specs.Whom.{output_of}
use Rattle.func_flow.specs.Next.{PlaceAt}
use Rattle.func_flow.proofs.Pushes.{numbered_same, numbered_none}
use Rattle.func_flow.proofs.Numbers.{loc_injective}
use Rattle.func_flow.proofs.search.Flow.push_place.Goals as goal
use Rattle.func_flow.proofs.search.Flow.push_place.Goals.{then-has-via-then-has, then-has-via-else-has+then-checks}

pub returns-in_ok-push : goal.returns-in_ok-push
returns-in_ok-push c =
    let t = c.args.self.now.tables in
    let o = output_of c.args.made in
    let x = c.loc-loc.result in
    let needed : RowIn t.called c.args.whom o x ⊎ ChecksBy t.called c.args.whom o x = elim c.then-has.branch [
      | then-has-via-then-has w ↦ inl (c.has.ensures.0 w.if-has.true)
      | then-has-via-else-has+then-checks w ↦ inr (w.checks.ensures.0 w.if-checks.true)
    ] in
    numbered_same t.numbering (λ j. j ≡ Needed x (At c.args.pos.0)) (PlaceAt t c.args.pos.0 o c.args.whom c.args.index) c.args.next.now.items
    c.push.new.next.items
    (λ j e. (x, (c.loc-loc.ensures.there, (c.loc-loc.ensures.number, (needed, e)))))
    (λ j (y, (ok, (at_i, (on, e)))). e ∙ ap (λ z. Needed z (At c.args.pos.0)) (loc_injective t.numbering.globals t.numbering.locals y x ok c.loc-loc.ensures.there
    (at_i ∙ sym c.loc-loc.ensures.number)))
    c.in_ok-push.ensures

pub returns-else-checks : goal.returns-else-checks
returns-else-checks c =
    let t = c.args.self.now.tables in
    let o = output_of c.args.made in
    let x = c.loc-loc.result in
    numbered_none t.numbering (PlaceAt t c.args.pos.0 o c.args.whom c.args.index) c.args.next.now.items
    (λ j (y, (ok, (at_i, (on, e)))).
    let same : y ≡ x = loc_injective t.numbering.globals t.numbering.locals y x ok c.loc-loc.ensures.there (at_i ∙ sym c.loc-loc.ensures.number) in
    ⊎_elim
    (λ row. let set = c.has.ensures.1 (subst (λ z. RowIn t.called c.args.whom o z) same row) in let off = c.if-has.false in cc)
    (λ check. let set = c.checks.ensures.1 (subst (λ z. ChecksBy t.called c.args.whom o z) same check) in let off = c.if-checks.false in cc)
    on)
