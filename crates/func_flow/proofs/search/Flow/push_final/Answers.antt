use Rattle.std.proofs.Common.{◌≡◌, ◌∙◌, ◌+◌, sym, ap}
use Rattle.wasm_types.specs.declared.place.Node.TheVariants.{Exit}
use Rattle.func_flow.specs.declared.items.Item.TheVariants.{Needed}
use Rattle.func_flow.specs.Next.{FirstFinal}
use Rattle.func_flow.proofs.Numbers.{loc_injective}
use Rattle.func_flow.proofs.RootLemmas.{adds_same}
use Rattle.func_flow.proofs.search.Flow.push_final.Goals as goal

pub returns : goal.returns
returns c =
    let t = c.args.self.now.tables in
    let x = c.loc-loc.result in
    adds_same t.numbering (λ l j. (l ≡ c.args.index + 2) × (j ≡ Needed x Exit)) (λ l. FirstFinal t l c.args.index) c.args.roots.now.items c.push_root.new.roots.items
    (λ l j (is, e). (is, (x, (c.loc-loc.ensures.there, (c.loc-loc.ensures.number, e)))))
    (λ l j (is, (y, (ok, (at_i, e)))). (
      is,
      e ∙ ap (λ z. Needed z Exit) (loc_injective t.numbering.globals t.numbering.locals y x ok c.loc-loc.ensures.there
          (at_i ∙ sym c.loc-loc.ensures.number)),
    ))
    c.in_ok-push_root.ensures
