use Rattle.std.proofs.Common.{◌∙◌, ap, arith, replicate}
use Rattle.std.proofs.lemmas.List.{length-replicate}
use Rattle.std.proofs.lemmas.List.Elements.{All-replicate}
use Rattle.run_store.specs.Pages.{IsByte}
use Rattle.wasm_meaning.specs.Memory.{written}
use Rattle.run_store.proofs.Ranges.{still_paged}
use Rattle.run_store.proofs.pages.PageStore.fill.Goals as goal

pub invariant_of-self : goal.invariant_of-self
invariant_of-self c =
    let these = replicate c.args.count c.args.byte in
    still_paged _ c.args.at _ these c.self.invariant (c.fill_range.ensures ∙ ap (written c.args.at these) c.as_mut_slice.ensures.value)
    (omega (arith, length-replicate c.args.count c.args.byte)) (All-replicate IsByte _ _ (omega arith)) (omega arith)
