use Rattle.std.proofs.Common.{◌∙◌, ap, arith}
use Rattle.std.proofs.lemmas.List.Elements.{All-from_get_or}
use Rattle.wasm_meaning.specs.Memory.{written}
use Rattle.run_store.specs.Pages.{IsByte}
use Rattle.run_store.proofs.Ranges.{still_paged}
use Rattle.run_store.proofs.pages.PageStore.write.Goals as goal

pub invariant_of-self : goal.invariant_of-self
invariant_of-self c =
    let these = c.args.these.now in
    still_paged _ c.args.at _ these c.self.invariant (c.put_bytes.ensures ∙ ap (written c.args.at these) c.as_mut_slice.ensures.value) (omega arith)
    (All-from_get_or IsByte these 0 (λ i lt. omega (arith, c.type_inv.these i))) (omega arith)
