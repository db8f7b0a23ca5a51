use Rattle.std.proofs.Common.{◌∙◌, ap, arith}
use Rattle.wasm_meaning.specs.Memory.{bytes_of, written}
use Rattle.run_store.proofs.Ranges.{still_paged, bytes_of_fit, bytes_of_long}
use Rattle.run_store.proofs.pages.PageStore.store.Goals as goal

pub invariant_of-self : goal.invariant_of-self
invariant_of-self c =
    let these = bytes_of c.args.width c.args.number in
    still_paged _ c.args.at _ these c.self.invariant (c.store_number.ensures ∙ ap (written c.args.at these) c.as_mut_slice.ensures.value)
    (omega (arith, bytes_of_long c.args.width c.args.number)) (bytes_of_fit _ _) (omega arith)
