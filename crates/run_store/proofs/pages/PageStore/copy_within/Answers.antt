use Rattle.std.proofs.Common.{◌∙◌, ap, arith}
use Rattle.run_store.proofs.Ranges.{still_paged, bytes_at_fit, bytes_at_long}
use Rattle.wasm_meaning.specs.Memory.{bytes_at, written}
use Rattle.run_store.proofs.pages.PageStore.copy_within.Goals as goal

pub invariant_of-self : goal.invariant_of-self
invariant_of-self c =
    let b = c.self.inside.bytes.items in
    still_paged _ c.args.to _ (bytes_at c.args.from c.args.count b) c.self.invariant
    (c.copy_range.ensures ∙ ap (λ l. written c.args.to (bytes_at c.args.from c.args.count l) l) c.as_mut_slice.ensures.value)
    (omega (arith, bytes_at_long c.args.from c.args.count b)) (bytes_at_fit _ _ _ (omega arith) c.self.invariant.bytes) (omega arith)
