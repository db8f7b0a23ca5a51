use Rattle.wasm_encode.proofs.ListLemmas.{funcs_few}
use Rattle.wasm_encode.proofs.items.ElemCanonical.write.Goals as goal

pub write_counted-requires-clause-few : goal.write_counted-requires-clause-few
write_counted-requires-clause-few c = funcs_few c.args.self.now _ c.as_slice-2.ensures c.requires.short
