use Rattle.wasm_encode.proofs.ListLemmas.{params_few, results_few}
use Rattle.wasm_encode.proofs.items.FuncTypeCanonical.write.Goals as goal

pub write_counted-requires-clause-few : goal.write_counted-requires-clause-few
write_counted-requires-clause-few c = params_few c.args.self.now _ c.as_slice.ensures c.requires.short

pub write_counted-requires-2-clause-few : goal.write_counted-requires-2-clause-few
write_counted-requires-2-clause-few c = results_few c.args.self.now _ c.as_slice-2.ensures c.requires.short
