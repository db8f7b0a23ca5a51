use Rattle.wasm_encode.proofs.ListLemmas.{locals_few}
use Rattle.wasm_encode.proofs.sections.write_body.Goals as goal

pub write_counted-requires-clause-few : goal.write_counted-requires-clause-few
write_counted-requires-clause-few c = locals_few c.args.body.now _ c.as_slice.ensures c.requires.short
