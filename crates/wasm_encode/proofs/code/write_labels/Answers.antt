use Rattle.wasm_encode.proofs.ListLemmas.{labels_few}
use Rattle.wasm_encode.proofs.code.write_labels.Goals as goal

pub write_counted-requires-clause-few : goal.write_counted-requires-clause-few
write_counted-requires-clause-few c = labels_few c.args.labels.now c.requires
