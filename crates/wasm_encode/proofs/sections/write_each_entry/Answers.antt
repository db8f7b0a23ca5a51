use Rattle.std.proofs.Common.{◌<◌, ◌^◌, length, arith}
use Rattle.wasm_types.specs.Canon.{canon_body}
use Rattle.wasm_encode.proofs.ListLemmas.{body_short}
use Rattle.wasm_encode.proofs.sections.write_each_entry.Goals as goal

pub write_body-requires-clause-short : goal.write_body-requires-clause-short
write_body-requires-clause-short c =
    let lt : c.loop-body.body-index < length c.args.bodies.now = omega arith in
    body_short c.args.bodies.now c.loop-body.body-index c.body-item.result lt c.body-item.is c.requires.short

pub write_sized-requires : goal.write_sized-requires
write_sized-requires c =
    let lt : c.loop-body.body-index < length c.args.bodies.now = omega arith in
    let short : length (canon_body c.body-item.result) < 2 ^ 32 = body_short c.args.bodies.now c.loop-body.body-index c.body-item.result lt c.body-item.is c.requires.short in
    rw (c.as_slice.ensures.value, c.in_ok-write_body.ensures, c.clear.ensures.items) short
