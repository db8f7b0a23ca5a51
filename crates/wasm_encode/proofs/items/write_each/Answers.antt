use Rattle.std.proofs.Common.{◌<◌, ◌+◌, length, drop, arith}
use Rattle.wasm_types.specs.Canon.{canon_each}
use Rattle.wasm_encode.proofs.CodeLemmas.{piece}
use Rattle.wasm_encode.proofs.ListLemmas.{each-next, item_short, item_proper}
use Rattle.wasm_encode.proofs.items.write_each.Goals as goal

pub write-requires : goal.write-requires
write-requires g c =
    let lt : c.loop-item.item-index < length c.args.items.now = omega arith in
    record {
      proper = item_proper g.T.Canonical.proper c.args.items.now c.loop-item.item-index c.item-item.result lt c.item-item.is c.requires.proper;
      short = item_short g.T.Canonical.text c.args.items.now c.loop-item.item-index c.item-item.result lt c.item-item.is c.requires.short;
    }

pub loop-item-preserved : goal.loop-item-preserved
loop-item-preserved g c =
    let lt : c.loop-item.item-index < length c.args.items.now = omega arith in
    piece _ c.loop-item.out.items _ (g.T.Canonical.text c.item-item.result) (canon_each g.T.Canonical.text (drop (c.loop-item.item-index + 1) c.args.items.now)) _ c.loop-item.invariant
    (each-next g.T.Canonical.text c.args.items.now c.loop-item.item-index c.item-item.result lt c.item-item.is) c.in_ok-write.ensures
