use Rattle.wasm_types.specs.Numbers.{SpellsU32}
use Rattle.wasm_types.specs.Parts.{Both, Counted}
use Rattle.opcode_table.specs.declared.instructions.Following.TheVariants as kind
use Rattle.code_decode.proofs.PlainLemmas.{at_kind, made, not_made, not_opcode, labels_tag, labels_kind, stops_behind}
use Rattle.code_decode.proofs.plain.read_plain.Goals as goal

pub returns-in-Err : goal.returns-in-Err
returns-in-Err c =
    stops_behind c.args.bytes.now c.args.at c.in-Err.stop c.requires
    (at_kind _ c.in-Some-Labels.field-0 kind.Labels c.in-Some-Labels.field-0-is c.in-Some-Labels.ensures.follows) c.in-Err.ensures

pub returns-in-Some-with_labels : goal.returns-in-Some-with_labels
returns-in-Some-with_labels c =
    made (Both (Counted SpellsU32) SpellsU32) labels_tag kind.Labels c.args.bytes.now c.args.at c.in-Ok.found.1 c.in-Some-with_labels.instr c.in-Ok.found.0
    labels_kind c.requires c.in-Some-with_labels.ensures c.in-Ok.ensures

pub returns-in-None-with_labels : goal.returns-in-None-with_labels
returns-in-None-with_labels c =
    not_made (Both (Counted SpellsU32) SpellsU32) labels_tag kind.Labels c.args.bytes.now c.args.at c.in-Ok.found.1 c.in-Ok.found.0 labels_kind c.requires
    (at_kind _ c.in-Some-Labels.field-0 kind.Labels c.in-Some-Labels.field-0-is c.in-Some-Labels.ensures.follows) c.in-Ok.ensures c.in-None-with_labels.ensures

pub returns-in-None : goal.returns-in-None
returns-in-None c = not_opcode c.args.bytes.now c.args.at c.requires c.in-None.ensures.follows
