use Rattle.std.proofs.Common.{◌∙◌}
use Rattle.std.proofs.lemmas.List.{take_rest}
use Rattle.std.specs.Prelude.{slice_range}
use Rattle.wasm_decode.proofs.ContentsLemmas.{custom_named, custom_other, custom_none}
use Rattle.wasm_decode.proofs.contents.read_custom.Goals as goal

pub returns-in_ok-from_slice : goal.returns-in_ok-from_slice
returns-in_ok-from_slice c = custom_named c.args.text.now c.in-Some.end (slice_range c.args.text.now c.in-Some.start c.in-Some.end) c.in_ok-from_slice.field-0
    c.args.names.now c.is_names.result
    c.in-Some.ensures.0 c.in-Some.ensures.2 c.is_names.ensures c.if-is_names.true (c.in_ok-from_slice.ensures ∙ take_rest c.args.text.now c.in-Some.end)

pub returns-else-is_names : goal.returns-else-is_names
returns-else-is_names c = custom_other c.args.text.now c.in-Some.end (slice_range c.args.text.now c.in-Some.start c.in-Some.end) c.args.names.now
    c.is_names.result
    c.in-Some.ensures.0 c.in-Some.ensures.2 c.is_names.ensures c.if-is_names.false

pub returns-in_default : goal.returns-in_default
returns-in_default c = custom_none c.args.text.now c.in_default.ensures
