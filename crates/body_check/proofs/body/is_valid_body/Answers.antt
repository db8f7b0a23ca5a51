use Rattle.std.proofs.Common.{◌≡◌, ◌∙◌, ap}
use Rattle.wasm_types.specs.Spaces.{local_types}
use Rattle.wasm_types.specs.Validity.{values_of}
use Rattle.body_check.proofs.BodyLemmas.{one-value, valid-body}
use Rattle.body_check.proofs.body.is_valid_body.Goals as goal

pub returns : goal.returns
returns c =
    let made = c.in_ok-locals.ensures in
    let params = c.as_slice.ensures in
    let runs = c.as_slice-2.ensures in
    let locals : c.in_ok-locals.locals ≡ local_types c.args.kind.now c.args.body.now = cc in
    let result = ap values_of (c.copied-result.ensures ∙ c.get.ensures.value) ∙ one-value c.args.kind.now.results c.requires.one_result in
    valid-body c.args.m.now c.args.kind.now c.args.body.now c.in_ok-locals.locals c.copied-result.result c.new-labels.result.items c.as_slice-code.result.now c.in_ok-valid.valid locals result c.new-labels.ensures.items c.as_slice-code.ensures c.in_ok-valid.ensures.valid
