use Rattle.std.proofs.Common.{true≢false, sym, ◌∙◌}
use Rattle.wasm_types.specs.declared.place.Part.TheVariants as part
use Rattle.wasm_types.specs.Validity.{Holds}
use Rattle.wasm_validate.specs.First.{valid_order}
use Rattle.wasm_validate.proofs.PartLemmas.{first_single, past_single, first_numbered, past_numbered, all_parts, starts, elems, segments}
use Rattle.wasm_validate.proofs.parts.first_start_or_segment.Goals as goal

pub returns-then-not-start_holds : goal.returns-then-not-start_holds
returns-then-not-start_holds c =
    first_single (Holds c.args.m.now) valid_order 8 part.StartAt starts c.requires.earlier (λ h. true≢false (sym (c.start_holds.ensures.1 h) ∙ c.if-not-start_holds.true))

pub returns-in-Some : goal.returns-in-Some
returns-in-Some c =
    let P = Holds c.args.m.now in
    let after_start = past_single P valid_order 8 part.StartAt starts c.requires.earlier (c.start_holds.ensures.0 c.if-not-start_holds.false) in
    first_numbered P valid_order 9 part.ElemAt c.in-Some.k elems after_start c.in-Some.ensures

pub returns-in-Some-first_segment : goal.returns-in-Some-first_segment
returns-in-Some-first_segment c =
    let P = Holds c.args.m.now in
    let after_start = past_single P valid_order 8 part.StartAt starts c.requires.earlier (c.start_holds.ensures.0 c.if-not-start_holds.false) in
    let after_elems = past_numbered P valid_order 9 part.ElemAt elems after_start c.in_default.ensures in
    first_numbered P valid_order 10 part.DataAt c.in-Some-first_segment.k segments after_elems c.in-Some-first_segment.ensures

pub returns-in-None : goal.returns-in-None
returns-in-None c =
    let P = Holds c.args.m.now in
    let after_start = past_single P valid_order 8 part.StartAt starts c.requires.earlier (c.start_holds.ensures.0 c.if-not-start_holds.false) in
    let after_elems = past_numbered P valid_order 9 part.ElemAt elems after_start c.in_default.ensures in
    all_parts P (past_numbered P valid_order 10 part.DataAt segments after_elems c.in-None.ensures)
