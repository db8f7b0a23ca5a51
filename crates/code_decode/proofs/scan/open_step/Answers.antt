use Rattle.std.proofs.Common.{◌∷◌, [], ap, ◌∙◌, reverse, arith}
use Rattle.std.proofs.lemmas.List.{reverse-append}
use Rattle.code_decode.proofs.ScanLemmas.{same_open, bad_kind, bad_short}
use Rattle.code_decode.proofs.scan.open_step.Goals as goal

pub returns-then-place-bytes : goal.returns-then-place-bytes
returns-then-place-bytes c = bad_short c.args.bytes.now c.args.half _ c.args.place c.requires.within c.if-place-bytes.true c.requires.opens

pub returns-in-None : goal.returns-in-None
returns-in-None c = bad_kind c.args.bytes.now c.args.half _ c.args.place (omega arith) c.requires.opens c.in-None.ensures

pub returns-in_ok-push-in-Some : goal.returns-in_ok-push-in-Some
returns-in_ok-push-in-Some c = same_open c.args.bytes.now c.args.half _ _ c.args.place c.in-Some.field-0 (omega arith) c.requires.opens c.in-Some.ensures
    (ap reverse c.in_ok-push-in-Some.ensures.items ∙ reverse-append c.args.blocks.now.items (c.args.half ∷ []))
