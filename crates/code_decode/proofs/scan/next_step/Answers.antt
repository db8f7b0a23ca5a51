use Rattle.std.proofs.Common.{◌≡◌, ◌∷◌, [], ◌++◌, List, ap, ◌∙◌, reverse, arith, Bool, false}
use Rattle.std.proofs.lemmas.List.{reverse-append}
use Rattle.std.proofs.lemmas.Grind.{common_steps}
use Rattle.code_decode.proofs.ScanLemmas.{same_end, same_else, bad_else, bad_end, same_plain, bad_plain}
use Rattle.code_decode.proofs.scan.next_step.Goals as goal

-- what was popped was the innermost
popped : (old new : List Bool) (half : Bool) → old ≡ new ++ half ∷ [] → reverse old ≡ half ∷ reverse new
popped old new half e = ap reverse e ∙ reverse-append new (half ∷ [])

pub returns-in-Some : goal.returns-in-Some
returns-in-Some c = same_end _ _ _ _ c.in-Some.field-0 c.requires c.in-11.is (popped _ _ _ c.in-Some.ensures.items)

pub returns-then-not-half : goal.returns-then-not-half
returns-then-not-half c = bad_else c.args.bytes.now (reverse c.args.blocks.now.items) _ c.args.place c.requires c.in-5.is (popped _ _ _ c.in-Some-pop.ensures.items ∙ ap (λ (h : Bool). h ∷ reverse c.pop-in-5.new.self.items) c.if-not-half.true)

pub returns-in-None-pop : goal.returns-in-None-pop
returns-in-None-pop c =
    let none : c.args.blocks.now.items ≡ [] = grind (arith, common_steps, c.in-None-pop.ensures.items, c.in-None-pop.ensures.cases, c.in-None-pop.ensures.rest) in
    bad_end c.args.bytes.now (reverse c.args.blocks.now.items) c.args.place c.requires c.in-5.is (ap reverse none)

pub returns-in_ok-push-in-Some-pop : goal.returns-in_ok-push-in-Some-pop
returns-in_ok-push-in-Some-pop c =
    same_else c.args.bytes.now (reverse c.args.blocks.now.items) _ (reverse c.pop-in-5.new.self.items) c.args.place c.requires c.in-5.is
    (popped _ _ _ c.in-Some-pop.ensures.items ∙ ap (λ (h : Bool). h ∷ reverse c.pop-in-5.new.self.items) c.if-not-half.false)
    (ap reverse c.in_ok-push-in-Some-pop.ensures.items ∙ reverse-append c.pop-in-5.new.self.items (false ∷ []))

pub returns-in-Some-skip_plain : goal.returns-in-Some-skip_plain
returns-in-Some-skip_plain c = same_plain _ _ _ _ c.in-Some-skip_plain.ensures.0 c.requires c.in-Some-skip_plain.ensures.1

pub returns-in-None-skip_plain : goal.returns-in-None-skip_plain
returns-in-None-skip_plain c = bad_plain c.args.bytes.now (reverse c.args.blocks.now.items) c.args.place c.requires (omega arith) (omega arith) (omega arith) (omega arith) (omega arith) c.in-None-skip_plain.ensures
