use Rattle.std.proofs.Common.{◌++◌, ◌∷◌, [], ◌∙◌, ap, append_assoc, refl}
use Rattle.report_text.specs.Gaps.{shown}
use Rattle.report_text.specs.Listing.{arrow_text, indent}
use Rattle.report_text.proofs.GapLemmas.{laid_more, shown_more}
use Rattle.report_text.proofs.listing.push_closing.Goals as goal

pub returns-clause-line : goal.returns-clause-line
returns-clause-line c =
    let p = c.args.page.now in
    let b = c.indent.new.self in
    let around = indent c.args.depth in
    let rest = c.args.words.now ++ (arrow_text c.args.makers.now ++ 10 ∷ []) in
    let begun = shown_more p (record { draft = c.push_text.new.out; gaps = p.gaps; last = p.last }) (46 ∷ 32 ∷ []) c.requires.laid refl c.in_ok-push_text.ensures in
    shown_more b (record { draft = c.push_closed.new.out; gaps = b.gaps; last = b.last }) rest c.in_ok-indent.ensures.laid refl c.in_ok-push_closed.ensures
    ∙ ap (λ l. l ++ rest) (c.in_ok-indent.ensures.shown ∙ ap (λ l. l ++ around) begun ∙ append_assoc (shown p) (46 ∷ 32 ∷ []) around) ∙ append_assoc (shown p) (46 ∷ 32 ∷ around) rest

pub returns-clause-laid : goal.returns-clause-laid
returns-clause-laid c =
    let b = c.indent.new.self in
    laid_more b (record { draft = c.push_closed.new.out; gaps = b.gaps; last = b.last }) _ c.in_ok-indent.ensures.laid refl refl c.in_ok-push_closed.ensures
