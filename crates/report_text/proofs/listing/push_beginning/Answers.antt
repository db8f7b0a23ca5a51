use Rattle.std.proofs.Common.{◌++◌, ◌∷◌, [], ◌∙◌, ap, append_assoc, refl}
use Rattle.std.specs.Prelude.{decimal}
use Rattle.report_text.specs.Gaps.{shown}
use Rattle.report_text.specs.Listing.{indent}
use Rattle.report_text.proofs.GapLemmas.{laid_more, shown_more}
use Rattle.report_text.proofs.listing.push_beginning.Goals as goal

pub returns-then-depth-lt-SHALLOW-clause-beginning : goal.returns-then-depth-lt-SHALLOW-clause-beginning
returns-then-depth-lt-SHALLOW-clause-beginning c =
    let p = c.args.page.now in
    shown_more p (record { draft = c.push_start.new.out; gaps = p.gaps; last = p.last }) (decimal c.args.at ++ 32 ∷ indent c.args.depth) c.requires.laid refl c.in_ok-push_start.ensures

pub returns-then-depth-lt-SHALLOW-clause-laid : goal.returns-then-depth-lt-SHALLOW-clause-laid
returns-then-depth-lt-SHALLOW-clause-laid c =
    let p = c.args.page.now in
    laid_more p (record { draft = c.push_start.new.out; gaps = p.gaps; last = p.last }) (decimal c.args.at ++ 32 ∷ indent c.args.depth) c.requires.laid refl refl c.in_ok-push_start.ensures

pub indent-requires-clause-laid : goal.indent-requires-clause-laid
indent-requires-clause-laid c =
    let p = c.args.page.now in
    laid_more p (record { draft = c.push_start-2.new.out; gaps = p.gaps; last = p.last }) (decimal c.args.at ++ 32 ∷ []) c.requires.laid refl refl c.in_ok-push_start-2.ensures

pub returns-clause-beginning : goal.returns-clause-beginning
returns-clause-beginning c =
    let p = c.args.page.now in
    let around = indent c.args.depth in
    let begun = shown_more p (record { draft = c.push_start-2.new.out; gaps = p.gaps; last = p.last }) (decimal c.args.at ++ 32 ∷ []) c.requires.laid refl c.in_ok-push_start-2.ensures in
    c.in_ok-indent.ensures.shown ∙ ap (λ l. l ++ around) begun ∙ append_assoc (shown p) (decimal c.args.at ++ 32 ∷ []) around ∙ ap (λ l. shown p ++ l) (append_assoc (decimal c.args.at) (32 ∷ []) around)
