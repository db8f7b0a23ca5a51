use Rattle.std.proofs.Common.{refl, arith}
use Rattle.report_text.specs.Listing.{indent}
use Rattle.report_text.proofs.GapLemmas.{gap_laid, gap_shown, laid_more, shown_more}
use Rattle.report_text.proofs.page.Page.indent.Goals as goal

pub returns-then-spaces-lt-WIDE-clause-shown : goal.returns-then-spaces-lt-WIDE-clause-shown
returns-then-spaces-lt-WIDE-clause-shown c =
    let p = c.args.self.now in
    shown_more p (record { draft = c.push_indent.new.out; gaps = p.gaps; last = p.last }) (indent c.args.depth) c.requires.laid refl c.in_ok-push_indent.ensures

pub returns-then-spaces-lt-WIDE-clause-laid : goal.returns-then-spaces-lt-WIDE-clause-laid
returns-then-spaces-lt-WIDE-clause-laid c =
    let p = c.args.self.now in
    laid_more p (record { draft = c.push_indent.new.out; gaps = p.gaps; last = p.last }) (indent c.args.depth) c.requires.laid refl refl c.in_ok-push_indent.ensures

pub returns-clause-shown : goal.returns-clause-shown
returns-clause-shown c =
    let p = c.args.self.now in
    let few = c.if-max.false in
    let most = c.max.ensures in
    gap_shown p (record { draft = p.draft; gaps = c.push.new.self; last = p.draft.len }) _ c.args.depth c.requires.laid refl c.in_ok-push.ensures.items (omega (arith, few, most, c.requires.laid.within))
    (omega (arith, few, most))

pub returns-clause-laid : goal.returns-clause-laid
returns-clause-laid c =
    let p = c.args.self.now in
    let few = c.if-max.false in
    let most = c.max.ensures in
    gap_laid p (record { draft = p.draft; gaps = c.push.new.self; last = p.draft.len }) _ c.requires.laid refl c.in_ok-push.ensures.items (omega (arith, few, most, c.requires.laid.within)) refl
