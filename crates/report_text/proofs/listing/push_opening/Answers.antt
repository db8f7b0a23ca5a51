use Rattle.std.proofs.Common.{refl}
use Rattle.std.specs.Prelude.{decimal}
use Rattle.report_text.specs.Listing.{indent}
use Rattle.report_text.proofs.GapLemmas.{laid_more, line_shown}
use Rattle.report_text.proofs.listing.push_opening.Goals as goal

pub returns-clause-line : goal.returns-clause-line
returns-clause-line c =
    let b = c.push_beginning.new.page in
    line_shown c.args.page.now b (record { draft = c.push_block_words.new.out; gaps = b.gaps; last = b.last }) (decimal c.args.at) (indent c.args.depth) _ c.in_ok-push_beginning.ensures.beginning
    c.in_ok-push_beginning.ensures.laid refl c.in_ok-push_block_words.ensures

pub returns-clause-laid : goal.returns-clause-laid
returns-clause-laid c =
    let b = c.push_beginning.new.page in
    laid_more b (record { draft = c.push_block_words.new.out; gaps = b.gaps; last = b.last }) _ c.in_ok-push_beginning.ensures.laid refl refl c.in_ok-push_block_words.ensures
