use Rattle.std.proofs.Common.{arith}
use Rattle.sparse_reach.proofs.Paging.{length_flat, zero_at, empty_pages}
use Rattle.sparse_reach.proofs.words.Words.new.Goals as goal

pub returns-clause-length : goal.returns-clause-length
returns-clause-length c =
    let pages = c.loop-page.pages in
    omega (arith, length_flat pages.items (empty_pages pages.items c.loop-page.invariant.empty), c.loop-page.invariant.length_is, pages.ok.0)

pub returns-clause-zero : goal.returns-clause-zero
returns-clause-zero c = zero_at c.loop-page.pages.items c.loop-page.invariant.empty
