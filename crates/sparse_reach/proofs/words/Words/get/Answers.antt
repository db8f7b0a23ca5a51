use Rattle.std.proofs.Common.{arith, ◌≡◌, ◌<◌, ◌≤◌, ◌%◌, length, sym, get_or, ℕ, List, subst}
use Rattle.sparse_reach.specs.Pages.{flat}
use Rattle.sparse_reach.proofs.Paging.{page_below, get_in, get_past}
use Rattle.sparse_reach.proofs.words.Words.get.Goals as goal

pub index-page-requires : goal.index-page-requires
index-page-requires c =
    let pages = c.self.inside.pages in
    let lt : c.args.at < length (flat pages.items) = subst (λ (xs : List ℕ). c.args.at < length xs) (sym c.self.view_is) c.requires in
    omega (arith, page_below pages.items c.self.invariant c.args.at lt, pages.ok.0)

pub returns-then-place-len : goal.returns-then-place-len
returns-then-place-len c =
    let pages = c.self.inside.pages.items in
    let at = c.args.at in
    let page = c.index-page.result.now in
    let lt : at < length (flat pages) = subst (λ (xs : List ℕ). at < length xs) (sym c.self.view_is) c.requires in
    let in_page : at % 512 < length page.items = omega (arith, c.if-place-len.true, c.len.ensures, page.ok.0) in
    subst (λ (xs : List ℕ). c.index.result.now ≡ get_or xs at 0) c.self.view_is
    (get_in pages c.self.invariant at 0 lt page page c.index-page.ensures c.index.result.now in_page c.index.ensures)

pub returns-else-place-len : goal.returns-else-place-len
returns-else-place-len c =
    let pages = c.self.inside.pages.items in
    let at = c.args.at in
    let page = c.index-page.result.now in
    let lt : at < length (flat pages) = subst (λ (xs : List ℕ). at < length xs) (sym c.self.view_is) c.requires in
    let past : length page.items ≤ at % 512 = omega (arith, c.if-place-len.false, c.len.ensures, page.ok.0) in
    subst (λ (xs : List ℕ). 0 ≡ get_or xs at 0) c.self.view_is (get_past pages c.self.invariant at 0 lt page page c.index-page.ensures past)
