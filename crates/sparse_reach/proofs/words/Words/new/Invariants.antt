use Rattle.std.proofs.Common.{◌≡◌, vec_len, []}
use Rattle.std.specs.List.{All}
use Rattle.sparse_reach.proofs.words.Words.new.Given as goal

abbrev pub invariant-loop-page : goal.invariant-loop-page
invariant-loop-page l = record {
  empty : All (λ page. page.items ≡ []) l.pages.items;
  length_is : vec_len l.pages ≡ l._page;
}
