use Rattle.std.proofs.Common.{◌≡◌, ◌≤◌, ◌∙◌, length, is_ok, vec_len, ap}
use Rattle.sparse_reach.specs.Pages.{filled}
use Rattle.sparse_reach.proofs.Paging.{filled_either}
use Rattle.sparse_reach.proofs.words.fill.Goals as goal

pub returns-in_ok-map_err-2-clause-same : goal.returns-in_ok-map_err-2-clause-same
returns-in_ok-map_err-2-clause-same c =
    let page = c.reserve_exact.new.self in
    let kept : page.items ≡ c.args.page.now.items = c.reserve_exact.ensures.items in
    let short : length page.items ≤ 512 = rw kept c.requires.0 in
    filled_either (is_ok c.resize.result) (vec_len page) page.items c.resize.new.self.items short page.ok.0 c.resize.ensures.items ∙ ap filled kept
