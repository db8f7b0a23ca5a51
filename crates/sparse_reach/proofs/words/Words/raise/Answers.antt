use Rattle.std.proofs.Common.{arith, ◌≡◌, ◌<◌, ◌/◌, length, sym, ◌∙◌, get_or, set, bit_or, ap, Vec, Global, ℕ, List, subst}
use Rattle.std.proofs.Math.ListN.{length-set}
use Rattle.sparse_reach.specs.Pages.{flat, IsPage}
use Rattle.sparse_reach.proofs.Paging.{page_below, raised, left_so}
use Rattle.sparse_reach.proofs.words.Words.raise.Goals as goal
use Rattle.sparse_reach.proofs.words.Words.raise.Goals.{In_ok-raise_in}

pub index_mut-requires : goal.index_mut-requires
index_mut-requires c =
    let pages = c.self.inside.pages in
    let lt : c.args.at < length (flat pages.items) = subst (λ (xs : List ℕ). c.args.at < length xs) (sym c.self.view_is) c.requires in
    omega (arith, page_below pages.items c.self.invariant c.args.at lt, pages.ok.0)

pub raise_in-requires-clause-page : goal.raise_in-requires-clause-page
raise_in-requires-clause-page c =
    let pages = c.self.inside.pages.items in
    let lt : c.args.at < length (flat pages) = subst (λ (xs : List ℕ). c.args.at < length xs) (sym c.self.view_is) c.requires in
    subst (λ (p : Vec ℕ Global). IsPage p) (sym c.index_mut.ensures.value)
    (c.self.invariant (c.args.at / 512) c.index_mut.result.now (page_below pages c.self.invariant c.args.at lt))

pub returns-in_err-raise_in-clause-length : goal.returns-in_err-raise_in-clause-length
returns-in_err-raise_in-clause-length c =
    let pages = c.self.inside.pages.items in
    let lt : c.args.at < length (flat pages) = subst (λ (xs : List ℕ). c.args.at < length xs) (sym c.self.view_is) c.requires in
    ap length (left_so pages c.self.invariant c.args.at c.args.word lt c.index_mut.result.now c.raise_in.new.page c.index_mut.ensures.value
    c.in_err-raise_in.ensures.kept ∙ c.self.view_is)

is_set : (c : In_ok-raise_in) → flat (set c.self.inside.pages.items (c.args.at / 512) c.raise_in.new.page) ≡ set (flat c.self.inside.pages.items) c.args.at
    (bit_or (get_or (flat c.self.inside.pages.items) c.args.at 0) c.args.word)
is_set c =
    let pages = c.self.inside.pages.items in
    let lt : c.args.at < length (flat pages) = subst (λ (xs : List ℕ). c.args.at < length xs) (sym c.self.view_is) c.requires in
    raised pages c.self.invariant c.args.at c.args.word lt c.index_mut.result.now c.raise_in.new.page c.index_mut.ensures.value c.in_ok-raise_in.ensures.set

pub returns-clause-set : goal.returns-clause-set
returns-clause-set c =
    let new = flat (set c.self.inside.pages.items (c.args.at / 512) c.raise_in.new.page) in
    subst (λ (xs : List ℕ). new ≡ set xs c.args.at (bit_or (get_or xs c.args.at 0) c.args.word)) c.self.view_is (is_set c)

pub returns-clause-length : goal.returns-clause-length
returns-clause-length c =
    ap length (is_set c) ∙ (length-set (flat c.self.inside.pages.items) c.args.at _ ∙ ap length c.self.view_is)
