-- Pages as one list.
use Rattle.std.proofs.Common.{◌≡◌, ℕ, zero, suc, ◌+◌, ◌-◌, ◌*◌, ◌/◌, ◌%◌, ◌<◌, ◌≤◌, List, [], ◌∷◌, ◌++◌, Vec, Global, Bool, true, false, length, get_or, set, replicate, take, bit_or, if◌then◌else◌, refl, sym, ◌∙◌, ap, inl, inr, arith, length-append, append_assoc, append-nil}
use Rattle.std.proofs.Math.ListN.{length-replicate}
use Rattle.std.proofs.Math.Seq.{take_all}
use Rattle.std.specs.List.{All}
use Rattle.std.proofs.lemmas.Bool.{cases_lt}
use Rattle.std.proofs.lemmas.List.{get_or_append_left, get_or-append_right, set-append_left, set-append_right, get_or-replicate, get_or_past, get_or_read}
use Rattle.std.proofs.lemmas.List.Elements.{All-append, All-replicate, All-tail, All-head}
use Rattle.sparse_reach.specs.Pages.{filled, flat, IsPage}

pub length_filled : (xs : List ℕ) → length xs ≤ 512 → length (filled xs) ≡ 512
length_filled xs le = omega (arith, length-append xs (replicate (512 - length xs) 0), length-replicate {A = ℕ} (512 - length xs) 0)

pub filled_full : (xs : List ℕ) → length xs ≡ 512 → filled xs ≡ xs
filled_full xs e = rw e (append-nil xs)

zeros_from : (n m : ℕ) → n ≡ suc m → replicate {A = ℕ} n 0 ≡ 0 ∷ replicate m 0
zeros_from n m e = rw e refl

pub filled_push : (xs : List ℕ) → length xs < 512 → filled (xs ++ 0 ∷ []) ≡ filled xs
filled_push xs lt =
    let n = length xs in
    let one : length (xs ++ 0 ∷ []) ≡ n + 1 = length-append xs (0 ∷ []) in
    let more : replicate {A = ℕ} (512 - n) 0 ≡ 0 ∷ replicate (512 - (n + 1)) 0 = zeros_from (512 - n) (512 - (n + 1)) (omega arith) in
    rw (one, more) (append_assoc xs (0 ∷ []) (replicate {A = ℕ} (512 - (n + 1)) 0))

-- a word of a page that stands past what is written is 0
pub filled_at : (xs : List ℕ) (r : ℕ) → length xs ≤ 512 → length xs ≤ r → get_or (filled xs) r 0 ≡ 0
filled_at xs r le past = elim (cases_lt r 512) [
  | inl lt ↦ get_or-append_right xs (replicate (512 - length xs) 0) (length xs) r 0 refl past ∙ get_or-replicate (512 - length xs) (r - length xs) 0 0
      (omega arith)
  | inr out ↦ get_or_past (filled xs) r 0 (omega (arith, length_filled xs le))
]

pub filled_in : (xs : List ℕ) (r : ℕ) → r < length xs → get_or (filled xs) r 0 ≡ get_or xs r 0
filled_in xs r lt = get_or_append_left xs (replicate (512 - length xs) 0) 0 r lt

-- what is filled up is the same page, whether that succeeds or not
pub filled_either : (ok : Bool) (n : ℕ) (xs ys : List ℕ) → length xs ≤ 512 → n ≡ length xs
    → ys ≡ (if ok then take 512 xs ++ replicate (512 - n) 0 else xs) → filled ys ≡ filled xs
filled_either false n xs ys short long is = ap filled is
filled_either true n xs ys short long is =
    let whole : ys ≡ filled xs =
    is ∙ (ap (λ zs. zs ++ replicate (512 - n) 0) (take_all 512 xs short) ∙ ap (λ k. xs ++ replicate (512 - k) 0) long) in
    ap filled whole ∙ filled_full (filled xs) (length_filled xs short)

page_at : (pages : List (Vec ℕ Global)) (k : ℕ) (d : Vec ℕ Global) → List ℕ
page_at pages k d = filled (get_or pages k d).items

pub pages_tail : (page : Vec ℕ Global) (pages : List (Vec ℕ Global)) → All IsPage (page ∷ pages) → All IsPage pages
pages_tail page pages ok = All-tail IsPage page pages ok

pub length_flat : (pages : List (Vec ℕ Global)) → All IsPage pages → length (flat pages) ≡ length pages * 512
length_flat [] ok = refl
length_flat (page ∷ pages) ok =
    omega (
      arith,
      length-append (filled page.items) (flat pages),
      length_filled page.items (All-head IsPage page pages ok).0,
      length_flat pages
          (All-tail IsPage page pages ok),
    )

-- word r of page k
pub get_flat : (pages : List (Vec ℕ Global)) → All IsPage pages → (k r i : ℕ) (d : Vec ℕ Global) → k < length pages → r < 512 → i ≡ k * 512 + r
    → get_or (flat pages) i 0 ≡ get_or (filled (get_or pages k d).items) r 0
get_flat [] ok k r i d lt below at = absurd (omega arith)
get_flat (page ∷ pages) ok zero r i d lt below at =
    let len = length_filled page.items (All-head IsPage page pages ok).0 in
    let first : i ≡ r = omega arith in
    rw first (get_or_append_left (filled page.items) (flat pages) 0 r (omega arith))
get_flat (page ∷ pages) ok (suc k) r i d lt below at =
    let len = length_filled page.items (All-head IsPage page pages ok).0 in
    get_or-append_right (filled page.items) (flat pages) 512 i 0 len (omega arith) ∙ get_flat pages (All-tail IsPage page pages ok) k r (i - 512) d
    (omega arith) below (omega arith)

pub set_flat : (pages : List (Vec ℕ Global)) → All IsPage pages → (k r i v : ℕ) (d new : Vec ℕ Global) → k < length pages → r < 512 → i ≡ k * 512 + r
    → filled new.items ≡ set (filled (get_or pages k d).items) r v → flat (set pages k new) ≡ set (flat pages) i v
set_flat [] ok k r i v d new lt below at e = absurd (omega arith)
set_flat (page ∷ pages) ok zero r i v d new lt below at e =
    let len = length_filled page.items (All-head IsPage page pages ok).0 in
    let first : i ≡ r = omega arith in
    rw first (ap (λ xs. xs ++ flat pages) e ∙ sym (set-append_left (filled page.items) (flat pages) r v (omega arith)))
set_flat (page ∷ pages) ok (suc k) r i v d new lt below at e =
    let len = length_filled page.items (All-head IsPage page pages ok).0 in
    ap (λ xs. filled page.items ++ xs) (set_flat pages (All-tail IsPage page pages ok) k r (i - 512) v d new (omega arith) below (omega arith) e)
    ∙ sym (set-append_right (filled page.items) (flat pages) 512 i v len (omega arith))

pub same_flat : (pages : List (Vec ℕ Global)) (k : ℕ) (d new : Vec ℕ Global) → k < length pages → filled new.items ≡ filled (get_or pages k d).items
    → flat (set pages k new) ≡ flat pages
same_flat [] k d new lt e = absurd (omega arith)
same_flat (page ∷ pages) zero d new lt e = ap (λ xs. xs ++ flat pages) e
same_flat (page ∷ pages) (suc k) d new lt e = ap (λ xs. filled page.items ++ xs) (same_flat pages k d new (omega arith) e)

pub all_zero : (pages : List (Vec ℕ Global)) → All (λ page. page.items ≡ []) pages → All (λ w. w ≡ 0) (flat pages)
all_zero [] none = λ k d lt. absurd (omega arith)
all_zero (page ∷ pages) none =
    let empty : page.items ≡ [] = All-head (λ (p : Vec ℕ Global). p.items ≡ []) page pages none in
    All-append (λ (w : ℕ). w ≡ 0) (filled page.items) (flat pages) (rw empty (All-replicate (λ (w : ℕ). w ≡ 0) 512 0 refl))
    (all_zero pages (All-tail (λ (p : Vec ℕ Global). p.items ≡ []) page pages none))

pub zero_at : (pages : List (Vec ℕ Global)) → All (λ page. page.items ≡ []) pages → (i : ℕ) → get_or (flat pages) i 0 ≡ 0
zero_at pages none i = elim (cases_lt i (length (flat pages))) [
  | inl lt ↦ all_zero pages none i 0 lt
  | inr past ↦ get_or_past (flat pages) i 0 past
]

pub empty_pages : (pages : List (Vec ℕ Global)) → All (λ page. page.items ≡ []) pages → All IsPage pages
empty_pages pages none k d lt = let e = none k d lt in rw e (omega arith, λ i x within. absurd (omega arith))

-- a word of the whole list, by its page
pub page_below : (pages : List (Vec ℕ Global)) → All IsPage pages → (at : ℕ) → at < length (flat pages) → at / 512 < length pages
page_below pages ok at lt = omega (arith, length_flat pages ok)

module _ (pages : List (Vec ℕ Global)) (ok : All IsPage pages) (at : ℕ) (lt : at < length (flat pages)) (d : Vec ℕ Global) where
  below : at / 512 < length pages
  below = page_below pages ok at lt

  place_is : at / 512 * 512 + at % 512 ≡ at
  place_is = omega arith

  pub word_at : get_or (flat pages) at 0 ≡ get_or (filled (get_or pages (at / 512) d).items) (at % 512) 0
  word_at = get_flat pages ok (at / 512) (at % 512) at d below (omega arith) (sym place_is)

  pub word_set : (v : ℕ) (new : Vec ℕ Global) → filled new.items ≡ set (filled (get_or pages (at / 512) d).items) (at % 512) v
      → flat (set pages (at / 512) new) ≡ set (flat pages) at v
  word_set v new e = set_flat pages ok (at / 512) (at % 512) at v d new below (omega arith) (sym place_is) e

  pub word_same : (new : Vec ℕ Global) → filled new.items ≡ filled (get_or pages (at / 512) d).items → flat (set pages (at / 512) new) ≡ flat pages
  word_same new e = same_flat pages (at / 512) d new below e

-- what `raise` says, from what it did in the page
module _ (pages : List (Vec ℕ Global)) (ok : All IsPage pages) (at word : ℕ) (lt : at < length (flat pages)) (page new : Vec ℕ Global)
    (is : page ≡ get_or pages (at / 512) page) where
  old_word : get_or (filled page.items) (at % 512) 0 ≡ get_or (flat pages) at 0
  old_word = ap (λ (p : Vec ℕ Global). get_or (filled p.items) (at % 512) 0) is ∙ sym (word_at pages ok at lt page)

  pub raised : filled new.items ≡ set (filled page.items) (at % 512) (bit_or (get_or (filled page.items) (at % 512) 0) word)
      → flat (set pages (at / 512) new) ≡ set (flat pages) at (bit_or (get_or (flat pages) at 0) word)
  raised e =
      let on : filled new.items ≡ set (filled (get_or pages (at / 512) page).items) (at % 512) (bit_or (get_or (filled page.items) (at % 512) 0) word) = e ∙
      ap (λ (p : Vec ℕ Global). set (filled p.items) (at % 512) (bit_or (get_or (filled page.items) (at % 512) 0) word)) is in
      word_set pages ok at lt page (bit_or (get_or (filled page.items) (at % 512) 0) word) new on ∙ ap (λ w. set (flat pages) at (bit_or w word)) old_word

  pub left_so : filled new.items ≡ filled page.items → flat (set pages (at / 512) new) ≡ flat pages
  left_so e = word_same pages ok at lt page new (e ∙ ap (λ (p : Vec ℕ Global). filled p.items) is)

  page_short : length page.items ≤ 512
  page_short =
      let e : length page.items ≡ length (get_or pages (at / 512) page).items = ap (λ (p : Vec ℕ Global). length p.items) is in let short =
      (ok (at / 512) page (page_below pages ok at lt)).0 in omega arith

  pub get_in : (v : ℕ) → at % 512 < length page.items → v ≡ get_or page.items (at % 512) v → v ≡ get_or (flat pages) at 0
  get_in v in_page e = get_or_read page.items (at % 512) v in_page e 0 ∙ (sym (filled_in page.items (at % 512) in_page) ∙ old_word)

  pub get_past : length page.items ≤ at % 512 → 0 ≡ get_or (flat pages) at 0
  get_past past = sym (filled_at page.items (at % 512) page_short past) ∙ old_word
