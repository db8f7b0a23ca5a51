-- Texts in which long runs of spaces are kept as numbers.
use Rattle.std.proofs.Common.{◌≡◌, ℕ, ◌+◌, ◌-◌, ◌*◌, ◌≤◌, List, [], ◌∷◌, ◌++◌, length, replicate, take, drop, refl, ap, sym, ◌∙◌, arith, append_assoc, append-nil, take-append-drop, length-append, length-drop, length-take-le, take_all}
use Rattle.std.proofs.lemmas.List.{drop-append-le, drop_all, replicate-append-replicate, take-append-le, take_rest}
use Rattle.report_text.specs.declared.draft.Draft.{Draft}
use Rattle.report_text.specs.declared.gaps.Gap.{Gap}
use Rattle.report_text.specs.declared.page.Page.{Page}
use Rattle.report_text.specs.Drafts.{written}
use Rattle.report_text.specs.Gaps.{IsLaid, covered, shown, spread}
use Rattle.report_text.specs.Listing.{indent}
use Rattle.report_text.proofs.ListingLemmas.{spaces}

-- more bytes behind the last gap
pub spread-append : (gs : List Gap) (bs xs : List ℕ) → covered gs ≤ length bs → spread gs (bs ++ xs) ≡ spread gs bs ++ xs
spread-append [] bs xs fits = refl
spread-append (g ∷ gs) bs xs fits =
    let within : g.before ≤ length bs = omega (arith, fits) in
    let rest = spread-append gs (drop g.before bs) xs (omega (arith, fits, length-drop g.before bs)) in
    (λ k. take-append-le g.before bs xs within k ++ (replicate g.spaces 32 ++ spread gs (drop-append-le g.before bs xs within k)))
    ∙ ap (λ l. take g.before bs ++ (replicate g.spaces 32 ++ l)) rest
    ∙ ap (λ l. take g.before bs ++ l) (sym (append_assoc (replicate g.spaces 32) (spread gs (drop g.before bs)) xs))
    ∙ sym (append_assoc (take g.before bs) (replicate g.spaces 32 ++ spread gs (drop g.before bs)) xs)

-- a gap behind all bytes
pub spread-gap : (gs : List Gap) (bs : List ℕ) (g : Gap) → covered gs + g.before ≡ length bs → spread (gs ++ g ∷ []) bs ≡ spread gs bs ++ replicate g.spaces 32
spread-gap [] bs g ends =
    (λ k. take_all g.before bs (omega (arith, ends)) k ++ (replicate g.spaces 32 ++ drop_all g.before bs (omega (arith, ends)) k))
    ∙ ap (λ l. bs ++ l) (append-nil (replicate g.spaces 32))
spread-gap (h ∷ gs) bs g ends =
    let rest = spread-gap gs (drop h.before bs) g (omega (arith, ends, length-drop h.before bs)) in
    ap (λ l. take h.before bs ++ (replicate h.spaces 32 ++ l)) rest
    ∙ ap (λ l. take h.before bs ++ l) (sym (append_assoc (replicate h.spaces 32) (spread gs (drop h.before bs)) (replicate g.spaces 32)))
    ∙ sym (append_assoc (take h.before bs) (replicate h.spaces 32 ++ spread gs (drop h.before bs)) (replicate g.spaces 32))

pub covered-gap : (gs : List Gap) (g : Gap) → covered (gs ++ g ∷ []) ≡ covered gs + g.before
covered-gap [] g = omega arith
covered-gap (h ∷ gs) g = omega (arith, covered-gap gs g)

-- as many bytes are written as the draft says
pub written_len : (d : Draft) → length (written d) ≡ d.len
written_len d = length-take-le d.len d.bytes.items d.within

-- more text, and no gap more
pub shown_more : (p q : Page) (xs : List ℕ) → IsLaid p → q.gaps.items ≡ p.gaps.items → written q.draft ≡ written p.draft ++ xs → shown q ≡ shown p ++ xs
shown_more p q xs laid gaps more =
    (λ k. spread (gaps k) (more k)) ∙ spread-append p.gaps.items (written p.draft) xs (omega (arith, laid.last, laid.within, written_len p.draft))

pub laid_more : (p q : Page) (xs : List ℕ) → IsLaid p → q.gaps.items ≡ p.gaps.items → q.last ≡ p.last → written q.draft ≡ written p.draft ++ xs → IsLaid q
laid_more p q xs laid gaps last more =
    record {
      last = ap covered gaps ∙ laid.last ∙ sym last;
      within = omega (arith, last, laid.within, written_len p.draft, written_len q.draft, ap length more, length-append (written p.draft) xs);
    }

-- a line: what stands before its words, and these
pub line_shown : (p b q : Page) (start around rest : List ℕ) → shown b ≡ shown p ++ (start ++ 32 ∷ around) → IsLaid b → q.gaps.items ≡ b.gaps.items → written q.draft ≡ written b.draft ++ rest
    → shown q ≡ shown p ++ (start ++ 32 ∷ (around ++ rest))
line_shown p b q start around rest begun laid gaps more =
    shown_more b q rest laid gaps more ∙ ap (λ l. l ++ rest) begun ∙ append_assoc (shown p) (start ++ 32 ∷ around) rest ∙ ap (λ l. shown p ++ l) (append_assoc start (32 ∷ around) rest)

-- a gap more, behind all text
pub gap_shown : (p q : Page) (g : Gap) (depth : ℕ) → IsLaid p → q.draft ≡ p.draft → q.gaps.items ≡ p.gaps.items ++ g ∷ [] → g.before ≡ p.draft.len - p.last → g.spaces ≡ 2 * depth
    → shown q ≡ shown p ++ indent depth
gap_shown p q g depth laid draft gaps before wide =
    (λ k. spread (gaps k) (written (draft k))) ∙ spread-gap p.gaps.items (written p.draft) g (omega (arith, laid.last, laid.within, before, written_len p.draft))
    ∙ ap (λ l. shown p ++ l) (ap (λ n. replicate n 32) wide ∙ sym (spaces depth))

pub gap_laid : (p q : Page) (g : Gap) → IsLaid p → q.draft ≡ p.draft → q.gaps.items ≡ p.gaps.items ++ g ∷ [] → g.before ≡ p.draft.len - p.last → q.last ≡ p.draft.len → IsLaid q
gap_laid p q g laid draft gaps before last =
    record {
      last = ap covered gaps ∙ covered-gap p.gaps.items g ∙ omega (arith, laid.last, laid.within, before, last);
      within = omega (arith, last, ap (λ (d : Draft). d.len) draft);
    }

-- ---- what is put into a buffer

pub spaces_put : (front : List ℕ) (count total : ℕ) (rest : List ℕ) → count ≤ total → (front ++ replicate count 32) ++ (replicate (total - count) 32 ++ rest) ≡ front ++ (replicate total 32 ++ rest)
spaces_put front count total rest few =
    append_assoc front (replicate count 32) (replicate (total - count) 32 ++ rest)
    ∙ ap (λ l. front ++ l)
    (sym (append_assoc (replicate count 32) (replicate (total - count) 32) rest)
    ∙ ap (λ l. l ++ rest) (replicate-append-replicate count (total - count) 32 ∙ ap (λ n. replicate n 32) (omega (arith, few))))

pub text_put : (front text rest : List ℕ) (count : ℕ) → (front ++ take count text) ++ (take (length text - count) (drop count text) ++ rest) ≡ front ++ (text ++ rest)
text_put front text rest count =
    append_assoc front (take count text) (take (length text - count) (drop count text) ++ rest)
    ∙ ap (λ l. front ++ l)
    (sym (append_assoc (take count text) (take (length text - count) (drop count text)) rest)
    ∙ ap (λ l. l ++ rest) (ap (λ l. take count text ++ l) (take_rest text count) ∙ take-append-drop count text))
