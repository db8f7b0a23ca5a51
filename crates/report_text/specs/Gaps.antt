-- Texts in which long runs of spaces are kept as numbers.
use Rattle.std.specs.Prelude.{◌≡◌, ℕ, ◌+◌, ◌-◌, ◌<◌, ◌≤◌, List, [], ◌∷◌, ◌++◌, drop, length, replicate, take}
use Rattle.report_text.specs.declared.gaps.Gap.{Gap}
use Rattle.report_text.specs.declared.gaps.Rest.{Rest}
use Rattle.report_text.specs.declared.page.Page.{Page}
use Rattle.report_text.specs.Drafts.{written}

-- the bytes, with the spaces of each gap, which stands so many bytes behind the gap before it
abbrev pub spread : List Gap → List ℕ → List ℕ
spread [] bytes = bytes
spread (g ∷ gs) bytes = take g.before bytes ++ (replicate g.spaces 32 ++ spread gs (drop g.before bytes))

-- how many bytes stand before the last gap
abbrev pub covered : List Gap → ℕ
covered [] = 0
covered (g ∷ gs) = g.before + covered gs

-- what is written of a listing so far
abbrev pub shown : Page → List ℕ
shown p = spread p.gaps.items (written p.draft)

-- The last gap stands where the page has it, within the text.
pub record IsLaid (p : Page) : Type 0 where
  pub last : covered p.gaps.items ≡ p.last
  pub within : p.last ≤ p.draft.len

-- what is left of a text
abbrev pub left : Rest → List ℕ
left r = r.text.now ++ (replicate r.spaces 32 ++ spread r.gaps.now r.bytes.now)

-- how many bytes and gaps are still to be come to
abbrev pub steps : Rest → ℕ
steps r = length r.gaps.now + length r.bytes.now

-- What came next was put into the buffer, from a place up to another, or the text turned to its next gap.
pub record Puts (buf_old buf_new : List ℕ) (at : ℕ) (old new : Rest) (end : ℕ) : Type 0 where
  pub same : take end buf_new ++ left new ≡ take at buf_old ++ left old
  pub long : length buf_new ≡ length buf_old
  pub within : end ≤ length buf_old
  pub less : (length buf_old - end) + steps new < (length buf_old - at) + steps old
