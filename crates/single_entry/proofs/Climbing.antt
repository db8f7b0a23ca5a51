-- Climbing up through entries.
use Rattle.std.proofs.Common.{◌≡◌, ℕ, zero, suc, ◌+◌, ◌<◌, ◌≤◌, ◌⊎◌, inl, inr, ⊎_elim, List, [], ◌∷◌, Option, Some, None}
use Rattle.std.proofs.Common.{IfSome, MatchOption, length, get_or, refl, sym, ap, subst, ◌∙◌, arith}
use Rattle.std.proofs.lemmas.Bool.{cases_lt}
use Rattle.std.specs.List.{Contains, slice_get}
use Rattle.std.proofs.lemmas.Option.{same_Some, none-some}
use Rattle.wasm_types.specs.declared.place.Node.{Node}
use Rattle.block_cfg.specs.Graph.{Graph, number}
use Rattle.block_cfg.proofs.MemberLemmas.{number_injective}
use Rattle.single_entry.specs.declared.entry.Entry.{Entry}
use Rattle.single_entry.specs.declared.entry.Hop.{Hop}
use Rattle.single_entry.specs.declared.skips.Skips.{Skips}
use Rattle.single_entry.specs.Last.{IsLastOf, HasNoneOf}
use Rattle.single_entry.specs.Climbs.{hop_in, near_in, entry_of, IsQuiet, Climbs, stays, climbs, Tops, IsHop, AreHops, IsStep, IsTop, AreEntries}

pub climbs_on : (s : Skips) (writers : List ℕ) (n m a : Node) → Climbs s writers n m → Climbs s writers m a → Climbs s writers n a
climbs_on s writers n m a stays up = up
climbs_on s writers n m a (climbs e from has is quiet more) up = climbs e from has is quiet (climbs_on s writers from m a more up)

-- where a last writer is, not all is quiet
pub not_quiet : (writers : List ℕ) (begin end w : ℕ) → IsLastOf writers begin end w → HasNoneOf writers begin end → ⊥
not_quiet writers begin end w last none = none w last.there last.from last.before

-- ---- one step

pub hop_some : (s : Skips) → AreHops s → (k : ℕ) (o : Option Hop) → o ≡ hop_in (slice_get s k) → IfSome o (λ hop. IsHop s k hop)
hop_some s all k None e = tt
hop_some s all k (Some hop) e = all k hop (sym e)

module _ (s : Skips) (writers : List ℕ) (n : Node) (hop : Hop) (is : Some hop ≡ hop_in (slice_get s (number n))) (good : IsHop s (number n) hop) where
  has : entry_of s n ≡ Some hop.near
  has = ap near_in (sym is)

  pub far_step : (a : Node) → number a ≡ hop.far.through → IsQuiet writers hop.far → IsStep s writers n a
  far_step a at quiet =
      let lt = good.far in
      record { climbs = good.leads writers n a refl at quiet; smaller = omega arith }

  pub near_step : (a : Node) → number a ≡ hop.near.through → IsQuiet writers hop.near → IsStep s writers n a
  near_step a at quiet =
      let lt = good.near in
      record { climbs = climbs hop.near a has at quiet stays; smaller = omega arith }

  pub no_step : (IsQuiet writers hop.near → ⊥) → IsTop s writers n
  no_step loud e is_e quiet = loud (subst (IsQuiet writers) (same_Some e hop.near (sym is_e ∙ has)) quiet)

-- ---- steps

pub steps_on : (s : Skips) (writers : List ℕ) (n m a : Node) (o : Option Node) → Climbs s writers n m
    → MatchOption o (IsTop s writers m) (λ b. IsStep s writers m b)
    → o ≡ Some a → Climbs s writers n a
steps_on s writers n m a None up step e = absurd (none-some a e)
steps_on s writers n m a (Some b) up step e = subst (λ z. Climbs s writers n z) (same_Some b a e) (climbs_on s writers n m b up step.climbs)

pub steps_end : (s : Skips) (writers : List ℕ) (n m : Node) (o : Option Node) → Climbs s writers n m
    → MatchOption o (IsTop s writers m) (λ b. IsStep s writers m b)
    → o ≡ None → Tops s writers n m
steps_end s writers n m None up top e = record { climbs = up; top = top }
steps_end s writers n m (Some b) up step e = absurd (none-some b (sym e))

-- ---- one top, and always one

module _ (s : Skips) (writers : List ℕ) where
  tops_same : (n a b : Node) → Climbs s writers n a → Climbs s writers n b → IsTop s writers a → IsTop s writers b → a ≡ b
  tops_same n a b stays stays top top' = refl
  tops_same n a b stays (climbs e from has is quiet more) top top' = absurd (top e has quiet)
  tops_same n a b (climbs e from has is quiet more) stays top top' = absurd (top' e has quiet)
  tops_same n a b (climbs e from has is quiet more) (climbs e' from' has' is' quiet' more') top top' =
      let same : e' ≡ e = same_Some e' e (sym has' ∙ has) in
      let one : from' ≡ from = number_injective from' from (is' ∙ ap (λ z. z.through) same ∙ sym is) in
      tops_same from a b more (subst (λ z. Climbs s writers z b) one more') top top'

pub tops_once : (s : Skips) (writers : List ℕ) (n a b : Node) → Tops s writers n a → Tops s writers n b → a ≡ b
tops_once s writers n a b up up' = tops_same s writers n a b up.climbs up'.climbs up.top up'.top

-- ---- whether all is quiet

none_of_nil : (begin end : ℕ) → HasNoneOf [] begin end
none_of_nil begin end v (i, lt, is) from less = absurd (omega arith)

first_or : (x : ℕ) (xs : List ℕ) (v i : ℕ) → i < length (x ∷ xs) → get_or (x ∷ xs) i v ≡ v → (x ≡ v) ⊎ Contains xs v
first_or x xs v zero lt is = inl is
first_or x xs v (suc i) lt is = inr (i, omega arith, is)

module _ (x : ℕ) (xs : List ℕ) (begin end : ℕ) where
  none_fewer : HasNoneOf (x ∷ xs) begin end → HasNoneOf xs begin end
  none_fewer none v (i, lt, is) from less = none v (suc i, omega arith, is) from less

  none_first : HasNoneOf (x ∷ xs) begin end → begin ≤ x → x < end → ⊥
  none_first none from less = none x (0, omega arith, refl) from less

  none_more : HasNoneOf xs begin end → (begin ≤ x → x < end → ⊥) → HasNoneOf (x ∷ xs) begin end
  none_more none out v (i, lt, is) from less = ⊎_elim
      (λ e. out (subst (λ z. begin ≤ z) (sym e) from) (subst (λ z. z < end) (sym e) less))
      (λ has. none v has from less)
      (first_or x xs v i lt is)

none_or : (writers : List ℕ) (begin end : ℕ) → HasNoneOf writers begin end ⊎ (HasNoneOf writers begin end → ⊥)
none_or [] begin end = inl (none_of_nil begin end)
none_or (x ∷ xs) begin end = ⊎_elim
    (λ none. elim (cases_lt x begin) [
      | inl below ↦ inl (none_more x xs begin end none (λ from less. omega arith))
      | inr from ↦ elim (cases_lt x end) [
        | inl less ↦ inr (λ all. none_first x xs begin end all from less)
        | inr above ↦ inl (none_more x xs begin end none (λ from' less. omega arith))
      ]
    ])
    (λ some. inr (λ all. some (none_fewer x xs begin end all)))
    (none_or xs begin end)

pub quiet_or : (writers : List ℕ) (e : Entry) → IsQuiet writers e ⊎ (IsQuiet writers e → ⊥)
quiet_or writers e = none_or writers e.low (e.high + 1)

module _ (g : Graph) (s : Skips) (entries : AreEntries g s) (writers : List ℕ) where
  top_by : (n : Node) (o : Option Entry) → entry_of s n ≡ o → ((m : Node) → number m < number n → (a : Node) × Tops s writers m a)
      → (a : Node) × Tops s writers n a
  top_by n None is up = (n, record { climbs = stays; top = λ e has quiet. none-some e (sym is ∙ has) })
  top_by n (Some e) is up =
      let entry = entries n e is in
      let falls = entry.falls in
      let at = entry.is in
      ⊎_elim
      (λ quiet. let above = up entry.from (omega arith) in (above.0, record { climbs = climbs e entry.from is at quiet above.1.climbs; top = above.1.top }))
      (λ loud. (n, record { climbs = stays; top = λ e' has quiet. loud (subst (IsQuiet writers) (same_Some e' e (sym has ∙ is)) quiet) }))
      (quiet_or writers e)

  top_at : (k : ℕ) (n : Node) → number n < k → (a : Node) × Tops s writers n a
  top_at zero n lt = absurd (omega arith)
  top_at (suc k) n lt = top_by n (entry_of s n) refl (λ m less. top_at k m (omega arith))

  -- a point has a top
  pub tops_some : (n : Node) → (a : Node) × Tops s writers n a
  tops_some n = top_at (suc (number n)) n (omega arith)
