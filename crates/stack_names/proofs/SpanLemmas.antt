-- Places of positions as ranges of one list that grows at its end.
use Rattle.std.proofs.Common.{◌≡◌, ℕ, zero, suc, ◌+◌, ◌-◌, ◌≤◌, ◌<◌, Bool, false, if◌then◌else◌, List, [], ◌∷◌, ◌++◌, Option, Some, None, length, take, drop, refl, sym, ap, ap₂, ◌∙◌, subst, arith, is_some}
use Rattle.std.specs.Prelude.{◌==◌}
use Rattle.std.specs.List.{slice_get, slice_range}
use Rattle.std.proofs.lemmas.Bool.{lt-ltb, le-ltb}
use Rattle.std.proofs.lemmas.List.{take-append-le, drop-append-le, take_all}
use Rattle.std.proofs.Math.ListN.{length-drop}
use Rattle.stack_names.specs.declared.place.Place.{Place}
use Rattle.stack_names.specs.declared.lists.Span.{Span}
use Rattle.stack_names.specs.declared.lists.Extent.{Extent}
use Rattle.stack_names.specs.Listed.{Listed}
use Rattle.stack_names.specs.Named.{is_live_in, operands_in, stack_in}
use Rattle.stack_names.specs.Spans.{list_of_span, lists_of, IsWithin, AreWithin, extent_or, extent_from, extents, last_end, end_or, AreLaid}

pub length-lists : (places : List Place) (spans : List (Option Extent)) → length (lists_of places spans) ≡ length spans
length-lists places [] = refl
length-lists places (s ∷ spans) = ap suc (length-lists places spans)

pub lists-append : (places : List Place) (xs ys : List (Option Extent)) → lists_of places (xs ++ ys) ≡ lists_of places xs ++ lists_of places ys
lists-append places [] ys = refl
lists-append places (x ∷ xs) ys = ap (λ z. list_of_span places x ∷ z) (lists-append places xs ys)

range_more : (xs ys : List Place) (a b : ℕ) → a ≤ b → b ≤ length xs → slice_range (xs ++ ys) a b ≡ slice_range xs a b
range_more xs ys a b le lt =
    ap (take (b - a)) (drop-append-le a xs ys (omega arith)) ∙ take-append-le (b - a) (drop a xs) ys (omega (arith, length-drop a xs))

list_more : (xs ys : List Place) (s : Option Extent) → IsWithin (length xs) s → list_of_span (xs ++ ys) s ≡ list_of_span xs s
list_more xs ys None h = refl
list_more xs ys (Some s) h =
    ap₂ {A = List Place} {B = List Place} (λ a b. Some (record { operands = a; stack = b })) (range_more xs ys s.operands s.end h.1 h.2) (range_more xs ys s.start s.end (omega (arith, h.0, h.1)) h.2)

-- places more change no earlier list
pub lists_more : (xs ys : List Place) (spans : List (Option Extent)) → AreWithin (length xs) spans → lists_of (xs ++ ys) spans ≡ lists_of xs spans
lists_more xs ys [] h = refl
lists_more xs ys (s ∷ spans) h = ap₂ {A = Option Listed} {B = List (Option Listed)} (λ a b. a ∷ b) (list_more xs ys s h.0) (lists_more xs ys spans h.1)

within_le : (m n : ℕ) (s : Option Extent) → m ≤ n → IsWithin m s → IsWithin n s
within_le m n None le h = tt
within_le m n (Some s) le h = (h.0, h.1, omega (arith, h.2))

pub are_within_le : (m n : ℕ) (spans : List (Option Extent)) → m ≤ n → AreWithin m spans → AreWithin n spans
are_within_le m n [] le h = tt
are_within_le m n (s ∷ spans) le h = (within_le m n s le h.0, are_within_le m n spans le h.1)

pub within-push : (n : ℕ) (spans : List (Option Extent)) (s : Option Extent) → AreWithin n spans → IsWithin n s → AreWithin n (spans ++ s ∷ [])
within-push n [] s h i = (i, tt)
within-push n (x ∷ spans) s h i = (h.0, within-push n spans s h.1 i)

pub within_at : (n : ℕ) (spans : List (Option Extent)) (p : ℕ) (s : Extent) → AreWithin n spans → extent_or (slice_get spans p) ≡ Some s → IsWithin n (Some s)
within_at n [] p s h e = absurd cc
within_at n (x ∷ spans) zero s h e = subst (IsWithin n) e h.0
within_at n (x ∷ spans) (suc p) s h e = within_at n spans p s h.1 e

abbrev listing : List Place → List Place → Listed
listing operands stack = record { operands = operands; stack = stack }

-- one list more
pub pushed : (xs ys : List Place) (spans : List (Option Extent)) (from : ℕ) (s : Extent) → AreWithin (length xs) spans → s.start ≡ length xs → s.operands ≡ length xs + from
    → s.end ≡ length xs + length ys → lists_of (xs ++ ys) (spans ++ Some s ∷ []) ≡ lists_of xs spans ++ Some (record { operands = drop from ys; stack = ys }) ∷ []
pushed xs ys spans from s h a b e =
    lists-append (xs ++ ys) spans (Some s ∷ []) ∙ ap₂ {A = List (Option Listed)} {B = List (Option Listed)} (λ p q. p ++ q) (lists_more xs ys spans h) (ap (λ z. z ∷ []) one)
  where
    rest : (k : ℕ) → drop (length xs + k) (xs ++ ys) ≡ drop k ys
    rest k = behind xs k
      where
        behind : (zs : List Place) (k : ℕ) → drop (length zs + k) (zs ++ ys) ≡ drop k ys
        behind [] k = let f : 0 + k ≡ k = omega arith in ap (λ n. drop n ys) f
        behind (z ∷ zs) k = let f : suc (length zs) + k ≡ suc (length zs + k) = omega arith in ap (λ n. drop n (z ∷ (zs ++ ys))) f ∙ behind zs k

    ranged : (k : ℕ) → slice_range (xs ++ ys) (length xs + k) (length xs + length ys) ≡ drop k ys
    ranged k = ap (take (length xs + length ys - (length xs + k))) (rest k) ∙ take_all (length xs + length ys - (length xs + k)) (drop k ys) (omega (arith, length-drop k ys))

    operands_are : slice_range (xs ++ ys) s.operands s.end ≡ drop from ys
    operands_are = ap₂ {A = ℕ} {B = ℕ} (λ p q. slice_range (xs ++ ys) p q) b e ∙ ranged from

    start_is : s.start ≡ length xs + 0
    start_is = omega arith

    stack_is : slice_range (xs ++ ys) s.start s.end ≡ ys
    stack_is = ap₂ {A = ℕ} {B = ℕ} (λ p q. slice_range (xs ++ ys) p q) start_is e ∙ ranged 0

    one : Some (listing (slice_range (xs ++ ys) s.operands s.end) (slice_range (xs ++ ys) s.start s.end)) ≡ Some (listing (drop from ys) ys)
    one = ap₂ {A = List Place} {B = List Place} (λ p q. Some (listing p q)) operands_are stack_is

-- ---- look-ups

pub list_at : (places : List Place) (spans : List (Option Extent)) (p : ℕ) (o : Option Extent) → o ≡ extent_or (slice_get spans p)
    → (is_some o ≡ is_live_in (lists_of places spans) p)
list_at places [] p o e = ap is_some e
list_at places (None ∷ spans) zero o e = ap is_some e
list_at places (Some s ∷ spans) zero o e = ap is_some e
list_at places (s ∷ spans) (suc p) o e = list_at places spans p o e

pub at_some : (places : List Place) (spans : List (Option Extent)) (p : ℕ) (s : Extent) → Some s ≡ extent_or (slice_get spans p)
    → (slice_range places s.operands s.end ≡ operands_in (lists_of places spans) p) × (slice_range places s.start s.end ≡ stack_in (lists_of places spans) p)
at_some places [] p s e = absurd cc
at_some places (None ∷ spans) zero s e = absurd cc
at_some places (Some x ∷ spans) zero s e = let same : s ≡ x = cc in (ap (λ (z : Extent). slice_range places z.operands z.end) same, ap (λ (z : Extent). slice_range places z.start z.end) same)
at_some places (x ∷ spans) (suc p) s e = at_some places spans p s e

pub at_none : (places : List Place) (spans : List (Option Extent)) (p : ℕ) → None ≡ extent_or (slice_get spans p)
    → (operands_in (lists_of places spans) p ≡ []) × (stack_in (lists_of places spans) p ≡ [])
at_none places [] p e = (refl, refl)
at_none places (None ∷ spans) zero e = (refl, refl)
at_none places (Some x ∷ spans) zero e = absurd cc
at_none places (x ∷ spans) (suc p) e = at_none places spans p e

-- ---- spans that begin where the one before ends

abbrev extent : ℕ → Span → Extent
extent start s = record { start = start; operands = s.operands; end = s.end }

live_extent : (start : ℕ) (s : Span) → s.operands ≤ s.end → extent_from start s ≡ Some (extent start s)
live_extent start s le = ap (λ (b : Bool). if b then None else Some (extent start s)) (le-ltb s.end s.operands le)

dead_extent : (start : ℕ) (s : Span) → s.end < s.operands → extent_from start s ≡ None
dead_extent start s lt = ap (λ (b : Bool). if b then None else Some (extent start s)) (lt-ltb s.end s.operands lt)

pub length-extents : (start : ℕ) (spans : List Span) → length (extents start spans) ≡ length spans
length-extents start [] = refl
length-extents start (s ∷ spans) = ap suc (length-extents s.end spans)

extents_push : (start : ℕ) (spans : List Span) (s : Span) → extents start (spans ++ s ∷ []) ≡ extents start spans ++ extent_from (last_end start spans) s ∷ []
extents_push start [] s = refl
extents_push start (x ∷ spans) s = ap (λ z. extent_from start x ∷ z) (extents_push x.end spans s)

last_push : (start : ℕ) (spans : List Span) (s : Span) → last_end start (spans ++ s ∷ []) ≡ s.end
last_push start [] s = refl
last_push start (x ∷ spans) s = last_push x.end spans s

-- a live position more
extents_live : (spans : List Span) (s : Span) → s.operands ≤ s.end → extents 0 (spans ++ s ∷ []) ≡ extents 0 spans ++ Some (extent (last_end 0 spans) s) ∷ []
extents_live spans s le = extents_push 0 spans s ∙ ap (λ z. extents 0 spans ++ z ∷ []) (live_extent (last_end 0 spans) s le)

pub laid_live : (n m : ℕ) (spans : List Span) (s : Span) → AreLaid n spans → n ≤ s.operands → s.operands ≤ s.end → s.end ≡ m → AreLaid m (spans ++ s ∷ [])
laid_live n m spans s h begin le e =
    let up : n ≤ m = omega arith in
    let first : last_end 0 spans ≤ s.operands = omega (arith, h.1) in (
      subst (AreWithin m) (sym (extents_live spans s le)) (within-push m (extents 0 spans) (Some (extent (last_end 0 spans) s)) (are_within_le n m (extents 0 spans) up h.0) (first, le, omega arith)),
      last_push 0 spans s ∙ e,
    )

pub live_pushed : (xs ys : List Place) (spans : List Span) (from : ℕ) (s : Span) → AreLaid (length xs) spans → s.operands ≡ length xs + from → s.end ≡ length xs + length ys → from ≤ length ys
    → lists_of (xs ++ ys) (extents 0 (spans ++ s ∷ [])) ≡ lists_of xs (extents 0 spans) ++ Some (record { operands = drop from ys; stack = ys }) ∷ []
live_pushed xs ys spans from s h b e le =
    ap (lists_of (xs ++ ys)) (extents_live spans s (omega arith)) ∙ pushed xs ys (extents 0 spans) from (extent (last_end 0 spans) s) h.0 h.1 b e

-- a dead one
extents_dead : (spans : List Span) (s : Span) → s.end < s.operands → extents 0 (spans ++ s ∷ []) ≡ extents 0 spans ++ None ∷ []
extents_dead spans s lt = extents_push 0 spans s ∙ ap (λ z. extents 0 spans ++ z ∷ []) (dead_extent (last_end 0 spans) s lt)

pub laid_dead : (n : ℕ) (spans : List Span) (s : Span) → AreLaid n spans → s.end ≡ n → s.end < s.operands → AreLaid n (spans ++ s ∷ [])
laid_dead n spans s h e lt = (subst (AreWithin n) (sym (extents_dead spans s lt)) (within-push n (extents 0 spans) None h.0 tt), last_push 0 spans s ∙ e)

pub dead_pushed : (places : List Place) (spans : List Span) (s : Span) → s.end < s.operands → lists_of places (extents 0 (spans ++ s ∷ [])) ≡ lists_of places (extents 0 spans) ++ None ∷ []
dead_pushed places spans s lt = ap (lists_of places) (extents_dead spans s lt) ∙ lists-append places (extents 0 spans) (None ∷ [])

-- the extent of a position, by its span and where the one before it ends
pub extent_get : (start : ℕ) (spans : List Span) (p : ℕ) (s : Span) → slice_get spans p ≡ Some s → slice_get (extents start spans) p ≡ Some (extent_from (last_end start (take p spans)) s)
extent_get start [] p s e = absurd cc
extent_get start (x ∷ spans) zero s e = let same : x ≡ s = cc in ap (λ z. Some (extent_from start z)) same
extent_get start (x ∷ spans) (suc p) s e = extent_get x.end spans p s e

pub extent_none : (start : ℕ) (spans : List Span) (p : ℕ) → slice_get spans p ≡ None → slice_get (extents start spans) p ≡ None
extent_none start [] p e = refl
extent_none start (x ∷ spans) zero e = absurd cc
extent_none start (x ∷ spans) (suc p) e = extent_none x.end spans p e

abbrev pub start_from : ℕ → List Span → ℕ → ℕ
start_from start spans p = if p == 0 then start else end_or (slice_get spans (p - 1))

later : (start : ℕ) (spans : List Span) (k : ℕ) → start_from start spans (suc k) ≡ end_or (slice_get spans k)
later start spans k =
    let more : (suc k == 0) ≡ false = grind arith in
    let back : suc k - 1 ≡ k = omega arith in
    ap₂ {A = Bool} {B = ℕ} (λ b n. if b then start else end_or (slice_get spans n)) more back

pub start_is : (start : ℕ) (spans : List Span) (p : ℕ) (s : Span) → slice_get spans p ≡ Some s → start_from start spans p ≡ last_end start (take p spans)
start_is start [] p s e = absurd cc
start_is start (x ∷ spans) zero s e = refl
start_is start (x ∷ spans) (suc zero) s e = later start (x ∷ spans) zero
start_is start (x ∷ spans) (suc (suc k)) s e = later start (x ∷ spans) (suc k) ∙ sym (later x.end spans k) ∙ start_is x.end spans (suc k) s e
