-- Places of positions as ranges of one list, of which each begins where the one before it ends.
use Rattle.std.specs.Prelude.{◌≡◌, ℕ, ◌-◌, ◌≤◌, ◌==◌, if◌then◌else◌, nat_lt, List, [], ◌∷◌, Option, Some, None, slice_get, slice_range}
use Rattle.stack_names.specs.declared.place.Place.{Place}
use Rattle.stack_names.specs.declared.lists.Span.{Span}
use Rattle.stack_names.specs.declared.lists.Extent.{Extent}
use Rattle.stack_names.specs.Listed.{Listed}

-- ---- extents

abbrev pub list_of_span : List Place → Option Extent → Option Listed
list_of_span places None = None
list_of_span places (Some r) = Some (record { operands = slice_range places r.operands r.end; stack = slice_range places r.start r.end })

abbrev pub lists_of : List Place → List (Option Extent) → List (Option Listed)
lists_of places [] = []
lists_of places (r ∷ rs) = list_of_span places r ∷ lists_of places rs

-- an extent lies within the first so many
abbrev pub IsWithin : ℕ → Option Extent → Type 0
IsWithin n None = Unit {0}
IsWithin n (Some r) = (r.start ≤ r.operands) × (r.operands ≤ r.end) × (r.end ≤ n)

abbrev pub AreWithin : ℕ → List (Option Extent) → Type 0
AreWithin n [] = Unit {0}
AreWithin n (r ∷ rs) = IsWithin n r × AreWithin n rs

-- what a look-up finds: none where there is no position, or a dead one
abbrev pub extent_or : Option (Option Extent) → Option Extent
extent_or None = None
extent_or (Some r) = r

-- ---- spans

-- the extent that begins there and ends with a span: none of a dead position
abbrev pub extent_from : ℕ → Span → Option Extent
extent_from start s = if nat_lt s.end s.operands then None else Some (record { start = start; operands = s.operands; end = s.end })

-- the first one begins at `start`
abbrev pub extents : ℕ → List Span → List (Option Extent)
extents start [] = []
extents start (s ∷ spans) = extent_from start s ∷ extents s.end spans

abbrev pub last_end : ℕ → List Span → ℕ
last_end start [] = start
last_end start (s ∷ spans) = last_end s.end spans

-- where the span before a position ends
abbrev pub end_or : Option Span → ℕ
end_or None = 0
end_or (Some s) = s.end

abbrev pub start_in : List Span → ℕ → ℕ
start_in spans p = if p == 0 then 0 else end_or (slice_get spans (p - 1))

-- the spans are those of n places, and the last one ends behind all of these
abbrev pub AreLaid : ℕ → List Span → Type 0
AreLaid n spans = AreWithin n (extents 0 spans) × (last_end 0 spans ≡ n)
