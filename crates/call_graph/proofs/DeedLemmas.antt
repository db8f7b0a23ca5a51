-- The lists of deeds hold just what instructions do at live positions.
use Rattle.std.proofs.Common.{◌≡◌, ℕ, ◌+◌, ◌||◌, List, [], ◌∷◌, ◌++◌, Bool, true, false, map, refl, ap, sym, subst, eq-eqb, nat_eq, inl, inr, ⊎_elim}
use Rattle.std.specs.Prelude.{if◌then◌else◌}
use Rattle.std.specs.List.{Contains}
use Rattle.std.proofs.lemmas.Bool.Decides.{Decides-eqb}
use Rattle.std.proofs.lemmas.List.Elements.{Contains-append_left, Contains-append_right, Contains-append_cases}
use Rattle.wasm_types.specs.declared.instr.Instr.{Instr}
use Rattle.wasm_types.specs.declared.instr.Instr as instr
use Rattle.wasm_types.specs.declared.place.Loc.{Loc}
use Rattle.wasm_types.specs.declared.place.Loc.TheVariants.{Local, Global, Mem, Size, Host}
use Rattle.wasm_types.specs.Actions.{Action, GetGlobal, SetGlobal, Read, Write, Pages, Grow, Copy, Fill, Form, NoForm, Plain, CallOf, CallBy, form_of}
use Rattle.wasm_types.specs.Code.{Code, done, one, block, repeat, branch, count}
use Rattle.wasm_types.specs.Locations.{writes_in, is_outer}
use Rattle.wasm_types.specs.Marked.{Marked, plain, marked}
use Rattle.flow_domain.specs.LocRows.{goes_on}
use Rattle.flow_domain.specs.Reach.{LiveIn}
use Rattle.flow_domain.specs.Touch.{touches_in}
use Rattle.call_graph.specs.declared.deeds.Deed.{Deed}
use Rattle.call_graph.specs.declared.deeds.Deed.TheVariants.{Calls, CallsThrough, Touches, Writes}
use Rattle.call_graph.specs.Deeds.{IsDeed}
use Rattle.call_graph.specs.Lists.{touched_in, written_in, deeds_by, deeds_of, live_deeds}
use Rattle.call_graph.proofs.Members.{none_in, in_first, in_later, in_split, in_map, map_in}

-- ---- actions

or_right : (a b : Bool) → b ≡ true → (a || b) ≡ true
or_right true b e = refl
or_right false b e = e

abbrev OutTouched : Action → Loc → Type 0
OutTouched a x = (touches_in a x ≡ true) × (is_outer x ≡ true)

abbrev OutWritten : Action → Loc → Type 0
OutWritten a x = (writes_in a x ≡ true) × (is_outer x ≡ true)

only_in : (P : Loc → Type 0) (y x : Loc) → P y → Contains (y ∷ []) x → P x
only_in P y x p h = ⊎_elim (λ e. subst P e p) (λ k. absurd (none_in x k)) (in_split y x [] h)

pair_in : (P : Loc → Type 0) (y z x : Loc) → P y → P z → Contains (y ∷ z ∷ []) x → P x
pair_in P y z x p q h = ⊎_elim (λ e. subst P e p) (only_in P z x q) (in_split y x (z ∷ []) h)

touched_is : (a : Action) (x : Loc) → Contains (touched_in a) x → OutTouched a x
touched_is (GetGlobal k) x h = only_in (OutTouched (GetGlobal k)) (Global k) x (rw (eq-eqb k k refl) refl, refl) h
touched_is (SetGlobal k) x h = only_in (OutTouched (SetGlobal k)) (Global k) x (rw (eq-eqb k k refl) refl, refl) h
touched_is (Read access signed) x h = pair_in (OutTouched (Read access signed)) Mem Size x (refl, refl) (refl, refl) h
touched_is (Write access) x h = pair_in (OutTouched (Write access)) Mem Size x (refl, refl) (refl, refl) h
touched_is Pages x h = only_in (OutTouched Pages) Size x (refl, refl) h
touched_is Grow x h = only_in (OutTouched Grow) Size x (refl, refl) h
touched_is Copy x h = pair_in (OutTouched Copy) Mem Size x (refl, refl) (refl, refl) h
touched_is Fill x h = pair_in (OutTouched Fill) Mem Size x (refl, refl) (refl, refl) h
touched_is _ x h = absurd (none_in x h)

written_is : (a : Action) (x : Loc) → Contains (written_in a) x → OutWritten a x
written_is (SetGlobal k) x h = only_in (OutWritten (SetGlobal k)) (Global k) x (rw (eq-eqb k k refl) refl, refl) h
written_is (Write access) x h = only_in (OutWritten (Write access)) Mem x (refl, refl) h
written_is Grow x h = only_in (OutWritten Grow) Size x (refl, refl) h
written_is Copy x h = only_in (OutWritten Copy) Mem x (refl, refl) h
written_is Fill x h = only_in (OutWritten Fill) Mem x (refl, refl) h
written_is _ x h = absurd (none_in x h)

test_ends : (b : Bool) → (b || (false || false)) ≡ true → b ≡ true
test_ends true e = refl
test_ends false e = e

touches_global : (a : Action) (j : ℕ) → touches_in a (Global j) ≡ true → Contains (touched_in a) (Global j)
touches_global (GetGlobal k) j t = in_first (Global k) (Global j) [] (ap Global ((Decides-eqb k j).0 (test_ends (nat_eq k j) t)))
touches_global (SetGlobal k) j t = in_first (Global k) (Global j) [] (ap Global ((Decides-eqb k j).0 t))
touches_global _ j t = absurd cc

touches_mem : (a : Action) → touches_in a Mem ≡ true → Contains (touched_in a) Mem
touches_mem (Read access signed) t = in_first Mem Mem (Size ∷ []) refl
touches_mem (Write access) t = in_first Mem Mem (Size ∷ []) refl
touches_mem Copy t = in_first Mem Mem (Size ∷ []) refl
touches_mem Fill t = in_first Mem Mem (Size ∷ []) refl
touches_mem _ t = absurd cc

size_second : Contains (Mem ∷ Size ∷ []) Size
size_second = in_later Mem Size (Size ∷ []) (in_first Size Size [] refl)

touches_size : (a : Action) → touches_in a Size ≡ true → Contains (touched_in a) Size
touches_size (Read access signed) t = size_second
touches_size (Write access) t = size_second
touches_size Pages t = in_first Size Size [] refl
touches_size Grow t = in_first Size Size [] refl
touches_size Copy t = size_second
touches_size Fill t = size_second
touches_size _ t = absurd cc

touches_host : (a : Action) → touches_in a Host ≡ true → Contains (touched_in a) Host
touches_host Pages t = absurd cc
touches_host _ t = absurd cc

is_touched : (a : Action) (x : Loc) → touches_in a x ≡ true → is_outer x ≡ true → Contains (touched_in a) x
is_touched a (Local k) t o = absurd cc
is_touched a (Global k) t o = touches_global a k t
is_touched a Mem t o = touches_mem a t
is_touched a Size t o = touches_size a t
is_touched a Host t o = touches_host a t

writes_global : (a : Action) (j : ℕ) → writes_in a (Global j) ≡ true → Contains (written_in a) (Global j)
writes_global (SetGlobal k) j t = in_first (Global k) (Global j) [] (ap Global ((Decides-eqb k j).0 t))
writes_global _ j t = absurd cc

writes_mem : (a : Action) → writes_in a Mem ≡ true → Contains (written_in a) Mem
writes_mem (Write access) t = in_first Mem Mem [] refl
writes_mem Copy t = in_first Mem Mem [] refl
writes_mem Fill t = in_first Mem Mem [] refl
writes_mem _ t = absurd cc

writes_size : (a : Action) → writes_in a Size ≡ true → Contains (written_in a) Size
writes_size Grow t = in_first Size Size [] refl
writes_size _ t = absurd cc

writes_host : (a : Action) → writes_in a Host ≡ true → Contains (written_in a) Host
writes_host Pages t = absurd cc
writes_host _ t = absurd cc

is_written : (a : Action) (x : Loc) → writes_in a x ≡ true → is_outer x ≡ true → Contains (written_in a) x
is_written a (Local k) t o = absurd cc
is_written a (Global k) t o = writes_global a k t
is_written a Mem t o = writes_mem a t
is_written a Size t o = writes_size a t
is_written a Host t o = writes_host a t

-- ---- forms

in_form : (F : Form) (d : Deed) → IsDeed F d → Contains (deeds_by F) d
in_form (CallOf f) (Calls g) e = in_first (Calls f) (Calls g) [] (ap Calls e)
in_form (CallBy t) (CallsThrough u) e = in_first (CallsThrough t) (CallsThrough u) [] (ap CallsThrough e)
in_form (Plain a) (Touches x) h =
    Contains-append_left (map Touches (touched_in a)) (map Writes (written_in a)) (Touches x) (in_map Touches (touched_in a) x (is_touched a x h.0 h.1))
in_form (Plain a) (Writes x) h =
    Contains-append_right (map Touches (touched_in a)) (map Writes (written_in a)) (Writes x) (in_map Writes (written_in a) x (is_written a x h.0 h.1))
in_form _ _ h = absurd h

form_in : (F : Form) (d : Deed) → Contains (deeds_by F) d → IsDeed F d
form_in NoForm d h = absurd (none_in d h)
form_in (CallOf f) d h = ⊎_elim (λ e. subst (IsDeed (CallOf f)) e refl) (λ k. absurd (none_in d k)) (in_split (Calls f) d [] h)
form_in (CallBy t) d h = ⊎_elim (λ e. subst (IsDeed (CallBy t)) e refl) (λ k. absurd (none_in d k)) (in_split (CallsThrough t) d [] h)
form_in (Plain a) d h = ⊎_elim
    (λ k. let r = map_in Touches (touched_in a) d k in subst (IsDeed (Plain a)) r.1.1 (touched_is a r.0 r.1.0))
    (λ k. let r = map_in Writes (written_in a) d k in subst (IsDeed (Plain a)) r.1.1 (written_is a r.0 r.1.0))
    (Contains-append_cases (map Touches (touched_in a)) (map Writes (written_in a)) d h)

-- ---- code

-- an instruction at a live position does it
abbrev pub Live : Marked → Deed → Type 0
Live c d = (op : Instr) × (LiveIn op c × IsDeed (form_of op) d)

one_in : (m : Bool) (i : Instr) (rest : Marked) (d : Deed) (ds : List Deed) → (Contains ds d → Live rest d)
    → Contains (deeds_of i ++ (if goes_on i then ds else [])) d → Live (plain m i rest) d
one_in m (instr.Br l) rest d ds f h = absurd (none_in d h)
one_in m (instr.BrIf l) rest d ds f h = f h
one_in m (instr.BrTable some l) rest d ds f h = absurd (none_in d h)
one_in m instr.Return rest d ds f h = absurd (none_in d h)
one_in m instr.Unreachable rest d ds f h = absurd (none_in d h)
one_in m i rest d ds f h = ⊎_elim
    (λ k. (i, (inl refl, form_in (form_of i) d k)))
    (λ k. let r = f k in (r.0, (inr r.1.0, r.1.1)))
    (Contains-append_cases (deeds_of i) ds d h)

in_one : (m : Bool) (i : Instr) (rest : Marked) (d : Deed) (ds : List Deed) → (Live rest d → Contains ds d)
    → Live (plain m i rest) d → Contains (deeds_of i ++ (if goes_on i then ds else [])) d
in_one m (instr.Br l) rest d ds f h = absurd h.1.0
in_one m (instr.BrIf l) rest d ds f h = f h
in_one m (instr.BrTable some l) rest d ds f h = absurd h.1.0
in_one m instr.Return rest d ds f h = absurd h.1.0
in_one m instr.Unreachable rest d ds f h = absurd h.1.0
in_one m i rest d ds f h = ⊎_elim
    (λ e. Contains-append_left (deeds_of i) ds d (subst (λ (z : Instr). Contains (deeds_of z) d) (sym e) (in_form (form_of h.0) d h.1.1)))
    (λ k. Contains-append_right (deeds_of i) ds d (f (h.0, (k, h.1.1))))
    h.1.0

pub live_in : (w : ℕ → Bool) (p : ℕ) (c : Code) (d : Deed) → Contains (live_deeds c) d → Live (marked w p c) d
live_in w p done d h = absurd (none_in d h)
live_in w p (one i rest) d h = one_in (w p) i (marked w (p + 1) rest) d (live_deeds rest) (live_in w (p + 1) rest d) h
live_in w p (block k body rest) d h = ⊎_elim
    (λ b. let r = live_in w (p + 1) body d b in (r.0, (inl r.1.0, r.1.1)))
    (λ b. let r = live_in w (p + 1 + count body) rest d b in (r.0, (inr r.1.0, r.1.1)))
    (Contains-append_cases (live_deeds body) (live_deeds rest) d h)
live_in w p (repeat k body rest) d h = ⊎_elim
    (λ b. let r = live_in w (p + 1) body d b in (r.0, (inl r.1.0, r.1.1)))
    (λ b. let r = live_in w (p + 1 + count body) rest d b in (r.0, (inr r.1.0, r.1.1)))
    (Contains-append_cases (live_deeds body) (live_deeds rest) d h)
live_in w p (branch k x y rest) d h = ⊎_elim
    (λ b. let r = live_in w (p + 1) x d b in (r.0, (inl r.1.0, r.1.1)))
    (λ b. ⊎_elim
    (λ b. let r = live_in w (p + 1 + count x) y d b in (r.0, (inr (inl r.1.0), r.1.1)))
    (λ b. let r = live_in w (p + 1 + count x + count y) rest d b in (r.0, (inr (inr r.1.0), r.1.1)))
    (Contains-append_cases (live_deeds y) (live_deeds rest) d b))
    (Contains-append_cases (live_deeds x) (live_deeds y ++ live_deeds rest) d h)

pub in_live : (w : ℕ → Bool) (p : ℕ) (c : Code) (d : Deed) → Live (marked w p c) d → Contains (live_deeds c) d
in_live w p done d h = absurd h.1.0
in_live w p (one i rest) d h = in_one (w p) i (marked w (p + 1) rest) d (live_deeds rest) (in_live w (p + 1) rest d) h
in_live w p (block k body rest) d h = ⊎_elim
    (λ b. Contains-append_left (live_deeds body) (live_deeds rest) d (in_live w (p + 1) body d (h.0, (b, h.1.1))))
    (λ b. Contains-append_right (live_deeds body) (live_deeds rest) d (in_live w (p + 1 + count body) rest d (h.0, (b, h.1.1))))
    h.1.0
in_live w p (repeat k body rest) d h = ⊎_elim
    (λ b. Contains-append_left (live_deeds body) (live_deeds rest) d (in_live w (p + 1) body d (h.0, (b, h.1.1))))
    (λ b. Contains-append_right (live_deeds body) (live_deeds rest) d (in_live w (p + 1 + count body) rest d (h.0, (b, h.1.1))))
    h.1.0
in_live w p (branch k x y rest) d h = ⊎_elim
    (λ b. Contains-append_left (live_deeds x) (live_deeds y ++ live_deeds rest) d (in_live w (p + 1) x d (h.0, (b, h.1.1))))
    (λ b. Contains-append_right (live_deeds x) (live_deeds y ++ live_deeds rest) d (⊎_elim
    (λ b. Contains-append_left (live_deeds y) (live_deeds rest) d (in_live w (p + 1 + count x) y d (h.0, (b, h.1.1))))
    (λ b. Contains-append_right (live_deeds y) (live_deeds rest) d (in_live w (p + 1 + count x + count y) rest d (h.0, (b, h.1.1))))
    b))
    h.1.0
