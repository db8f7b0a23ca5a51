-- What imported functions do, by what the host sees.
use Rattle.std.proofs.Common.{◌≡◌, ◌↔◌, ℕ, zero, suc, ◌+◌, ◌<◌, ◌≤◌, ◌||◌, List, [], ◌∷◌, ◌++◌, Bool, true, false, Option, Some, None, length, refl, ap, sym, ◌∙◌, subst, arith, inl, inr, ◌⊎◌, ⊎_elim, add-zero}
use Rattle.std.specs.Prelude.{slice_get, nat_lt, if◌then◌else◌}
use Rattle.std.specs.List.{Contains}
use Rattle.std.proofs.lemmas.Bool.{cases_lt}
use Rattle.std.proofs.lemmas.Option.{slice_get_within}
use Rattle.std.proofs.lemmas.List.Elements.{Contains-append_left, Contains-append_right, Contains-append_cases}
use Rattle.wasm_types.specs.declared.module.ValType.{ValType}
use Rattle.wasm_types.specs.declared.module.FuncType.{FuncType}
use Rattle.wasm_types.specs.declared.module.GlobalType.{GlobalType}
use Rattle.wasm_types.specs.declared.module.Module.{Module}
use Rattle.wasm_types.specs.declared.place.Loc.TheVariants.{Local, Global, Mem, Size, Host}
use Rattle.wasm_types.specs.Hosts.{HostFunc, host_from, host_of, is_seen, seen_from, global_visible, memory_visible}
use Rattle.wasm_types.specs.Spaces.{globals_of, import_count, type_of_func}
use Rattle.call_graph.specs.declared.deeds.Deed.{Deed}
use Rattle.call_graph.specs.declared.deeds.Deed.TheVariants.{Calls, CallsThrough, Touches, Writes}
use Rattle.call_graph.specs.Deeds.{HostDoes}
use Rattle.call_graph.specs.Hosts.{MemoryDeed, GlobalDeed, SeenDeed, AreHostDeeds}
use Rattle.call_graph.proofs.Members.{none_in, in_first, in_later, in_split}

-- ---- the globals that are seen

seen_at : (m : Module) (k : ℕ) (gs : List GlobalType) (j : ℕ) (g : GlobalType) → slice_get gs j ≡ Some g
    → slice_get (seen_from m k gs) j ≡ Some (if global_visible m (k + j) g then Some g.kind else None)
seen_at m k [] j g e = absurd cc
seen_at m k (x ∷ xs) zero g e = let same : x ≡ g = cc in rw (same, add-zero k) refl
seen_at m k (x ∷ xs) (suc j) g e = let at : k + 1 + j ≡ k + suc j = omega arith in
    subst (λ (n : ℕ). slice_get (seen_from m (k + 1) xs) j ≡ Some (if global_visible m n g then Some g.kind else None)) at (seen_at m (k + 1) xs j g e)

seen_there : (m : Module) (k : ℕ) (gs : List GlobalType) (j : ℕ) → is_seen (slice_get (seen_from m k gs) j) ≡ true → (g : GlobalType) × (slice_get gs j ≡ Some g)
seen_there m k [] j e = absurd cc
seen_there m k (x ∷ xs) zero e = (x, refl)
seen_there m k (x ∷ xs) (suc j) e = seen_there m (k + 1) xs j e

seen_if : (b : Bool) (t : ValType) → is_seen (Some (if b then Some t else None)) ≡ b
seen_if true t = refl
seen_if false t = refl

abbrev IsSeen : Module → ℕ → Type 0
IsSeen m j = (g : GlobalType) × ((slice_get (globals_of m) j ≡ Some g) × (global_visible m j g ≡ true))

seen_is : (m : Module) (j : ℕ) → is_seen (slice_get (seen_from m 0 (globals_of m)) j) ≡ true → IsSeen m j
seen_is m j e =
    let g = seen_there m 0 (globals_of m) j e in
    let at = seen_at m 0 (globals_of m) j g.0 g.1 in
    let zero : 0 + j ≡ j = omega arith in
    (g.0, (g.1, subst (λ (n : ℕ). global_visible m n g.0 ≡ true) zero (sym (seen_if (global_visible m (0 + j) g.0) g.0.kind) ∙ (sym (ap is_seen at) ∙ e))))

is_seen_by : (m : Module) (j : ℕ) → IsSeen m j → is_seen (slice_get (seen_from m 0 (globals_of m)) j) ≡ true
is_seen_by m j (g, (is, v)) =
    let at = seen_at m 0 (globals_of m) j g is in
    let zero : j ≡ 0 + j = omega arith in
    ap is_seen at ∙ (seen_if (global_visible m (0 + j) g) g.kind ∙ subst (λ (n : ℕ). global_visible m n g ≡ true) zero v)

-- ---- imported functions

record IsHost (m : Module) (H : HostFunc) : Type 0 where
  pub globals : H.globals ≡ seen_from m 0 (globals_of m)
  pub memory : H.memory ≡ memory_visible m

is_host : (m : Module) (f : ℕ) (H : HostFunc) → host_of m f ≡ Some H → IsHost m H
is_host m f H e = by (nat_lt f (import_count m)) (type_of_func m f) e
  where
    by : (b : Bool) (o : Option FuncType) → (if b then host_from m f o else None) ≡ Some H → IsHost m H
    by false o e = absurd cc
    by true None e = absurd cc
    by true (Some t) e = let same : record { import = f; kind = t; globals = seen_from m 0 (globals_of m); memory = memory_visible m } ≡ H = cc in
        subst (IsHost m) same (record { globals = refl; memory = refl })

twice : (b : Bool) → (b || b) ≡ true → b ≡ true
twice true e = refl
twice false e = e

again : (b : Bool) → b ≡ true → (b || b) ≡ true
again true e = refl
again false e = e

ends : (b : Bool) → (b || false) ≡ true → b ≡ true
ends true e = refl
ends false e = e

more : (b : Bool) → b ≡ true → (b || false) ≡ true
more true e = refl
more false e = e

-- of the host itself, the memory and globals
abbrev pub AnyDeed : Module → Deed → Type 0
AnyDeed m d = (Contains (Touches Host ∷ Writes Host ∷ []) d ⊎ MemoryDeed m d) ⊎ SeenDeed m d

module _ (m : Module) (H : HostFunc) (h : IsHost m H) where
  seen_global : (k : ℕ) → is_seen (slice_get H.globals k) ≡ true → IsSeen m k
  seen_global k e = seen_is m k (rw h.globals at e)

  global_seen : (k : ℕ) → IsSeen m k → is_seen (slice_get H.globals k) ≡ true
  global_seen k s = rw h.globals (is_seen_by m k s)

  does_any : (d : Deed) → HostDoes H d → AnyDeed m d
  does_any (Calls g) e = absurd e
  does_any (CallsThrough t) e = absurd e
  does_any (Touches (Local k)) e = absurd cc
  does_any (Touches (Global k)) e =
      let s = seen_global k (twice (is_seen (slice_get H.globals k)) e) in inr (k, (s.0, (s.1.0, (s.1.1, refl))))
  does_any (Touches Mem) e = inl (inr (sym h.memory ∙ twice H.memory e))
  does_any (Touches Size) e = inl (inr (sym h.memory ∙ ends H.memory e))
  does_any (Touches Host) e = inl (inl (in_first (Touches Host) (Touches Host) (Writes Host ∷ []) refl))
  does_any (Writes (Local k)) e = absurd cc
  does_any (Writes (Global k)) e = let s = seen_global k e in inr (k, (s.0, (s.1.0, (s.1.1, refl))))
  does_any (Writes Mem) e = inl (inr (sym h.memory ∙ e))
  does_any (Writes Size) e = absurd cc
  does_any (Writes Host) e = inl (inl (in_later (Touches Host) (Writes Host) (Writes Host ∷ []) (in_first (Writes Host) (Writes Host) [] refl)))

  host_does : (d : Deed) → Contains (Touches Host ∷ Writes Host ∷ []) d → HostDoes H d
  host_does d k = ⊎_elim
      (λ e. subst (HostDoes H) e refl)
      (λ r. ⊎_elim (λ e. subst (HostDoes H) e refl) (λ n. absurd (none_in d n)) (in_split (Writes Host) d [] r))
      (in_split (Touches Host) d (Writes Host ∷ []) k)

  memory_does : (d : Deed) → MemoryDeed m d → HostDoes H d
  memory_does (Touches Mem) e = again H.memory (h.memory ∙ e)
  memory_does (Touches Size) e = more H.memory (h.memory ∙ e)
  memory_does (Writes Mem) e = h.memory ∙ e
  memory_does _ e = absurd e

  seen_does : (k : ℕ) (g : GlobalType) (d : Deed) → slice_get (globals_of m) k ≡ Some g → GlobalDeed (global_visible m k g) k d → HostDoes H d
  seen_does k g (Touches (Global j)) is (v, e) =
      rw e (again (is_seen (slice_get H.globals k)) (global_seen k (g, (is, v))))
  seen_does k g (Writes (Global j)) is (v, e) = rw e (global_seen k (g, (is, v)))
  seen_does k g _ is e = absurd e

  any_does : (d : Deed) → AnyDeed m d → HostDoes H d
  any_does d (inl (inl k)) = host_does d k
  any_does d (inl (inr e)) = memory_does d e
  any_does d (inr (k, (g, (is, e)))) = seen_does k g d is e

pub host_deeds_are : (m : Module) (deeds : List Deed) → ((d : Deed) → Contains deeds d ↔ AnyDeed m d) → AreHostDeeds m deeds
host_deeds_are m deeds same f H is d =
    let h = is_host m f H is in (λ k. any_does m H h d ((same d).0 k), λ e. (same d).1 (does_any m H h d e))

-- ---- one step after another

pair_is : (a b d : Deed) (P : Deed → Type 0) → P a → P b → Contains (a ∷ b ∷ []) d → P d
pair_is a b d P p q h = ⊎_elim
    (λ e. subst P e p)
    (λ r. ⊎_elim (λ e. subst P e q) (λ n. absurd (none_in d n)) (in_split b d [] r))
    (in_split a d (b ∷ []) h)

global_in : (seen : Bool) (k : ℕ) (d : Deed) → GlobalDeed seen k d → Contains (Touches (Global k) ∷ Writes (Global k) ∷ []) d
global_in seen k (Touches (Global j)) h =
    in_first (Touches (Global k)) (Touches (Global j)) (Writes (Global k) ∷ []) (ap (λ (z : ℕ). Touches (Global z)) (sym h.1))
global_in seen k (Writes (Global j)) h =
    in_later (Touches (Global k)) (Writes (Global j)) (Writes (Global k) ∷ [])
    (in_first (Writes (Global k)) (Writes (Global j)) [] (ap (λ (z : ℕ). Writes (Global z)) (sym h.1)))
global_in seen k _ h = absurd h

pub global_more : (seen : Bool) (k : ℕ) (old new : List Deed) → seen ≡ true → new ≡ old ++ Touches (Global k) ∷ Writes (Global k) ∷ []
    → (d : Deed) → Contains new d ↔ (Contains old d ⊎ GlobalDeed seen k d)
global_more seen k old new on made d =
    let two : List Deed = Touches (Global k) ∷ Writes (Global k) ∷ [] in (
      λ h. ⊎_elim
          inl
          (λ c. inr (pair_is (Touches (Global k)) (Writes (Global k)) d (GlobalDeed seen k) (on, refl) (on, refl) c))
          (Contains-append_cases old two d (rw made at h)),
      λ h. rw made (⊎_elim (λ c. Contains-append_left old two d c) (λ g. Contains-append_right old two d (global_in seen k d g)) h),
    )

no_global : (k : ℕ) (d : Deed) → GlobalDeed false k d → ⊥
no_global k (Touches (Global j)) h = let e = h.0 in absurd cc
no_global k (Writes (Global j)) h = let e = h.0 in absurd cc
no_global k _ h = absurd h

pub global_skip : (seen : Bool) (k : ℕ) (old : List Deed) → seen ≡ false → (d : Deed) → Contains old d ↔ (Contains old d ⊎ GlobalDeed seen k d)
global_skip seen k old off d = (λ h. inl h, λ h. ⊎_elim (λ c. c) (λ g. absurd (no_global k d (rw off at g))) h)

memory_in : (m : Module) (d : Deed) → MemoryDeed m d → Contains (Touches Mem ∷ Touches Size ∷ Writes Mem ∷ []) d
memory_in m (Touches Mem) h = in_first (Touches Mem) (Touches Mem) (Touches Size ∷ Writes Mem ∷ []) refl
memory_in m (Touches Size) h =
    in_later (Touches Mem) (Touches Size) (Touches Size ∷ Writes Mem ∷ []) (in_first (Touches Size) (Touches Size) (Writes Mem ∷ []) refl)
memory_in m (Writes Mem) h =
    in_later (Touches Mem) (Writes Mem) (Touches Size ∷ Writes Mem ∷ [])
    (in_later (Touches Size) (Writes Mem) (Writes Mem ∷ []) (in_first (Writes Mem) (Writes Mem) [] refl))
memory_in m _ h = absurd h

pub memory_more : (m : Module) (old new : List Deed) → memory_visible m ≡ true → new ≡ old ++ Touches Mem ∷ Touches Size ∷ Writes Mem ∷ []
    → (d : Deed) → Contains new d ↔ (Contains old d ⊎ MemoryDeed m d)
memory_more m old new on made d =
    let three : List Deed = Touches Mem ∷ Touches Size ∷ Writes Mem ∷ [] in (
      λ h. ⊎_elim
          inl
          (λ c. inr (⊎_elim
          (λ e. subst (MemoryDeed m) e on)
          (λ r. pair_is (Touches Size) (Writes Mem) d (MemoryDeed m) on on r)
          (in_split (Touches Mem) d (Touches Size ∷ Writes Mem ∷ []) c)))
          (Contains-append_cases old three d (rw made at h)),
      λ h. rw made (⊎_elim (λ c. Contains-append_left old three d c) (λ g. Contains-append_right old three d (memory_in m d g)) h),
    )

memory_on : (m : Module) (d : Deed) → MemoryDeed m d → memory_visible m ≡ true
memory_on m (Touches Mem) h = h
memory_on m (Touches Size) h = h
memory_on m (Writes Mem) h = h
memory_on m _ h = absurd h

pub memory_skip : (m : Module) (old : List Deed) → memory_visible m ≡ false → (d : Deed) → Contains old d ↔ (Contains old d ⊎ MemoryDeed m d)
memory_skip m old off d = (λ h. inl h, λ h. ⊎_elim (λ c. c) (λ g. let on = memory_on m d g in absurd cc) h)

-- a global with a number below i that the host sees
abbrev pub SeenBelow : Module → ℕ → Deed → Type 0
SeenBelow m i d = (k : ℕ) × ((g : GlobalType) × ((k < i) × ((slice_get (globals_of m) k ≡ Some g) × GlobalDeed (global_visible m k g) k d)))

pub globals_none : (m : Module) (first : List Deed) (d : Deed) → Contains first d ↔ (Contains first d ⊎ SeenBelow m 0 d)
globals_none m first d = (λ h. inl h, λ h. ⊎_elim (λ c. c) (λ s. let lt = s.1.1.0 in absurd (omega arith)) h)

pub globals_more : (m : Module) (first old new : List Deed) (i : ℕ) (g : GlobalType) → slice_get (globals_of m) i ≡ Some g
    → ((d : Deed) → Contains old d ↔ (Contains first d ⊎ SeenBelow m i d))
    → ((d : Deed) → Contains new d ↔ (Contains old d ⊎ GlobalDeed (global_visible m i g) i d))
    → (d : Deed) → Contains new d ↔ (Contains first d ⊎ SeenBelow m (i + 1) d)
globals_more m first old new i g at so_far one d = (
  λ h. ⊎_elim
      (λ c. ⊎_elim inl (λ s. let lt = s.1.1.0 in inr (s.0, (s.1.0, (omega arith, s.1.1.1)))) ((so_far d).0 c))
      (λ e. inr (i, (g, (omega arith, (at, e)))))
      ((one d).0 h),
  λ h. (one d).1 (⊎_elim
      (λ c. inl ((so_far d).1 (inl c)))
      (λ (k, (x, (lt, (is, e)))). ⊎_elim
      (λ l. inl ((so_far d).1 (inr (k, (x, (l, (is, e)))))))
      (λ le.
      let s : k ≡ i = omega arith in
      let both : Some x ≡ Some g = sym is ∙ (ap (slice_get (globals_of m)) s ∙ at) in
      let same : x ≡ g = cc in
      inr (subst (λ (z : ℕ). GlobalDeed (global_visible m z g) z d) s (subst (λ (z : GlobalType). GlobalDeed (global_visible m k z) k d) same e)))
      (cases_lt k i))
      h),
)

pub globals_all : (m : Module) (first all : List Deed) (n : ℕ) → length (globals_of m) ≤ n → ((d : Deed) → Contains all d ↔ (Contains first d ⊎ SeenBelow m n d))
    → (d : Deed) → Contains all d ↔ (Contains first d ⊎ SeenDeed m d)
globals_all m first all n le exact d = (
  λ h. ⊎_elim inl (λ s. inr (s.0, (s.1.0, s.1.1.1))) ((exact d).0 h),
  λ h. (exact d).1 (⊎_elim
      inl
      (λ (k, (g, (is, e))). let lt = slice_get_within (globals_of m) k g is in inr (k, (g, (omega arith, (is, e)))))
      h),
)

pub host_deeds_made : (m : Module) (start memory all : List Deed) → start ≡ Touches Host ∷ Writes Host ∷ []
    → ((d : Deed) → Contains memory d ↔ (Contains start d ⊎ MemoryDeed m d)) → ((d : Deed) → Contains all d ↔ (Contains memory d ⊎ SeenDeed m d))
    → AreHostDeeds m all
host_deeds_made m start memory all is one two = host_deeds_are m all (λ d. (
  λ h. ⊎_elim (λ c. inl (⊎_elim (λ s. inl (rw is at s)) inr ((one d).0 c))) inr ((two d).0 h),
  λ h. (two d).1 (⊎_elim (λ c. inl ((one d).1 (⊎_elim (λ s. inl (rw is s)) inr c))) inr h),
))
