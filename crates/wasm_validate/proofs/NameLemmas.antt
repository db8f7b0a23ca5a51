-- Export names that repeat, by a set of the names so far.
use Rattle.std.proofs.Common.{◌≡◌, ◌≢◌, ℕ, zero, suc, ◌+◌, ◌<◌, ◌⊎◌, inl, inr, Bool, true, false, not, List, [], ◌∷◌, ◌++◌, length, get_or, take, refl, sym, ap, ◌∙◌, arith, Some}
use Rattle.std.specs.Prelude.{map, bytes_eq, if◌then◌else◌, slice_get}
use Rattle.std.specs.List.{list_any}
use Rattle.std.specs.Cmp.Lexicographic.{bytes_decides}
use Rattle.std.proofs.lemmas.List.{take_more, map_push, length-map, length-take-le, get_or-map, get_or-take}
use Rattle.std.proofs.lemmas.Option.{slice_get_within, get_or_from_slice_get, slice_get-get_or}
use Rattle.wasm_types.specs.declared.module.Export.{Export}

abbrev pub name_of : Export → List ℕ
name_of e = e.name.bytes

either : (b : Bool) → (b ≡ true) ⊎ (b ≡ false)
either true = inl refl
either false = inr refl

-- a text that is among the keys, and one that isn't
any_true : {K : Type 0} (items : K → List ℕ) (b : List ℕ) (ks : List K) → list_any (λ k. bytes_eq b (items k)) ks ≡ true
    → (i : ℕ) × (i < length (map items ks)) × (get_or (map items ks) i [] ≡ b)
any_true items b [] h = absurd cc
any_true items b (k ∷ ks) h =
    elim (either (bytes_eq b (items k))) [
      | inl p ↦ (0, omega arith, sym ((bytes_decides b (items k)).0 p))
      | inr p ↦ let r = any_true items b ks (rw p at h) in (suc r.0, omega (arith, r.1), r.2)
    ]

any_false : {K : Type 0} (items : K → List ℕ) (b : List ℕ) (ks : List K) → list_any (λ k. bytes_eq b (items k)) ks ≡ false → (i : ℕ)
    → i < length (map items ks) → get_or (map items ks) i [] ≢ b
any_false items b [] h i lt e = omega arith
any_false items b (k ∷ ks) h zero lt e = elim (either (bytes_eq b (items k))) [ inl p ↦ let g : true ≡ false = rw p at h in cc | inr p ↦ let g : bytes_eq b (items k) ≡ true = (bytes_decides b (items k)).1 (sym e) in cc ]
any_false items b (k ∷ ks) h (suc i) lt e = elim (either (bytes_eq b (items k))) [ inl p ↦ let g : true ≡ false = rw p at h in cc | inr p ↦ any_false items b ks (rw p at h) i (omega arith) e ]

-- ---- the keys are the names below number k

abbrev pub Names : {K : Type 0} → (K → List ℕ) → List K → ℕ → List Export → Type 0
Names items keys k exports = map items keys ≡ take k (map name_of exports)

name_at : (exports : List Export) (k : ℕ) (e : Export) → slice_get exports k ≡ Some e → get_or (map name_of exports) k [] ≡ e.name.bytes
name_at exports k e is = get_or-map name_of exports k e [] (slice_get_within exports k e is) ∙ ap name_of (get_or_from_slice_get exports k e e is)

key_at : {K : Type 0} (items : K → List ℕ) (keys : List K) (exports : List Export) (k j : ℕ) (e : Export) → Names items keys k exports → j < k
    → slice_get exports j ≡ Some e → get_or (map items keys) j [] ≡ e.name.bytes
key_at items keys exports k j e so_far lt is =
    ap (λ (t : List (List ℕ)). get_or t j []) so_far ∙ get_or-take k (map name_of exports) j [] lt ∙ name_at exports j e is

many : {K : Type 0} (items : K → List ℕ) (keys : List K) (exports : List Export) (k : ℕ) → Names items keys k exports → k < length exports
    → length (map items keys) ≡ k
many items keys exports k e lt = ap length e ∙ length-take-le k (map name_of exports) (omega (arith, length-map exports name_of))

pub no_earlier : {K : Type 0} (items : K → List ℕ) (keys : List K) (exports : List Export) (k : ℕ) (e : Export) (b : List ℕ)
    → Names items keys k exports → slice_get exports k ≡ Some e → b ≡ e.name.bytes
    → list_any (λ x. bytes_eq b (items x)) keys ≡ false → (j : ℕ) (other : Export) → j < k → slice_get exports j ≡ Some other → other.name.bytes ≢ e.name.bytes
no_earlier items keys exports k e b so_far is eb none j other lt there same =
    any_false items b keys none j (let here = slice_get_within exports k e is in omega (arith, many items keys exports k so_far here)) (key_at items keys exports k j other so_far lt there ∙ same ∙ sym eb)

pub some_earlier : {K : Type 0} (items : K → List ℕ) (keys : List K) (exports : List Export) (k : ℕ) (e : Export) (b : List ℕ)
    → Names items keys k exports → slice_get exports k ≡ Some e → b ≡ e.name.bytes
    → list_any (λ x. bytes_eq b (items x)) keys ≡ true → ((j : ℕ) (other : Export) → j < k → slice_get exports j ≡ Some other → other.name.bytes ≢ e.name.bytes) → ⊥
some_earlier items keys exports k e b so_far is eb some none =
    let r = any_true items b keys some in
    let here = slice_get_within exports k e is in
    let lt : r.0 < k = omega (arith, r.1, many items keys exports k so_far here) in
    let there = slice_get-get_or exports r.0 e (omega arith) in
    none r.0 (get_or exports r.0 e) lt there (sym (key_at items keys exports k r.0 (get_or exports r.0 e) so_far lt there) ∙ r.2 ∙ eb)

pub one_name_more : {K : Type 0} (items : K → List ℕ) (keys new : List K) (v : K) (exports : List Export) (k : ℕ) (e : Export)
    → Names items keys k exports → slice_get exports k ≡ Some e → items v ≡ e.name.bytes
    → list_any (λ x. bytes_eq (items v) (items x)) keys ≡ false → new ≡ (if list_any (λ x. bytes_eq (items v) (items x)) keys then keys else keys ++ v ∷ []) → Names items new (k + 1) exports
one_name_more items keys new v exports k e so_far is ev none put =
    let added : new ≡ keys ++ v ∷ [] = rw none at put in
    let here = slice_get_within exports k e is in
    let long : k < length (map name_of exports) = omega (arith, length-map exports name_of) in
    ap (map items) added ∙ map_push items keys v ∙ ap (λ (t : List (List ℕ)). t ++ items v ∷ []) so_far ∙ ap (λ (b : List ℕ). take k (map name_of exports) ++ b ∷ []) (ev ∙ sym (name_at exports k e is)) ∙ sym (take_more (map name_of exports) k [] long)

-- ---- what an insertion answers

pub was_absent : (is_new there : Bool) → is_new ≡ not there → is_new ≡ true → there ≡ false
was_absent is_new true h t = cc
was_absent is_new false h t = refl

pub was_there : (is_new there : Bool) → is_new ≡ not there → is_new ≡ false → there ≡ true
was_there is_new true h t = refl
was_there is_new false h t = cc
