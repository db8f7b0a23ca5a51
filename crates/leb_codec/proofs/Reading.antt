-- What stands at a place, by the byte there.
use Rattle.std.proofs.Common.{◌≡◌, ℕ, ◌+◌, ◌*◌, ◌/◌, ◌<◌, ◌≤◌, List, [], ◌∷◌, ◌++◌, length, get_or, drop, refl, sym, ap, ◌∙◌, arith, length-drop, subst, inl, inr}
use Rattle.wasm_types.specs.Numbers.{SpellsUnsigned, SpellsSigned}
use Rattle.wasm_types.specs.Standing.{Stands, NoneStands}
use Rattle.text_laws.proofs.StandingLemmas.{next}

pub none_past : (limit : ℕ) (bytes : List ℕ) (at : ℕ) → length bytes ≤ at → NoneStands (SpellsUnsigned limit) bytes at
none_past limit bytes at past [] rest v here spelled = spelled
none_past limit bytes at past (b ∷ bs) rest v here spelled = absurd (omega (arith, ap length here, length-drop at bytes))

pub last_stands : (limit : ℕ) (bytes : List ℕ) (at b : ℕ) → at < length bytes → b ≡ get_or bytes at 0 → b < 128 → b < limit → Stands (SpellsUnsigned limit) bytes at (at + 1) b
last_stands limit bytes at b lt is small below = record { text = b ∷ []; spelled = (small, below, refl); here = rw is (next bytes at lt); within = omega arith }

goes_on : (limit b n high : ℕ) (text : List ℕ) → 128 ≤ b → b < 256 → 128 < limit → n + 128 ≡ b + 128 * high → SpellsUnsigned (limit / 128) text high → SpellsUnsigned limit (b ∷ text) n
goes_on limit b n high [] le lt room is rest = absurd rest
goes_on limit b n high (c ∷ cs) le lt room is rest = (le, lt, room, high, is, rest)

pub more_stands : (limit : ℕ) (bytes : List ℕ) (at end b n high : ℕ) → at < length bytes → b ≡ get_or bytes at 0 → 128 ≤ b → b < 256 → 128 < limit → n + 128 ≡ b + 128 * high
    → Stands (SpellsUnsigned (limit / 128)) bytes (at + 1) end high → Stands (SpellsUnsigned limit) bytes at end n
more_stands limit bytes at end b n high lt b-is le below room is rest = record {
  text = b ∷ rest.text;
  spelled = goes_on limit b n high rest.text le below room is rest.spelled;
  here = rw b-is (next bytes at lt ∙ ap (λ (l : List ℕ). get_or bytes at 0 ∷ l) rest.here);
  within = rest.within;
}

pub none_more : (limit : ℕ) (bytes : List ℕ) (at b : ℕ) → at < length bytes → b ≡ get_or bytes at 0 → 128 ≤ b
    → NoneStands (SpellsUnsigned (limit / 128)) bytes (at + 1) → NoneStands (SpellsUnsigned limit) bytes at
none_more limit bytes at b lt b-is le none [] rest v here spelled = spelled
none_more limit bytes at b lt b-is le none (x ∷ []) rest v here spelled =
    let e : get_or bytes at 0 ∷ drop (at + 1) bytes ≡ x ∷ rest = sym (next bytes at lt) ∙ here in
    let h : get_or bytes at 0 ≡ x = cc in absurd (omega (arith, h, spelled.0))
none_more limit bytes at b lt b-is le none (x ∷ c ∷ cs) rest v here spelled =
    let e : get_or bytes at 0 ∷ drop (at + 1) bytes ≡ x ∷ (c ∷ cs ++ rest) = sym (next bytes at lt) ∙ here in
    none (c ∷ cs) rest spelled.3 (cc) spelled.5

-- ---- signed numbers

pub none_past_signed : (half : ℕ) (bytes : List ℕ) (at : ℕ) → length bytes ≤ at → NoneStands (SpellsSigned half) bytes at
none_past_signed half bytes at past [] rest v here spelled = spelled
none_past_signed half bytes at past (b ∷ bs) rest v here spelled = absurd (omega (arith, ap length here, length-drop at bytes))

pub last_stands_signed : (half : ℕ) (bytes : List ℕ) (at b n : ℕ) → at < length bytes → b ≡ get_or bytes at 0 → SpellsSigned half (b ∷ []) n → Stands (SpellsSigned half) bytes at (at + 1) n
last_stands_signed half bytes at b n lt is spelled = record { text = b ∷ []; spelled = spelled; here = rw is (next bytes at lt); within = omega arith }

-- a last byte of no number
pub none_last_signed : (half : ℕ) (bytes : List ℕ) (at b : ℕ) → at < length bytes → b ≡ get_or bytes at 0 → b < 128 → ((n : ℕ) → SpellsSigned half (b ∷ []) n → ⊥) → NoneStands (SpellsSigned half) bytes at
none_last_signed half bytes at b lt b-is small none [] rest v here spelled = spelled
none_last_signed half bytes at b lt b-is small none (x ∷ []) rest v here spelled =
    let e : get_or bytes at 0 ∷ drop (at + 1) bytes ≡ x ∷ rest = sym (next bytes at lt) ∙ here in
    let h : x ≡ b = cc in none v (subst (λ (y : ℕ). SpellsSigned half (y ∷ []) v) h spelled)
none_last_signed half bytes at b lt b-is small none (x ∷ c ∷ cs) rest v here spelled =
    let e : get_or bytes at 0 ∷ drop (at + 1) bytes ≡ x ∷ (c ∷ cs ++ rest) = sym (next bytes at lt) ∙ here in
    let h : x ≡ b = cc in absurd (omega (arith, h, spelled.0))

goes_on_signed : (half b n high : ℕ) (text : List ℕ) → 128 ≤ b → b < 256 → 64 < half → n + 128 ≡ b + 128 * high → SpellsSigned (half / 128) text high → SpellsSigned half (b ∷ text) n
goes_on_signed half b n high [] le lt room is rest = absurd rest
goes_on_signed half b n high (c ∷ cs) le lt room is rest = (le, lt, room, high, is, rest)

pub more_stands_signed : (half : ℕ) (bytes : List ℕ) (at end b n high : ℕ) → at < length bytes → b ≡ get_or bytes at 0 → 128 ≤ b → b < 256 → 64 < half → n + 128 ≡ b + 128 * high
    → Stands (SpellsSigned (half / 128)) bytes (at + 1) end high → Stands (SpellsSigned half) bytes at end n
more_stands_signed half bytes at end b n high lt b-is le below room is rest = record {
  text = b ∷ rest.text;
  spelled = goes_on_signed half b n high rest.text le below room is rest.spelled;
  here = rw b-is (next bytes at lt ∙ ap (λ (l : List ℕ). get_or bytes at 0 ∷ l) rest.here);
  within = rest.within;
}

pub none_more_signed : (half : ℕ) (bytes : List ℕ) (at b : ℕ) → at < length bytes → b ≡ get_or bytes at 0 → 128 ≤ b
    → NoneStands (SpellsSigned (half / 128)) bytes (at + 1) → NoneStands (SpellsSigned half) bytes at
none_more_signed half bytes at b lt b-is le none [] rest v here spelled = spelled
none_more_signed half bytes at b lt b-is le none (x ∷ []) rest v here spelled =
    let e : get_or bytes at 0 ∷ drop (at + 1) bytes ≡ x ∷ rest = sym (next bytes at lt) ∙ here in
    let h : x ≡ b = cc in elim spelled [ inl s ↦ omega (arith, h, s.0) | inr s ↦ omega (arith, h, s.1) ]
none_more_signed half bytes at b lt b-is le none (x ∷ c ∷ cs) rest v here spelled =
    let e : get_or bytes at 0 ∷ drop (at + 1) bytes ≡ x ∷ (c ∷ cs ++ rest) = sym (next bytes at lt) ∙ here in
    none (c ∷ cs) rest spelled.3 (cc) spelled.5
