-- Writing a number byte by byte.
use Rattle.std.proofs.Common.{inl, inr, ◌≡◌, ℕ, zero, suc, ◌+◌, ◌-◌, ◌/◌, ◌%◌, ◌<◌, ◌≤◌, false, IsTrue, List, [], ◌∷◌, ◌++◌, length, take, set, refl, sym, ap, ◌∙◌, append_assoc, arith, ◌*◌, subst, min}
use Rattle.std.proofs.lemmas.Bool.{cases_lt, lt-ltb, le-ltb, false≢true}
use Rattle.std.proofs.lemmas.List.{take_more_set}
use Rattle.wasm_types.specs.Numbers.{shortest_unsigned, shortest_signed, half_of, SpellsSigned}
use Rattle.text_laws.proofs.NumberLemmas.{last_byte, one_byte, half_of-some}

-- what the rest stays below after so many bytes
abbrev pub room : ℕ → ℕ
room zero = 4294967296
room (suc zero) = 33554432
room (suc (suc zero)) = 262144
room (suc (suc (suc zero))) = 2048
room (suc (suc (suc (suc zero)))) = 16
room _ = 0

pub room_after : (len rest : ℕ) → len ≤ 4 → rest < room len → 128 ≤ rest → (len + 1 ≤ 4) × (rest / 128 < room (len + 1))
room_after zero rest few fits big = (omega arith, omega arith)
room_after (suc zero) rest few fits big = (omega arith, omega arith)
room_after (suc (suc zero)) rest few fits big = (omega arith, omega arith)
room_after (suc (suc (suc zero))) rest few fits big = (omega arith, omega arith)
room_after (suc (suc (suc (suc zero)))) rest few fits big = absurd (omega arith)
room_after (suc (suc (suc (suc (suc n))))) rest few fits big = absurd (omega arith)

pub byte_put : (buf all : List ℕ) (len n : ℕ) → len < 5 → length buf ≡ 5 → len + 1 ≤ 4 → 128 ≤ n → take len buf ++ shortest_unsigned (4 - len) n ≡ all
    → take (len + 1) (set buf len (n % 128 + 128)) ++ shortest_unsigned (4 - (len + 1)) (n / 128) ≡ all
byte_put buf all len n lt size few le so_far =
    let step : shortest_unsigned (4 - len) n ≡ (n % 128 + 128) ∷ shortest_unsigned (4 - (len + 1)) (n / 128) = one_byte (4 - len) n (omega arith) le ∙ ap (λ (m : ℕ). (n % 128 + 128) ∷ shortest_unsigned m (n / 128)) (omega arith) in
    rw (take_more_set buf len (n % 128 + 128) (omega arith), append_assoc) (ap (λ (l : List ℕ). take len buf ++ l) (sym step) ∙ so_far)

pub last_put : (buf all : List ℕ) (len n : ℕ) → len < 5 → length buf ≡ 5 → n < 128 → take len buf ++ shortest_unsigned (4 - len) n ≡ all → take (len + 1) (set buf len n) ≡ all
last_put buf all len n lt size small so_far = take_more_set buf len n (omega arith) ∙ ap (λ (l : List ℕ). take len buf ++ l) (sym (last_byte (4 - len) n small)) ∙ so_far

pub signed_goes : (base more half v : ℕ) → 0 < base → base ≤ 64 → half ≡ half_of base more → min half 64 ≤ v → v + 64 < 2 * half → (0 < more) × (half / 128 ≡ half_of base (more - 1)) × (v / 128 < 2 * (half / 128)) × (128 ≤ half)
signed_goes base zero half v some few is big goes = absurd (omega arith)
signed_goes base (suc more) half v some few is big goes =
    let h : base ≤ half_of base more = half_of-some base more some in
    let e : half_of base (suc more - 1) ≡ half_of base more = ap (half_of base) (omega arith) in
    (omega arith, omega (arith, e), omega arith, omega arith)

pub signed_small : (more half n : ℕ) → n < min half 64 → shortest_signed more half n ≡ n ∷ []
unfolding shortest_signed
signed_small zero half n lt = let h : n < min 64 half = omega arith in rw (lt-ltb n (min 64 half) h) refl
signed_small (suc more) half n lt = let h : n < min 64 half = omega arith in rw (lt-ltb n (min 64 half) h) refl

pub signed_last : (more half n : ℕ) → min half 64 ≤ n → 2 * half ≤ n + 64 → shortest_signed more half n ≡ (n + 128 - 2 * half) ∷ []
unfolding shortest_signed
signed_last zero half n big ends = let h : min 64 half ≤ n = omega arith in rw (le-ltb n (min 64 half) h) refl
signed_last (suc more) half n big ends = let h : min 64 half ≤ n = omega arith in rw (le-ltb n (min 64 half) h, le-ltb (n + 64) (2 * half) ends) refl

pub signed_on : (more half n : ℕ) → min half 64 ≤ n → n + 64 < 2 * half → 0 < more → shortest_signed more half n ≡ (n % 128 + 128) ∷ shortest_signed (more - 1) (half / 128) (n / 128)
unfolding shortest_signed
signed_on zero half n big goes some = absurd (omega arith)
signed_on (suc more) half n big goes some = let h : min 64 half ≤ n = omega arith in
    rw (le-ltb n (min 64 half) h, lt-ltb (n + 64) (2 * half) goes) (ap (λ (m : ℕ). (n % 128 + 128) ∷ shortest_signed m (half / 128) (n / 128)) (omega arith))

-- one byte is enough, by the half that the number is in
pub one_positive : (more half n : ℕ) → (min half 64 ≤ n × n + 64 < 2 * half → IsTrue false) → n < half → shortest_signed more half n ≡ n ∷ []
one_positive more half n stops low =
    elim (cases_lt n (min half 64)) [
      | inl small ↦ signed_small more half n small
      | inr big ↦ absurd (false≢true (stops (big, omega arith)))
    ]

pub one_negative : (more half n b : ℕ) → (min half 64 ≤ n × n + 64 < 2 * half → IsTrue false) → half ≤ n → n < 2 * half → b ≡ n - half + 128 - half → shortest_signed more half n ≡ b ∷ []
one_negative more half n b stops high fits is =
    elim (cases_lt (n + 64) (2 * half)) [
      | inl goes ↦ absurd (false≢true (stops (omega arith, goes)))
      | inr ends ↦ signed_last more half n (omega arith) ends ∙ ap (λ (k : ℕ). k ∷ []) (omega arith)
    ]

pub signed_byte_put : (buf all : List ℕ) (len more half n : ℕ) → len < length buf → len < more → min half 64 ≤ n → n + 64 < 2 * half → take len buf ++ shortest_signed (more - len) half n ≡ all
    → take (len + 1) (set buf len (n % 128 + 128)) ++ shortest_signed (more - (len + 1)) (half / 128) (n / 128) ≡ all
signed_byte_put buf all len more half n lt room big goes so_far =
    let step : shortest_signed (more - len) half n ≡ (n % 128 + 128) ∷ shortest_signed (more - (len + 1)) (half / 128) (n / 128) =
    signed_on (more - len) half n big goes (omega arith) ∙ ap (λ (m : ℕ). (n % 128 + 128) ∷ shortest_signed m (half / 128) (n / 128)) (omega arith) in
    rw (take_more_set buf len (n % 128 + 128) lt, append_assoc) (ap (λ (l : List ℕ). take len buf ++ l) (sym step) ∙ so_far)

pub signed_last_put : (buf all : List ℕ) (len more half n b : ℕ) → len < length buf → shortest_signed (more - len) half n ≡ b ∷ [] → take len buf ++ shortest_signed (more - len) half n ≡ all → take (len + 1) (set buf len b) ≡ all
signed_last_put buf all len more half n b lt last so_far = take_more_set buf len b lt ∙ ap (λ (l : List ℕ). take len buf ++ l) (sym last) ∙ so_far

-- no text of a signed number is shorter than the shortest
pub signed_is_least : (base more n : ℕ) (text : List ℕ) → 0 < base → base ≤ 64 → SpellsSigned (half_of base more) text n → length (shortest_signed more (half_of base more) n) ≤ length text
unfolding shortest_signed
signed_is_least base more n [] some few spelled = absurd spelled
signed_is_least base more n (b ∷ []) some few (inl s) = let small : n < min (half_of base more) 64 = omega (arith, s.0, s.1, s.2) in omega (arith, ap length (signed_small more (half_of base more) n small))
signed_is_least base more n (b ∷ []) some few (inr s) =
    elim (cases_lt n (min (half_of base more) 64)) [
      | inl small ↦ omega (arith, ap length (signed_small more (half_of base more) n small))
      | inr big ↦ let ends : 2 * half_of base more ≤ n + 64 = omega (arith, s.0, s.3) in omega (arith, ap length (signed_last more (half_of base more) n big ends))
    ]
signed_is_least base zero n (b ∷ c ∷ cs) some few spelled = absurd (omega (arith, spelled.2))
signed_is_least base (suc more) n (b ∷ c ∷ cs) some few spelled =
    let back : 128 * half_of base more / 128 ≡ half_of base more = omega arith in
    let high : spelled.3 ≡ n / 128 = omega (arith, spelled.0, spelled.1, spelled.4) in
    let rest : SpellsSigned (half_of base more) (c ∷ cs) (n / 128) = subst (λ (l : ℕ). SpellsSigned l (c ∷ cs) (n / 128)) back (subst (λ (h : ℕ). SpellsSigned (128 * half_of base more / 128) (c ∷ cs) h) high spelled.5) in
    elim (cases_lt n (min 64 (128 * half_of base more))) [
      | inl small ↦ rw (lt-ltb n (min 64 (128 * half_of base more)) small) (omega arith)
      | inr big ↦ rw (le-ltb n (min 64 (128 * half_of base more)) big) (elim (cases_lt (n + 64) (2 * (128 * half_of base more))) [
        | inl goes ↦ rw (lt-ltb (n + 64) (2 * (128 * half_of base more)) goes, back) (omega (arith, signed_is_least base more (n / 128) (c ∷ cs) some few rest))
        | inr ends ↦ rw (le-ltb (n + 64) (2 * (128 * half_of base more)) ends) (omega arith)
      ])
    ]
