-- Numbers in LEB128: the shortest text is a text of the number, no text of a number begins a text of another, and none is shorter than the shortest.
use Rattle.std.proofs.Common.{inl, inr, ◌≡◌, ℕ, zero, suc, ◌+◌, ◌-◌, ◌*◌, ◌/◌, ◌%◌, ◌<◌, ◌≤◌, List, [], ◌∷◌, ◌++◌, length, refl, sym, ap, arith, subst, min}
use Rattle.std.proofs.lemmas.Bool.{cases_lt, lt-ltb, le-ltb}
use Rattle.wasm_types.specs.Numbers.{shortest_unsigned, shortest_signed, half_of, SpellsUnsigned, SpellsSigned}

pub last_byte : (more n : ℕ) → n < 128 → shortest_unsigned more n ≡ n ∷ []
unfolding shortest_unsigned
last_byte zero n lt = refl
last_byte (suc more) n lt = rw (lt-ltb n 128 lt) refl

pub one_byte : (more n : ℕ) → 0 < more → 128 ≤ n → shortest_unsigned more n ≡ (n % 128 + 128) ∷ shortest_unsigned (more - 1) (n / 128)
unfolding shortest_unsigned
one_byte zero n lt le = absurd (omega arith)
one_byte (suc more) n lt le = rw (le-ltb n 128 le) (ap (λ (m : ℕ). (n % 128 + 128) ∷ shortest_unsigned m (n / 128)) (omega arith))

abbrev pub limit_of : ℕ → ℕ
limit_of zero = 16
limit_of (suc more) = 128 * limit_of more

limit_of-large : (more : ℕ) → 16 ≤ limit_of more
limit_of-large zero = omega arith
limit_of-large (suc more) = omega (arith, limit_of-large more)

more_spelled : (limit b n high : ℕ) (text : List ℕ) → 128 ≤ b → b < 256 → 128 < limit → n + 128 ≡ b + 128 * high
    → SpellsUnsigned (limit / 128) text high → SpellsUnsigned limit (b ∷ text) n
more_spelled limit b n high [] le lt room is rest = absurd rest
more_spelled limit b n high (c ∷ cs) le lt room is rest = (le, lt, room, high, is, rest)

pub shortest_spells : (more n : ℕ) → n < limit_of more → SpellsUnsigned (limit_of more) (shortest_unsigned more n) n
unfolding shortest_unsigned
shortest_spells zero n lt = (omega arith, lt, refl)
shortest_spells (suc more) n lt =
    elim (cases_lt n 128) [
      | inl small ↦ rw (lt-ltb n 128 small) (small, omega (arith, limit_of-large more), refl)
      | inr big ↦ rw (le-ltb n 128 big) (
          let back : 128 * limit_of more / 128 ≡ limit_of more = omega arith in
          more_spelled (128 * limit_of more) (n % 128 + 128) n (n / 128) (shortest_unsigned more (n / 128)) (omega arith) (omega arith) (omega (arith, limit_of-large more)) (omega arith)
          (rw back (shortest_spells more (n / 128) (omega arith))))
    ]

-- no text of a number is the front of a text of another, and none is shorter than the shortest
pub one_unsigned : (limit : ℕ) (a b x y : List ℕ) (m n : ℕ) → SpellsUnsigned limit a m → SpellsUnsigned limit b n → a ++ x ≡ b ++ y → (a ≡ b) × (m ≡ n)
one_unsigned limit [] b x y m n p q e = absurd p
one_unsigned limit (c ∷ cs) [] x y m n p q e = absurd q
one_unsigned limit (c ∷ []) (d ∷ []) x y m n p q e = let h : c ≡ d = cc in (ap (λ (k : ℕ). k ∷ []) h, omega (arith, p.2, q.2, h))
one_unsigned limit (c ∷ []) (d ∷ d2 ∷ ds) x y m n p q e = let h : c ≡ d = cc in absurd (omega (arith, p.0, q.0, h))
one_unsigned limit (c ∷ c2 ∷ cs) (d ∷ []) x y m n p q e = let h : c ≡ d = cc in absurd (omega (arith, q.0, p.0, h))
one_unsigned limit (c ∷ c2 ∷ cs) (d ∷ d2 ∷ ds) x y m n p q e =
    let h : c ≡ d = cc in
    let rest : (c2 ∷ cs) ++ x ≡ (d2 ∷ ds) ++ y = cc in
    let r = one_unsigned (limit / 128) (c2 ∷ cs) (d2 ∷ ds) x y p.3 q.3 p.5 q.5 rest in
    (cc (h, r.0), omega (arith, p.4, q.4, h, r.1))

pub shortest_is_least : (more n : ℕ) (text : List ℕ) → SpellsUnsigned (limit_of more) text n → length (shortest_unsigned more n) ≤ length text
unfolding shortest_unsigned
shortest_is_least more n [] spelled = absurd spelled
shortest_is_least more n (b ∷ []) spelled = let small : n < 128 = omega (arith, spelled.0, spelled.2) in omega (arith, ap length (last_byte more n small))
shortest_is_least zero n (b ∷ c ∷ cs) spelled = absurd (omega (arith, spelled.2))
shortest_is_least (suc more) n (b ∷ c ∷ cs) spelled =
    let back : 128 * limit_of more / 128 ≡ limit_of more = omega arith in
    let high : spelled.3 ≡ n / 128 = omega (arith, spelled.0, spelled.1, spelled.4) in
    let rest : SpellsUnsigned (limit_of more) (c ∷ cs) (n / 128) = subst (λ (l : ℕ). SpellsUnsigned l (c ∷ cs) (n / 128)) back (subst (λ (h : ℕ). SpellsUnsigned (128 * limit_of more / 128) (c ∷ cs) h) high spelled.5) in
    elim (cases_lt n 128) [
      | inl small ↦ rw (lt-ltb n 128 small) (omega arith)
      | inr big ↦ rw (le-ltb n 128 big) (omega (arith, shortest_is_least more (n / 128) (c ∷ cs) rest))
    ]

-- the same of signed numbers
last_signed : (half c m n : ℕ) → SpellsSigned half (c ∷ []) m → SpellsSigned half (c ∷ []) n → m ≡ n
last_signed half c m n (inl p) (inl q) = omega (arith, p.2, q.2)
last_signed half c m n (inl p) (inr q) = absurd (omega (arith, p.0, q.0))
last_signed half c m n (inr p) (inl q) = absurd (omega (arith, p.0, q.0))
last_signed half c m n (inr p) (inr q) = omega (arith, p.3, q.3)

last_below : (half c n : ℕ) → SpellsSigned half (c ∷ []) n → c < 128
last_below half c n (inl p) = omega (arith, p.0)
last_below half c n (inr p) = p.1

pub one_signed : (half : ℕ) (a b x y : List ℕ) (m n : ℕ) → SpellsSigned half a m → SpellsSigned half b n → a ++ x ≡ b ++ y → (a ≡ b) × (m ≡ n)
one_signed half [] b x y m n p q e = absurd p
one_signed half (c ∷ cs) [] x y m n p q e = absurd q
one_signed half (c ∷ []) (d ∷ []) x y m n p q e =
    let h : d ≡ c = cc in (ap (λ (k : ℕ). k ∷ []) (sym h), last_signed half c m n p (subst (λ (k : ℕ). SpellsSigned half (k ∷ []) n) h q))
one_signed half (c ∷ []) (d ∷ d2 ∷ ds) x y m n p q e = let h : c ≡ d = cc in absurd (omega (arith, last_below half c m p, q.0, h))
one_signed half (c ∷ c2 ∷ cs) (d ∷ []) x y m n p q e = let h : c ≡ d = cc in absurd (omega (arith, last_below half d n q, p.0, h))
one_signed half (c ∷ c2 ∷ cs) (d ∷ d2 ∷ ds) x y m n p q e =
    let h : c ≡ d = cc in
    let rest : (c2 ∷ cs) ++ x ≡ (d2 ∷ ds) ++ y = cc in
    let r = one_signed (half / 128) (c2 ∷ cs) (d2 ∷ ds) x y p.3 q.3 p.5 q.5 rest in
    (cc (h, r.0), omega (arith, p.4, q.4, h, r.1))

pub signed_below : (half : ℕ) (text : List ℕ) (n : ℕ) → SpellsSigned half text n → n < 2 * half
signed_below half [] n p = absurd p
signed_below half (b ∷ []) n (inl p) = omega (arith, p.1, p.2)
signed_below half (b ∷ []) n (inr p) = omega (arith, p.1, p.3)
signed_below half (b ∷ c ∷ cs) n p = let h = signed_below (half / 128) (c ∷ cs) p.3 p.5 in omega (arith, p.1, p.4, h)

-- ---- the shortest text of a signed number

pub half_of-some : (base more : ℕ) → 0 < base → base ≤ half_of base more
half_of-some base zero some = omega arith
half_of-some base (suc more) some = omega (arith, half_of-some base more some)

signed_more : (half b n high : ℕ) (text : List ℕ) → 128 ≤ b → b < 256 → 64 < half → n + 128 ≡ b + 128 * high → SpellsSigned (half / 128) text high
    → SpellsSigned half (b ∷ text) n
signed_more half b n high [] le lt room is rest = absurd rest
signed_more half b n high (c ∷ cs) le lt room is rest = (le, lt, room, high, is, rest)

pub signed_spells : (base more n : ℕ) → 0 < base → base ≤ 64 → n < 2 * half_of base more
    → SpellsSigned (half_of base more) (shortest_signed more (half_of base more) n) n
unfolding shortest_signed
signed_spells base zero n some few lt =
    elim (cases_lt n (min 64 base)) [
      | inl small ↦ rw (lt-ltb n (min 64 base) small) (inl (omega arith, omega arith, refl))
      | inr big ↦ rw (le-ltb n (min 64 base) big) (inr (omega arith, omega arith, omega arith, omega arith))
    ]
signed_spells base (suc more) n some few lt =
    let h : base ≤ half_of base more = half_of-some base more some in
    elim (cases_lt n (min 64 (128 * half_of base more))) [
      | inl small ↦ rw (lt-ltb n (min 64 (128 * half_of base more)) small) (inl (omega arith, omega arith, refl))
      | inr big ↦ rw (le-ltb n (min 64 (128 * half_of base more)) big) (elim (cases_lt (n + 64) (2 * (128 * half_of base more))) [
        | inl goes ↦ rw (lt-ltb (n + 64) (2 * (128 * half_of base more)) goes) (
            let back : 128 * half_of base more / 128 ≡ half_of base more = omega arith in
            signed_more (128 * half_of base more) (n % 128 + 128) n (n / 128) (shortest_signed more (128 * half_of base more / 128) (n / 128)) (omega arith) (omega arith) (omega arith) (omega arith)
            (rw back (signed_spells base more (n / 128) some few (omega arith))))
        | inr ends ↦ rw (le-ltb (n + 64) (2 * (128 * half_of base more)) ends) (inr (omega arith, omega arith, omega arith, omega arith))
      ])
    ]

-- ---- no text of a number is shorter than the shortest

signed_small : (more half n : ℕ) → n < min half 64 → shortest_signed more half n ≡ n ∷ []
unfolding shortest_signed
signed_small zero half n lt = let h : n < min 64 half = omega arith in rw (lt-ltb n (min 64 half) h) refl
signed_small (suc more) half n lt = let h : n < min 64 half = omega arith in rw (lt-ltb n (min 64 half) h) refl

signed_last : (more half n : ℕ) → min half 64 ≤ n → 2 * half ≤ n + 64 → shortest_signed more half n ≡ (n + 128 - 2 * half) ∷ []
unfolding shortest_signed
signed_last zero half n big ends = let h : min 64 half ≤ n = omega arith in rw (le-ltb n (min 64 half) h) refl
signed_last (suc more) half n big ends = let h : min 64 half ≤ n = omega arith in rw (le-ltb n (min 64 half) h, le-ltb (n + 64) (2 * half) ends) refl

pub signed_is_least : (base more n : ℕ) (text : List ℕ) → 0 < base → base ≤ 64 → SpellsSigned (half_of base more) text n
    → length (shortest_signed more (half_of base more) n) ≤ length text
unfolding shortest_signed
signed_is_least base more n [] some few spelled = absurd spelled
signed_is_least base more n (b ∷ []) some few (inl s) = let small : n < min (half_of base more) 64 = omega (arith, s.0, s.1, s.2) in omega (arith, ap length (signed_small more (half_of base more) n small))
signed_is_least base more n (b ∷ []) some few (inr s) =
    elim (cases_lt n (min (half_of base more) 64)) [
      | inl small ↦ omega (arith, ap length (signed_small more (half_of base more) n small))
      | inr big ↦ let ends : 2 * half_of base more ≤ n + 64 = omega (arith, s.0, s.3) in omega (arith, ap length (signed_last more (half_of base more) n big ends))
    ]
signed_is_least base zero n (b ∷ c ∷ cs) some few spelled = absurd (omega (arith, spelled.2))
signed_is_least base (suc more) n (b ∷ c ∷ cs) some few spelled =
    let back : 128 * half_of base more / 128 ≡ half_of base more = omega arith in
    let high : spelled.3 ≡ n / 128 = omega (arith, spelled.0, spelled.1, spelled.4) in
    let rest : SpellsSigned (half_of base more) (c ∷ cs) (n / 128) = subst (λ (l : ℕ). SpellsSigned l (c ∷ cs) (n / 128)) back (subst (λ (h : ℕ). SpellsSigned (128 * half_of base more / 128) (c ∷ cs) h) high spelled.5) in
    elim (cases_lt n (min 64 (128 * half_of base more))) [
      | inl small ↦ rw (lt-ltb n (min 64 (128 * half_of base more)) small) (omega arith)
      | inr big ↦ rw (le-ltb n (min 64 (128 * half_of base more)) big) (elim (cases_lt (n + 64) (2 * (128 * half_of base more))) [
        | inl goes ↦ rw (lt-ltb (n + 64) (2 * (128 * half_of base more)) goes, back) (omega (arith, signed_is_least base more (n / 128) (c ∷ cs) some few rest))
        | inr ends ↦ rw (le-ltb (n + 64) (2 * (128 * half_of base more)) ends) (omega arith)
      ])
    ]

pub unsigned_below : (limit : ℕ) (text : List ℕ) (n : ℕ) → SpellsUnsigned limit text n → n < limit
unsigned_below limit [] n p = absurd p
unsigned_below limit (b ∷ []) n p = omega (arith, p.1, p.2)
unsigned_below limit (b ∷ c ∷ cs) n p = let h = unsigned_below (limit / 128) (c ∷ cs) p.3 p.5 in omega (arith, p.1, p.4, h)

-- the text of a greater number isn't shorter, and none is empty
pub shortest_grows : (more m n : ℕ) → m ≤ n → length (shortest_unsigned more m) ≤ length (shortest_unsigned more n)
unfolding shortest_unsigned
shortest_grows zero m n le = omega arith
shortest_grows (suc more) m n le =
    elim (cases_lt n 128) [
      | inl small ↦ rw (lt-ltb n 128 small, lt-ltb m 128 (omega arith)) (omega arith)
      | inr big ↦ rw (le-ltb n 128 big) (elim (cases_lt m 128) [
        | inl small ↦ rw (lt-ltb m 128 small) (omega arith)
        | inr large ↦ rw (le-ltb m 128 large) (omega (arith, shortest_grows more (m / 128) (n / 128) (omega arith)))
      ])
    ]

pub shortest_some : (more n : ℕ) → 1 ≤ length (shortest_unsigned more n)
unfolding shortest_unsigned
shortest_some zero n = omega arith
shortest_some (suc more) n =
    elim (cases_lt n 128) [
      | inl small ↦ rw (lt-ltb n 128 small) (omega arith)
      | inr big ↦ rw (le-ltb n 128 big) (omega arith)
    ]
