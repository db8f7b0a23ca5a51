-- Rows and columns of summaries, and what a summary has when bits are set.
use Rattle.std.proofs.Common.{◌≡◌, ◌↔◌, ℕ, zero, suc, ◌+◌, ◌*◌, ◌/◌, ◌%◌, ◌-◌, ◌^◌, ◌<◌, ◌≤◌, ◌⊎◌, inl, inr, ⊎_elim, List, [], ◌++◌, take, drop, Option, Some, None, Bool, true, false, max, length, get_or, bit_or, nat_lt, if◌then◌else◌, IsSome, refl, sym, ap, ◌∙◌, subst, arith}
use Rattle.std.specs.Int.{bit_at}
use Rattle.std.proofs.lemmas.Bool.{cases_eq}
use Rattle.std.proofs.lemmas.List.{append-nil, take_all, drop_all}
use Rattle.std.proofs.lemmas.Bool.Decides.{nat_tests}
use Rattle.std.proofs.lemmas.Nat.Bits.{bit_at_or, bit_at-lt}
use Rattle.std.proofs.lemmas.Option.{cond_some, same_Some}
use Rattle.wasm_types.specs.declared.place.Loc.{Loc}
use Rattle.wasm_types.specs.declared.place.Loc.TheVariants.{Local, Global, Mem, Size, Host}
use Rattle.worklist.specs.Bits.{HasBit, GainsBits}
use Rattle.flow_domain.specs.Rows.{Output, Ret, Final, Done}
use Rattle.flow_domain.specs.Summaries.{among, row_number, column_number, word_count, IsSet}

-- ---- numbers

less : (k n : ℕ) → nat_lt k n ≡ true → k < n
less k n e = grind (arith, nat_tests)

less_on : (k n : ℕ) → k < n → nat_lt k n ≡ true
less_on k n lt = grind (arith, nat_tests)

less_off : (k n : ℕ) → n ≤ k → nat_lt k n ≡ false
less_off k n le = grind (arith, nat_tests)

pub among_some : (before count k r : ℕ) → among before count k ≡ Some r → (k < count) × (before + k ≡ r)
among_some before count k r e = let h = cond_some (nat_lt k count) (before + k) r e in (less k count h.0, h.1)

pub among_is : (before count k : ℕ) → k < count → among before count k ≡ Some (before + k)
among_is before count k lt = ap (λ b. if b then Some (before + k) else None) (less_on k count lt)

pub among_none : (before count k : ℕ) → count ≤ k → among before count k ≡ None
among_none before count k le = ap (λ b. if b then Some (before + k) else None) (less_off k count le)

-- ---- rows

output_at : ℕ → Output
output_at zero = Done
output_at (suc zero) = Ret
output_at (suc (suc zero)) = Final Mem
output_at (suc (suc (suc zero))) = Final Size
output_at (suc (suc (suc (suc zero)))) = Final Host
output_at (suc (suc (suc (suc (suc k))))) = Final (Global k)

output_above : (k n : ℕ) → 5 + k ≡ n → output_at n ≡ Final (Global k)
unfolding output_at
output_above k n e = let at : suc (suc (suc (suc (suc k)))) ≡ n = omega arith in subst (λ z. output_at z ≡ Final (Global k)) at refl

row_back : (G : ℕ) (o : Output) (r : ℕ) → row_number G o ≡ Some r → output_at r ≡ o
unfolding output_at
row_back G Done r e = subst (λ z. output_at z ≡ Done) (same_Some 0 r e) refl
row_back G Ret r e = subst (λ z. output_at z ≡ Ret) (same_Some 1 r e) refl
row_back G (Final Mem) r e = subst (λ z. output_at z ≡ Final Mem) (same_Some 2 r e) refl
row_back G (Final Size) r e = subst (λ z. output_at z ≡ Final Size) (same_Some 3 r e) refl
row_back G (Final Host) r e = subst (λ z. output_at z ≡ Final Host) (same_Some 4 r e) refl
row_back G (Final (Global k)) r e = output_above k r (among_some 5 G k r e).1
row_back G (Final (Local k)) r e = absurd cc

-- an output has a row of its own
pub row_once : (G : ℕ) (o o' : Output) (r : ℕ) → row_number G o ≡ Some r → row_number G o' ≡ Some r → o ≡ o'
row_once G o o' r h h' = sym (row_back G o r h) ∙ row_back G o' r h'

-- ---- columns

after_three : ℕ → ℕ → Loc
after_three G n = if nat_lt n G then Global n else Local (n - G)

place_at : ℕ → ℕ → Loc
place_at G zero = Mem
place_at G (suc zero) = Size
place_at G (suc (suc zero)) = Host
place_at G (suc (suc (suc n))) = after_three G n

global_at : (G k c : ℕ) → k < G → 3 + k ≡ c → place_at G c ≡ Global k
unfolding place_at after_three
global_at G k c lt e =
    let at : suc (suc (suc k)) ≡ c = omega arith in
    subst (λ z. place_at G z ≡ Global k) at (ap (λ b. if b then Global k else Local (k - G)) (less_on k G lt))

local_at : (G k c : ℕ) → 3 + G + k ≡ c → place_at G c ≡ Local k
unfolding place_at after_three
local_at G k c e =
    let at : suc (suc (suc (G + k))) ≡ c = omega arith in
    let back : G + k - G ≡ k = omega arith in
    subst (λ z. place_at G z ≡ Local k) at
    (ap (λ b. if b then Global (G + k) else Local (G + k - G)) (less_off (G + k) G (omega arith)) ∙ ap (λ n. Local n) back)

column_back : (G P : ℕ) (x : Loc) (c : ℕ) → column_number G P x ≡ Some c → place_at G c ≡ x
unfolding place_at
column_back G P Mem c e = subst (λ z. place_at G z ≡ Mem) (same_Some 0 c e) refl
column_back G P Size c e = subst (λ z. place_at G z ≡ Size) (same_Some 1 c e) refl
column_back G P Host c e = subst (λ z. place_at G z ≡ Host) (same_Some 2 c e) refl
column_back G P (Global k) c e = let h = among_some 3 G k c e in global_at G k c h.0 h.1
column_back G P (Local k) c e = let h = among_some (3 + G) P k c e in local_at G k c h.1

-- a location has a column of its own
pub column_once : (G P : ℕ) (x x' : Loc) (c : ℕ) → column_number G P x ≡ Some c → column_number G P x' ≡ Some c → x ≡ x'
column_once G P x x' c h h' = sym (column_back G P x c h) ∙ column_back G P x' c h'

pub column_below : (G P : ℕ) (x : Loc) (c : ℕ) → column_number G P x ≡ Some c → c < 3 + G + P
column_below G P Mem c e = let is = same_Some 0 c e in omega arith
column_below G P Size c e = let is = same_Some 1 c e in omega arith
column_below G P Host c e = let is = same_Some 2 c e in omega arith
column_below G P (Global k) c e = let h = among_some 3 G k c e in omega arith
column_below G P (Local k) c e = let h = among_some (3 + G) P k c e in omega arith

-- ---- words

pub wide : (G P c : ℕ) → c < 3 + G + P → (c / 64 < word_count G P) × (c < word_count G P * 64)
wide G P c lt = (omega arith, omega arith)

-- ---- what is set

module _ (G P : ℕ) where
  -- one pair more
  pub set_more : (o' : Output) (x' : Loc) (row column : ℕ) (bits bits' : List ℕ) → row_number G o' ≡ Some row → column_number G P x' ≡ Some column
      → GainsBits (word_count G P) (λ r c. (r ≡ row) × (c ≡ column)) bits bits' → (o : Output) (x : Loc)
      → IsSet (word_count G P) bits' (row_number G o) (column_number G P x)
      ↔ (IsSet (word_count G P) bits (row_number G o) (column_number G P x) ⊎ ((o ≡ o') × (x ≡ x')))
  set_more o' x' row column bits bits' ro co g o x = by (row_number G o) refl (column_number G P x) refl
    where
      by : (r : Option ℕ) → row_number G o ≡ r → (c : Option ℕ) → column_number G P x ≡ c
          → IsSet (word_count G P) bits' r c ↔ (IsSet (word_count G P) bits r c ⊎ ((o ≡ o') × (x ≡ x')))
      by None er c ec =
          (λ b. absurd b, λ h. ⊎_elim (λ b. b) (λ e. let wrong : None ≡ Some row = sym er ∙ (ap (row_number G) e.0 ∙ ro) in absurd cc) h)
      by (Some r) er None ec =
          (λ b. absurd b, λ h. ⊎_elim (λ b. b) (λ e. let wrong : None ≡ Some column = sym ec ∙ (ap (column_number G P) e.1 ∙ co) in absurd cc) h)
      by (Some r) er (Some c) ec =
          let lt : c < word_count G P * 64 = (wide G P c (column_below G P x c ec)).1 in (
            λ b. ⊎_elim
                inl
                (λ p. inr (row_once G o o' row (er ∙ ap (λ n. Some n) p.0) ro, column_once G P x x' column (ec ∙ ap (λ n. Some n) p.1) co))
                (g.only r c lt b),
            λ h. ⊎_elim
                (λ b. g.kept r c lt b)
                (λ e. g.all r c lt
                (same_Some r row (sym er ∙ (ap (row_number G) e.0 ∙ ro)), same_Some c column (sym ec ∙ (ap (column_number G P) e.1 ∙ co))))
                h,
          )

  one_of : (a b : ℕ) → max a b ≡ 1 → (a ≡ 1) ⊎ (b ≡ 1)
  one_of a b e = elim (cases_eq a 1) [ inl is ↦ inl is | inr ne ↦ inr (omega arith) ]

  one_either : (a b : ℕ) → a < 2 → b < 2 → (a ≡ 1) ⊎ (b ≡ 1) → max a b ≡ 1
  one_either a b s t (inl e) = omega arith
  one_either a b s t (inr e) = omega arith

  -- the words of both, word by word
  pub set_merged : (old more new : List ℕ) → ((k : ℕ) → get_or new k 0 ≡ bit_or (get_or old k 0) (get_or more k 0)) → (r c : Option ℕ)
      → IsSet (word_count G P) new r c ↔ (IsSet (word_count G P) old r c ⊎ IsSet (word_count G P) more r c)
  set_merged old more new words None c = (λ b. absurd b, λ h. ⊎_elim (λ b. b) (λ b. b) h)
  set_merged old more new words (Some r) None = (λ b. absurd b, λ h. ⊎_elim (λ b. b) (λ b. b) h)
  set_merged old more new words (Some r) (Some c) =
      let at : ℕ = r * word_count G P + c / 64 in
      let a = bit_at (get_or old at 0) (c % 64) in
      let b = bit_at (get_or more at 0) (c % 64) in
      let e : bit_at (get_or new at 0) (c % 64) ≡ max a b =
      ap (λ n. bit_at n (c % 64)) (words at) ∙ bit_at_or (get_or old at 0) (get_or more at 0) (c % 64) in (
        λ h. one_of a b (sym e ∙ h),
        λ h. e ∙ one_either a b (bit_at-lt (get_or old at 0) (c % 64)) (bit_at-lt (get_or more at 0) (c % 64)) h,
      )

-- words that stay as they are had all that others have
pub set_same : (G P : ℕ) (old more new : List ℕ) → ((k : ℕ) → get_or new k 0 ≡ bit_or (get_or old k 0) (get_or more k 0)) → new ≡ old → (r c : Option ℕ)
    → IsSet (word_count G P) more r c → IsSet (word_count G P) old r c
set_same G P old more new words e r c h = subst (λ bits. IsSet (word_count G P) bits r c) e ((set_merged G P old more new words r c).1 (inr h))

-- what is left of a list where all its items were put anew
pub all_new : (n : ℕ) (new old : List ℕ) → length new ≡ n → length old ≤ n → take n (new ++ drop (length new) old) ≡ new
all_new n new old long short =
    ap (λ ys. take n (new ++ ys)) (drop_all (length new) old (omega arith)) ∙ (ap (take n) (append-nil new) ∙ take_all n new (omega arith))
