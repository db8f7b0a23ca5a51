-- Rows of an imported function that are put together, step by step.
use Rattle.std.proofs.Common.{◌≡◌, ◌↔◌, ℕ, ◌+◌, ◌<◌, ◌≤◌, ◌⊎◌, inl, inr, ⊎_elim, List, Bool, true, false, IsSome, length, get_or, refl, sym, ap, subst, arith}
use Rattle.std.proofs.lemmas.Bool.{cases_eq, cases_lt}
use Rattle.wasm_types.specs.declared.place.Loc.{Loc}
use Rattle.wasm_types.specs.declared.place.Loc.TheVariants.{Local, Global, Mem, Size, Host}
use Rattle.worklist.specs.Search.{IsMarked}
use Rattle.worklist.proofs.Searching.{marked_below}
use Rattle.flow_domain.specs.Rows.{Output, Ret, Final, Done}
use Rattle.flow_domain.specs.Summaries.{IsKnown}
use Rattle.flow_domain.proofs.Summing.{among_none}
use Rattle.summary_fix.specs.Imports.{IsIf, IsParam, IsSeenGlobal, IsSeenOther, Uses, RowBy, ImportRow, GlobalRow}

pub known_global : (G k : ℕ) → IsKnown G (Final (Global k)) → k < G
known_global G k n = elim (cases_lt k G) [ inl lt ↦ lt | inr le ↦ let none = subst IsSome (among_none 5 G k le) n in absurd cc ]

-- what an output has of a location
abbrev pub Has : Type 1
Has = Output → Loc → Type 0

-- the new rows are the old ones and these
abbrev pub Adds : Has → Has → Has → Type 0
Adds P H H' = (o : Output) (x : Loc) → H' o x ↔ (H o x ⊎ P o x)

pub adds_then : (P Q R H H1 H2 : Has) → Adds P H H1 → Adds Q H1 H2 → ((o : Output) (x : Loc) → R o x ↔ (P o x ⊎ Q o x)) → Adds R H H2
adds_then P Q R H H1 H2 p q same o x = (
  λ h. ⊎_elim (λ k. ⊎_elim inl (λ l. inr ((same o x).1 (inl l))) ((p o x).0 k)) (λ l. inr ((same o x).1 (inr l))) ((q o x).0 h),
  λ h. (q o x).1 (⊎_elim (λ k. inl ((p o x).1 (inl k))) (λ r. ⊎_elim (λ l. inl ((p o x).1 (inr l))) inr ((same o x).0 r)) h),
)

pub adds_none : (P H : Has) → ((o : Output) (x : Loc) → P o x → ⊥) → Adds P H H
adds_none P H none o x = (inl, λ h. ⊎_elim (λ k. k) (λ p. absurd (none o x p)) h)

pub adds_same : (P Q H H' : Has) → ((o : Output) (x : Loc) → Q o x ↔ P o x) → Adds P H H' → Adds Q H H'
adds_same P Q H H' same p o x =
    (λ h. ⊎_elim inl (λ l. inr ((same o x).1 l)) ((p o x).0 h), λ h. (p o x).1 (⊎_elim inl (λ l. inr ((same o x).0 l)) h))

-- in one row
pub in_row : (a : Output) (A B C : Loc → Type 0) → ((x : Loc) → C x ↔ (A x ⊎ B x)) → (o : Output) (x : Loc)
    → ((o ≡ a) × C x) ↔ (((o ≡ a) × A x) ⊎ ((o ≡ a) × B x))
in_row a A B C same o x = (
  λ h. ⊎_elim (λ k. inl (h.0, k)) (λ k. inr (h.0, k)) ((same x).0 h.1),
  λ h. ⊎_elim (λ k. (k.0, (same x).1 (inl k.1))) (λ k. (k.0, (same x).1 (inr k.1))) h,
)

pub row_same : (a : Output) (A C : Loc → Type 0) → ((x : Loc) → C x ↔ A x) → (o : Output) (x : Loc) → ((o ≡ a) × C x) ↔ ((o ≡ a) × A x)
row_same a A C same o x = (λ h. (h.0, (same x).0 h.1), λ h. (h.0, (same x).1 h.1))

-- ---- parameters

pub param_more : (k : ℕ) (x : Loc) → IsParam (k + 1) x ↔ (IsParam k x ⊎ (x ≡ Local k))
param_more k (Local j) = (
  λ lt. elim (cases_eq j k) [ inl e ↦ inr (ap (λ n. Local n) e) | inr ne ↦ inl (omega arith) ],
  λ h. ⊎_elim (λ lt. omega arith) (λ e. let same : j ≡ k = cc in omega arith) h,
)
param_more k (Global j) = (λ h. absurd h, λ h. ⊎_elim (λ n. n) (λ e. absurd cc) h)
param_more k Mem = (λ h. absurd h, λ h. ⊎_elim (λ n. n) (λ e. absurd cc) h)
param_more k Size = (λ h. absurd h, λ h. ⊎_elim (λ n. n) (λ e. absurd cc) h)
param_more k Host = (λ h. absurd h, λ h. ⊎_elim (λ n. n) (λ e. absurd cc) h)

pub param_none : (x : Loc) → IsParam 0 x → ⊥
param_none (Local j) lt = omega arith
param_none (Global j) h = h
param_none Mem h = h
param_none Size h = h
param_none Host h = h

-- ---- globals

-- a marked one of the first so many
abbrev pub SeenBelow : List Bool → ℕ → Loc → Type 0
SeenBelow seen n (Global j) = (j < n) × IsMarked seen j
SeenBelow seen n _ = ⊥

pub seen_more : (seen : List Bool) (k : ℕ) (x : Loc) → SeenBelow seen (k + 1) x ↔ (SeenBelow seen k x ⊎ IsIf (get_or seen k false) (Global k) x)
seen_more seen k (Global j) = (
  λ h. elim (cases_eq j k) [
    | inl e ↦ inr (subst (λ n. IsMarked seen n) e h.1, ap (λ n. Global n) e)
    | inr ne ↦ let lt = h.0 in inl (omega arith, h.1)
  ],
  λ h. ⊎_elim (λ b. let lt = b.0 in (omega arith, b.1)) (λ i. let same : j ≡ k = cc (i.1) in (omega arith, subst (λ n. IsMarked seen n) (sym same) i.0)) h,
)
seen_more seen k (Local j) = (λ h. absurd h, λ h. ⊎_elim (λ n. n) (λ i. let e = i.1 in absurd cc) h)
seen_more seen k Mem = (λ h. absurd h, λ h. ⊎_elim (λ n. n) (λ i. let e = i.1 in absurd cc) h)
seen_more seen k Size = (λ h. absurd h, λ h. ⊎_elim (λ n. n) (λ i. let e = i.1 in absurd cc) h)
seen_more seen k Host = (λ h. absurd h, λ h. ⊎_elim (λ n. n) (λ i. let e = i.1 in absurd cc) h)

pub seen_none : (seen : List Bool) (x : Loc) → SeenBelow seen 0 x → ⊥
seen_none seen (Global j) h = let lt = h.0 in omega arith
seen_none seen (Local j) h = h
seen_none seen Mem h = h
seen_none seen Size h = h
seen_none seen Host h = h

pub seen_all : (seen : List Bool) (n : ℕ) → length seen ≤ n → (x : Loc) → IsSeenGlobal seen x ↔ SeenBelow seen n x
seen_all seen n le (Global j) = (λ m. let lt = marked_below seen j m in (omega arith, m), λ h. h.1)
seen_all seen n le (Local j) = (λ h. h, λ h. h)
seen_all seen n le Mem = (λ h. h, λ h. h)
seen_all seen n le Size = (λ h. h, λ h. h)
seen_all seen n le Host = (λ h. h, λ h. h)

-- ---- the memory and the host

pub other_by : (memory : Bool) (x : Loc) → IsSeenOther memory x ↔ ((IsIf memory Mem x ⊎ IsIf memory Size x) ⊎ (x ≡ Host))
other_by memory Mem = (
  λ m. inl (inl (m, refl)),
  λ h. ⊎_elim (λ k. ⊎_elim (λ i. i.0) (λ i. let e = i.1 in absurd cc) k) (λ e. absurd cc) h,
)
other_by memory Size = (
  λ m. inl (inr (m, refl)),
  λ h. ⊎_elim (λ k. ⊎_elim (λ i. let e = i.1 in absurd cc) (λ i. i.0) k) (λ e. absurd cc) h,
)
other_by memory Host = (λ m. inr refl, λ h. tt)
other_by memory (Local j) = (
  λ h. absurd h,
  λ h. ⊎_elim (λ k. ⊎_elim (λ i. let e = i.1 in absurd cc) (λ i. let e = i.1 in absurd cc) k) (λ e. absurd cc) h,
)
other_by memory (Global j) = (
  λ h. absurd h,
  λ h. ⊎_elim (λ k. ⊎_elim (λ i. let e = i.1 in absurd cc) (λ i. let e = i.1 in absurd cc) k) (λ e. absurd cc) h,
)

pub uses_by : (seen : List Bool) (memory : Bool) (params : ℕ) (x : Loc)
    → Uses seen memory params x ↔ ((IsParam params x ⊎ IsSeenGlobal seen x) ⊎ IsSeenOther memory x)
uses_by seen memory params (Local k) = (λ h. inl (inl h), λ h. ⊎_elim (λ k. ⊎_elim (λ p. p) (λ n. absurd n) k) (λ n. absurd n) h)
uses_by seen memory params (Global k) = (λ h. inl (inr h), λ h. ⊎_elim (λ k. ⊎_elim (λ n. absurd n) (λ p. p) k) (λ n. absurd n) h)
uses_by seen memory params Mem = (λ h. inr h, λ h. ⊎_elim (λ k. ⊎_elim (λ n. absurd n) (λ n. absurd n) k) (λ p. p) h)
uses_by seen memory params Size = (λ h. inr h, λ h. ⊎_elim (λ k. ⊎_elim (λ n. absurd n) (λ n. absurd n) k) (λ p. p) h)
uses_by seen memory params Host = (λ h. inr h, λ h. ⊎_elim (λ k. ⊎_elim (λ n. absurd n) (λ n. absurd n) k) (λ p. p) h)

-- ---- all rows

module _ (seen : List Bool) (memory : Bool) (params : ℕ) where
  pub global_more : (k : ℕ) (o : Output) (x : Loc)
      → GlobalRow seen memory params (k + 1) o x ↔ (GlobalRow seen memory params k o x ⊎ ((o ≡ Final (Global k)) × RowBy seen memory params (get_or seen k false) (Global k) x))
  global_more k o x = (
    λ (j, (lt, h)). elim (cases_eq j k) [
      | inl e ↦ inr (subst (λ n. (o ≡ Final (Global n)) × RowBy seen memory params (get_or seen n false) (Global n) x) e h)
      | inr ne ↦ inl (j, (omega arith, h))
    ],
    λ h. ⊎_elim (λ (j, (lt, k)). (j, (omega arith, k))) (λ r. (k, (omega arith, r))) h,
  )

  pub global_none : (o : Output) (x : Loc) → GlobalRow seen memory params 0 o x → ⊥
  global_none o x (j, (lt, h)) = omega arith

  -- the rows that are put one after another
  abbrev pub One : Output → Bool → Loc → Has
  One a changed y o x = (o ≡ a) × RowBy seen memory params changed y x

  pub import_exact : (H1 H2 H3 H4 H5 H6 H0 : Has) → ((o : Output) (x : Loc) → H0 o x → ⊥) → Adds (One Ret true Host) H0 H1 → Adds (One Done true Host) H1 H2
      → Adds (One (Final Host) true Host) H2 H3 → Adds (One (Final Mem) memory Mem) H3 H4 → Adds (One (Final Size) false Size) H4 H5
      → Adds (GlobalRow seen memory params (length seen)) H5 H6 → (o : Output) (x : Loc) → IsKnown (length seen) o → H6 o x ↔ ImportRow seen memory params o x
  import_exact H1 H2 H3 H4 H5 H6 H0 none h1 h2 h3 h4 h5 h6 o x known = (to, from o known)
    where
      is_row : (a : Output) → ImportRow seen memory params a x → o ≡ a → ImportRow seen memory params o x
      is_row a r e = subst (λ z. ImportRow seen memory params z x) (sym e) r

      to : H6 o x → ImportRow seen memory params o x
      to h = ⊎_elim
          (λ k5. ⊎_elim
          (λ k4. ⊎_elim
          (λ k3. ⊎_elim
          (λ k2. ⊎_elim
          (λ k1. ⊎_elim (λ k0. absurd (none o x k0)) (λ r. is_row Ret r.1 r.0) ((h1 o x).0 k1))
          (λ r. is_row Done r.1 r.0) ((h2 o x).0 k2))
          (λ r. is_row (Final Host) r.1 r.0) ((h3 o x).0 k3))
          (λ r. is_row (Final Mem) r.1 r.0) ((h4 o x).0 k4))
          (λ r. is_row (Final Size) r.1 r.0) ((h5 o x).0 k5))
          (λ (k, (lt, r)). is_row (Final (Global k)) r.1 r.0)
          ((h6 o x).0 h)

      from : (a : Output) → IsKnown (length seen) a → ImportRow seen memory params a x → H6 a x
      from Ret n r = (h6 Ret x).1 (inl ((h5 Ret x).1 (inl ((h4 Ret x).1 (inl ((h3 Ret x).1 (inl ((h2 Ret x).1 (inl ((h1 Ret x).1 (inr (refl, r))))))))))))
      from Done n r = (h6 Done x).1 (inl ((h5 Done x).1 (inl ((h4 Done x).1 (inl ((h3 Done x).1 (inl ((h2 Done x).1 (inr (refl, r))))))))))
      from (Final Host) n r = (h6 (Final Host) x).1 (inl ((h5 (Final Host) x).1 (inl ((h4 (Final Host) x).1 (inl ((h3 (Final Host) x).1 (inr (refl, r))))))))
      from (Final Mem) n r = (h6 (Final Mem) x).1 (inl ((h5 (Final Mem) x).1 (inl ((h4 (Final Mem) x).1 (inr (refl, r))))))
      from (Final Size) n r = (h6 (Final Size) x).1 (inl ((h5 (Final Size) x).1 (inr (refl, r))))
      from (Final (Global k)) n r = (h6 (Final (Global k)) x).1 (inr (k, (known_global (length seen) k n, (refl, r))))
      from (Final (Local k)) n r = absurd cc

  -- with the number of parameters that the rows had
  pub row_of : (n : ℕ) → n ≡ params → (a : Output) (changed : Bool) (y : Loc) (H H' : Has) → Adds (λ o x. (o ≡ a) × RowBy seen memory n changed y x) H H'
      → Adds (One a changed y) H H'
  row_of n e a changed y H H' h = subst (λ k. Adds (λ o x. (o ≡ a) × RowBy seen memory k changed y x) H H') e h

  pub globals_of_rows : (n count : ℕ) → n ≡ params → count ≡ length seen → (H H' : Has) → Adds (GlobalRow seen memory n count) H H'
      → Adds (GlobalRow seen memory params (length seen)) H H'
  globals_of_rows n count e f H H' h =
      subst (λ k. Adds (GlobalRow seen memory params k) H H') f (subst (λ k. Adds (GlobalRow seen memory k count) H H') e h)
