-- Rows of positions by the numbers of locations.
use Rattle.std.proofs.Common.{◌≡◌, ◌≢◌, ℕ, zero, suc, ◌+◌, ◌<◌, ◌≤◌, List, [], ◌∷◌, ◌++◌, Vec, Global, Bool, true, false, Option, Some, None, length, get_or, set, take, refl, sym, ◌∙◌, ap, subst, inl, inr, ◌⊎◌, ⊎_elim, arith}
use Rattle.std.specs.Prelude.{slice_get}
use Rattle.std.specs.List.{All, AllPairs, Contains}
use Rattle.std.proofs.lemmas.Bool.{cases_eq, cases_lt}
use Rattle.std.proofs.lemmas.List.{take_more}
use Rattle.std.proofs.lemmas.Option.{slice_get_read, slice_get_within}
use Rattle.std.proofs.lemmas.List.Elements.{All-push, Contains-push, Contains-push_cases, Contains-append_left}
use Rattle.std.proofs.lemmas.List.Quantifiers.{all_pairs_push}
use Rattle.wasm_types.specs.declared.place.Loc.{Loc}
use Rattle.wasm_types.specs.declared.place.Loc.TheVariants as loc
use Rattle.flow_domain.specs.declared.loc_table.LocUse.{LocUse}
use Rattle.flow_domain.specs.LocTables.{Rows, HasUse, IsRowAt, row_in, WritesIn}
use Rattle.def_use.specs.Places.{AreWriters}
use Rattle.def_use.specs.Writers.{loc_number, items_of, row_at, RowAdds}

-- ---- numbers of locations

pub loc_injective : (x y : Loc) → loc_number x ≡ loc_number y → x ≡ y
loc_injective loc.Mem loc.Mem e = refl
loc_injective loc.Mem loc.Size e = absurd (omega arith)
loc_injective loc.Mem loc.Host e = absurd (omega arith)
loc_injective loc.Mem (loc.Local k) e = absurd (omega arith)
loc_injective loc.Mem (loc.Global k) e = absurd (omega arith)
loc_injective loc.Size loc.Mem e = absurd (omega arith)
loc_injective loc.Size loc.Size e = refl
loc_injective loc.Size loc.Host e = absurd (omega arith)
loc_injective loc.Size (loc.Local k) e = absurd (omega arith)
loc_injective loc.Size (loc.Global k) e = absurd (omega arith)
loc_injective loc.Host loc.Mem e = absurd (omega arith)
loc_injective loc.Host loc.Size e = absurd (omega arith)
loc_injective loc.Host loc.Host e = refl
loc_injective loc.Host (loc.Local k) e = absurd (omega arith)
loc_injective loc.Host (loc.Global k) e = absurd (omega arith)
loc_injective (loc.Local j) loc.Mem e = absurd (omega arith)
loc_injective (loc.Local j) loc.Size e = absurd (omega arith)
loc_injective (loc.Local j) loc.Host e = absurd (omega arith)
loc_injective (loc.Local j) (loc.Local k) e = let same : j ≡ k = omega arith in ap loc.Local same
loc_injective (loc.Local j) (loc.Global k) e = absurd (omega arith)
loc_injective (loc.Global j) loc.Mem e = absurd (omega arith)
loc_injective (loc.Global j) loc.Size e = absurd (omega arith)
loc_injective (loc.Global j) loc.Host e = absurd (omega arith)
loc_injective (loc.Global j) (loc.Local k) e = absurd (omega arith)
loc_injective (loc.Global j) (loc.Global k) e = let same : j ≡ k = omega arith in ap loc.Global same

-- ---- rows

pub row_pushed : (rows : List (Vec ℕ Global)) (r : Vec ℕ Global) → r.items ≡ [] → (n : ℕ) → row_at (rows ++ r ∷ []) n ≡ row_at rows n
row_pushed [] r empty zero = empty
row_pushed [] r empty (suc n) = refl
row_pushed (q ∷ rows) r empty zero = refl
row_pushed (q ∷ rows) r empty (suc n) = row_pushed rows r empty n

pub row_set : (rows : List (Vec ℕ Global)) (k : ℕ) (new : Vec ℕ Global) → k < length rows → row_at (set rows k new) k ≡ new.items
row_set [] k new lt = absurd (omega arith)
row_set (r ∷ rows) zero new lt = refl
row_set (r ∷ rows) (suc k) new lt = row_set rows k new (omega arith)

pub row_apart : (rows : List (Vec ℕ Global)) (k n : ℕ) (new : Vec ℕ Global) → n ≢ k → row_at (set rows k new) n ≡ row_at rows n
row_apart [] k n new ne = refl
row_apart (r ∷ rows) zero zero new ne = absurd (ne refl)
row_apart (r ∷ rows) zero (suc n) new ne = refl
row_apart (r ∷ rows) (suc k) zero new ne = refl
row_apart (r ∷ rows) (suc k) (suc n) new ne = row_apart rows k n new (λ e. ne (omega arith))

pub row_here : (rows : List (Vec ℕ Global)) (k : ℕ) (row : Vec ℕ Global) → k < length rows → row ≡ get_or rows k row → row_at rows k ≡ row.items
row_here rows k row lt is = ap items_of (slice_get_read rows (length rows) k row refl lt is)

pub row_past : (rows : List (Vec ℕ Global)) (k : ℕ) → length rows ≤ k → row_at rows k ≡ []
row_past [] k le = refl
row_past (r ∷ rows) zero le = absurd (omega arith)
row_past (r ∷ rows) (suc k) le = row_past rows k (omega arith)

-- ---- what a row gains

pub adds_none : (at : ℕ) (P : Type 0) (row : List ℕ) → (P → ⊥) → RowAdds at P row row
adds_none at P row none = record { kept = λ v h. h; all = λ p. absurd (none p); only = λ v h. inl h; rising = λ up below. (up, below) }

pub adds_one : (at : ℕ) (P : Type 0) (row : List ℕ) → P → RowAdds at P row (row ++ at ∷ [])
adds_one at P row p = record {
  kept = λ v h. Contains-append_left row (at ∷ []) v h;
  all = λ q. Contains-push row at;
  only = λ v h. ⊎_elim inl (λ e. inr (sym e, p)) (Contains-push_cases row at v h);
  rising = λ up below. (all_pairs_push (λ (a b : ℕ). a ≤ b) row at up (λ k d lt. below k d lt), All-push (λ (v : ℕ). v ≤ at) row at below (omega arith));
}

pub adds_then : (at : ℕ) (P Q R : Type 0) (a b c : List ℕ) → (R → P ⊎ Q) → (P → R) → (Q → R) → RowAdds at P a b → RowAdds at Q b c → RowAdds at R a c
adds_then at P Q R a b c split left right f g = record {
  kept = λ v h. g.kept v (f.kept v h);
  all = λ r. ⊎_elim (λ p. g.kept at (f.all p)) (λ q. g.all q) (split r);
  only = λ v h. ⊎_elim (λ k. ⊎_elim inl (λ p. inr (p.0, left p.1)) (f.only v k)) (λ q. inr (q.0, right q.1)) (g.only v h);
  rising = λ up below. let one = f.rising up below in g.rising one.0 one.1;
}

one_use : (way : LocUse → Bool) (us : List LocUse) (u : LocUse) (x : Loc) → HasUse way (us ++ u ∷ []) x → HasUse way us x ⊎ ((way u ≡ true) × (u.loc ≡ x))
one_use way us u x h = ⊎_elim
    (λ old. inl (record { found = h.found; there = old; same = h.same; so = h.so }))
    (λ e. inr (ap way e ∙ h.so, ap (λ (z : LocUse). z.loc) e ∙ h.same))
    (Contains-push_cases us u h.found h.there)

old_use : (way : LocUse → Bool) (us : List LocUse) (u : LocUse) (x : Loc) → HasUse way us x → HasUse way (us ++ u ∷ []) x
old_use way us u x h = record { found = h.found; there = Contains-append_left us (u ∷ []) h.found h.there; same = h.same; so = h.so }

new_use : (way : LocUse → Bool) (us : List LocUse) (u : LocUse) (x : Loc) → (way u ≡ true) × (u.loc ≡ x) → HasUse way (us ++ u ∷ []) x
new_use way us u x h = record { found = u; there = Contains-push us u; same = h.1; so = h.0 }

pub no_uses : (way : LocUse → Bool) (x : Loc) → HasUse way [] x → ⊥
no_uses way x h = let (k, lt, is) = h.there in omega arith

-- one use more
pub uses_more : (way : LocUse → Bool) (at : ℕ) (uses : List LocUse) (i : ℕ) (d : LocUse) (x : Loc) (a b c : List ℕ) → i < length uses
    → RowAdds at (HasUse way (take i uses) x) a b → RowAdds at ((way (get_or uses i d) ≡ true) × ((get_or uses i d).loc ≡ x)) b c
    → RowAdds at (HasUse way (take (i + 1) uses) x) a c
uses_more way at uses i d x a b c lt f g =
    let u = get_or uses i d in
    let more : take (i + 1) uses ≡ take i uses ++ u ∷ [] = take_more uses i d lt in
    rw more (adds_then at (HasUse way (take i uses) x) ((way u ≡ true) × (u.loc ≡ x)) (HasUse way (take i uses ++ u ∷ []) x) a b c
    (one_use way (take i uses) u x) (old_use way (take i uses) u x) (new_use way (take i uses) u x) f g)

-- the row of a location where one use writes
pub added_row : (at : ℕ) (u : LocUse) (x : Loc) (old new : List (Vec ℕ Global)) → u.writes ≡ true
    → row_at new (loc_number u.loc) ≡ row_at old (loc_number u.loc) ++ at ∷ [] → ((n : ℕ) → n ≢ loc_number u.loc → row_at new n ≡ row_at old n)
    → RowAdds at ((u.writes ≡ true) × (u.loc ≡ x)) (row_at old (loc_number x)) (row_at new (loc_number x))
added_row at u x old new on here others = elim (cases_eq (loc_number x) (loc_number u.loc)) [
  | inl e ↦
      let same : x ≡ u.loc = loc_injective x u.loc e in
      let is : row_at new (loc_number x) ≡ row_at old (loc_number x) ++ at ∷ [] = ap (row_at new) e ∙ (here ∙ ap (λ n. row_at old n ++ at ∷ []) (sym e)) in
      rw is (adds_one at ((u.writes ≡ true) × (u.loc ≡ x)) (row_at old (loc_number x)) (on, sym same))
  | inr ne ↦
      rw (others (loc_number x) ne) (adds_none at ((u.writes ≡ true) × (u.loc ≡ x)) (row_at old (loc_number x)) (λ p. ne (ap loc_number (sym p.1))))
]

pub skipped_row : (at : ℕ) (u : LocUse) (x : Loc) (row : List ℕ) → u.writes ≡ false → RowAdds at ((u.writes ≡ true) × (u.loc ≡ x)) row row
skipped_row at u x row off = adds_none at ((u.writes ≡ true) × (u.loc ≡ x)) row (λ p. let on = p.0 in cc)

pub use_added : (at : ℕ) (uses : List LocUse) (i : ℕ) (d : LocUse) (x : Loc) (first old new : List (Vec ℕ Global)) → i < length uses
    → (get_or uses i d).writes ≡ true
    → (n : ℕ) → n ≡ loc_number (get_or uses i d).loc → row_at new n ≡ row_at old n ++ at ∷ [] → ((m : ℕ) → m ≢ n → row_at new m ≡ row_at old m)
    → RowAdds at (HasUse (λ u. u.writes) (take i uses) x) (row_at first (loc_number x)) (row_at old (loc_number x))
    → RowAdds at (HasUse (λ u. u.writes) (take (i + 1) uses) x) (row_at first (loc_number x)) (row_at new (loc_number x))
use_added at uses i d x first old new lt on n is here others so_far =
    let u = get_or uses i d in
    let added = added_row at u x old new on (ap (row_at new) (sym is) ∙ (here ∙ ap (λ m. row_at old m ++ at ∷ []) is)) (λ m ne. others m (λ e. ne (e ∙ is)))
    in
    uses_more (λ v. v.writes) at uses i d x (row_at first (loc_number x)) (row_at old (loc_number x)) (row_at new (loc_number x)) lt so_far added

pub use_skipped : (at : ℕ) (uses : List LocUse) (i : ℕ) (d : LocUse) (x : Loc) (first old : List (Vec ℕ Global)) → i < length uses
    → (get_or uses i d).writes ≡ false
    → RowAdds at (HasUse (λ u. u.writes) (take i uses) x) (row_at first (loc_number x)) (row_at old (loc_number x))
    → RowAdds at (HasUse (λ u. u.writes) (take (i + 1) uses) x) (row_at first (loc_number x)) (row_at old (loc_number x))
use_skipped at uses i d x first old lt off so_far =
    uses_more (λ v. v.writes) at uses i d x (row_at first (loc_number x)) (row_at old (loc_number x)) (row_at old (loc_number x)) lt so_far
    (skipped_row at (get_or uses i d) x (row_at old (loc_number x)) off)

-- ---- all positions below a number

pub record UpTo (T : Rows) (x : Loc) (n : ℕ) (row : List ℕ) : Type 0 where
  pub rising : AllPairs (λ a b. a ≤ b) row
  pub below : All (λ v. v < n) row
  pub sound : (v : ℕ) → Contains row v → WritesIn T v x
  pub whole : (v : ℕ) → WritesIn T v x → v < n → Contains row v

pub upto_none : (T : Rows) (x : Loc) → UpTo T x 0 []
upto_none T x = record {
  rising = λ i j d less within. absurd (omega arith);
  below = λ k d lt. absurd (omega arith);
  sound = λ v (k, lt, is). absurd (omega arith);
  whole = λ v w lt. absurd (omega arith);
}

use_writes : (r : Option (Option (List LocUse))) (uses : List LocUse) (x : Loc) → uses ≡ row_in r → HasUse (λ u. u.writes) uses x
    → (us : List LocUse) × ((r ≡ Some (Some us)) × HasUse (λ u. u.writes) us x)
use_writes None uses x is h = absurd (no_uses (λ u. u.writes) x (rw is at h))
use_writes (Some None) uses x is h = absurd (no_uses (λ u. u.writes) x (rw is at h))
use_writes (Some (Some us)) uses x is h = (us, (refl, rw is at h))

same_uses : (a b : List LocUse) → Some (Some a) ≡ Some (Some b) → a ≡ b
same_uses a b e = cc

writes_use : (T : Rows) (v : ℕ) (uses : List LocUse) (x : Loc) → IsRowAt T v uses → WritesIn T v x → HasUse (λ u. u.writes) uses x
writes_use T v uses x is (us, (at, h)) =
    let same : uses ≡ us = is ∙ ap row_in at in
    rw same h

pub upto_more : (T : Rows) (x : Loc) (at : ℕ) (uses : List LocUse) (old new : List ℕ) → IsRowAt T at uses → UpTo T x at old
    → RowAdds at (HasUse (λ u. u.writes) uses x) old new → UpTo T x (at + 1) new
upto_more T x at uses old new is u adds =
    let rises = adds.rising u.rising (λ k d lt. let less = u.below k d lt in omega arith) in
    record {
      rising = rises.0;
      below = λ k d lt. let le = rises.1 k d lt in omega arith;
      sound = λ v h. ⊎_elim
          (λ was. u.sound v was)
          (λ p. let w = use_writes (slice_get T at) uses x is p.1 in subst (λ n. WritesIn T n x) (sym p.0) (w.0, w.1))
          (adds.only v h);
      whole = λ v w lt. elim (cases_lt v at) [
        | inl less ↦ adds.kept v (u.whole v w less)
        | inr more ↦
            let e : v ≡ at = omega arith in
            subst (λ n. Contains new n) (sym e) (adds.all (writes_use T at uses x is (subst (λ n. WritesIn T n x) e w)))
      ];
    }

pub upto_all : (T : Rows) (x : Loc) (n : ℕ) (row : List ℕ) → length T ≤ n → UpTo T x n row → AreWriters T x row
upto_all T x n row all u = record {
  rising = u.rising;
  exact = λ v. (u.sound v, λ w. u.whole v w (let lt = slice_get_within T v (Some w.0) w.1.0 in omega arith));
}
