-- Texts that stand at a place.
use Rattle.std.proofs.Common.{◌≡◌, ℕ, ◌+◌, ◌<◌, ◌≤◌, List, [], ◌∷◌, ◌++◌, length, get_or, drop, drop-cons, length-append, add-one, refl, sym, ap, subst, ◌∙◌, append_assoc, arith}
use Rattle.std.proofs.lemmas.List.{append-nil}
use Rattle.wasm_types.specs.Standing.{Stands, NoneStands}
use Rattle.wasm_types.specs.Numbers.{SpellsU32}
use Rattle.wasm_types.specs.Parts.{Then, Both, Each, EachOf, Counted}
use Rattle.text_laws.proofs.Once.{IsOnce, after, once_u32}

pub next : (bytes : List ℕ) (at : ℕ) → at < length bytes → drop at bytes ≡ get_or bytes at 0 ∷ drop (at + 1) bytes
next bytes at lt = rw (drop-cons bytes at 0 lt, add-one) refl

-- ---- two parts, of which the second may hang on the first

pub then_stands : {A B C : Type 0} (P : List ℕ → A → Type 0) (Q : List ℕ → B → Type 0) (R : List ℕ → C → Type 0) (bytes : List ℕ) (start mid end : ℕ) (v : A) (w : B) (u : C)
    → ((text : List ℕ) → Then (λ t. P t v) (λ t. Q t w) text → R text u) → Stands P bytes start mid v → Stands Q bytes mid end w → Stands R bytes start end u
then_stands P Q R bytes start mid end v w u whole p q = record {
  text = p.text ++ q.text;
  spelled = whole (p.text ++ q.text) (record { front = p.text; back = q.text; parts = refl; first = p.spelled; second = q.spelled });
  here = p.here ∙ ap (λ (t : List ℕ). p.text ++ t) q.here ∙ sym (append_assoc p.text q.text (drop end bytes));
  within = q.within;
}

pub both_stands : {A B : Type 0} (P : List ℕ → A → Type 0) (Q : List ℕ → B → Type 0) (bytes : List ℕ) (start mid end : ℕ) (v : A) (w : B)
    → Stands P bytes start mid v → Stands Q bytes mid end w → Stands (Both P Q) bytes start end (v, w)
both_stands P Q bytes start mid end v w p q = then_stands P Q (Both P Q) bytes start mid end v w (v, w) (λ text h. h) p q

pub none_both_first : {A B : Type 0} (P : List ℕ → A → Type 0) (Q : List ℕ → B → Type 0) (bytes : List ℕ) (start : ℕ) → NoneStands P bytes start
    → NoneStands (Both P Q) bytes start
none_both_first P Q bytes start none text rest v here s =
    none s.front (s.back ++ rest) v.0 (here ∙ ap (λ (t : List ℕ). t ++ rest) s.parts ∙ append_assoc s.front s.back rest) s.first

-- what follows the first part, which is known
pub behind_first : {A : Type 0} (P : List ℕ → A → Type 0) (bytes : List ℕ) (start mid : ℕ) (v w : A) (text front back rest : List ℕ) → IsOnce P
    → Stands P bytes start mid v
    → drop start bytes ≡ text ++ rest → text ≡ front ++ back → P front w → (v ≡ w) × (drop mid bytes ≡ back ++ rest)
behind_first P bytes start mid v w text front back rest once p here parts first =
    let e : p.text ++ drop mid bytes ≡ front ++ (back ++ rest) = sym p.here ∙ here ∙ ap (λ (t : List ℕ). t ++ rest) parts ∙ append_assoc front back rest in
    let r = once p.text front (drop mid bytes) (back ++ rest) v w p.spelled first e in
    (r.1, after p.text front (drop mid bytes) (back ++ rest) r.0 e)

pub none_both_second : {A B : Type 0} (P : List ℕ → A → Type 0) (Q : List ℕ → B → Type 0) (bytes : List ℕ) (start mid : ℕ) (v : A) → IsOnce P
    → Stands P bytes start mid v → NoneStands Q bytes mid
    → NoneStands (Both P Q) bytes start
none_both_second P Q bytes start mid v once p none text rest w here s =
    none s.back rest w.1 (behind_first P bytes start mid v w.0 text s.front s.back rest once p here s.parts s.first).1 s.second

-- ---- lists

pub each_one_more : {A : Type 0} (P : List ℕ → A → Type 0) (a b : List ℕ) (xs : List A) (x : A) → Each P a xs → P b x → Each P (a ++ b) (xs ++ x ∷ [])
each_one_more P a b [] x p q = record { front = b; back = []; parts = ap (λ (t : List ℕ). t ++ b) p ∙ sym (append-nil b); first = q; second = refl }
each_one_more P a b (y ∷ ys) x p q = record {
  front = p.front;
  back = p.back ++ b;
  parts = ap (λ (t : List ℕ). t ++ b) p.parts ∙ append_assoc p.front p.back b;
  first = p.first;
  second = each_one_more P p.back b ys x p.second q;
}

pub no_items_yet : {A : Type 0} (P : List ℕ → A → Type 0) (bytes : List ℕ) (at : ℕ) → at ≤ length bytes → Stands (EachOf P 0) bytes at at []
no_items_yet P bytes at le = record { text = []; spelled = (refl, refl); here = refl; within = le }

pub one_more_stands : {A : Type 0} (P : List ℕ → A → Type 0) (bytes : List ℕ) (start mid end count : ℕ) (xs : List A) (x : A)
    → Stands (EachOf P count) bytes start mid xs → Stands P bytes mid end x
    → Stands (EachOf P (count + 1)) bytes start end (xs ++ x ∷ [])
one_more_stands P bytes start mid end count xs x p q = record {
  text = p.text ++ q.text;
  spelled = (each_one_more P p.text q.text xs x p.spelled.0 q.spelled, omega (arith, length-append xs (x ∷ []), p.spelled.1));
  here = p.here ∙ ap (λ (t : List ℕ). p.text ++ t) q.here ∙ sym (append_assoc p.text q.text (drop end bytes));
  within = q.within;
}

pub none_of_more : {A : Type 0} (P : List ℕ → A → Type 0) (bytes : List ℕ) (mid end count : ℕ) (x : A) → IsOnce P → Stands P bytes mid end x
    → NoneStands (EachOf P count) bytes end → NoneStands (EachOf P (count + 1)) bytes mid
none_of_more P bytes mid end count x once q none text rest [] here s = absurd (omega (arith, s.1))
none_of_more P bytes mid end count x once q none text rest (y ∷ ys) here s =
    none s.0.back rest ys (behind_first P bytes mid end x y text s.0.front s.0.back rest once q here s.0.parts s.0.first).1 (s.0.second, omega (arith, s.1))

pub none_of_any : {A : Type 0} (P : List ℕ → A → Type 0) (bytes : List ℕ) (mid count : ℕ) → 0 < count → NoneStands P bytes mid
    → NoneStands (EachOf P count) bytes mid
none_of_any P bytes mid count some none text rest [] here s = absurd (omega (arith, s.1))
none_of_any P bytes mid count some none text rest (y ∷ ys) here s =
    none s.0.front (s.0.back ++ rest) y (here ∙ ap (λ (t : List ℕ). t ++ rest) s.0.parts ∙ append_assoc s.0.front s.0.back rest) s.0.first

pub counted_stands : {A : Type 0} (P : List ℕ → A → Type 0) (bytes : List ℕ) (start mid end count : ℕ) (xs : List A)
    → Stands SpellsU32 bytes start mid count → Stands (EachOf P count) bytes mid end xs → Stands (Counted P) bytes start end xs
counted_stands P bytes start mid end count xs p q = record {
  text = p.text ++ q.text;
  spelled = record { front = p.text; back = q.text; parts = refl; first = subst (λ (n : ℕ). SpellsU32 p.text n) (sym q.spelled.1) p.spelled; second = q.spelled.0 };
  here = p.here ∙ ap (λ (t : List ℕ). p.text ++ t) q.here ∙ sym (append_assoc p.text q.text (drop end bytes));
  within = q.within;
}

pub none_counted_first : {A : Type 0} (P : List ℕ → A → Type 0) (bytes : List ℕ) (start : ℕ) → NoneStands SpellsU32 bytes start
    → NoneStands (Counted P) bytes start
none_counted_first P bytes start none text rest xs here s =
    none s.front (s.back ++ rest) (length xs) (here ∙ ap (λ (t : List ℕ). t ++ rest) s.parts ∙ append_assoc s.front s.back rest) s.first

pub none_counted_second : {A : Type 0} (P : List ℕ → A → Type 0) (bytes : List ℕ) (start mid count : ℕ) → Stands SpellsU32 bytes start mid count
    → NoneStands (EachOf P count) bytes mid → NoneStands (Counted P) bytes start
none_counted_second P bytes start mid count p none text rest xs here s =
    let r = behind_first SpellsU32 bytes start mid count (length xs) text s.front s.back rest once_u32 p here s.parts s.first in
    none s.back rest xs r.1 (s.second, sym r.0)

-- a list that is told by another number of items
pub none_of_same : {A : Type 0} (P : List ℕ → A → Type 0) (bytes : List ℕ) (at j k : ℕ) → j ≡ k → NoneStands (EachOf P j) bytes at
    → NoneStands (EachOf P k) bytes at
none_of_same P bytes at j k e none text rest v here s = none text rest v here (s.0, s.1 ∙ sym e)
