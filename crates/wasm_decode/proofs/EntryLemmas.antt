-- The entries of a vector, one after another.
use Rattle.std.proofs.Common.{◌≡◌, ℕ, zero, suc, ◌+◌, ◌-◌, ◌<◌, List, [], ◌∷◌, ◌++◌, length, Option, Some, None, Result, Ok, Err, refl, sym, subst, ◌∙◌, arith}
use Rattle.std.specs.Prelude.{All, IsErrAnd}
use Rattle.std.specs.List.{slice_get}
use Rattle.std.proofs.lemmas.Option.{slice_get_within}
use Rattle.std.proofs.lemmas.List.Elements.{All-nil, All-push}
use Rattle.wasm_types.specs.Standing.{Stands, NoneStands}
use Rattle.wasm_types.specs.Numbers.{SpellsU32}
use Rattle.wasm_types.specs.Parts.{EachOf, Counted}
use Rattle.text_laws.proofs.Once.{IsOnce}
use Rattle.text_laws.proofs.StandingLemmas.{no_items_yet, one_more_stands, none_of_more, none_of_any, none_of_same, counted_stands, none_counted_second}
use Rattle.code_decode.specs.declared.outcome.Stop.{Stop}
use Rattle.code_decode.specs.declared.outcome.Stop.TheVariants as stop
use Rattle.wasm_decode.specs.declared.list.Entries.{Entries}
use Rattle.wasm_decode.specs.Entries.{Rule, IsEntry, ReadsEntry, FirstNot, AreEntries, AddsEntry, ReadsEntries}

-- what `?` passes on
pub passed : {A E : Type 0} (P : Result A E → Type 0) (r : Result A E) (e : E) → IsErrAnd r (λ d. d ≡ e) → P (Err e) → P r
passed P (Ok v) e is h = absurd is
passed {A} {E} P (Err d) e is h = subst (λ (x : E). P (Err x)) (sym is) h

-- ---- items by their numbers

pub get-within : {A : Type 0} (xs ys : List A) (n : ℕ) → n < length xs → slice_get (xs ++ ys) n ≡ slice_get xs n
get-within [] ys n lt = absurd (omega arith)
get-within (x ∷ xs) ys zero lt = refl
get-within (x ∷ xs) ys (suc n) lt = get-within xs ys n (omega arith)

pub get-front : {A : Type 0} (xs ys : List A) (n : ℕ) (v : A) → slice_get xs n ≡ Some v → slice_get (xs ++ ys) n ≡ Some v
get-front xs ys n v h = get-within xs ys n (slice_get_within xs n v h) ∙ h

pub get-next : {A : Type 0} (xs : List A) (v : A) (rest : List A) (n : ℕ) → n ≡ length xs → slice_get (xs ++ v ∷ rest) n ≡ Some v
get-next [] v rest zero e = refl
get-next [] v rest (suc n) e = absurd (omega arith)
get-next (x ∷ xs) v rest zero e = absurd (omega arith)
get-next (x ∷ xs) v rest (suc n) e = get-next xs v rest n (omega arith)

pub all-get : {A : Type 0} (P : A → Type 0) (xs : List A) (n : ℕ) (v : A) → All P xs → slice_get xs n ≡ Some v → P v
all-get P [] n v h e = absurd cc
all-get P (x ∷ xs) zero v h e = subst P (let i : x ≡ v = cc in i) (h 0 x (omega arith))
all-get P (x ∷ xs) (suc n) v h e = all-get P xs n v (λ k d lt. h (suc k) d (omega arith)) e

-- ---- one more entry

pub first_still : {A : Type 0} (P : A → Type 0) (xs : List A) (v : A) (at : ℕ) → FirstNot P xs at → FirstNot P (xs ++ v ∷ []) at
first_still P xs v at f = let lt = slice_get_within xs at f.entry f.there in record {
  entry = f.entry;
  there = get-front xs (v ∷ []) at f.entry f.there;
  not_so = f.not_so;
  before = λ j x below e. f.before j x below (sym (get-within xs (v ∷ []) j (omega arith)) ∙ e);
}

pub first_now : {A : Type 0} (P : A → Type 0) (xs : List A) (v : A) (at : ℕ) → at ≡ length xs → All P xs → (P v → ⊥) → FirstNot P (xs ++ v ∷ []) at
first_now P xs v at e all not_so = record {
  entry = v;
  there = get-next xs v [] at e;
  not_so = not_so;
  before = λ j x below g. all-get P xs j x all (sym (get-within xs (v ∷ []) j (omega arith)) ∙ g);
}

pub added : {A : Type 0} (P : A → Type 0) (xs : List A) (v : A) (number : ℕ) (items : List A) (deep : Option ℕ) (entry : Option A) (new : Entries A)
    → number ≡ length xs → AreEntries P items deep xs → IsEntry P entry v → AddsEntry deep entry items number new → AreEntries P new.items new.deep
    (xs ++ v ∷ [])
added P xs v number items (Some at) entry new len are is h = subst (λ (d : Option ℕ). AreEntries P new.items d (xs ++ v ∷ [])) (sym h.1)
    (first_still P xs v at are)
added P xs v number items None (Some x) new len are is h =
    subst (λ (d : Option ℕ). AreEntries P new.items d (xs ++ v ∷ [])) (sym h.1) (h.0 ∙ cc (are.0, is.0), All-push P xs v are.1 is.1)
added P xs v number items None None new len are is h = subst (λ (d : Option ℕ). AreEntries P new.items d (xs ++ v ∷ [])) (sym h.1)
    (first_now P xs v number len are.1 is)

-- ---- the vector

-- what was read of it
pub record SoFar {A : Type 0} (Spelled : List ℕ → A → Type 0) (Shallow : A → Type 0) (bytes : List ℕ) (start place k : ℕ) (entries : Entries A) : Type 0 where
  pub xs : List A
  pub stands : Stands (EachOf Spelled k) bytes start place xs
  pub are : AreEntries Shallow entries.items entries.deep xs

pub begins : {A : Type 0} (P : Rule A) (S : A → Type 0) (bytes : List ℕ) (at start count : ℕ) (entries : Entries A) → Stands SpellsU32 bytes at start count
    → entries.items ≡ [] → entries.deep ≡ None → SoFar P S bytes start start 0 entries
begins P S bytes at start count entries s e d = record {
  xs = [];
  stands = no_items_yet P bytes start s.within;
  are = subst (λ (o : Option ℕ). AreEntries S entries.items o []) (sym d) (e, All-nil S);
}

pub goes_on : {A : Type 0} (P : Rule A) (S : A → Type 0) (bytes : List ℕ) (start place next k : ℕ) (old new : Entries A) (entry : Option A) (v : A)
    → SoFar P S bytes start place k old → Stands P bytes place next v → IsEntry S entry v
    → AddsEntry old.deep entry old.items k new → SoFar P S bytes start next (k + 1) new
goes_on P S bytes start place next k old new entry v f s is h = record {
  xs = f.xs ++ v ∷ [];
  stands = one_more_stands P bytes start place next k f.xs v f.stands s;
  are = added S f.xs v k old.items old.deep entry new (sym f.stands.spelled.1) f.are is h;
}

pub goes_back : {A : Type 0} (P : Rule A) (bytes : List ℕ) (start place next k count : ℕ) (v : A) → IsOnce P → k < count → Stands P bytes place next v
    → (NoneStands (EachOf P (count - k)) bytes place → NoneStands (EachOf P count) bytes start) → NoneStands (EachOf P (count - (k + 1))) bytes next
    → NoneStands (EachOf P count) bytes start
goes_back P bytes start place next k count v once lt s back none =
    back (none_of_same P bytes place (count - (k + 1) + 1) (count - k) (omega arith) (none_of_more P bytes place next (count - (k + 1)) v once s none))

pub ends : {A : Type 0} (P : Rule A) (S : A → Type 0) (bytes : List ℕ) (at start place count k : ℕ) (entries : Entries A)
    → Stands SpellsU32 bytes at start count → k ≡ count → SoFar P S bytes start place k entries
    → (xs : List A) × Stands (Counted P) bytes at place xs × AreEntries S entries.items entries.deep xs
ends P S bytes at start place count k entries s e f =
    (f.xs, counted_stands P bytes at start place count f.xs s (subst (λ (n : ℕ). Stands (EachOf P n) bytes start place f.xs) e f.stands), f.are)

pub stops : {A : Type 0} (P : Rule A) (S : A → Type 0) (bytes : List ℕ) (at start place count k : ℕ) (e : Stop) → Stands SpellsU32 bytes at start count
    → k < count
    → (NoneStands (EachOf P (count - k)) bytes place → NoneStands (EachOf P count) bytes start) → ReadsEntry P S bytes place (Err e)
    → ReadsEntries P S bytes at (Err e)
stops P S bytes at start place count k stop.No s lt back none = none_counted_second P bytes at start count s
    (back (none_of_any P bytes place (count - k) (omega arith) none))
stops P S bytes at start place count k stop.Memory s lt back none = tt
