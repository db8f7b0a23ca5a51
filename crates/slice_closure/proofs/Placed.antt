-- The places of an instruction's operands, by the names on the stack.
use Rattle.std.proofs.Common.{◌≡◌, ℕ, zero, suc, ◌-◌, get_or, ◌<◌, ◌≤◌, List, [], ◌∷◌, ◌++◌, Option, Some, None, map, reverse, take, length, refl, sym}
use Rattle.std.proofs.Common.{ap, ◌∙◌, arith}
use Rattle.std.specs.Prelude.{slice_get}
use Rattle.std.specs.Option.{option_map}
use Rattle.std.proofs.lemmas.List.{reverse-append, reverse-reverse, map-append, length-reverse, length-map, get_or-reverse}
use Rattle.std.proofs.lemmas.Option.{slice_get-map, slice_get_within, slice_get-get_or, get_or_from_slice_get}
use Rattle.wasm_types.specs.declared.module.ValType.{ValType}
use Rattle.wasm_types.specs.declared.place.Node.{Node}
use Rattle.wasm_types.specs.Actions.{Callees}
use Rattle.wasm_types.specs.Sites.{Site, Sites, IsSite, all_operands}
use Rattle.stack_names.specs.declared.place.Place.{Place}
use Rattle.stack_names.specs.Named.{operands_of, operands_in, place_of, placed, listed, listed_all}

-- ---- the first so many

pub front_get : {A : Type 0} (n : ℕ) (xs : List A) (k : ℕ) (x : A) → slice_get (take n xs) k ≡ Some x → (k < n) × (slice_get xs k ≡ Some x)
front_get zero xs k x e = absurd cc
front_get (suc n) [] k x e = absurd cc
front_get (suc n) (y ∷ xs) zero x e = (omega arith, e)
front_get (suc n) (y ∷ xs) (suc k) x e = let r = front_get n xs k x e in let lt = r.0 in (omega arith, r.1)

pub get_front : {A : Type 0} (n : ℕ) (xs : List A) (k : ℕ) (x : A) → k < n → slice_get xs k ≡ Some x → slice_get (take n xs) k ≡ Some x
get_front zero xs k x lt e = absurd (omega arith)
get_front (suc n) [] k x lt e = absurd cc
get_front (suc n) (y ∷ xs) zero x lt e = e
get_front (suc n) (y ∷ xs) (suc k) x lt e = get_front n xs k x (omega arith) e

pub front_long : {A : Type 0} (n : ℕ) (xs : List A) → n ≤ length xs → length (take n xs) ≡ n
front_long zero xs le = refl
front_long (suc n) [] le = absurd (omega arith)
front_long (suc n) (x ∷ xs) le = ap suc (front_long n xs (omega arith))

pub front_short : {A : Type 0} (n : ℕ) (xs : List A) → length (take n xs) ≤ n
front_short zero xs = omega arith
front_short (suc n) [] = omega arith
front_short (suc n) (x ∷ xs) = let le = front_short n xs in omega arith

-- what stands in a list turned round stands in the list
pub unreversed : {A : Type 0} (xs : List A) (k : ℕ) (x : A) → slice_get (reverse xs) k ≡ Some x → (i : ℕ) × (slice_get xs i ≡ Some x)
unreversed xs k x e =
    let lt : k < length xs = omega (arith, slice_get_within (reverse xs) k x e, length-reverse xs) in
    let i = length xs - 1 - k in
    let within : i < length xs = omega arith in
    (i, slice_get-get_or xs i x within ∙ ap Some (sym (get_or-reverse xs k x lt) ∙ get_or_from_slice_get (reverse xs) k x x e))

-- ---- places

map-reverse : (f : Node → Place) (xs : List Node) → reverse (map f xs) ≡ map f (reverse xs)
map-reverse f [] = refl
map-reverse f (x ∷ xs) =
    reverse-append (f x ∷ []) (map f xs) ∙ (ap (λ (ys : List Place). ys ++ f x ∷ []) (map-reverse f xs)
    ∙ sym (ap (map f) (reverse-append (x ∷ []) xs) ∙ map-append f (reverse xs) (x ∷ [])))

maker_of : (T : Node → ValType) (o : Option Node) (place : Place) → option_map (place_of T) o ≡ Some place → o ≡ Some place.maker
maker_of T None place e = absurd cc
maker_of T (Some n) place e = let same : place_of T n ≡ place = cc in ap (λ (q : Place). Some q.maker) same

module _ (T : Node → ValType) (ns : List Node) where
  -- counted from the top
  tops : reverse (placed T ns) ≡ map (place_of T) ns
  tops = reverse-reverse (map (place_of T) ns)

  pub top_maker : (k : ℕ) (place : Place) → slice_get (reverse (placed T ns)) k ≡ Some place → slice_get ns k ≡ Some place.maker
  top_maker k place e = maker_of T (slice_get ns k) place (sym (slice_get-map (place_of T) ns k) ∙ (ap (λ (ps : List Place). slice_get ps k) (sym tops) ∙ e))

  pub maker_top : (k : ℕ) (n : Node) → slice_get ns k ≡ Some n → slice_get (reverse (placed T ns)) k ≡ Some (place_of T n)
  maker_top k n e = ap (λ (ps : List Place). slice_get ps k) tops ∙ (slice_get-map (place_of T) ns k ∙ ap (option_map (place_of T)) e)

  -- counted from the deepest
  pub deep_maker : (k : ℕ) (place : Place) → slice_get (placed T ns) k ≡ Some place → slice_get (reverse ns) k ≡ Some place.maker
  deep_maker k place e = maker_of T (slice_get (reverse ns) k) place (sym (slice_get-map (place_of T) (reverse ns) k)
      ∙ (ap (λ (ps : List Place). slice_get ps k) (sym (map-reverse (place_of T) ns)) ∙ e))

  pub maker_deep : (k : ℕ) (n : Node) → slice_get (reverse ns) k ≡ Some n → slice_get (placed T ns) k ≡ Some (place_of T n)
  maker_deep k n e = ap (λ (ps : List Place). slice_get ps k) (map-reverse (place_of T) ns)
      ∙ (slice_get-map (place_of T) (reverse ns) k ∙ ap (option_map (place_of T)) e)

  pub placed_long : length (placed T ns) ≡ length ns
  placed_long = length-reverse (map (place_of T) ns) ∙ length-map ns (place_of T)

-- all operands of a live position
pub operands_are : (cs : Callees) (T : Node → ValType) (S : Sites) (p : ℕ) (s : Site) → IsSite S p s
    → operands_in (listed_all cs T S) p ≡ placed T (take (all_operands cs s.around s.head) s.names)
operands_are cs T S p s is = ap operands_of (slice_get-map (option_map (listed cs T)) S p ∙ ap (option_map (option_map (listed cs T))) is)

-- a read, counted from the top
pub top_read : (ps : List Place) (k : ℕ) (d : Place) → k < length ps → slice_get (reverse ps) k ≡ Some (get_or ps (length ps - 1 - k) d)
top_read ps k d lt =
    let within : k < length (reverse ps) = omega (arith, length-reverse ps) in
    slice_get-get_or (reverse ps) k d within ∙ ap Some (get_or-reverse ps k d lt)
