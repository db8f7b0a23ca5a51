-- Arguments are counted from the first one, which lies deepest. So lists of operands, the top first, are read the other way round.
use Rattle.std.proofs.Common.{◌≡◌, ℕ, zero, suc, ◌≤◌, ◌<◌, ◌⊎◌, inl, inr, List, [], ◌∷◌, ◌++◌, reverse, Bool, Some, None, length, slice_get, refl, ap, ◌∙◌, arith}
use Rattle.std.proofs.lemmas.List.{reverse-append, length-reverse}
use Rattle.wasm_types.specs.declared.module.Value.{Value}
use Rattle.wasm_types.specs.declared.module.Value.TheVariants as value
use Rattle.flow_laws.proofs.Closed.{Matches}
use Rattle.wasm_types.specs.declared.place.Node.{Node}
use Rattle.wasm_meaning.specs.State.{arg}

pub less_or : (k n : ℕ) → (k < n) ⊎ (n ≤ k)
less_or k zero = inr (omega arith)
less_or zero (suc n) = inl (omega arith)
less_or (suc k) (suc n) = step (less_or k n)
  where
    step : (k < n) ⊎ (n ≤ k) → (suc k < suc n) ⊎ (suc n ≤ suc k)
    step (inl a) = inl (omega arith)
    step (inr a) = inr (omega arith)

reverse-first : {A : Type 0} (x : A) (xs : List A) → reverse (x ∷ xs) ≡ reverse xs ++ (x ∷ [])
reverse-first x xs = reverse-append (x ∷ []) xs

match_both : (M : Node → Bool) (a b : List Node) (v v' w w' : List Value) → Matches M a v v' → Matches M b w w' → Matches M (a ++ b) (v ++ w) (v' ++ w')
match_both M [] b [] [] w w' m m' = m'
match_both M [] b [] (x' ∷ v') w w' m m' = absurd m
match_both M [] b (x ∷ v) v' w w' m m' = absurd m
match_both M (d ∷ a) b [] v' w w' m m' = absurd m
match_both M (d ∷ a) b (x ∷ v) [] w w' m m' = absurd m
match_both M (d ∷ a) b (x ∷ v) (x' ∷ v') w w' m m' = (m.0, match_both M a b v v' w w' m.1 m')

pub match_reverse : (M : Node → Bool) (names : List Node) (vs vs' : List Value) → Matches M names vs vs' → Matches M (reverse names) (reverse vs) (reverse vs')
match_reverse M [] [] [] m = tt
match_reverse M [] [] (v' ∷ vs') m = absurd m
match_reverse M [] (v ∷ vs) vs' m = absurd m
match_reverse M (d ∷ names) [] vs' m = absurd m
match_reverse M (d ∷ names) (v ∷ vs) [] m = absurd m
match_reverse M (d ∷ names) (v ∷ vs) (v' ∷ vs') m =
    rw (reverse-first d names, reverse-first v vs, reverse-first v' vs')
    (match_both M (reverse names) (d ∷ []) (reverse vs) (reverse vs') (v ∷ []) (v' ∷ []) (match_reverse M names vs vs' m.1) (m.0, tt))

none_of : {A : Type 0} (d : Node) → None ≡ Some d → A
none_of d e = absurd (grind arith)

get_end : (xs : List Node) (x : Node) (k : ℕ) (d : Node) → slice_get (xs ++ (x ∷ [])) k ≡ Some d → (slice_get xs k ≡ Some d) ⊎ (Some x ≡ Some d)
get_end [] x zero d e = inr e
get_end [] x (suc k) d e = none_of d e
get_end (y ∷ xs) x zero d e = inl e
get_end (y ∷ xs) x (suc k) d e = get_end xs x k d e

-- what stands in a list turned round stands in the list
pub record StandsIn (xs : List Node) (d : Node) : Type 0 where
  pub place : ℕ
  pub is : slice_get xs place ≡ Some d

pub get_reverse : (xs : List Node) (k : ℕ) (d : Node) → slice_get (reverse xs) k ≡ Some d → StandsIn xs d
get_reverse [] k d e = none_of d e
get_reverse (x ∷ xs) k d e = go (λ a. get_reverse xs k d a) (get_end (reverse xs) x k d (rw (reverse-first x xs) at e))
  where
    go : (slice_get (reverse xs) k ≡ Some d → StandsIn xs d) → (slice_get (reverse xs) k ≡ Some d) ⊎ (Some x ≡ Some d) → StandsIn (x ∷ xs) d
    go f (inl a) = let s = f a in record { place = suc s.place; is = s.is }
    go f (inr a) = record { place = 0; is = a }

pub arg_past : (vs : List Value) (k : ℕ) → length vs ≤ k → arg vs k ≡ value.I32 0
arg_past [] k le = refl
arg_past (v ∷ vs) zero le = absurd (omega arith)
arg_past (v ∷ vs) (suc k) le = arg_past vs k (omega arith)

pub arg_past_all : (vs : List Value) (k : ℕ) → length vs ≤ k → arg (reverse vs) k ≡ value.I32 0
arg_past_all vs k le = arg_past (reverse vs) k (omega (arith, length-reverse vs))

arg_front : (xs ys : List Value) (k : ℕ) → k < length xs → arg (xs ++ ys) k ≡ arg xs k
arg_front [] ys k lt = absurd (omega arith)
arg_front (x ∷ xs) ys zero lt = refl
arg_front (x ∷ xs) ys (suc k) lt = arg_front xs ys k (omega arith)

arg_end : (xs : List Value) (y : Value) (k : ℕ) → length xs ≡ k → arg (xs ++ (y ∷ [])) k ≡ y
arg_end [] y zero l = refl
arg_end [] y (suc k) l = absurd (omega arith)
arg_end (x ∷ xs) y zero l = absurd (omega arith)
arg_end (x ∷ xs) y (suc k) l = arg_end xs y k (omega arith)

-- below an index on top lie the arguments
pub arg_below : (i : Value) (vs : List Value) (k : ℕ) → k < length vs → arg (reverse (i ∷ vs)) k ≡ arg (reverse vs) k
arg_below i vs k lt = ap (λ z. arg z k) (reverse-first i vs) ∙ arg_front (reverse vs) (i ∷ []) k (omega (arith, length-reverse vs))

pub arg_index : (i : Value) (vs : List Value) (n : ℕ) → length vs ≡ n → arg (reverse (i ∷ vs)) n ≡ i
arg_index i vs n l = ap (λ z. arg z n) (reverse-first i vs) ∙ arg_end (reverse vs) i n (length-reverse vs ∙ l)
