-- Lists of values and their types.
use Rattle.std.proofs.Common.{◌≡◌, ℕ, zero, suc, ◌≤◌, ◌^◌, List, [], ◌∷◌, ◌++◌, map, reverse, take, drop, Option, None, IfSome, Some, length, slice_get, unwrap_or, All, refl, sym, ap, subst, arith, mod-lt}
use Rattle.std.proofs.lemmas.List.{reverse-append}
use Rattle.std.proofs.lemmas.List.Elements.{All-head, All-tail}
use Rattle.wasm_types.specs.declared.module.Value.{Value}
use Rattle.wasm_types.specs.declared.module.Value.TheVariants as value
use Rattle.wasm_types.specs.declared.module.ValType.{ValType}
use Rattle.wasm_types.specs.declared.module.ValType.TheVariants as type
use Rattle.wasm_types.specs.Subset.{IsInteger}
use Rattle.wasm_meaning.specs.Fits.{HasType, HaveTypes}
use Rattle.wasm_meaning.specs.Cells.{put}
use Rattle.wasm_meaning.specs.Operations.{value_in}
use Rattle.wasm_meaning.specs.Invoke.{zero_value}

pub some_same : {A : Type 0} {x y : A} → Some x ≡ Some y → x ≡ y
some_same e = cc

pub none_some : {A B : Type 0} {x : A} → None ≡ Some x → B
none_some e = absurd cc

pub if_some : {A : Type 0} (o : Option A) (x : A) (P : A → Type 0) → o ≡ Some x → IfSome o P → P x
if_some None x P e h = none_some e
if_some (Some y) x P e h = subst P (some_same e) h

-- ---- single values

pub value_in_fits : (t : ValType) (n : ℕ) → IsInteger t → HasType (value_in t n) t
value_in_fits type.I32 n i = (refl, mod-lt n {m = 2 ^ 32} (omega arith))
value_in_fits type.I64 n i = (refl, mod-lt n {m = 2 ^ 64} (omega arith))
value_in_fits type.F32 n i = absurd i
value_in_fits type.F64 n i = absurd i

pub zero_fits : (t : ValType) → IsInteger t → HasType (zero_value t) t
zero_fits type.I32 i = (refl, omega arith)
zero_fits type.I64 i = (refl, omega arith)
zero_fits type.F32 i = absurd i
zero_fits type.F64 i = absurd i

-- ---- lists

pub have_append : (vs ws : List Value) (ts us : List ValType) → HaveTypes vs ts → HaveTypes ws us → HaveTypes (vs ++ ws) (ts ++ us)
have_append [] ws [] us h g = g
have_append [] ws (t ∷ ts) us h g = absurd h
have_append (v ∷ vs) ws [] us h g = absurd h
have_append (v ∷ vs) ws (t ∷ ts) us h g = (h.0, have_append vs ws ts us h.1 g)

pub have_split : (vs : List Value) (ts us : List ValType) → HaveTypes vs (ts ++ us) → HaveTypes (take (length ts) vs) ts × HaveTypes (drop (length ts) vs) us
have_split vs [] us h = (tt, h)
have_split [] (t ∷ ts) us h = absurd h
have_split (v ∷ vs) (t ∷ ts) us h = let r = have_split vs ts us h.1 in ((h.0, r.0), r.1)

pub have_length : (vs : List Value) (ts : List ValType) → HaveTypes vs ts → length vs ≡ length ts
have_length [] [] h = refl
have_length [] (t ∷ ts) h = absurd h
have_length (v ∷ vs) [] h = absurd h
have_length (v ∷ vs) (t ∷ ts) h = ap suc (have_length vs ts h.1)

pub have_at : (vs : List Value) (ts : List ValType) (k : ℕ) (t : ValType) (d : Value) → HaveTypes vs ts → slice_get ts k ≡ Some t
    → HasType (unwrap_or (slice_get vs k) d) t
have_at vs [] k t d h e = absurd cc
have_at [] (u ∷ ts) k t d h e = absurd h
have_at (v ∷ vs) (u ∷ ts) zero t d h e = subst (HasType v) (some_same e) h.0
have_at (v ∷ vs) (u ∷ ts) (suc k) t d h e = have_at vs ts k t d h.1 e

pub have_set : (vs : List Value) (ts : List ValType) (k : ℕ) (t : ValType) (w : Value) → HaveTypes vs ts → slice_get ts k ≡ Some t → HasType w t
    → HaveTypes (put (value.I32 0) k w vs) ts
have_set vs [] k t w h e g = absurd cc
have_set [] (u ∷ ts) k t w h e g = absurd h
have_set (v ∷ vs) (u ∷ ts) zero t w h e g = (subst (HasType w) (sym (some_same e)) g, h.1)
have_set (v ∷ vs) (u ∷ ts) (suc k) t w h e g = (h.0, have_set vs ts k t w h.1 e g)

pub reverse_cons {ℓ} : {A : Type ℓ} → (x : A) (xs : List A) → reverse (x ∷ xs) ≡ reverse xs ++ x ∷ []
reverse_cons x xs = reverse-append (x ∷ []) xs

pub have_reverse : (vs : List Value) (ts : List ValType) → HaveTypes vs ts → HaveTypes (reverse vs) (reverse ts)
have_reverse [] [] h = tt
have_reverse [] (t ∷ ts) h = absurd h
have_reverse (v ∷ vs) [] h = absurd h
have_reverse (v ∷ vs) (t ∷ ts) h =
    subst (λ z. HaveTypes z (reverse (t ∷ ts))) (sym (reverse_cons v vs))
    (subst (λ z. HaveTypes (reverse vs ++ v ∷ []) z) (sym (reverse_cons t ts))
    (have_append (reverse vs) (v ∷ []) (reverse ts) (t ∷ []) (have_reverse vs ts h.1) (h.0, tt)))

pub zeros_fit : (ts : List ValType) → All IsInteger ts → HaveTypes (map zero_value ts) ts
zeros_fit [] all = tt
zeros_fit (t ∷ ts) all = (zero_fits t (All-head IsInteger t ts all), zeros_fit ts (All-tail IsInteger t ts all))

-- a list of at most one thing is its own reverse
pub reverse_few {ℓ} : {A : Type ℓ} → (xs : List A) → length xs ≤ 1 → reverse xs ≡ xs
reverse_few [] le = refl
reverse_few (x ∷ []) le = refl
reverse_few (x ∷ y ∷ xs) le = absurd (omega arith)

-- ---- by the number of operands

pub none_case : (P : List Value → Type 0) (vs : List Value) → HaveTypes vs [] → P [] → P vs
none_case P [] h p = p
none_case P (v ∷ vs) h p = absurd h

pub one_case : (P : List Value → Type 0) (vs : List Value) (t : ValType) → HaveTypes vs (t ∷ []) → ((v : Value) → HasType v t → P (v ∷ [])) → P vs
one_case P [] t h p = absurd h
one_case P (v ∷ []) t h p = p v h.0
one_case P (v ∷ w ∷ vs) t h p = absurd h.1

pub two_case : (P : List Value → Type 0) (vs : List Value) (t u : ValType) → HaveTypes vs (t ∷ u ∷ [])
    → ((v w : Value) → HasType v t → HasType w u → P (v ∷ w ∷ [])) → P vs
two_case P [] t u h p = absurd h
two_case P (v ∷ []) t u h p = absurd h.1
two_case P (v ∷ w ∷ []) t u h p = p v w h.0 h.1.0
two_case P (v ∷ w ∷ x ∷ vs) t u h p = absurd h.1.1

pub three_case : (P : List Value → Type 0) (vs : List Value) (t u k : ValType) → HaveTypes vs (t ∷ u ∷ k ∷ [])
    → ((v w x : Value) → HasType v t → HasType w u → HasType x k → P (v ∷ w ∷ x ∷ [])) → P vs
three_case P [] t u k h p = absurd h
three_case P (v ∷ []) t u k h p = absurd h.1
three_case P (v ∷ w ∷ []) t u k h p = absurd h.1.1
three_case P (v ∷ w ∷ x ∷ []) t u k h p = p v w x h.0 h.1.0 h.1.1.0
three_case P (v ∷ w ∷ x ∷ y ∷ vs) t u k h p = absurd h.1.1.1

-- there is a value on top
pub top_case : (P : List Value → Type 0) (vs : List Value) (t : ValType) (ts : List ValType) → HaveTypes vs (t ∷ ts)
    → ((v : Value) (ws : List Value) → HasType v t → HaveTypes ws ts → P (v ∷ ws)) → P vs
top_case P [] t ts h p = absurd h
top_case P (v ∷ vs) t ts h p = p v vs h.0 h.1
