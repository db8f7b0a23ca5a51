-- Texts made of parts spell one thing.
use Rattle.std.proofs.Common.{◌≡◌, ℕ, List, [], ◌∷◌, ◌++◌, length, refl, sym, ap, subst, ◌∙◌, append_assoc, arith}
use Rattle.wasm_types.specs.Numbers.{SpellsU32}
use Rattle.text_laws.proofs.NumberLemmas.{one_unsigned}
use Rattle.wasm_types.specs.Parts.{Then, Both, Each, Counted}

-- no text of a value begins a text of another
abbrev pub IsOnce : {A : Type 0} → (List ℕ → A → Type 0) → Type 0
IsOnce {A} P = (a b x y : List ℕ) (m n : A) → P a m → P b n → a ++ x ≡ b ++ y → (a ≡ b) × (m ≡ n)

cancel : (a x y : List ℕ) → a ++ x ≡ a ++ y → x ≡ y
cancel [] x y h = h
cancel (c ∷ cs) x y h = cancel cs x y cc

-- the same front taken from equal texts
pub after : (a b x y : List ℕ) → a ≡ b → a ++ x ≡ b ++ y → x ≡ y
after a b x y e h = cancel a x y (subst (λ (c : List ℕ). a ++ x ≡ c ++ y) (sym e) h)

pub regroup : (a b fa ba fb bb x y : List ℕ) → a ≡ fa ++ ba → b ≡ fb ++ bb → a ++ x ≡ b ++ y → fa ++ (ba ++ x) ≡ fb ++ (bb ++ y)
regroup a b fa ba fb bb x y p q h = sym (ap (λ (t : List ℕ). t ++ x) p ∙ append_assoc fa ba x) ∙ h ∙ ap (λ (t : List ℕ). t ++ y) q ∙ append_assoc fb bb y

-- two parts, of which the second may hang on the first
pub once_then : {A B : Type 0} (P : List ℕ → A → Type 0) (Q : List ℕ → B → Type 0) (a b x y : List ℕ) (m n : A) (k l : B) → IsOnce P
    → ((c d : List ℕ) → m ≡ n → Q c k → Q d l → c ++ x ≡ d ++ y → (c ≡ d) × (k ≡ l))
    → Then (λ t. P t m) (λ t. Q t k) a → Then (λ t. P t n) (λ t. Q t l) b → a ++ x ≡ b ++ y → (a ≡ b) × (m ≡ n) × (k ≡ l)
once_then P Q a b x y m n k l p q s t e =
    let g : s.front ++ (s.back ++ x) ≡ t.front ++ (t.back ++ y) = regroup a b s.front s.back t.front t.back x y s.parts t.parts e in
    let f = p s.front t.front (s.back ++ x) (t.back ++ y) m n s.first t.first g in
    let r = q s.back t.back f.1 s.second t.second (after s.front t.front (s.back ++ x) (t.back ++ y) f.0 g) in
    (s.parts ∙ ap (λ (u : List ℕ). u ++ s.back) f.0 ∙ ap (λ (u : List ℕ). t.front ++ u) r.0 ∙ sym t.parts, f.1, r.1)

pub pair_is : {A B : Type 0} (m n : A × B) → m.0 ≡ n.0 → m.1 ≡ n.1 → m ≡ n
pair_is {A} {B} m n e f = let g : A → A × B = λ v. (v, m.1) in let h : B → A × B = λ v. (n.0, v) in ap g e ∙ ap h f

pub once_both : {A B : Type 0} (P : List ℕ → A → Type 0) (Q : List ℕ → B → Type 0) → IsOnce P → IsOnce Q → IsOnce (Both P Q)
once_both P Q p q a b x y m n s t e =
    let r = once_then P Q a b x y m.0 n.0 m.1 n.1 p (λ c d same u v h. q c d x y m.1 n.1 u v h) s t e in
    (r.0, pair_is m n r.1 r.2)

pub once_each : {A : Type 0} (P : List ℕ → A → Type 0) → IsOnce P → (a b x y : List ℕ) (m n : List A) → length m ≡ length n → Each P a m → Each P b n
    → a ++ x ≡ b ++ y → (a ≡ b) × (m ≡ n)
once_each P p a b x y [] [] same s t e = (s ∙ sym t, refl)
once_each P p a b x y [] (l ∷ ls) same s t e = absurd (omega arith)
once_each P p a b x y (k ∷ ks) [] same s t e = absurd (omega arith)
once_each P p a b x y (k ∷ ks) (l ∷ ls) same s t e =
    let r = once_then P (Each P) a b x y k l ks ls p (λ c d is u v h. once_each P p c d x y ks ls (omega arith) u v h) s t e in
    (r.0, cc (r.1, r.2))

pub once_u32 : IsOnce SpellsU32
once_u32 a b x y m n p q e = one_unsigned 4294967296 a b x y m n p q e

pub once_counted : {A : Type 0} (P : List ℕ → A → Type 0) → IsOnce P → IsOnce (Counted P)
once_counted P p a b x y m n s t e =
    let r = once_then SpellsU32 (Each P) a b x y (length m) (length n) m n once_u32 (λ c d same u v h. once_each P p c d x y m n same u v h) s t e in
    (r.0, r.2)
