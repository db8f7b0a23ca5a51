-- A text spells at most one sequence of instructions.
use Rattle.std.proofs.Common.{◌≡◌, ◌==◌, ℕ, ◌⊎◌, ◌<◌, ◌≤◌, inl, inr, List, [], ◌∷◌, ◌++◌, Option, Some, None, refl, sym, ap, subst, ◌∙◌, append_assoc, arith}
use Rattle.std.specs.Prelude.{if◌then◌else◌}
use Rattle.std.proofs.lemmas.Bool.{cases_lt}
use Rattle.std.proofs.lemmas.Bool.Decides.{nat_tests}
use Rattle.wasm_types.specs.declared.module.ValType.{ValType}
use Rattle.wasm_types.specs.declared.module.ValType.TheVariants as type
use Rattle.wasm_types.specs.declared.instr.Instr.{Instr}
use Rattle.wasm_types.specs.Code.{Code, done, one, block, repeat, branch, nest}
use Rattle.wasm_types.specs.Parts.{Then}
use Rattle.wasm_types.specs.Types.{kind_byte}
use Rattle.wasm_types.specs.Plain.{Immediates, never, opcode, immediates, SpellsImmediates, SpellsPlain}
use Rattle.wasm_types.specs.Grammar.{Encloses, HasArms, IsEnder, SpellsCode}
use Rattle.text_laws.proofs.Once.{after, regroup}
use Rattle.text_laws.proofs.OpcodeLemmas.{shape, shape_of, told, one_plain}

abbrev pub first : List ℕ → ℕ
first [] = 0
first (b ∷ bs) = b

-- ---- block types

abbrev kind_of : ℕ → Option ValType
kind_of n = if n == 0x7F then Some type.I32 else (if n == 0x7E then Some type.I64 else (if n == 0x7D then Some type.F32 else (if n == 0x7C then Some type.F64 else None)))

kind_back : (k : Option ValType) → kind_of (kind_byte k) ≡ k
kind_back None = refl
kind_back (Some type.I32) = refl
kind_back (Some type.I64) = refl
kind_back (Some type.F32) = refl
kind_back (Some type.F64) = refl

one_kind : (k l : Option ValType) → kind_byte k ≡ kind_byte l → k ≡ l
one_kind k l e = sym (kind_back k) ∙ ap kind_of e ∙ kind_back l

-- ---- plain instructions

pub no_text : (t : Immediates) (text : List ℕ) → shape t ≡ 10 → SpellsImmediates text t → ⊥
no_text never text e p = p
no_text _ text e p = absurd (omega (arith, e))

low_shape : (n : ℕ) → 2 ≤ n → n < 12 → shape_of n ≡ 10
low_shape n le lt = grind (arith, nat_tests)

-- the first byte of a plain instruction is none that opens or ends others
pub plain_opcode : (i : Instr) (a : List ℕ) → SpellsPlain a i → (opcode i < 2) ⊎ (12 ≤ opcode i)
plain_opcode i a p =
    elim (cases_lt (opcode i) 2) [
      | inl low ↦ inl low
      | inr le ↦ elim (cases_lt (opcode i) 12) [
        | inl lt ↦ absurd (no_text (immediates i) p.rest ((told i p.rest p.spelled).1 ∙ low_shape (opcode i) le lt) p.spelled)
        | inr high ↦ inr high
      ]
    ]

pub plain_leads : (i : Instr) (a x : List ℕ) → SpellsPlain a i → (first (a ++ x) < 2) ⊎ (12 ≤ first (a ++ x))
plain_leads i a x p = subst (λ (t : List ℕ). (first (t ++ x) < 2) ⊎ (12 ≤ first (t ++ x))) (sym p.parts) (plain_opcode i a p)

-- ---- sequences

abbrev pub Leads : Code → ℕ → ℕ → Type 0
Leads done ender op = op ≡ ender
Leads (one i rest) ender op = (op < 2) ⊎ (12 ≤ op)
Leads (block k m rest) ender op = op ≡ 2
Leads (repeat k m rest) ender op = op ≡ 3
Leads (branch k m n rest) ender op = op ≡ 4

leads_back : (P : ℕ → Type 0) (a f b : List ℕ) (op : ℕ) (rest : List ℕ) (x : List ℕ) → a ≡ f ++ b → f ≡ op ∷ rest → P op → P (first (a ++ x))
leads_back P a f b op rest x p q h = subst (λ (t : List ℕ). P (first (t ++ x))) (sym (p ∙ ap (λ (t : List ℕ). t ++ b) q)) h

arms_first : (k : Option ValType) (P Q : List ℕ → Type 0) (a : List ℕ) → HasArms k P Q a → (rest : List ℕ) × (a ≡ 4 ∷ rest)
arms_first k P Q a h = elim h.others [ inl l ↦ (_, l.0) | inr r ↦ (_, r.2) ]

pub leads : (c : Code) (a : List ℕ) (e : ℕ) (x : List ℕ) → SpellsCode c a → Leads c e (first (a ++ e ∷ x))
leads done a e x p = subst (λ (t : List ℕ). first (t ++ e ∷ x) ≡ e) (sym p) refl
leads (one i rest) a e x p = subst (λ (t : List ℕ). (first t < 2) ⊎ (12 ≤ first t)) (sym (ap (λ (t : List ℕ). t ++ e ∷ x) p.parts ∙ append_assoc p.front p.back (e ∷ x))) (plain_leads i p.front (p.back ++ e ∷ x) p.first)
leads (block k m rest) a e x p = leads_back (λ op. op ≡ 2) a p.front p.back 2 _ (e ∷ x) p.parts p.first.parts refl
leads (repeat k m rest) a e x p = leads_back (λ op. op ≡ 3) a p.front p.back 3 _ (e ∷ x) p.parts p.first.parts refl
leads (branch k m n rest) a e x p = let h = arms_first _ _ _ _ p.first in leads_back (λ op. op ≡ 4) a p.front p.back 4 h.0 (e ∷ x) p.parts h.1 refl

-- two openings of one kind
opens : (op : ℕ) (k l : Option ValType) (P Q : List ℕ → Type 0) (a b x y : List ℕ) (p : Encloses op k P a) (q : Encloses op l Q b) → a ++ x ≡ b ++ y
    → (k ≡ l) × (p.inner ++ 0x0B ∷ x ≡ q.inner ++ 0x0B ∷ y)
opens op k l P Q a b x y p q e =
    let h : op ∷ kind_byte k ∷ (p.inner ++ 0x0B ∷ [] ++ x) ≡ op ∷ kind_byte l ∷ (q.inner ++ 0x0B ∷ [] ++ y) = ap (λ (t : List ℕ). t ++ x) (sym p.parts) ∙ e ∙ ap (λ (t : List ℕ). t ++ y) q.parts in
    (one_kind k l cc, sym (append_assoc p.inner (0x0B ∷ []) x) ∙ (let g : p.inner ++ 0x0B ∷ [] ++ x ≡ q.inner ++ 0x0B ∷ [] ++ y = cc in g) ∙ append_assoc q.inner (0x0B ∷ []) y)

abbrev Apart : Type 0 → (List ℕ → Type 0) → (List ℕ → Type 0) → Type 0
Apart Same M N = (u v x y : List ℕ) (e f : ℕ) → M u → N v → IsEnder e → IsEnder f → u ++ e ∷ x ≡ v ++ f ∷ y → Same × (u ≡ v)

tail_cons : (k : ℕ) (u w x a : List ℕ) (g : ℕ) → a ≡ 0x04 ∷ k ∷ u ++ g ∷ w → a ++ x ≡ 0x04 ∷ k ∷ (u ++ g ∷ (w ++ x))
tail_cons k u w x a g p = ap (λ (t : List ℕ). t ++ x) p ∙ ap (λ (t : List ℕ). 0x04 ∷ k ∷ t) (append_assoc u (g ∷ w) x)

-- the first arms are one, and what follows them
firsts : {Same : Type 0} (M N : List ℕ → Type 0) (k l : Option ValType) (u v w z x y a b : List ℕ) (g h : ℕ) → Apart Same M N → M u → N v → IsEnder g
    → IsEnder h
    → a ≡ 0x04 ∷ kind_byte k ∷ u ++ g ∷ w → b ≡ 0x04 ∷ kind_byte l ∷ v ++ h ∷ z → a ++ x ≡ b ++ y → (k ≡ l) × Same × (u ≡ v) × (g ∷ (w ++ x) ≡ h ∷ (z ++ y))
firsts M N k l u v w z x y a b g h law mu nv eg eh p q e =
    let whole : 0x04 ∷ kind_byte k ∷ (u ++ g ∷ (w ++ x)) ≡ 0x04 ∷ kind_byte l ∷ (v ++ h ∷ (z ++ y)) = sym (tail_cons (kind_byte k) u w x a g p) ∙ e ∙ tail_cons (kind_byte l) v z y b h q in
    let inside : u ++ g ∷ (w ++ x) ≡ v ++ h ∷ (z ++ y) = cc in
    let r = law u v (w ++ x) (z ++ y) g h mu nv eg eh inside in
    (one_kind k l cc, r.0, r.1, after u v (g ∷ (w ++ x)) (h ∷ (z ++ y)) r.1 inside)

arms_one : {SameFirst SameSecond : Type 0} (k l : Option ValType) (M N O T : List ℕ → Type 0) (a b x y u v : List ℕ) → Apart SameFirst M N
    → Apart SameSecond O T → M u → N v
    → ((a ≡ 0x04 ∷ kind_byte k ∷ u ++ 0x0B ∷ []) × O []) ⊎ ((no : List ℕ) × O no × (a ≡ 0x04 ∷ kind_byte k ∷ u ++ 0x05 ∷ (no ++ 0x0B ∷ [])))
    → ((b ≡ 0x04 ∷ kind_byte l ∷ v ++ 0x0B ∷ []) × T []) ⊎ ((no : List ℕ) × T no × (b ≡ 0x04 ∷ kind_byte l ∷ v ++ 0x05 ∷ (no ++ 0x0B ∷ [])))
    → a ++ x ≡ b ++ y → (k ≡ l) × SameFirst × SameSecond × (a ≡ b)
arms_one k l M N O T a b x y u v hm ho mu nv (inl p) (inl q) e =
    let r = firsts M N k l u v [] [] x y a b 0x0B 0x0B hm mu nv (inl refl) (inl refl) p.0 q.0 e in
    let s = ho [] [] [] [] 0x0B 0x0B p.1 q.1 (inl refl) (inl refl) refl in
    (r.0, r.1, s.0, p.0 ∙ (let g : 0x04 ∷ kind_byte k ∷ u ++ 0x0B ∷ [] ≡ 0x04 ∷ kind_byte l ∷ v ++ 0x0B ∷ [] = cc (r.0, r.2) in g) ∙ sym q.0)
arms_one k l M N O T a b x y u v hm ho mu nv (inl p) (inr q) e =
    let r = firsts M N k l u v [] (q.0 ++ 0x0B ∷ []) x y a b 0x0B 0x05 hm mu nv (inl refl) (inr refl) p.0 q.2 e in
    absurd (omega (arith, ap first r.3))
arms_one k l M N O T a b x y u v hm ho mu nv (inr p) (inl q) e =
    let r = firsts M N k l u v (p.0 ++ 0x0B ∷ []) [] x y a b 0x05 0x0B hm mu nv (inr refl) (inl refl) p.2 q.0 e in
    absurd (omega (arith, ap first r.3))
arms_one k l M N O T a b x y u v hm ho mu nv (inr p) (inr q) e =
    let r = firsts M N k l u v (p.0 ++ 0x0B ∷ []) (q.0 ++ 0x0B ∷ []) x y a b 0x05 0x05 hm mu nv (inr refl) (inr refl) p.2 q.2 e in
    let rest : p.0 ++ 0x0B ∷ [] ++ x ≡ q.0 ++ 0x0B ∷ [] ++ y = cc (r.3) in
    let s = ho p.0 q.0 x y 0x0B 0x0B p.1 q.1 (inl refl) (inl refl) (sym (append_assoc p.0 (0x0B ∷ []) x) ∙ rest ∙ append_assoc q.0 (0x0B ∷ []) y) in
    (r.0, r.1, s.0, p.2 ∙ (let g : 0x04 ∷ kind_byte k ∷ u ++ 0x05 ∷ (p.0 ++ 0x0B ∷ []) ≡ 0x04 ∷ kind_byte l ∷ v ++ 0x05 ∷ (q.0 ++ 0x0B ∷ []) = cc (r.0, r.2, s.1) in g) ∙ sym q.2)

pub one_code : (c d : Code) (a b x y : List ℕ) (e f : ℕ) → SpellsCode c a → SpellsCode d b → IsEnder e → IsEnder f → a ++ e ∷ x ≡ b ++ f ∷ y → (c ≡ d) × (a ≡ b)
one_code done done a b x y e f p q ee ff eq = (refl, p ∙ sym q)
one_code done (one j s) a b x y e f p q ee ff eq = absurd (grind (arith, leads done a e x p, leads (one j s) b f y q, ap first eq, ee, ff))
one_code done (block l n s) a b x y e f p q ee ff eq = absurd (grind (arith, leads done a e x p, leads (block l n s) b f y q, ap first eq, ee, ff))
one_code done (repeat l n s) a b x y e f p q ee ff eq = absurd (grind (arith, leads done a e x p, leads (repeat l n s) b f y q, ap first eq, ee, ff))
one_code done (branch l n t s) a b x y e f p q ee ff eq = absurd (grind (arith, leads done a e x p, leads (branch l n t s) b f y q, ap first eq, ee, ff))
one_code (one i r) done a b x y e f p q ee ff eq = absurd (grind (arith, leads (one i r) a e x p, leads done b f y q, ap first eq, ee, ff))
one_code (one i r) (one j s) a b x y e f p q ee ff eq =
    let whole : p.front ++ (p.back ++ e ∷ x) ≡ q.front ++ (q.back ++ f ∷ y) = regroup a b _ _ _ _ _ _ p.parts q.parts eq in
    let head = one_plain p.front q.front _ _ i j p.first q.first whole in
    let tail = one_code r s p.back q.back x y e f p.second q.second ee ff (after p.front q.front _ _ head.0 whole) in
    (cc (head.1, tail.0), cc (p.parts, q.parts, head.0, tail.1))
one_code (one i r) (block l n s) a b x y e f p q ee ff eq = absurd (grind (arith, leads (one i r) a e x p, leads (block l n s) b f y q, ap first eq, ee, ff))
one_code (one i r) (repeat l n s) a b x y e f p q ee ff eq = absurd (grind (arith, leads (one i r) a e x p, leads (repeat l n s) b f y q, ap first eq, ee, ff))
one_code (one i r) (branch l n t s) a b x y e f p q ee ff eq =
    absurd (grind (arith, leads (one i r) a e x p, leads (branch l n t s) b f y q, ap first eq, ee, ff))
one_code (block k m r) done a b x y e f p q ee ff eq = absurd (grind (arith, leads (block k m r) a e x p, leads done b f y q, ap first eq, ee, ff))
one_code (block k m r) (one j s) a b x y e f p q ee ff eq = absurd (grind (arith, leads (block k m r) a e x p, leads (one j s) b f y q, ap first eq, ee, ff))
one_code (block k m r) (block l n s) a b x y e f p q ee ff eq =
    let whole : p.front ++ (p.back ++ e ∷ x) ≡ q.front ++ (q.back ++ f ∷ y) = regroup a b _ _ _ _ _ _ p.parts q.parts eq in
    let opened = opens _ k l _ _ _ _ _ _ p.first q.first whole in
    let inside = one_code m n p.first.inner q.first.inner _ _ 0x0B 0x0B p.first.contents q.first.contents (inl refl) (inl refl) opened.1 in
    let fronts : p.front ≡ q.front = cc (p.first.parts, q.first.parts, opened.0, inside.1) in
    let tail = one_code r s p.back q.back x y e f p.second q.second ee ff (after p.front q.front _ _ fronts whole) in
    (cc (opened.0, inside.0, tail.0), cc (p.parts, q.parts, fronts, tail.1))
one_code (block k m r) (repeat l n s) a b x y e f p q ee ff eq =
    absurd (grind (arith, leads (block k m r) a e x p, leads (repeat l n s) b f y q, ap first eq, ee, ff))
one_code (block k m r) (branch l n t s) a b x y e f p q ee ff eq =
    absurd (grind (arith, leads (block k m r) a e x p, leads (branch l n t s) b f y q, ap first eq, ee, ff))
one_code (repeat k m r) done a b x y e f p q ee ff eq = absurd (grind (arith, leads (repeat k m r) a e x p, leads done b f y q, ap first eq, ee, ff))
one_code (repeat k m r) (one j s) a b x y e f p q ee ff eq = absurd (grind (arith, leads (repeat k m r) a e x p, leads (one j s) b f y q, ap first eq, ee, ff))
one_code (repeat k m r) (block l n s) a b x y e f p q ee ff eq =
    absurd (grind (arith, leads (repeat k m r) a e x p, leads (block l n s) b f y q, ap first eq, ee, ff))
one_code (repeat k m r) (repeat l n s) a b x y e f p q ee ff eq =
    let whole : p.front ++ (p.back ++ e ∷ x) ≡ q.front ++ (q.back ++ f ∷ y) = regroup a b _ _ _ _ _ _ p.parts q.parts eq in
    let opened = opens _ k l _ _ _ _ _ _ p.first q.first whole in
    let inside = one_code m n p.first.inner q.first.inner _ _ 0x0B 0x0B p.first.contents q.first.contents (inl refl) (inl refl) opened.1 in
    let fronts : p.front ≡ q.front = cc (p.first.parts, q.first.parts, opened.0, inside.1) in
    let tail = one_code r s p.back q.back x y e f p.second q.second ee ff (after p.front q.front _ _ fronts whole) in
    (cc (opened.0, inside.0, tail.0), cc (p.parts, q.parts, fronts, tail.1))
one_code (repeat k m r) (branch l n t s) a b x y e f p q ee ff eq =
    absurd (grind (arith, leads (repeat k m r) a e x p, leads (branch l n t s) b f y q, ap first eq, ee, ff))
one_code (branch k m o r) done a b x y e f p q ee ff eq = absurd (grind (arith, leads (branch k m o r) a e x p, leads done b f y q, ap first eq, ee, ff))
one_code (branch k m o r) (one j s) a b x y e f p q ee ff eq =
    absurd (grind (arith, leads (branch k m o r) a e x p, leads (one j s) b f y q, ap first eq, ee, ff))
one_code (branch k m o r) (block l n s) a b x y e f p q ee ff eq =
    absurd (grind (arith, leads (branch k m o r) a e x p, leads (block l n s) b f y q, ap first eq, ee, ff))
one_code (branch k m o r) (repeat l n s) a b x y e f p q ee ff eq =
    absurd (grind (arith, leads (branch k m o r) a e x p, leads (repeat l n s) b f y q, ap first eq, ee, ff))
one_code (branch k m o r) (branch l n t s) a b x y e f p q ee ff eq =
    let whole : p.front ++ (p.back ++ e ∷ x) ≡ q.front ++ (q.back ++ f ∷ y) = regroup a b _ _ _ _ _ _ p.parts q.parts eq in
    let arms = arms_one k l (SpellsCode m) (SpellsCode n) (SpellsCode o) (SpellsCode t) p.front q.front _ _ p.first.yes q.first.yes (one_code m n) (one_code o t) p.first.first q.first.first p.first.others q.first.others whole in
    let tail = one_code r s p.back q.back x y e f p.second q.second ee ff (after p.front q.front _ _ arms.3 whole) in
    (cc (arms.0, arms.1, arms.2, tail.0), cc (p.parts, q.parts, arms.3, tail.1))

-- ---- the first instruction of a sequence, and the rest

abbrev pub SpellsHead : Code → List ℕ → Type 0
SpellsHead done text = ⊥
SpellsHead (one i rest) text = SpellsPlain text i
SpellsHead (block k inner rest) text = Encloses 0x02 k (SpellsCode inner) text
SpellsHead (repeat k inner rest) text = Encloses 0x03 k (SpellsCode inner) text
SpellsHead (branch k first second rest) text = HasArms k (SpellsCode first) (SpellsCode second) text

abbrev pub tail_of : Code → Code
tail_of done = done
tail_of (one i rest) = rest
tail_of (block k inner rest) = rest
tail_of (repeat k inner rest) = rest
tail_of (branch k first second rest) = rest

pub split : (c : Code) (a : List ℕ) → (c ≡ done → ⊥) → SpellsCode c a → Then (SpellsHead c) (SpellsCode (tail_of c)) a
split done a some p = absurd (some refl)
split (one i rest) a some p = p
split (block k inner rest) a some p = p
split (repeat k inner rest) a some p = p
split (branch k one_arm other rest) a some p = p

pub nest-tail_of : (c : Code) → nest (tail_of c) ≤ nest c
nest-tail_of done = omega arith
nest-tail_of (one i rest) = omega arith
nest-tail_of (block k inner rest) = omega arith
nest-tail_of (repeat k inner rest) = omega arith
nest-tail_of (branch k one_arm other rest) = omega arith

pub head_cons : (c : Code) (a : List ℕ) → SpellsHead c a → (op : ℕ) × (rest : List ℕ) × (a ≡ op ∷ rest)
head_cons done a p = absurd p
head_cons (one i rest) a p = (opcode i, p.rest, p.parts)
head_cons (block k inner rest) a p = (_, _, p.parts)
head_cons (repeat k inner rest) a p = (_, _, p.parts)
head_cons (branch k one_arm other rest) a p = let h = arms_first _ _ _ _ p in (4, h.0, h.1)

pub head_leads : (c : Code) (a x : List ℕ) → SpellsHead c a → Leads c 0x0B (first (a ++ x))
head_leads done a x p = absurd p
head_leads (one i rest) a x p = plain_leads i a x p
head_leads (block k inner rest) a x p = subst (λ (t : List ℕ). first (t ++ x) ≡ 2) (sym p.parts) refl
head_leads (repeat k inner rest) a x p = subst (λ (t : List ℕ). first (t ++ x) ≡ 3) (sym p.parts) refl
head_leads (branch k one_arm other rest) a x p = let h = arms_first _ _ _ _ p in subst (λ (t : List ℕ). first (t ++ x) ≡ 4) (sym h.1) refl

-- the texts of two first instructions are one, whatever follows
pub one_head : (c d : Code) (a b x y : List ℕ) → SpellsHead c a → SpellsHead d b → a ++ x ≡ b ++ y → a ≡ b
one_head done d a b x y p q e = absurd p
one_head (one i r) done a b x y p q e = absurd q
one_head (one i r) (one j s) a b x y p q e = (one_plain a b x y i j p q e).0
one_head (one i r) (block l n s) a b x y p q e = absurd (grind (arith, head_leads (one i r) a x p, head_leads (block l n s) b y q, ap first e))
one_head (one i r) (repeat l n s) a b x y p q e = absurd (grind (arith, head_leads (one i r) a x p, head_leads (repeat l n s) b y q, ap first e))
one_head (one i r) (branch l n t s) a b x y p q e = absurd (grind (arith, head_leads (one i r) a x p, head_leads (branch l n t s) b y q, ap first e))
one_head (block k m r) done a b x y p q e = absurd q
one_head (block k m r) (one j s) a b x y p q e = absurd (grind (arith, head_leads (block k m r) a x p, head_leads (one j s) b y q, ap first e))
one_head (block k m r) (block l n s) a b x y p q e =
    let opened = opens _ k l _ _ _ _ _ _ p q e in
    let inside = one_code m n p.inner q.inner _ _ 0x0B 0x0B p.contents q.contents (inl refl) (inl refl) opened.1 in
    cc (p.parts, q.parts, opened.0, inside.1)
one_head (block k m r) (repeat l n s) a b x y p q e = absurd (grind (arith, head_leads (block k m r) a x p, head_leads (repeat l n s) b y q, ap first e))
one_head (block k m r) (branch l n t s) a b x y p q e = absurd (grind (arith, head_leads (block k m r) a x p, head_leads (branch l n t s) b y q, ap first e))
one_head (repeat k m r) done a b x y p q e = absurd q
one_head (repeat k m r) (one j s) a b x y p q e = absurd (grind (arith, head_leads (repeat k m r) a x p, head_leads (one j s) b y q, ap first e))
one_head (repeat k m r) (block l n s) a b x y p q e = absurd (grind (arith, head_leads (repeat k m r) a x p, head_leads (block l n s) b y q, ap first e))
one_head (repeat k m r) (repeat l n s) a b x y p q e =
    let opened = opens _ k l _ _ _ _ _ _ p q e in
    let inside = one_code m n p.inner q.inner _ _ 0x0B 0x0B p.contents q.contents (inl refl) (inl refl) opened.1 in
    cc (p.parts, q.parts, opened.0, inside.1)
one_head (repeat k m r) (branch l n t s) a b x y p q e = absurd (grind (arith, head_leads (repeat k m r) a x p, head_leads (branch l n t s) b y q, ap first e))
one_head (branch k m o r) done a b x y p q e = absurd q
one_head (branch k m o r) (one j s) a b x y p q e = absurd (grind (arith, head_leads (branch k m o r) a x p, head_leads (one j s) b y q, ap first e))
one_head (branch k m o r) (block l n s) a b x y p q e = absurd (grind (arith, head_leads (branch k m o r) a x p, head_leads (block l n s) b y q, ap first e))
one_head (branch k m o r) (repeat l n s) a b x y p q e = absurd (grind (arith, head_leads (branch k m o r) a x p, head_leads (repeat l n s) b y q, ap first e))
one_head (branch k m o r) (branch l n t s) a b x y p q e = (arms_one k l (SpellsCode m) (SpellsCode n) (SpellsCode o) (SpellsCode t) a b _ _ p.yes q.yes (one_code m n) (one_code o t) p.first q.first p.others q.others e).3
