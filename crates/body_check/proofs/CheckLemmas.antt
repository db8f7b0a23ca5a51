-- Sequences, an instruction at a time.
use Rattle.std.proofs.Common.{◌≡◌, ◌↔◌, Bool, true, false, List, [], ◌∷◌, ◌++◌, map, Option, Result, Ok, Err, IfOk, IsTrue, refl, sym, ap, ◌∙◌, subst}
use Rattle.std.proofs.lemmas.List.{reverse-append}
use Rattle.wasm_types.specs.declared.module.ValType.{ValType}
use Rattle.wasm_types.specs.declared.module.ValType.TheVariants.{I32}
use Rattle.wasm_types.specs.declared.module.NoMemory.{NoMemory}
use Rattle.wasm_types.specs.declared.instr.Instr.{Instr, Block', Loop', If'}
use Rattle.wasm_types.specs.declared.instr.Instr.TheVariants.{Block, Loop, If}
use Rattle.wasm_types.specs.Code.{Code, done, one, block, repeat, branch, onto, code_of_row, code_of, is_plain}
use Rattle.wasm_types.specs.Typing.{Context}
use Rattle.wasm_types.specs.Validity.{values_of, Passes, Leads}
use Rattle.wasm_types.proofs.CodeLemmas.{onto-block, onto-loop, onto-if, onto-one, code-next}
use Rattle.body_check.specs.declared.stack.Stack.{Stack}
use Rattle.body_check.specs.Labels.{labels_of}
use Rattle.body_check.specs.Stacks.{Stands, Exact, Fails, Follows, Pops, Pushes, IsBare}
use Rattle.body_check.proofs.StackLemmas.{follows-as, After, follows-then, bare-empty, bare-nothing}

pub ruleset steps = (onto-block, onto-loop, onto-if)

-- ---- a sequence begins with an instruction

abbrev pub Step : Context → List (List ValType) → Instr → List ValType → List ValType → Type 0
Step c ls i s s' = Leads c ls (onto i done) s s'

-- from the instruction on, and from what stands behind it on
pub leads-split : (c : Context) (ls : List (List ValType)) (i : Instr) (rest : Code) (s s' : List ValType) → Leads c ls (onto i rest) s s'
    → After (Step c ls i) (Leads c ls rest) s s'
unfolding onto code_of_row
leads-split c ls (Block' k m row) rest s s' h = (values_of k ++ s, (h.0, refl), h.1)
leads-split c ls (Loop' k m row) rest s s' h = (values_of k ++ s, (h.0, refl), h.1)
leads-split c ls (If' k m first n second) rest s s' h = (values_of k ++ h.0, (h.0, h.1, h.2, h.3, refl), h.4)
leads-split c ls _ rest s s' h = (h.0, (h.0, h.1, refl), h.2)

pub leads-join : (c : Context) (ls : List (List ValType)) (i : Instr) (rest : Code) (s s' : List ValType) → After (Step c ls i) (Leads c ls rest) s s'
    → Leads c ls (onto i rest) s s'
unfolding onto code_of_row
leads-join c ls (Block' k m row) rest s s' h = (h.1.0, subst (λ z. Leads c ls rest z s') (sym h.1.1) h.2)
leads-join c ls (Loop' k m row) rest s s' h = (h.1.0, subst (λ z. Leads c ls rest z s') (sym h.1.1) h.2)
leads-join c ls (If' k m first n second) rest s s' h = (h.1.0, h.1.1, h.1.2, h.1.3, subst (λ z. Leads c ls rest z s') (sym h.1.4) h.2)
leads-join c ls _ rest s s' h = (h.1.0, h.1.1, subst (λ z. Leads c ls rest z s') (sym h.1.2) h.2)

pub code-follows : (c : Context) (ls : List (List ValType)) (i : Instr) (rest : Code) (a b d : Stack) (ok : Bool) → Exact a (Step c ls i) b
    → Follows b (Leads c ls rest) ok d → Follows a (Leads c ls (onto i rest)) ok d
code-follows c ls i rest a b d ok e f = follows-as a d (After (Step c ls i) (Leads c ls rest)) (Leads c ls (onto i rest)) ok
    (λ s s' h. leads-join c ls i rest s s' h) (λ s s' h. leads-split c ls i rest s s' h)
    (follows-then a b d (Step c ls i) (Leads c ls rest) ok e f)

pub code-fails : (c : Context) (ls : List (List ValType)) (i : Instr) (rest : Code) (a : Stack) → Fails a (Step c ls i) → Fails a (Leads c ls (onto i rest))
code-fails c ls i rest a f = λ s s' st h. let h = leads-split c ls i rest s s' h in f s h.0 st h.1

pub done-follows : (c : Context) (ls : List (List ValType)) (a : Stack) → Exact a (Leads c ls done) a
done-follows c ls a = record { onto = λ s s' st r. subst (Stands a) r st; from = λ s' st. (s', st, refl) }

-- ---- what holds others

pub block-step : (c : Context) (ls : List (List ValType)) (i : Instr) (k : Option ValType) (inner : List Instr) (a b : Stack) → i ≡ Block k inner
    → Leads c (values_of k ∷ ls) (code_of inner) [] (values_of k) → Exact a (Pushes (values_of k)) b → Exact a (Step c ls i) b
block-step c ls i k inner a b is valid e = subst (λ (z : Code). Exact a (Leads c ls z) b) (sym (ap (λ z. onto z done) is ∙ onto-block k inner done))
    (follows-as a b (Pushes (values_of k)) (Leads c ls (block k (code_of inner) done)) true (λ s s' r. (valid, sym r)) (λ s s' r. sym r.1) e)

pub block-fails : (c : Context) (ls : List (List ValType)) (i : Instr) (k : Option ValType) (inner : List Instr) (a : Stack) → i ≡ Block k inner
    → (Leads c (values_of k ∷ ls) (code_of inner) [] (values_of k) → ⊥) → Fails a (Step c ls i)
block-fails c ls i k inner a is invalid =
    subst (λ (z : Code). Fails a (Leads c ls z)) (sym (ap (λ z. onto z done) is ∙ onto-block k inner done)) (λ s s' st r. invalid r.0)

pub loop-step : (c : Context) (ls : List (List ValType)) (i : Instr) (k : Option ValType) (inner : List Instr) (a b : Stack) → i ≡ Loop k inner
    → Leads c ([] ∷ ls) (code_of inner) [] (values_of k) → Exact a (Pushes (values_of k)) b → Exact a (Step c ls i) b
loop-step c ls i k inner a b is valid e = subst (λ (z : Code). Exact a (Leads c ls z) b) (sym (ap (λ z. onto z done) is ∙ onto-loop k inner done))
    (follows-as a b (Pushes (values_of k)) (Leads c ls (repeat k (code_of inner) done)) true (λ s s' r. (valid, sym r)) (λ s s' r. sym r.1) e)

pub loop-fails : (c : Context) (ls : List (List ValType)) (i : Instr) (k : Option ValType) (inner : List Instr) (a : Stack) → i ≡ Loop k inner
    → (Leads c ([] ∷ ls) (code_of inner) [] (values_of k) → ⊥) → Fails a (Step c ls i)
loop-fails c ls i k inner a is invalid =
    subst (λ (z : Code). Fails a (Leads c ls z)) (sym (ap (λ z. onto z done) is ∙ onto-loop k inner done)) (λ s s' st r. invalid r.0)

pub if-step : (c : Context) (ls : List (List ValType)) (i : Instr) (k : Option ValType) (first second : List Instr) (a b d : Stack)
    → i ≡ If k first second → Exact a (Pops (I32 ∷ [])) b
    → Leads c (values_of k ∷ ls) (code_of first) [] (values_of k) → Leads c (values_of k ∷ ls) (code_of second) [] (values_of k) → Exact b (Pushes (values_of k)) d → Exact a (Step c ls i) d
if-step c ls i k first second a b d is p valid also e =
    subst (λ (z : Code). Exact a (Leads c ls z) d) (sym (ap (λ z. onto z done) is ∙ onto-if k first second done))
    (follows-as a d (After (Pops (I32 ∷ [])) (Pushes (values_of k))) (Leads c ls (branch k (code_of first) (code_of second) done)) true
    (λ s s' r. (r.0, r.1, valid, also, sym r.2)) (λ s s' r. (r.0, r.1, sym r.4))
    (follows-then a b d (Pops (I32 ∷ [])) (Pushes (values_of k)) true p e))

if-as : (c : Context) (ls : List (List ValType)) (i : Instr) (k : Option ValType) (first second : List Instr) (a : Stack) → i ≡ If k first second
    → Fails a (Leads c ls (branch k (code_of first) (code_of second) done)) → Fails a (Step c ls i)
if-as c ls i k first second a is f = subst (λ (z : Code). Fails a (Leads c ls z)) (sym (ap (λ z. onto z done) is ∙ onto-if k first second done)) f

pub if-no-number : (c : Context) (ls : List (List ValType)) (i : Instr) (k : Option ValType) (first second : List Instr) (a : Stack)
    → i ≡ If k first second → Fails a (Pops (I32 ∷ [])) → Fails a (Step c ls i)
if-no-number c ls i k first second a is f = if-as c ls i k first second a is (λ s s' st r. f s r.0 st r.1)

pub if-no-first : (c : Context) (ls : List (List ValType)) (i : Instr) (k : Option ValType) (first second : List Instr) (a : Stack) → i ≡ If k first second
    → (Leads c (values_of k ∷ ls) (code_of first) [] (values_of k) → ⊥) → Fails a (Step c ls i)
if-no-first c ls i k first second a is f = if-as c ls i k first second a is (λ s s' st r. f r.2)

pub if-no-second : (c : Context) (ls : List (List ValType)) (i : Instr) (k : Option ValType) (first second : List Instr) (a : Stack) → i ≡ If k first second
    → (Leads c (values_of k ∷ ls) (code_of second) [] (values_of k) → ⊥) → Fails a (Step c ls i)
if-no-second c ls i k first second a is f = if-as c ls i k first second a is (λ s s' st r. f r.3)

pub plain-step : (c : Context) (ls : List (List ValType)) (i : Instr) (a b : Stack) (r : Result Bool NoMemory) → is_plain i ≡ true
    → IfOk r (λ ok. Follows a (Passes c ls i) ok b) → IfOk r (λ ok. Follows a (Step c ls i) ok b)
plain-step c ls i a b (Err e) plain h = tt
plain-step c ls i a b (Ok ok) plain h = subst (λ (z : Code). Follows a (Leads c ls z) ok b) (sym (onto-one i done plain))
    (follows-as a b (Passes c ls i) (Leads c ls (one i done)) ok (λ s s' r. (s', r, refl)) (λ s s' r. subst (λ z. Passes c ls i s z) r.2 r.1) h)

-- ---- contents

pub label-pushed : (ks : List (Option ValType)) (x : Option ValType) → labels_of (ks ++ x ∷ []) ≡ values_of x ∷ labels_of ks
label-pushed ks x = ap (map values_of) (reverse-append ks (x ∷ []))

-- from the empty stack to these values
pub ends-exactly : (R : List ValType → List ValType → Type 0) (a b : Stack) (t : List ValType) (r : Bool) → IsBare a false → Exact a R b
    → IsTrue r ↔ Stands b t → IsTrue r ↔ R [] t
ends-exactly R a b t r bare e h = (
  λ q. let x = e.from t (h.0 q) in subst (λ z. R z t) (bare-empty a bare x.0 x.1) x.2,
  λ v. h.1 (e.onto [] t (bare-nothing a bare) v),
)

pub never-ends : (R : List ValType → List ValType → Type 0) (a : Stack) (t : List ValType) → IsBare a false → Fails a R → R [] t → ⊥
never-ends R a t bare f v = f [] t (bare-nothing a bare) v

-- what was answered, with equal labels
pub moved : (c : Context) (ks js : List (Option ValType)) (i : Instr) (a b : Stack) (ok q : Bool) → ks ≡ js → ok ≡ q
    → Follows a (Step c (labels_of ks) i) ok b → Follows a (Step c (labels_of js) i) q b
moved c ks js i a b ok q e d h =
    subst (λ (z : Bool). Follows a (Step c (labels_of js) i) z b) d (subst (λ (z : List (Option ValType)). Follows a (Step c (labels_of z) i) ok b) e h)

pub valid-as : (c : Context) (ks js : List (Option ValType)) (k : Option ValType) (xs ys : List Instr) → ks ≡ js → xs ≡ ys
    → Leads c (values_of k ∷ labels_of ks) (code_of xs) [] (values_of k) → Leads c (values_of k ∷ labels_of js) (code_of ys) [] (values_of k)
valid-as c ks js k xs ys e d h = subst (λ (z : List Instr). Leads c (values_of k ∷ labels_of js) (code_of z) [] (values_of k)) d (subst (λ (z : List (Option ValType)). Leads c (values_of k ∷ labels_of z) (code_of xs) [] (values_of k)) e h)

pub passes-as : (c : Context) (ks js : List (Option ValType)) (i : Instr) (a b : Stack) (r : Result Bool NoMemory) → ks ≡ js
    → IfOk r (λ ok. Follows a (Passes c (labels_of ks) i) ok b) → IfOk r (λ ok. Follows a (Passes c (labels_of js) i) ok b)
passes-as c ks js i a b r e h = subst (λ (z : List (Option ValType)). IfOk r (λ ok. Follows a (Passes c (labels_of z) i) ok b)) e h
