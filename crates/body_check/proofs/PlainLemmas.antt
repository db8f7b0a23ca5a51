-- Instructions that hold no others, by what the symbolic stack does for them.
use Rattle.std.proofs.Common.{◌≡◌, ◌↔◌, ℕ, Bool, List, [], ◌∷◌, ◌++◌, reverse, Option, Some, None, All, Result, Ok, Err, IfOk, get_or, refl, sym, ap, ◌∙◌, subst}
use Rattle.std.specs.List.{slice_get}
use Rattle.std.specs.Option.{option_map}
use Rattle.std.proofs.lemmas.Option.{slice_get-map}
use Rattle.wasm_types.specs.declared.module.ValType.{ValType}
use Rattle.wasm_types.specs.declared.module.ValType.TheVariants.{I32}
use Rattle.wasm_types.specs.declared.module.NoMemory.{NoMemory}
use Rattle.wasm_types.specs.declared.instr.Instr.{Instr}
use Rattle.wasm_types.specs.declared.instr.Instr.{Unreachable, Return, Br, BrIf, BrTable, Drop, Select}
use Rattle.wasm_types.specs.Typing.{Context, Types}
use Rattle.wasm_types.specs.Validity.{values_of, Passes}
use Rattle.body_check.specs.declared.stack.Stack.{Stack}
use Rattle.body_check.specs.declared.typing.Signature.{Signature}
use Rattle.body_check.specs.Labels.{labels_of}
use Rattle.body_check.specs.Signatures.{HasSignature}
use Rattle.body_check.specs.Stacks.{Fails, Follows, PopsOne, Turns, Leaves, Selects}
use Rattle.body_check.proofs.StackLemmas.{follows-as}

-- ---- labels

values-same : (x y : Option ValType) → values_of x ≡ values_of y → x ≡ y
values-same None None e = refl
values-same None (Some k) e = absurd cc
values-same (Some k) None e = absurd cc
values-same (Some k) (Some j) e = let same : k ≡ j = cc in ap Some same

label-is : (ks : List (Option ValType)) (l : ℕ) → slice_get (labels_of ks) l ≡ option_map values_of (slice_get (reverse ks) l)
label-is ks l = slice_get-map values_of (reverse ks) l

pub label-known : (ks : List (Option ValType)) (l : ℕ) (x : Option ValType) → slice_get (reverse ks) l ≡ Some x
    → slice_get (labels_of ks) l ≡ Some (values_of x)
label-known ks l x e = label-is ks l ∙ ap (option_map values_of) e

pub label-none : (ks : List (Option ValType)) (l : ℕ) → slice_get (reverse ks) l ≡ None → slice_get (labels_of ks) l ≡ None
label-none ks l e = label-is ks l ∙ ap (option_map values_of) e

pub label-carries : (ks : List (Option ValType)) (l : ℕ) (x : Option ValType) → slice_get (labels_of ks) l ≡ Some (values_of x)
    → slice_get (reverse ks) l ≡ Some x
label-carries ks l x e = go (slice_get (reverse ks) l) refl (sym (label-is ks l) ∙ e)
  where
    go : (o : Option (Option ValType)) → slice_get (reverse ks) l ≡ o → option_map values_of o ≡ Some (values_of x) → slice_get (reverse ks) l ≡ Some x
    go None is h = absurd cc
    go (Some y) is h = let same : values_of y ≡ values_of x = cc in is ∙ ap Some (values-same y x same)

pub all-as : (P Q : ℕ → Type 0) → ((k : ℕ) → P k → Q k) → (ks : List ℕ) → All P ks → All Q ks
all-as P Q f ks h = λ k d lt. f (get_or ks k d) (h k d lt)

-- ---- one instruction at a time

pub at-instr : (c : Context) (ls : List (List ValType)) (a b : Stack) (ok : Bool) (i j : Instr) → i ≡ j → Follows a (Passes c ls j) ok b
    → Follows a (Passes c ls i) ok b
at-instr c ls a b ok i j e h = subst (λ (z : Instr). Follows a (Passes c ls z) ok b) (sym e) h

pub br-follows : (c : Context) (ls : List (List ValType)) (l : ℕ) (t : List ValType) (a b : Stack) (ok : Bool) → slice_get ls l ≡ Some t
    → Follows a (Leaves t) ok b → Follows a (Passes c ls (Br l)) ok b
br-follows c ls l t a b ok is h = follows-as a b (Leaves t) (Passes c ls (Br l)) ok
    (λ s s' r. (t, r.0, is, r.1))
    (λ s s' r. let same : r.0 ≡ t = cc in (r.1, r.3 ∙ ap (λ z. z ++ r.1) same))
    h

pub br-none : (c : Context) (ls : List (List ValType)) (l : ℕ) (a : Stack) → slice_get ls l ≡ None → Fails a (Passes c ls (Br l))
br-none c ls l a is = λ s s' st r. let e = r.2 in cc

pub br_if-follows : (c : Context) (ls : List (List ValType)) (l : ℕ) (t : List ValType) (a b : Stack) (ok : Bool) → slice_get ls l ≡ Some t
    → Follows a (Turns (I32 ∷ t) t) ok b → Follows a (Passes c ls (BrIf l)) ok b
br_if-follows c ls l t a b ok is h = follows-as a b (Turns (I32 ∷ t) t) (Passes c ls (BrIf l)) ok
    (λ s s' r. (t, r.0, is, r.1, r.2))
    (λ s s' r. let same : r.0 ≡ t = cc in (r.1, r.3 ∙ ap (λ z. I32 ∷ z ++ r.1) same, r.4 ∙ ap (λ z. z ++ r.1) same))
    h

pub br_if-none : (c : Context) (ls : List (List ValType)) (l : ℕ) (a : Stack) → slice_get ls l ≡ None → Fails a (Passes c ls (BrIf l))
br_if-none c ls l a is = λ s s' st r. let e = r.2 in cc

pub br_table-follows : (c : Context) (ls : List (List ValType)) (some : List ℕ) (l : ℕ) (t : List ValType) (a b : Stack) (ok : Bool)
    → slice_get ls l ≡ Some t → All (λ k. slice_get ls k ≡ Some t) some
    → Follows a (Leaves (I32 ∷ t)) ok b → Follows a (Passes c ls (BrTable some l)) ok b
br_table-follows c ls some l t a b ok is all h = follows-as a b (Leaves (I32 ∷ t)) (Passes c ls (BrTable some l)) ok
    (λ s s' r. (t, r.0, is, all, r.1))
    (λ s s' r. let same : r.0 ≡ t = cc in (r.1, r.4 ∙ ap (λ z. I32 ∷ z ++ r.1) same))
    h

pub br_table-none : (c : Context) (ls : List (List ValType)) (some : List ℕ) (l : ℕ) (a : Stack) → slice_get ls l ≡ None
    → Fails a (Passes c ls (BrTable some l))
br_table-none c ls some l a is = λ s s' st r. let e = r.2 in cc

pub br_table-differ : (c : Context) (ls : List (List ValType)) (some : List ℕ) (l : ℕ) (t : List ValType) (a : Stack) → slice_get ls l ≡ Some t
    → (All (λ k. slice_get ls k ≡ Some t) some → ⊥) → Fails a (Passes c ls (BrTable some l))
br_table-differ c ls some l t a is differ =
    λ s s' st r. let same : r.0 ≡ t = cc in differ (subst (λ (z : List ValType). All (λ k. slice_get ls k ≡ Some z) some) same r.3)

-- what takes some and leaves some
abbrev pub ByTypes : Context → Instr → List ValType → List ValType → Type 0
ByTypes c i s s' = (t l r : List ValType) × Types c i t l × (s ≡ t ++ r) × (s' ≡ l ++ r)

pub drop-follows : (c : Context) (ls : List (List ValType)) (a b : Stack) (ok : Bool) → Follows a PopsOne ok b → Follows a (Passes c ls Drop) ok b
drop-follows c ls a b ok h = follows-as a b PopsOne (Passes c ls Drop) ok
    (λ s s' r. (r.0 ∷ [], [], s', (r.0, (refl, refl)), r.1, refl))
    (λ s s' r. (r.3.0, r.4 ∙ ap (λ z. z ++ r.2) r.3.1.0 ∙ ap (λ z. r.3.0 ∷ z) (sym (r.5 ∙ ap (λ z. z ++ r.2) r.3.1.1))))
    h

pub select-follows : (c : Context) (ls : List (List ValType)) (a b : Stack) (ok : Bool) → Follows a (Selects I32) ok b → Follows a (Passes c ls Select) ok b
select-follows c ls a b ok h = follows-as a b (Selects I32) (Passes c ls Select) ok
    (λ s s' r. (I32 ∷ r.0 ∷ r.0 ∷ [], r.0 ∷ [], r.1, (r.0, (refl, refl)), r.2, r.3))
    (λ s s' r. (r.3.0, r.2, r.4 ∙ ap (λ z. z ++ r.2) r.3.1.0, r.5 ∙ ap (λ z. z ++ r.2) r.3.1.1))
    h

types-follow : (c : Context) (i : Instr) (f : Signature) (a b : Stack) (ok : Bool) → HasSignature c i (Some f)
    → Follows a (Turns (reverse f.takes.items) (values_of f.leaves)) ok b → Follows a (ByTypes c i) ok b
types-follow c i f a b ok is h = follows-as a b (Turns (reverse f.takes.items) (values_of f.leaves)) (ByTypes c i) ok
    (λ s s' r. (reverse f.takes.items, values_of f.leaves, r.0, (is (reverse f.takes.items) (values_of f.leaves)).1 (refl, refl), r.1, r.2))
    (λ s s' r. let e = (is r.0 r.1).0 r.3 in (r.2, r.4 ∙ ap (λ z. z ++ r.2) e.0, r.5 ∙ ap (λ z. z ++ r.2) e.1))
    h

-- an instruction that neither transfers control nor takes any type
pub record GoesByTypes (i : Instr) : Type 0 where
  pub no_unreachable : i ≡ Unreachable → ⊥
  pub no_return : i ≡ Return → ⊥
  pub no_br : (l : ℕ) → i ≡ Br l → ⊥
  pub no_br_if : (l : ℕ) → i ≡ BrIf l → ⊥
  pub no_br_table : (some : List ℕ) (l : ℕ) → i ≡ BrTable some l → ⊥

types-pass : (c : Context) (ls : List (List ValType)) (i : Instr) → GoesByTypes i → (s s' : List ValType) → Passes c ls i s s' ↔ ByTypes c i s s'
types-pass c ls Unreachable p s s' = absurd (p.no_unreachable refl)
types-pass c ls Return p s s' = absurd (p.no_return refl)
types-pass c ls (Br l) p s s' = absurd (p.no_br l refl)
types-pass c ls (BrIf l) p s s' = absurd (p.no_br_if l refl)
types-pass c ls (BrTable some l) p s s' = absurd (p.no_br_table some l refl)
types-pass c ls _ p s s' = (λ h. h, λ h. h)

pub other-follows : (c : Context) (ls : List (List ValType)) (i : Instr) (o : Option Signature) (f : Signature) (takes : List ValType) (a b : Stack) (r : Result Bool NoMemory) → GoesByTypes i → HasSignature c i o → o ≡ Some f → takes ≡ f.takes.items
    → IfOk r (λ ok. Follows a (Turns (reverse takes) (values_of f.leaves)) ok b) → IfOk r (λ ok. Follows a (Passes c ls i) ok b)
other-follows c ls i o f takes a b (Err e) p is some same h = tt
other-follows c ls i o f takes a b (Ok ok) p is some same h =
    let turns = subst (λ (z : List ValType). Follows a (Turns (reverse z) (values_of f.leaves)) ok b) same h in
    follows-as a b (ByTypes c i) (Passes c ls i) ok (λ s s' q. (types-pass c ls i p s s').1 q) (λ s s' q. (types-pass c ls i p s s').0 q)
    (types-follow c i f a b ok (subst (HasSignature c i) some is) turns)

pub other-fails : (c : Context) (ls : List (List ValType)) (i : Instr) (o : Option Signature) (a : Stack) → GoesByTypes i → HasSignature c i o
    → o ≡ None → Fails a (Passes c ls i)
other-fails c ls i o a p is none = λ s s' st q. let r = (types-pass c ls i p s s').0 q in subst (HasSignature c i) none is r.0 r.1 r.3

-- what was answered for the instruction that is there
pub ok-follows : (c : Context) (ls : List (List ValType)) (R : List ValType → List ValType → Type 0) (a b : Stack) (r : Result Bool NoMemory) (i j : Instr) → i ≡ j
    → ((ok : Bool) → Follows a R ok b → Follows a (Passes c ls j) ok b) → IfOk r (λ ok. Follows a R ok b) → IfOk r (λ ok. Follows a (Passes c ls i) ok b)
ok-follows c ls R a b (Err e) i j is f h = tt
ok-follows c ls R a b (Ok ok) i j is f h = at-instr c ls a b ok i j is (f ok h)

pub fails-at : (c : Context) (ls : List (List ValType)) (a : Stack) (i j : Instr) → i ≡ j → Fails a (Passes c ls j) → Fails a (Passes c ls i)
fails-at c ls a i j e h = subst (λ (z : Instr). Fails a (Passes c ls z)) (sym e) h
