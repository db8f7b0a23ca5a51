-- What the table of types says of an instruction, as it is worked out.
use Rattle.std.proofs.Common.{◌≡◌, ◌≢◌, ◌↔◌, ◌≤◌, Bool, true, false, ℕ, List, [], ◌∷◌, ◌++◌, reverse, length, Option, Some, None, Result, Ok, Err, IfOk, All, if◌then◌else◌, refl, sym, ap, ◌∙◌, subst, arith, true≢false}
use Rattle.std.specs.List.{slice_get}
use Rattle.std.specs.Option.{option_map, option_and_then}
use Rattle.std.proofs.lemmas.List.{reverse-append}
use Rattle.std.proofs.lemmas.List.Elements.{All-get_or}
use Rattle.std.proofs.lemmas.Option.{get_or_from_slice_get, slice_get_within}
use Rattle.wasm_types.specs.declared.ops.NumOp.{NumOp}
use Rattle.wasm_types.specs.declared.ops.NumOp.TheVariants as num
use Rattle.wasm_types.specs.declared.module.ValType.{ValType}
use Rattle.wasm_types.specs.declared.module.ValType.TheVariants.{I32}
use Rattle.wasm_types.specs.declared.module.FuncType.{FuncType}
use Rattle.wasm_types.specs.declared.module.GlobalType.{GlobalType}
use Rattle.wasm_types.specs.declared.module.Module.{Module}
use Rattle.wasm_types.specs.declared.module.NoMemory.{NoMemory}
use Rattle.wasm_types.specs.declared.instr.Instr.{Instr}
use Rattle.wasm_types.specs.declared.instr.Instr.TheVariants as v
use Rattle.wasm_types.specs.Spaces.{type_numbered, type_of_func, func_types, tables_of, globals_of}
use Rattle.wasm_types.specs.Typing.{Context, Takes, TypesNum}
use Rattle.wasm_types.specs.Validity.{values_of}
use Rattle.body_check.specs.declared.typing.Signature.{Signature}
use Rattle.body_check.specs.Numbered.{FewResults, global_value, mutable_value}
use Rattle.body_check.specs.Signatures.{HasSignature, UsesKind}

pub one-result : (rs : List ValType) → length rs ≤ 1 → values_of (slice_get rs 0) ≡ reverse rs
one-result [] h = refl
one-result (r ∷ []) h = refl
one-result (r ∷ q ∷ rs) h = absurd (omega arith)

all-at : {A : Type 0} (P : A → Type 0) (xs : List A) (i : ℕ) (x : A) → All P xs → slice_get xs i ≡ Some x → P x
all-at P xs i x h e = subst P (get_or_from_slice_get xs i x x e) (All-get_or P xs i x (slice_get_within xs i x e) h)

pub few-at : (m : Module) (i : ℕ) (F : FuncType) → FewResults m → slice_get m.types i ≡ Some F → length F.results ≤ 1
few-at m i F few e = all-at (λ (t : FuncType). length t.results ≤ 1) m.types i F few e

pub few-of : (m : Module) (f : ℕ) (F : FuncType) → FewResults m → type_of_func m f ≡ Some F → length F.results ≤ 1
few-of m f F few e = go (slice_get (func_types m) f) e
  where
    go : (o : Option ℕ) → type_numbered m.types o ≡ Some F → length F.results ≤ 1
    go None e = absurd cc
    go (Some t) e = few-at m t F few e

-- ---- one form of the table at a time

-- nothing but the types
pub plain-form : (a b c d t l : List ValType) → a ≡ c → b ≡ d → Takes a b t l ↔ ((t ≡ c) × (l ≡ d))
plain-form a b c d t l p q = (λ h. (h.0 ∙ p, h.1 ∙ q), λ h. (h.0 ∙ sym p, h.1 ∙ sym q))

-- under a condition
pub under-form : (C : Type 0) (a b c d t l : List ValType) → C → a ≡ c → b ≡ d → (C × Takes a b t l) ↔ ((t ≡ c) × (l ≡ d))
under-form C a b c d t l is p q = (λ h. (h.1.0 ∙ p, h.1.1 ∙ q), λ h. (is, (h.0 ∙ sym p, h.1 ∙ sym q)))

-- of what has a number
pub look-form : {K : Type 0} (look : Option K) (k : K) (f g : K → List ValType) (c d t l : List ValType) → look ≡ Some k → f k ≡ c → g k ≡ d
    → ((j : K) × (look ≡ Some j) × Takes (f j) (g j) t l) ↔ ((t ≡ c) × (l ≡ d))
look-form {K} look k f g c d t l is p q = (
  λ h. let same : h.0 ≡ k = cc in (h.2.0 ∙ ap f same ∙ p, h.2.1 ∙ ap g same ∙ q),
  λ h. (k, is, (h.0 ∙ sym p, h.1 ∙ sym q)),
)

pub look-none : {K : Type 0} (look : Option K) (f g : K → List ValType) (t l : List ValType) → look ≡ None
    → ((j : K) × (look ≡ Some j) × Takes (f j) (g j) t l) → ⊥
look-none look f g t l is h = let e = h.1 in cc

-- ---- instructions

pub nop-has : (c : Context) (s : Signature) → s.takes.items ≡ [] → s.leaves ≡ None → HasSignature c v.Nop (Some s)
nop-has c s p q = λ t l. plain-form [] [] (reverse s.takes.items) (values_of s.leaves) t l (ap reverse (sym p)) (ap values_of (sym q))

pub call-has : (c : Context) (f : ℕ) (F : FuncType) (s : Signature) → type_of_func c.inside f ≡ Some F → s.takes.items ≡ F.params
    → values_of s.leaves ≡ reverse F.results → HasSignature c (v.Call f) (Some s)
call-has c f F s is p q = λ t l. look-form (type_of_func c.inside f) F (λ (j : FuncType). reverse j.params) (λ (j : FuncType). reverse j.results) (reverse s.takes.items) (values_of s.leaves) t l is (ap reverse (sym p)) (sym q)

pub call-has-none : (c : Context) (f : ℕ) → type_of_func c.inside f ≡ None → HasSignature c (v.Call f) None
call-has-none c f is = λ t l h. look-none (type_of_func c.inside f) (λ (j : FuncType). reverse j.params) (λ (j : FuncType). reverse j.results) t l is h

pub indirect-has : (c : Context) (k : ℕ) (F : FuncType) (s : Signature) → tables_of c.inside ≢ [] → slice_get c.inside.types k ≡ Some F
    → s.takes.items ≡ F.params ++ I32 ∷ [] → values_of s.leaves ≡ reverse F.results → HasSignature c (v.CallIndirect k) (Some s)
indirect-has c k F s table is p q = λ t l.
    let top : reverse s.takes.items ≡ I32 ∷ reverse F.params = ap reverse p ∙ reverse-append F.params (I32 ∷ []) in (
      λ h. let same : h.0 ≡ F = cc in (h.3.0 ∙ ap (λ (j : FuncType). I32 ∷ reverse j.params) same ∙ sym top, h.3.1 ∙ ap (λ (j : FuncType). reverse j.results) same ∙ sym q),
      λ h. (F, table, is, (h.0 ∙ top, h.1 ∙ q)),
    )

pub indirect-no-table : (c : Context) (k : ℕ) → (tables_of c.inside ≢ [] → ⊥) → HasSignature c (v.CallIndirect k) None
indirect-no-table c k no_table = λ t l h. no_table h.1

pub indirect-no-type : (c : Context) (k : ℕ) → slice_get c.inside.types k ≡ None → HasSignature c (v.CallIndirect k) None
indirect-no-type c k is = λ t l h. let e = h.2 in cc

pub get-has : (c : Context) (x : ℕ) (o : Option ValType) (r : Option Signature) → o ≡ slice_get c.locals x → UsesKind o false true r
    → HasSignature c (v.LocalGet x) r
get-has c x None r e u = subst (HasSignature c (v.LocalGet x)) (sym u) (λ t l h. look-none (slice_get c.locals x) (λ k. []) (λ k. k ∷ []) t l (sym e) h)
get-has c x (Some k) None e u = absurd u
get-has c x (Some k) (Some s) e u = λ t l. look-form (slice_get c.locals x) k (λ k. []) (λ k. k ∷ []) (reverse s.takes.items) (values_of s.leaves) t l (sym e) (ap reverse (sym u.0)) (ap values_of (sym u.1))

pub set-has : (c : Context) (x : ℕ) (o : Option ValType) (r : Option Signature) → o ≡ slice_get c.locals x → UsesKind o true false r
    → HasSignature c (v.LocalSet x) r
set-has c x None r e u = subst (HasSignature c (v.LocalSet x)) (sym u) (λ t l h. look-none (slice_get c.locals x) (λ k. k ∷ []) (λ k. []) t l (sym e) h)
set-has c x (Some k) None e u = absurd u
set-has c x (Some k) (Some s) e u = λ t l. look-form (slice_get c.locals x) k (λ k. k ∷ []) (λ k. []) (reverse s.takes.items) (values_of s.leaves) t l (sym e) (ap reverse (sym u.0)) (ap values_of (sym u.1))

pub tee-has : (c : Context) (x : ℕ) (o : Option ValType) (r : Option Signature) → o ≡ slice_get c.locals x → UsesKind o true true r
    → HasSignature c (v.LocalTee x) r
tee-has c x None r e u = subst (HasSignature c (v.LocalTee x)) (sym u) (λ t l h. look-none (slice_get c.locals x) (λ k. k ∷ []) (λ k. k ∷ []) t l (sym e) h)
tee-has c x (Some k) None e u = absurd u
tee-has c x (Some k) (Some s) e u = λ t l. look-form (slice_get c.locals x) k (λ k. k ∷ []) (λ k. k ∷ []) (reverse s.takes.items) (values_of s.leaves) t l (sym e) (ap reverse (sym u.0)) (ap values_of (sym u.1))

pub global-get-has : (c : Context) (x : ℕ) (o : Option ValType) (r : Option Signature)
    → o ≡ option_map global_value (slice_get (globals_of c.inside) x) → UsesKind o false true r → HasSignature c (v.GlobalGet x) r
global-get-has c x o r e u = go (slice_get (globals_of c.inside) x) refl o r e u
  where
    go : (g : Option GlobalType) → slice_get (globals_of c.inside) x ≡ g → (o : Option ValType) (r : Option Signature) → o ≡ option_map global_value g → UsesKind o false true r → HasSignature c (v.GlobalGet x) r
    go None is None r e u = subst (HasSignature c (v.GlobalGet x)) (sym u) (λ t l h. look-none (slice_get (globals_of c.inside) x) (λ (g : GlobalType). []) (λ (g : GlobalType). g.kind ∷ []) t l is h)
    go None is (Some k) r e u = absurd cc
    go (Some g) is None r e u = absurd cc
    go (Some g) is (Some k) None e u = absurd u
    go (Some g) is (Some k) (Some s) e u = λ t l. let same : k ≡ g.kind = cc in
        look-form (slice_get (globals_of c.inside) x) g (λ (g : GlobalType). []) (λ (g : GlobalType). g.kind ∷ []) (reverse s.takes.items) (values_of s.leaves) t l is (ap reverse (sym u.0)) (ap (λ z. z ∷ []) (sym same) ∙ ap values_of (sym u.1))

pub global-set-has : (c : Context) (x : ℕ) (o : Option ValType) (r : Option Signature)
    → o ≡ option_and_then mutable_value (slice_get (globals_of c.inside) x) → UsesKind o true false r → HasSignature c (v.GlobalSet x) r
global-set-has c x o r e u = go (slice_get (globals_of c.inside) x) refl o r e u
  where
    fixed : (g : GlobalType) → slice_get (globals_of c.inside) x ≡ Some g → (q : Bool) → g.mutable ≡ q → (o : Option ValType) (r : Option Signature) → o ≡ (if q then Some g.kind else None) → UsesKind o true false r → HasSignature c (v.GlobalSet x) r
    fixed g is false mut None r e u = subst (HasSignature c (v.GlobalSet x)) (sym u) (λ t l h. let same : h.0 ≡ g = cc in true≢false (sym h.2 ∙ ap (λ (z : GlobalType). z.mutable) same ∙ mut))
    fixed g is false mut (Some k) r e u = absurd cc
    fixed g is true mut None r e u = absurd cc
    fixed g is true mut (Some k) None e u = absurd u
    fixed g is true mut (Some k) (Some s) e u = λ t l. let kind : k ≡ g.kind = cc in (
      λ h. let same : h.0 ≡ g = cc in (h.3.0 ∙ ap (λ (z : GlobalType). z.kind ∷ []) same ∙ ap (λ z. z ∷ []) (sym kind) ∙ ap reverse (sym u.0), h.3.1 ∙ ap values_of (sym u.1)),
      λ h. (g, is, mut, (h.0 ∙ ap reverse u.0 ∙ ap (λ z. z ∷ []) kind, h.1 ∙ ap values_of u.1)),
    )

    go : (g : Option GlobalType) → slice_get (globals_of c.inside) x ≡ g → (o : Option ValType) (r : Option Signature) → o ≡ option_and_then mutable_value g → UsesKind o true false r → HasSignature c (v.GlobalSet x) r
    go None is None r e u = subst (HasSignature c (v.GlobalSet x)) (sym u) (λ t l h. let e = h.1 in cc)
    go None is (Some k) r e u = absurd cc
    go (Some g) is o r e u = fixed g is g.mutable refl o r e u

-- one operation has one type
num-one : (op : NumOp) (a b t l : List ValType) → TypesNum op a b → TypesNum op t l ↔ ((t ≡ a) × (l ≡ b))
num-one (num.Eqz w) a b t l h = plain-form _ _ a b t l (sym h.0) (sym h.1)
num-one (num.Rel w r) a b t l h = plain-form _ _ a b t l (sym h.0) (sym h.1)
num-one (num.Un w u) a b t l h = plain-form _ _ a b t l (sym h.0) (sym h.1)
num-one (num.Bin w u) a b t l h = plain-form _ _ a b t l (sym h.0) (sym h.1)
num-one num.Wrap a b t l h = plain-form _ _ a b t l (sym h.0) (sym h.1)
num-one num.ExtendS a b t l h = plain-form _ _ a b t l (sym h.0) (sym h.1)
num-one num.ExtendU a b t l h = plain-form _ _ a b t l (sym h.0) (sym h.1)
num-one (num.Low op) a b t l h = plain-form _ _ a b t l (sym h.0) (sym h.1)

pub num-has : (c : Context) (op : NumOp) (s : Signature) → TypesNum op (reverse s.takes.items) (values_of s.leaves) → HasSignature c (v.Num op) (Some s)
num-has c op s h = λ t l. num-one op (reverse s.takes.items) (values_of s.leaves) t l h

-- what was worked out for the instruction that is there
pub ok-has : (c : Context) (i j : Instr) (o : Option ValType) (takes leaves : Bool) (r : Result (Option Signature) NoMemory) → i ≡ j
    → IfOk r (λ x. UsesKind o takes leaves x) → ((x : Option Signature) → UsesKind o takes leaves x → HasSignature c j x) → IfOk r (λ x. HasSignature c i x)
ok-has c i j o takes leaves (Err e) is h f = tt
ok-has c i j o takes leaves (Ok x) is h f = subst (λ (z : Instr). HasSignature c z x) (sym is) (f x h)
