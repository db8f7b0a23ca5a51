-- What the types of an instruction tell: how many values it takes and leaves, and that it leaves integers where it takes integers.
use Rattle.std.proofs.Common.{◌≡◌, ℕ, suc, ◌≤◌, List, [], ◌∷◌, ◌++◌, reverse, Option, Some, None, length, slice_get, refl, sym, ap, ◌∙◌, subst, arith}
use Rattle.std.proofs.lemmas.List.{length-reverse}
use Rattle.wasm_types.specs.declared.ops.Width.{Width}
use Rattle.wasm_types.specs.declared.ops.Width.TheVariants.{W32, W64}
use Rattle.wasm_types.specs.declared.ops.LowOp.{LowOp}
use Rattle.wasm_types.specs.declared.ops.LowOp.TheVariants as low
use Rattle.wasm_types.specs.declared.ops.NumOp.{NumOp}
use Rattle.wasm_types.specs.declared.ops.NumOp.TheVariants as num
use Rattle.wasm_types.specs.declared.ops.LoadOp.{LoadOp}
use Rattle.wasm_types.specs.declared.ops.LoadOp.TheVariants as load
use Rattle.wasm_types.specs.declared.module.ValType.{ValType}
use Rattle.wasm_types.specs.declared.module.ValType.TheVariants.{I32}
use Rattle.wasm_types.specs.declared.module.FuncType.{FuncType}
use Rattle.wasm_types.specs.declared.module.GlobalType.{GlobalType}
use Rattle.wasm_types.specs.declared.instr.Instr.{Instr}
use Rattle.wasm_types.specs.declared.instr.Instr as instr
use Rattle.wasm_types.specs.Spaces.{type_numbered, func_types, globals_of}
use Rattle.wasm_types.specs.Typing.{Context, Types, TypesNum, type_of_width, low_type, load_type}
use Rattle.wasm_types.specs.Validity.{Passes}
use Rattle.wasm_types.specs.Subset.{IsInteger}
use Rattle.wasm_types.specs.Actions.{callees, own_task, table_task, operands, takes_of, leaves_of, takes, leaves}

abbrev pub Integers : List ValType → Type 0
Integers [] = Unit {0}
Integers (k ∷ ks) = IsInteger k × Integers ks

-- where code stands, all is of an integer type, and a function leaves at most one value
pub record IsIntegerContext (c : Context) : Type 0 where
  pub locals : (x : ℕ) (k : ValType) → slice_get c.locals x ≡ Some k → IsInteger k
  pub globals : (x : ℕ) (g : GlobalType) → slice_get (globals_of c.inside) x ≡ Some g → IsInteger g.kind
  pub results : (k : ℕ) (F : FuncType) → slice_get c.inside.types k ≡ Some F → (length F.results ≤ 1) × Integers F.results

-- t and l have these lengths, the second at most one, and l is of integers where t is
pub record Shape (n k : ℕ) (t l : List ValType) : Type 0 where
  pub taken : length t ≡ n
  pub left : length l ≡ k
  pub few : k ≤ 1
  pub integer : Integers t → Integers l

shape_is : (n k : ℕ) (a b t l : List ValType) → length a ≡ n → length b ≡ k → k ≤ 1 → (Integers a → Integers b) → (t ≡ a) × (l ≡ b) → Shape n k t l
shape_is n k a b t l x y few f (e, g) =
    record { taken = ap length e ∙ x; left = ap length g ∙ y; few = few; integer = λ i. subst Integers (sym g) (f (subst Integers e i)) }

integer_width : (w : Width) → IsInteger (type_of_width w)
integer_width W32 = tt
integer_width W64 = tt

integer_low : (op : LowOp) → IsInteger (low_type op)
integer_low low.I32S8 = tt
integer_low low.I32S16 = tt
integer_low low.I64S8 = tt
integer_low low.I64S16 = tt
integer_low low.I64S32 = tt

integer_load : (op : LoadOp) → IsInteger (load_type op)
integer_load load.I32 = tt
integer_load load.I32S8 = tt
integer_load load.I32U8 = tt
integer_load load.I32S16 = tt
integer_load load.I32U16 = tt
integer_load _ = tt

num_shape : (op : NumOp) (t l : List ValType) → TypesNum op t l → Shape (operands op) 1 t l
num_shape (num.Eqz w) t l h = shape_is _ _ _ _ t l refl refl (omega arith) (λ i. (tt, tt)) h
num_shape (num.Rel w op) t l h = shape_is _ _ _ _ t l refl refl (omega arith) (λ i. (tt, tt)) h
num_shape (num.Un w op) t l h = shape_is _ _ _ _ t l refl refl (omega arith) (λ i. (integer_width w, tt)) h
num_shape (num.Bin w op) t l h = shape_is _ _ _ _ t l refl refl (omega arith) (λ i. (integer_width w, tt)) h
num_shape num.Wrap t l h = shape_is _ _ _ _ t l refl refl (omega arith) (λ i. (tt, tt)) h
num_shape num.ExtendS t l h = shape_is _ _ _ _ t l refl refl (omega arith) (λ i. (tt, tt)) h
num_shape num.ExtendU t l h = shape_is _ _ _ _ t l refl refl (omega arith) (λ i. (tt, tt)) h
num_shape (num.Low op) t l h = shape_is _ _ _ _ t l refl refl (omega arith) (λ i. (integer_low op, tt)) h

pub numbered : (types : List FuncType) (o : Option ℕ) (F : FuncType) → type_numbered types o ≡ Some F → (k : ℕ) × (slice_get types k ≡ Some F)
numbered types None F e = absurd cc
numbered types (Some k) F e = (k, e)

integers_reverse : (ks : List ValType) → length ks ≤ 1 → Integers ks → Integers (reverse ks)
integers_reverse [] le i = tt
integers_reverse (k ∷ []) le i = i
integers_reverse (k ∷ j ∷ ks) le i = absurd (omega arith)

pub shape : (c : Context) → IsIntegerContext c → (op : Instr) (t l : List ValType) → Types c op t l
    → Shape (takes (callees c.inside) op) (leaves (callees c.inside) op) t l
shape c ok instr.Nop t l h = shape_is _ _ _ _ t l refl refl (omega arith) (λ i. tt) h
shape c ok instr.Drop t l (k, h) = shape_is _ _ _ _ t l refl refl (omega arith) (λ i. tt) h
shape c ok instr.Select t l (k, h) = shape_is _ _ _ _ t l refl refl (omega arith) (λ i. (i.1.0, tt)) h
shape c ok (instr.Call f) t l (F, at, h) =
    let n = numbered c.inside.types (slice_get (func_types c.inside) f) F at in
    let r = ok.results n.0 F n.1 in
    let e = ap (λ o. takes_of (own_task f o)) (sym at) in
    let g = ap (λ o. leaves_of (own_task f o)) (sym at) in
    shape_is _ _ (reverse F.params) (reverse F.results) t l (length-reverse F.params ∙ e) (length-reverse F.results ∙ g) (subst (λ z. z ≤ 1) g r.0) (λ i. integers_reverse F.results r.0 r.1) h
shape c ok (instr.CallIndirect type) t l (F, some, at, h) =
    let r = ok.results type F at in
    let e = ap (λ o. takes_of (table_task type o)) (sym at) in
    let g = ap (λ o. leaves_of (table_task type o)) (sym at) in
    shape_is _ _ (I32 ∷ reverse F.params) (reverse F.results) t l (ap suc (length-reverse F.params) ∙ e) (length-reverse F.results ∙ g) (subst (λ z. z ≤ 1) g r.0) (λ i. integers_reverse F.results r.0 r.1) h
shape c ok (instr.LocalGet x) t l (k, at, h) = shape_is _ _ _ _ t l refl refl (omega arith) (λ i. (ok.locals x k at, tt)) h
shape c ok (instr.LocalSet x) t l (k, at, h) = shape_is _ _ _ _ t l refl refl (omega arith) (λ i. tt) h
shape c ok (instr.LocalTee x) t l (k, at, h) = shape_is _ _ _ _ t l refl refl (omega arith) (λ i. i) h
shape c ok (instr.GlobalGet x) t l (g, at, h) = shape_is _ _ _ _ t l refl refl (omega arith) (λ i. (ok.globals x g at, tt)) h
shape c ok (instr.GlobalSet x) t l (g, at, mut, h) = shape_is _ _ _ _ t l refl refl (omega arith) (λ i. tt) h
shape c ok (instr.Load op arg) t l (some, h) = shape_is _ _ _ _ t l refl refl (omega arith) (λ i. (integer_load op, tt)) h
shape c ok (instr.Store op arg) t l (some, h) = shape_is _ _ _ _ t l refl refl (omega arith) (λ i. tt) h
shape c ok instr.MemorySize t l (some, h) = shape_is _ _ _ _ t l refl refl (omega arith) (λ i. (tt, tt)) h
shape c ok instr.MemoryGrow t l (some, h) = shape_is _ _ _ _ t l refl refl (omega arith) (λ i. (tt, tt)) h
shape c ok (instr.I32Const n) t l h = shape_is _ _ _ _ t l refl refl (omega arith) (λ i. (tt, tt)) h
shape c ok (instr.I64Const n) t l h = shape_is _ _ _ _ t l refl refl (omega arith) (λ i. (tt, tt)) h
shape c ok (instr.Num op) t l h = num_shape op t l h
shape c ok instr.MemoryCopy t l (some, h) = shape_is _ _ _ _ t l refl refl (omega arith) (λ i. tt) h
shape c ok instr.MemoryFill t l (some, h) = shape_is _ _ _ _ t l refl refl (omega arith) (λ i. tt) h
shape c ok _ t l h = absurd h

-- ---- instructions that go on to the next one

abbrev pub GoesOn : Instr → Type 0
GoesOn instr.Unreachable = ⊥
GoesOn instr.Return = ⊥
GoesOn (instr.Br l) = ⊥
GoesOn (instr.BrIf l) = ⊥
GoesOn (instr.BrTable labels other) = ⊥
GoesOn _ = Unit {0}

-- how a typed instruction passes
pub passes_of : (c : Context) (ls : List (List ValType)) (op : Instr) (s s' t l r : List ValType) → Types c op t l → s ≡ t ++ r → s' ≡ l ++ r
    → Passes c ls op s s'
passes_of c ls instr.Unreachable s s' t l r h e f = absurd h
passes_of c ls instr.Return s s' t l r h e f = absurd h
passes_of c ls (instr.Br k) s s' t l r h e f = absurd h
passes_of c ls (instr.BrIf k) s s' t l r h e f = absurd h
passes_of c ls (instr.BrTable labels other) s s' t l r h e f = absurd h
passes_of c ls _ s s' t l r h e f = (t, l, r, h, e, f)

abbrev pub TypedPass : Context → Instr → List ValType → List ValType → Type 0
TypedPass c op s s' = (t l r : List ValType) × Types c op t l × (s ≡ t ++ r) × (s' ≡ l ++ r)

pub passed : (c : Context) (ls : List (List ValType)) (op : Instr) (s s' : List ValType) → GoesOn op → Passes c ls op s s' → TypedPass c op s s'
passed c ls instr.Unreachable s s' g h = absurd g
passed c ls instr.Return s s' g h = absurd g
passed c ls (instr.Br k) s s' g h = absurd g
passed c ls (instr.BrIf k) s s' g h = absurd g
passed c ls (instr.BrTable labels other) s s' g h = absurd g
passed c ls _ s s' g h = h

-- an instruction that has types is no block, loop or if
pub typed_leaf : (c : Context) (op : Instr) (t l : List ValType) → Types c op t l → GoesOn op
typed_leaf c instr.Unreachable t l h = h
typed_leaf c instr.Return t l h = h
typed_leaf c (instr.Br k) t l h = h
typed_leaf c (instr.BrIf k) t l h = h
typed_leaf c (instr.BrTable labels other) t l h = h
typed_leaf c _ t l h = tt
