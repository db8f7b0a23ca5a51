-- Which stacks of types a symbolic stack stands for, and what a step from one symbolic stack to another says of them.
use Rattle.std.specs.Prelude.{◌≡◌, ◌↔◌, Bool, true, false, List, [], ◌∷◌, ◌++◌, reverse, Option, Some, None}
use Rattle.wasm_types.specs.declared.module.ValType.{ValType}
use Rattle.body_check.specs.declared.stack.Stack.{Stack}

-- an unknown type stands for any
abbrev pub IsKind : Option ValType → ValType → Type 0
IsKind None k = Unit {0}
IsKind (Some known) k = known ≡ k

-- types from the top down, and below them nothing or anything
abbrev pub Matches : List (Option ValType) → Bool → List ValType → Type 0
Matches [] true s = Unit {0}
Matches [] false s = s ≡ []
Matches (x ∷ xs) any [] = ⊥
Matches (x ∷ xs) any (k ∷ s) = IsKind x k × Matches xs any s

-- the symbolic stack stands for this stack
abbrev pub Stands : Stack → List ValType → Type 0
Stands a s = Matches (reverse a.kinds.items) a.any s

-- From a to b a relation is followed exactly: what a stack of a is related to is a stack of b, and each stack of b comes so.
pub record Exact (a : Stack) (R : List ValType → List ValType → Type 0) (b : Stack) : Type 0 where
  pub onto : (s s' : List ValType) → Stands a s → R s s' → Stands b s'
  pub from : (s' : List ValType) → Stands b s' → (s : List ValType) × Stands a s × R s s'

-- no stack of a is related to any
abbrev pub Fails : Stack → (List ValType → List ValType → Type 0) → Type 0
Fails a R = (s s' : List ValType) → Stands a s → R s s' → ⊥

-- what a step answers: true where it has followed the relation, and false where no stack of a is related to any
abbrev pub Follows : Stack → (List ValType → List ValType → Type 0) → Bool → Stack → Type 0
Follows a R true b = Exact a R b
Follows a R false b = Fails a R

-- types are taken off the top
abbrev pub Pops : List ValType → List ValType → List ValType → Type 0
Pops t s s' = s ≡ t ++ s'

-- types are put on the top
abbrev pub Pushes : List ValType → List ValType → List ValType → Type 0
Pushes t s s' = s' ≡ t ++ s

-- types are taken off the top, and others put there
abbrev pub Turns : List ValType → List ValType → List ValType → List ValType → Type 0
Turns t l s s' = (r : List ValType) × (s ≡ t ++ r) × (s' ≡ l ++ r)

-- one of any type is taken
abbrev pub PopsOne : List ValType → List ValType → Type 0
PopsOne s s' = (k : ValType) × (s ≡ k ∷ s')

-- a stack that begins with the types is related to any
abbrev pub Leaves : List ValType → List ValType → List ValType → Type 0
Leaves t s s' = (r : List ValType) × (s ≡ t ++ r)

-- a number on top of two of one type, of which one is left
abbrev pub Selects : ValType → List ValType → List ValType → Type 0
Selects number s s' = (k : ValType) × (r : List ValType) × (s ≡ number ∷ k ∷ k ∷ r) × (s' ≡ k ∷ r)

-- What taking the top of a answers: none where a stands for no stack with a top, and else what is known of it, and what is left.
abbrev pub TakesTop : Stack → Option (Option ValType) → Stack → Type 0
TakesTop a None b = (k : ValType) (s : List ValType) → Stands a (k ∷ s) → ⊥
TakesTop a (Some x) b = (k : ValType) (s : List ValType) → Stands a (k ∷ s) ↔ (IsKind x k × Stands b s)

-- a is b with a type on top
pub record IsOnto (x : Option ValType) (b a : Stack) : Type 0 where
  pub items : a.kinds.items ≡ b.kinds.items ++ x ∷ []
  pub any : a.any ≡ b.any

-- no type is known
pub record IsBare (a : Stack) (over : Bool) : Type 0 where
  pub items : a.kinds.items ≡ []
  pub any : a.any ≡ over

-- What is known of a type that two operands have: none where there is no such type.
abbrev pub Agrees : Option ValType → Option ValType → Option (Option ValType) → Type 0
Agrees x y None = (k : ValType) → IsKind x k → IsKind y k → ⊥
Agrees x y (Some z) = (k : ValType) → IsKind z k ↔ (IsKind x k × IsKind y k)
