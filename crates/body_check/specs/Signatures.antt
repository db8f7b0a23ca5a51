-- What an instruction that holds no others takes and leaves, as it is worked out.
use Rattle.std.specs.Prelude.{◌≡◌, ◌↔◌, Bool, List, [], ◌∷◌, reverse, Option, Some, None, IsSomeAnd, if◌then◌else◌}
use Rattle.wasm_types.specs.declared.module.ValType.{ValType}
use Rattle.wasm_types.specs.declared.instr.Instr.{Instr}
use Rattle.wasm_types.specs.Typing.{Context, Types}
use Rattle.wasm_types.specs.Validity.{values_of}
use Rattle.body_check.specs.declared.place.Place.{Place}
use Rattle.body_check.specs.declared.typing.Signature.{Signature}

-- where an instruction stands, in the words of the definitions
abbrev pub context_of : Place → Context
context_of p = record { inside = p.module.now; locals = p.locals; result = values_of p.result }

-- the instruction takes and leaves exactly this; where it is none, it has no type
abbrev pub HasSignature : Context → Instr → Option Signature → Type 0
HasSignature c i None = (t l : List ValType) → Types c i t l → ⊥
HasSignature c i (Some s) = (t l : List ValType) → Types c i t l ↔ ((t ≡ reverse s.takes.items) × (l ≡ values_of s.leaves))

-- a value of a type is taken, or left, or both
abbrev pub UsesKind : Option ValType → Bool → Bool → Option Signature → Type 0
UsesKind None takes leaves r = r ≡ None
UsesKind (Some k) takes leaves r =
    IsSomeAnd r (λ (s : Signature). (s.takes.items ≡ (if takes then k ∷ [] else [])) × (s.leaves ≡ (if leaves then Some k else None)))
