-- The values that the words of arguments stand for (docs/COMMANDS.md, "The words of a run").
use Rattle.std.specs.Global.{Global}
use Rattle.std.specs.Prelude.{Vec, ℤ, if◌then◌else◌, List, [], ◌∷◌, Option, Some, None, option_and_then}
use Rattle.wasm_types.specs.declared.module.ValType.{ValType}
use Rattle.wasm_types.specs.declared.module.Value.{Value}
use Rattle.wasm_types.specs.Hosts.{in_range}
use Rattle.wasm_meaning.specs.HostCalls.{value_for}

-- The values of these types that the numbers stand for, a negative one for itself and 2 to the width: none where they differ in count, or one is out of its
-- type's range.
abbrev pub values_for : List ValType → List ℤ → Option (List Value)
values_for [] [] = Some []
values_for (t ∷ ts) (z ∷ zs) = if in_range t z then option_and_then (λ vs. Some (value_for t z ∷ vs)) (values_for ts zs) else None
values_for _ _ = None

-- the values that a list holds, where there is one
abbrev pub option_items : Option (Vec Value Global) → Option (List Value)
option_items None = None
option_items (Some values) = Some values.items
