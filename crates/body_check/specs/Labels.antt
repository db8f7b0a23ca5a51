-- The labels around an instruction, as they are kept.
use Rattle.std.specs.Prelude.{List, map, reverse, Option}
use Rattle.wasm_types.specs.declared.module.ValType.{ValType}
use Rattle.wasm_types.specs.Validity.{values_of}

-- what each label carries, the innermost first, where the innermost is kept last
abbrev pub labels_of : List (Option ValType) → List (List ValType)
labels_of kinds = map values_of (reverse kinds)
