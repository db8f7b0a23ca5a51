-- What is worked out of a module once for all its bodies, and of a body once for all its instructions.
use Rattle.std.specs.Prelude.{◌≡◌, ◌≤◌, All, length, Option, Some, None, if◌then◌else◌}
use Rattle.wasm_types.specs.declared.module.ValType.{ValType}
use Rattle.wasm_types.specs.declared.module.GlobalType.{GlobalType}
use Rattle.wasm_types.specs.declared.module.FuncType.{FuncType}
use Rattle.wasm_types.specs.declared.module.Module.{Module}
use Rattle.wasm_types.specs.Spaces.{func_types, tables_of, mems_of, globals_of}
use Rattle.body_check.specs.declared.spaces.Spaces.{Spaces}

-- they are those of the module
pub record Describes (s : Spaces) (m : Module) : Type 0 where
  pub funcs : s.funcs.items ≡ func_types m
  pub globals : s.globals.items ≡ globals_of m
  pub tables : s.tables.items ≡ tables_of m
  pub memories : s.memories.items ≡ mems_of m

-- each type has at most one result
abbrev pub FewResults : Module → Type 0
FewResults m = All (λ (t : FuncType). length t.results ≤ 1) m.types

-- the type of a global's value, and only of one that can be set
abbrev pub global_value : GlobalType → ValType
global_value g = g.kind

abbrev pub mutable_value : GlobalType → Option ValType
mutable_value g = if g.mutable then Some g.kind else None
