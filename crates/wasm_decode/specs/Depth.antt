-- How deep blocks nest in the parts of a module (docs/FORMAT.md).
use Rattle.std.specs.Prelude.{◌≤◌, List}
use Rattle.wasm_types.specs.declared.instr.Instr.{Instr}
use Rattle.wasm_types.specs.declared.module.GlobalDef.{GlobalDef}
use Rattle.wasm_types.specs.declared.module.Elem.{Elem}
use Rattle.wasm_types.specs.declared.module.Body.{Body}
use Rattle.wasm_types.specs.declared.module.DataSegment.{DataSegment}
use Rattle.wasm_types.specs.Code.{code_of, nest}
use Rattle.wasm_types.specs.Subset.{most_nesting}

-- code that nests within the limit
abbrev pub IsShallow : List Instr → Type 0
IsShallow is = nest (code_of is) ≤ most_nesting

abbrev pub IsShallowGlobal : GlobalDef → Type 0
IsShallowGlobal g = IsShallow g.init

abbrev pub IsShallowElem : Elem → Type 0
IsShallowElem e = IsShallow e.offset

abbrev pub IsShallowBody : Body → Type 0
IsShallowBody b = IsShallow b.code

abbrev pub IsShallowSegment : DataSegment → Type 0
IsShallowSegment d = IsShallow d.offset
