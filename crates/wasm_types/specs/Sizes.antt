-- How many entries the lists of a module have.
use Rattle.std.specs.Prelude.{ℕ, ◌≤◌, List, [], length, All, IfSome}
use Rattle.wasm_types.specs.declared.module.FuncType.{FuncType}
use Rattle.wasm_types.specs.declared.module.Import.{Import}
use Rattle.wasm_types.specs.declared.module.GlobalDef.{GlobalDef}
use Rattle.wasm_types.specs.declared.module.Export.{Export}
use Rattle.wasm_types.specs.declared.module.Elem.{Elem}
use Rattle.wasm_types.specs.declared.module.Body.{Body}
use Rattle.wasm_types.specs.declared.module.DataSegment.{DataSegment}
use Rattle.wasm_types.specs.declared.module.Module.{Module}
use Rattle.wasm_types.specs.declared.instr.Instr.{Instr}
use Rattle.wasm_types.specs.Plain.{Immediates, labels, immediates}
use Rattle.wasm_types.specs.Code.{Code, done, one, block, repeat, branch, code_of, flatten}

-- the number of positions
abbrev pub positions : List Instr → ℕ
positions is = length (flatten (code_of is))

-- the labels that a br_table tells apart, its default aside
abbrev pub labels_of : Immediates → List ℕ
labels_of (labels some other) = some
labels_of _ = []

-- each br_table has at most so many
abbrev pub LabelsAtMost : ℕ → Code → Type 0
LabelsAtMost most done = Unit {0}
LabelsAtMost most (one i rest) = (length (labels_of (immediates i)) ≤ most) × LabelsAtMost most rest
LabelsAtMost most (block kind inner rest) = LabelsAtMost most inner × LabelsAtMost most rest
LabelsAtMost most (repeat kind inner rest) = LabelsAtMost most inner × LabelsAtMost most rest
LabelsAtMost most (branch kind first second rest) = LabelsAtMost most first × LabelsAtMost most second × LabelsAtMost most rest

-- Each list of the module and of each of its parts has at most so many entries, each code at most so many positions, and each br_table in a body at most
-- so many labels besides its default.
pub record HasAtMost (most : ℕ) (m : Module) : Type 0 where
  pub types : length m.types ≤ most
  pub imports : length m.imports ≤ most
  pub funcs : length m.funcs ≤ most
  pub tables : length m.tables ≤ most
  pub mems : length m.mems ≤ most
  pub globals : length m.globals ≤ most
  pub exports : length m.exports ≤ most
  pub elems : length m.elems ≤ most
  pub bodies : length m.bodies ≤ most
  pub segments : length m.segments ≤ most
  pub values : All (λ (t : FuncType). (length t.params ≤ most) × (length t.results ≤ most)) m.types
  pub import_names : All (λ (i : Import). (length i.module.bytes ≤ most) × (length i.name.bytes ≤ most)) m.imports
  pub inits : All (λ (g : GlobalDef). positions g.init ≤ most) m.globals
  pub export_names : All (λ (e : Export). length e.name.bytes ≤ most) m.exports
  pub elem_lists : All (λ (e : Elem). (positions e.offset ≤ most) × (length e.funcs ≤ most)) m.elems
  pub codes : All (λ (b : Body). (length b.locals ≤ most) × (positions b.code ≤ most)) m.bodies
  pub labels : All (λ (b : Body). LabelsAtMost most (code_of b.code)) m.bodies
  pub segment_lists : All (λ (d : DataSegment). (positions d.offset ≤ most) × (length d.bytes ≤ most)) m.segments
  pub names : IfSome m.names (λ (bytes : List ℕ). length bytes ≤ most)
