-- The contents of sections (WebAssembly Core Specification 1.0, sections 5.5.3 to 5.5.14).
use Rattle.std.specs.Prelude.{◌≡◌, ℕ, ◌<◌, List, slice_get, All, Option, Some, None, Result, Ok, Err}
use Rattle.wasm_types.specs.declared.module.FuncType.{FuncType}
use Rattle.wasm_types.specs.declared.module.Limits.{Limits}
use Rattle.wasm_types.specs.declared.module.Name.{Name}
use Rattle.wasm_types.specs.declared.module.Import.{Import}
use Rattle.wasm_types.specs.declared.module.GlobalDef.{GlobalDef}
use Rattle.wasm_types.specs.declared.module.Export.{Export}
use Rattle.wasm_types.specs.declared.module.Elem.{Elem}
use Rattle.wasm_types.specs.declared.module.Body.{Body}
use Rattle.wasm_types.specs.declared.module.DataSegment.{DataSegment}
use Rattle.wasm_types.specs.declared.module.Module.{Module}
use Rattle.wasm_types.specs.Numbers.{SpellsU32}
use Rattle.wasm_types.specs.Parts.{Counted}
use Rattle.wasm_types.specs.Sections.{SpellsCustom, SpellsTypes, SpellsImports, SpellsFuncs, SpellsTables, SpellsMems, SpellsGlobals, SpellsExports, SpellsElems, SpellsBodies, SpellsSegments}
use Rattle.wasm_types.specs.Modules.{contents_of, ListIs, OptionIs, NamesAre, named_payload, later_of}
use Rattle.code_decode.specs.declared.outcome.Stop.{Stop}
use Rattle.code_decode.specs.declared.outcome.Stop.TheVariants as stop
use Rattle.wasm_decode.specs.Frames.{Section}
use Rattle.wasm_decode.specs.Depth.{IsShallowGlobal, IsShallowElem, IsShallowBody, IsShallowSegment}
use Rattle.wasm_decode.specs.Entries.{Rule, FirstNot, AreEntries}

-- what a section has, by its kind
pub data Contents : Type 0 where
  custom : Name → List ℕ → Contents
  types : List FuncType → Contents
  imports : List Import → Contents
  funcs : List ℕ → Contents
  tables : List Limits → Contents
  mems : List Limits → Contents
  globals : List GlobalDef → Contents
  exports : List Export → Contents
  start : ℕ → Contents
  elems : List Elem → Contents
  bodies : List Body → Contents
  segments : List DataSegment → Contents

abbrev pub section_id : Contents → ℕ
section_id (custom name payload) = 0
section_id (types xs) = 1
section_id (imports xs) = 2
section_id (funcs xs) = 3
section_id (tables xs) = 4
section_id (mems xs) = 5
section_id (globals xs) = 6
section_id (exports xs) = 7
section_id (start func) = 8
section_id (elems xs) = 9
section_id (bodies xs) = 10
section_id (segments xs) = 11

abbrev pub SpellsContents : List ℕ → Contents → Type 0
SpellsContents text (custom name payload) = SpellsCustom text (name, payload)
SpellsContents text (types xs) = SpellsTypes text xs
SpellsContents text (imports xs) = SpellsImports text xs
SpellsContents text (funcs xs) = SpellsFuncs text xs
SpellsContents text (tables xs) = SpellsTables text xs
SpellsContents text (mems xs) = SpellsMems text xs
SpellsContents text (globals xs) = SpellsGlobals text xs
SpellsContents text (exports xs) = SpellsExports text xs
SpellsContents text (start func) = SpellsU32 text func
SpellsContents text (elems xs) = SpellsElems text xs
SpellsContents text (bodies xs) = SpellsBodies text xs
SpellsContents text (segments xs) = SpellsSegments text xs

-- a section of the kind that its id says
abbrev pub SpellsSection : Section → Contents → Type 0
SpellsSection f c = (section_id c ≡ f.0) × SpellsContents f.1 c

abbrev pub IsSpelled : Section → Type 0
IsSpelled f = (c : Contents) × SpellsSection f c

-- ---- how deep code nests in a section

abbrev pub IsShallowContents : Contents → Type 0
IsShallowContents (globals xs) = All IsShallowGlobal xs
IsShallowContents (elems xs) = All IsShallowElem xs
IsShallowContents (bodies xs) = All IsShallowBody xs
IsShallowContents (segments xs) = All IsShallowSegment xs
IsShallowContents _ = Unit {0}

-- the entry is the first in which code nests too deep
abbrev pub DeepAt : Contents → ℕ → Type 0
DeepAt (globals xs) entry = FirstNot IsShallowGlobal xs entry
DeepAt (elems xs) entry = FirstNot IsShallowElem xs entry
DeepAt (bodies xs) entry = FirstNot IsShallowBody xs entry
DeepAt (segments xs) entry = FirstNot IsShallowSegment xs entry
DeepAt _ entry = ⊥

abbrev pub IsShallowSection : Section → Type 0
IsShallowSection f = (c : Contents) × SpellsSection f c × IsShallowContents c

-- ---- sections in a row

-- section k, which has the id, is the first that isn't spelled
pub record FirstUnspelled (frames : List Section) (k id : ℕ) : Type 0 where
  pub text : List ℕ
  pub there : slice_get frames k ≡ Some (id, text)
  pub unspelled : IsSpelled (id, text) → ⊥
  pub before : (j : ℕ) (f : Section) → j < k → slice_get frames j ≡ Some f → IsSpelled f

-- a section of the id is the first with code that nests too deep, first in the entry
pub record FirstDeep (frames : List Section) (id entry : ℕ) : Type 0 where
  pub k : ℕ
  pub text : List ℕ
  pub there : slice_get frames k ≡ Some (id, text)
  pub contents : Contents
  pub spelled : SpellsSection (id, text) contents
  pub deep : DeepAt contents entry
  pub before : (j : ℕ) (f : Section) → j < k → slice_get frames j ≡ Some f → IsShallowSection f

-- each list of the module is spelled by its section, and is empty where there is none
pub record HasParts (frames : List Section) (m : Module) : Type 0 where
  pub types : ListIs SpellsTypes m.types (contents_of 1 frames)
  pub imports : ListIs SpellsImports m.imports (contents_of 2 frames)
  pub funcs : ListIs SpellsFuncs m.funcs (contents_of 3 frames)
  pub tables : ListIs SpellsTables m.tables (contents_of 4 frames)
  pub mems : ListIs SpellsMems m.mems (contents_of 5 frames)
  pub globals : ListIs SpellsGlobals m.globals (contents_of 6 frames)
  pub exports : ListIs SpellsExports m.exports (contents_of 7 frames)
  pub start : OptionIs SpellsU32 m.start (contents_of 8 frames)
  pub elems : ListIs SpellsElems m.elems (contents_of 9 frames)
  pub bodies : ListIs SpellsBodies m.bodies (contents_of 10 frames)
  pub segments : ListIs SpellsSegments m.segments (contents_of 11 frames)
  pub names : NamesAre frames m.names

-- the module with what one more section has
abbrev pub put : Contents → Module → Module
put (custom name payload) m = record m { names = later_of (named_payload (name, payload)) m.names }
put (types xs) m = record m { types = xs }
put (imports xs) m = record m { imports = xs }
put (funcs xs) m = record m { funcs = xs }
put (tables xs) m = record m { tables = xs }
put (mems xs) m = record m { mems = xs }
put (globals xs) m = record m { globals = xs }
put (exports xs) m = record m { exports = xs }
put (start func) m = record m { start = Some func }
put (elems xs) m = record m { elems = xs }
put (bodies xs) m = record m { bodies = xs }
put (segments xs) m = record m { segments = xs }

-- ---- what readers of contents answer

-- what is kept of the vector that the whole text spells: all entries, or how many there are before the first that nests too deep
abbrev pub Keeps : {A : Type 0} → Rule A → (A → Type 0) → List ℕ → List A → Result (Option ℕ) Stop → Type 0
Keeps {A} Spelled Shallow text kept (Ok deep) = (xs : List A) × Counted Spelled text xs × AreEntries Shallow kept deep xs
Keeps {A} Spelled Shallow text kept (Err stop.No) = (xs : List A) → Counted Spelled text xs → ⊥
Keeps Spelled Shallow text kept (Err stop.Memory) = Unit {0}

-- the payload of the last section named `name`, before and after a custom section
abbrev pub ReadsCustom : List ℕ → Option (List ℕ) → Option (List ℕ) → Result Unit Stop → Type 0
ReadsCustom text old new (Ok _) = (name : Name) × (payload : List ℕ) × SpellsCustom text (name, payload) × (new ≡ later_of (named_payload (name, payload))
    old)
ReadsCustom text old new (Err stop.No) = (name : Name) (payload : List ℕ) → SpellsCustom text (name, payload) → ⊥
ReadsCustom text old new (Err stop.Memory) = Unit {0}

-- the module has what the section has, or code nests too deep in the entry
abbrev pub IsPut : Contents → Option ℕ → Module → Module → Type 0
IsPut c None old new = (new ≡ put c old) × IsShallowContents c
IsPut c (Some entry) old new = DeepAt c entry

abbrev pub ReadsSection : ℕ → List ℕ → Module → Module → Result (Option ℕ) Stop → Type 0
ReadsSection id text old new (Ok deep) = (c : Contents) × SpellsSection (id, text) c × IsPut c deep old new
ReadsSection id text old new (Err stop.No) = IsSpelled (id, text) → ⊥
ReadsSection id text old new (Err stop.Memory) = Unit {0}
