-- The rows of a table of locations, and those that a walk over code makes.
use Rattle.std.specs.Prelude.{List, [], ◌∷◌, ◌++◌, ◌&&◌, Vec, Bool, true, false, Option, Some, None}
use Rattle.std.specs.Global.{Global}
use Rattle.wasm_types.specs.declared.place.Loc.{Loc}
use Rattle.wasm_types.specs.declared.place.Loc.TheVariants as loc
use Rattle.wasm_types.specs.declared.instr.Instr.{Instr}
use Rattle.wasm_types.specs.declared.instr.Instr as instr
use Rattle.wasm_types.specs.Actions.{Action, Get, Set, Tee, GetGlobal, SetGlobal, Read, Write, Pages, Grow, Copy, Fill, Form, Plain, form_of}
use Rattle.wasm_types.specs.Code.{Code, done, one, block, repeat, branch}
use Rattle.flow_domain.specs.declared.loc_table.LocUse.{LocUse}

-- the rows as lists
abbrev pub shown_row : Option (Vec LocUse Global) → Option (List LocUse)
shown_row None = None
shown_row (Some row) = Some row.items

abbrev pub shown : List (Option (Vec LocUse Global)) → List (Option (List LocUse))
shown [] = []
shown (row ∷ rows) = shown_row row ∷ shown rows

-- ---- the ways of use

abbrev pub reading : Loc → LocUse
reading x = record { loc = x; reads = true; checks = false; writes = false }

abbrev pub checking : Loc → LocUse
checking x = record { loc = x; reads = false; checks = true; writes = false }

abbrev pub writing : Loc → LocUse
writing x = record { loc = x; reads = false; checks = false; writes = true }

-- what is written keeps a part of what it was
abbrev pub changing : Loc → LocUse
changing x = record { loc = x; reads = true; checks = false; writes = true }

-- what an action uses
abbrev pub uses_in : Action → List LocUse
uses_in (Get k) = reading (loc.Local k) ∷ []
uses_in (Set k) = writing (loc.Local k) ∷ []
uses_in (Tee k) = writing (loc.Local k) ∷ []
uses_in (GetGlobal k) = reading (loc.Global k) ∷ []
uses_in (SetGlobal k) = writing (loc.Global k) ∷ []
uses_in (Read access signed) = reading loc.Mem ∷ checking loc.Size ∷ []
uses_in (Write access) = changing loc.Mem ∷ checking loc.Size ∷ []
uses_in Pages = reading loc.Size ∷ []
uses_in Grow = changing loc.Size ∷ []
uses_in Copy = changing loc.Mem ∷ checking loc.Size ∷ []
uses_in Fill = changing loc.Mem ∷ checking loc.Size ∷ []
uses_in _ = []

abbrev pub uses_by : Form → List LocUse
uses_by (Plain a) = uses_in a
uses_by _ = []

abbrev pub uses_of : Instr → List LocUse
uses_of op = uses_by (form_of op)

-- ---- code

-- what follows in the same sequence can be live
abbrev pub goes_on : Instr → Bool
goes_on instr.Unreachable = false
goes_on (instr.Br l) = false
goes_on (instr.BrTable labels other) = false
goes_on instr.Return = false
goes_on _ = true

abbrev pub if_live : Bool → List LocUse → Option (List LocUse)
if_live true uses = Some uses
if_live false uses = None

-- the rows of a sequence that is live or not
abbrev pub rows_of : Bool → Code → List (Option (List LocUse))
rows_of live done = []
rows_of live (one op rest) = if_live live (uses_of op) ∷ rows_of (goes_on op && live) rest
rows_of live (block kind body rest) = if_live live [] ∷ (rows_of live body ++ rows_of live rest)
rows_of live (repeat kind body rest) = if_live live [] ∷ (rows_of live body ++ rows_of live rest)
rows_of live (branch kind x y rest) = if_live live [] ∷ (rows_of live x ++ (rows_of live y ++ rows_of live rest))
