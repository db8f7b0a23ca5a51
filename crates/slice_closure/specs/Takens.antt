-- Which of its operands a kept instruction takes: those that it doesn't carry to another place.
use Rattle.std.specs.Prelude.{◌-◌, List, [], Option, Some, None, drop, length}
use Rattle.wasm_types.specs.declared.instr.Instr.{Instr}
use Rattle.wasm_types.specs.declared.instr.Instr as instr
use Rattle.wasm_types.specs.Sites.{Head, BrHead, BrIfHead, BrTableHead, IfHead, ReturnHead}
use Rattle.stack_names.specs.declared.place.Place.{Place}
use Rattle.slice_closure.specs.declared.spot.Taken.{Taken}
use Rattle.slice_closure.specs.declared.spot.Taken.TheVariants.{All, Last, Nothing, Test}

abbrev pub taken_by : Instr → Taken
taken_by (instr.Br l) = Nothing
taken_by (instr.BrIf l) = Last
taken_by (instr.BrTable labels other) = Last
taken_by instr.Return = Nothing
taken_by _ = All

-- the same of what stands at a position
abbrev pub taken_at : Head → Taken
taken_at (BrHead l) = Nothing
taken_at (BrIfHead l) = Last
taken_at (BrTableHead labels other) = Last
taken_at (ReturnHead l) = Nothing
taken_at (IfHead kind) = Test
taken_at _ = All

-- of all operands, the deepest first, those that are taken
abbrev pub of_taken : Option Taken → List Place → List Place
of_taken (Some All) places = places
of_taken (Some Test) places = places
of_taken (Some Last) places = drop (length places - 1) places
of_taken (Some Nothing) places = []
of_taken None places = []
