-- What the live positions of a sequence do, as a list in the order of the positions.
use Rattle.std.specs.Prelude.{ℕ, List, [], ◌∷◌, ◌++◌, map, if◌then◌else◌}
use Rattle.wasm_types.specs.declared.instr.Instr.{Instr}
use Rattle.wasm_types.specs.declared.place.Loc.{Loc}
use Rattle.wasm_types.specs.declared.place.Loc.TheVariants as loc
use Rattle.wasm_types.specs.Actions.{Action, GetGlobal, SetGlobal, Read, Write, Pages, Grow, Copy, Fill, Form, NoForm, Plain, CallOf, CallBy, form_of}
use Rattle.wasm_types.specs.Code.{Code, done, one, block, repeat, branch}
use Rattle.flow_domain.specs.LocRows.{goes_on}
use Rattle.call_graph.specs.declared.deeds.Deed.{Deed}
use Rattle.call_graph.specs.declared.deeds.Deed.TheVariants.{Calls, CallsThrough, Touches, Writes}
use Rattle.call_graph.specs.declared.acts.Act.{Act}

-- the locations, locals left out, that an action touches
abbrev pub touched_in : Action → List Loc
touched_in (GetGlobal k) = loc.Global k ∷ []
touched_in (SetGlobal k) = loc.Global k ∷ []
touched_in (Read access signed) = loc.Mem ∷ loc.Size ∷ []
touched_in (Write access) = loc.Mem ∷ loc.Size ∷ []
touched_in Pages = loc.Size ∷ []
touched_in Grow = loc.Size ∷ []
touched_in Copy = loc.Mem ∷ loc.Size ∷ []
touched_in Fill = loc.Mem ∷ loc.Size ∷ []
touched_in _ = []

-- those that it writes
abbrev pub written_in : Action → List Loc
written_in (SetGlobal k) = loc.Global k ∷ []
written_in (Write access) = loc.Mem ∷ []
written_in Grow = loc.Size ∷ []
written_in Copy = loc.Mem ∷ []
written_in Fill = loc.Mem ∷ []
written_in _ = []

abbrev pub deeds_by : Form → List Deed
deeds_by NoForm = []
deeds_by (Plain a) = map Touches (touched_in a) ++ map Writes (written_in a)
deeds_by (CallOf f) = Calls f ∷ []
deeds_by (CallBy t) = CallsThrough t ∷ []

abbrev pub deeds_of : Instr → List Deed
deeds_of op = deeds_by (form_of op)

-- what follows a transfer of control is dead
abbrev pub live_deeds : Code → List Deed
live_deeds done = []
live_deeds (one op rest) = deeds_of op ++ (if goes_on op then live_deeds rest else [])
live_deeds (block kind body rest) = live_deeds body ++ live_deeds rest
live_deeds (repeat kind body rest) = live_deeds body ++ live_deeds rest
live_deeds (branch kind x y rest) = live_deeds x ++ (live_deeds y ++ live_deeds rest)

-- done by function f
abbrev pub act_of : ℕ → Deed → Act
act_of f d = record { func = f; deed = d }
