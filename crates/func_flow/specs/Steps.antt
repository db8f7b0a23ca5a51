-- What stands at a position, as far as dependence goes.
use Rattle.std.specs.Prelude.{◌≡◌, ℕ, List, [], ◌∷◌, ◌++◌, Bool, true, false, Option, Some, None, if◌then◌else◌}
use Rattle.wasm_types.specs.declared.instr.Instr.{Instr}
use Rattle.wasm_types.specs.declared.instr.Instr as instr
use Rattle.wasm_types.specs.Actions.{Action, Number, Read, Write, Copy, Fill, Form, NoForm, Plain, CallOf, CallBy, form_of}
use Rattle.wasm_types.specs.Locations.{number_traps, may_trap_in}
use Rattle.wasm_types.specs.Code.{Code, done, one, block, repeat, branch}
use Rattle.wasm_types.specs.Sites.{Head, DoHead, IfHead, BrIfHead, BrTableHead, UnreachableHead}
use Rattle.func_flow.specs.declared.steps.Picks.{Picks}
use Rattle.func_flow.specs.declared.steps.Picks.TheVariants.{Nothing, All, Top, Second, Outer}
use Rattle.called_rows.specs.declared.instrs.Whom.{Whom}
use Rattle.called_rows.specs.declared.instrs.Whom.TheVariants.{Own, Through}
use Rattle.func_flow.specs.declared.steps.Step.{Step}

-- the operand is among them, counted from the top
abbrev pub IsPicked : Picks → ℕ → Type 0
IsPicked Nothing k = ⊥
IsPicked All k = Unit {0}
IsPicked Top k = k ≡ 0
IsPicked Second k = k ≡ 1
IsPicked Outer k = k ≡ 1 → ⊥

-- which operands decide whether an action traps
abbrev pub traps_in : Action → Picks
traps_in (Number op) = if number_traps op then All else Nothing
traps_in (Read access signed) = Top
traps_in (Write access) = Second
traps_in Copy = All
traps_in Fill = Outer
traps_in _ = Nothing

abbrev pub form_step : Form → Step
form_step NoForm = record { whom = None; makes = All; traps = Nothing; decides = All; stops = true; arms = false }
form_step (Plain a) = record { whom = None; makes = All; traps = traps_in a; decides = All; stops = may_trap_in a; arms = false }
form_step (CallOf f) = record { whom = Some (Own f); makes = Nothing; traps = Nothing; decides = All; stops = true; arms = false }
form_step (CallBy t) = record { whom = Some (Through t); makes = Nothing; traps = Nothing; decides = All; stops = true; arms = false }

-- an instruction that makes nothing, with what of its operands it decides by
abbrev pub deciding : Picks → Step
deciding picks = record { whom = None; makes = Nothing; traps = Nothing; decides = picks; stops = false; arms = false }

-- an if
abbrev pub choosing : Step
choosing = record { whom = None; makes = Nothing; traps = Nothing; decides = Top; stops = false; arms = true }

abbrev pub stopping : Step
stopping = record { whom = None; makes = Nothing; traps = Nothing; decides = Nothing; stops = true; arms = false }

abbrev pub head_step : Head → Step
head_step (DoHead op) = form_step (form_of op)
head_step (IfHead kind) = choosing
head_step (BrIfHead l) = deciding Top
head_step (BrTableHead labels other) = deciding Top
head_step UnreachableHead = stopping
head_step _ = deciding Nothing

-- of an instruction that holds no others
abbrev pub instr_step : Instr → Step
instr_step (instr.Br l) = deciding Nothing
instr_step (instr.BrIf l) = deciding Top
instr_step (instr.BrTable labels other) = deciding Top
instr_step instr.Return = deciding Nothing
instr_step instr.Unreachable = stopping
instr_step op = form_step (form_of op)

-- of each position of code, in reading order
abbrev pub steps : Code → List Step
steps done = []
steps (one op rest) = instr_step op ∷ steps rest
steps (block kind inner rest) = deciding Nothing ∷ (steps inner ++ steps rest)
steps (repeat kind inner rest) = deciding Nothing ∷ (steps inner ++ steps rest)
steps (branch kind x y rest) = choosing ∷ (steps x ++ (steps y ++ steps rest))

-- ---- look-ups

abbrev pub whom_of : Option Step → Option Whom
whom_of (Some s) = s.whom
whom_of None = None

abbrev pub makes_of : Option Step → Picks
makes_of (Some s) = s.makes
makes_of None = Nothing

abbrev pub traps_of : Option Step → Picks
traps_of (Some s) = s.traps
traps_of None = Nothing

abbrev pub decides_of : Option Step → Picks
decides_of (Some s) = s.decides
decides_of None = Nothing

abbrev pub stops_of : Option Step → Bool
stops_of (Some s) = s.stops
stops_of None = false

abbrev pub arms_of : Option Step → Bool
arms_of (Some s) = s.arms
arms_of None = false
