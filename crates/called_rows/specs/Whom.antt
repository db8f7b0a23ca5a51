-- Whom instructions call, and what is asked of calls.
use Rattle.std.specs.Prelude.{◌≡◌, ℕ, ◌+◌, Option, Some, None}
use Rattle.wasm_types.specs.declared.instr.Instr.{Instr}
use Rattle.wasm_types.specs.declared.place.Loc.{Loc}
use Rattle.wasm_types.specs.Actions.{Callee, Own, Through, Form, CallOf, CallBy, form_of}
use Rattle.flow_domain.specs.Rows.{Output, Ret, Final, Done, IsIndex}
use Rattle.called_rows.specs.declared.instrs.Whom.{Whom}
use Rattle.called_rows.specs.declared.instrs.Whom.TheVariants as whom
use Rattle.called_rows.specs.declared.outputs.Made.{Made}
use Rattle.called_rows.specs.declared.outputs.Made.TheVariants as made

abbrev pub whom_by : Form → Option Whom
whom_by (CallOf f) = Some (whom.Own f)
whom_by (CallBy t) = Some (whom.Through t)
whom_by _ = None

-- whom an instruction calls
abbrev pub whom_of : Instr → Option Whom
whom_of op = whom_by (form_of op)

-- the callee is that
abbrev pub IsWhom : Callee → Whom → Type 0
IsWhom (Own f) (whom.Own g) = f ≡ g
IsWhom (Through t n) (whom.Through u) = t ≡ u
IsWhom _ _ = ⊥

-- the index of a call through the table, on its n arguments
abbrev pub IsIndexOf : Callee → Loc → Type 0
IsIndexOf (Own f) x = ⊥
IsIndexOf (Through t n) x = IsIndex n x

-- the index of a call through the table is the last of so many operands
abbrev pub IsLast : Whom → ℕ → ℕ → Type 0
IsLast (whom.Own f) n k = ⊥
IsLast (whom.Through t) n k = k + 1 ≡ n

-- the output that is asked of a node
abbrev pub output_of : Made → Output
output_of made.Ret = Ret
output_of made.Done = Done
output_of (made.Final x) = Final x
