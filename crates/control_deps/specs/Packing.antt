-- How what is kept of a position is kept in few bytes.
use Rattle.std.specs.Prelude.{ℕ, Bool, Option, Some, None, if◌then◌else◌}
use Rattle.wasm_types.specs.declared.module.Pos.{Pos}
use Rattle.control_deps.specs.declared.spot.Form.{Form}
use Rattle.control_deps.specs.declared.spot.Form.TheVariants as form
use Rattle.control_deps.specs.declared.spot.FormKind.{FormKind}
use Rattle.control_deps.specs.declared.spot.FormKind.TheVariants as kind

-- a position, where there is one
abbrev pub pos_back : Bool → ℕ → Option Pos
pos_back there n = if there then Some (record { 0 = n }) else None

abbrev pub form_back : FormKind → ℕ → Form
form_back kind.Other n = form.Other
form_back kind.Block n = form.Block
form_back kind.Loop n = form.Loop
form_back kind.If n = form.If
form_back kind.Branch n = form.Branch n
