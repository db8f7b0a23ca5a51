-- What some functions do, taken together.
use Rattle.std.specs.Prelude.{◌≡◌, ◌↔◌, ℕ, List, Bool, Some, slice_get}
use Rattle.std.specs.List.{Contains}
use Rattle.wasm_types.specs.declared.module.Module.{Module}
use Rattle.wasm_types.specs.declared.place.Loc.{Loc}
use Rattle.flow_domain.specs.declared.summary.Summary.{Summary}
use Rattle.flow_domain.specs.declared.summary_table.SummaryTable.{SummaryTable}
use Rattle.flow_domain.specs.Reach.{MayWrite}
use Rattle.flow_domain.specs.Summaries.{IsShape}
use Rattle.flow_domain.specs.Touch.{MayTouch}
use Rattle.called_rows.specs.declared.funcs.Effect.{Effect}
use Rattle.called_rows.specs.declared.funcs.Effect.TheVariants.{Writes, Touches}
use Rattle.called_rows.specs.Locs.{IsLoc, IsMarkedAt}

-- what a function may do to a location
abbrev pub HasEffect : Module → Effect → ℕ → Loc → Type 0
HasEffect m Writes f x = MayWrite m f x
HasEffect m Touches f x = MayTouch m f x

-- one of the functions has it
abbrev pub AnyOf : List ℕ → (ℕ → Type 0) → Type 0
AnyOf funcs P = (f : ℕ) × (Contains funcs f × P f)

-- the rows of a function, if it has some, are those of so many globals and parameters
abbrev pub AreShaped : SummaryTable → ℕ → ℕ → ℕ → Type 0
AreShaped t globals params f = (s : Summary) → slice_get t.rows.items f ≡ Some s → IsShape globals params s

-- the functions have rows, all of one shape
abbrev pub ShareShape : SummaryTable → ℕ → List ℕ → Type 0
ShareShape t globals funcs =
    (f g : ℕ) → Contains funcs f → Contains funcs g → (s : Summary) × ((slice_get t.rows.items f ≡ Some s) × AreShaped t globals s.params g)

-- the marks are those of the locations of which P holds, locals left out
abbrev pub MarksOf : ℕ → List Bool → (Loc → Type 0) → Type 0
MarksOf globals marks P = (x : Loc) → IsLoc globals 0 x → IsMarkedAt globals marks x ↔ P x
