-- A run has one end (docs/MEANING.md, "Runs").
use Rattle.std.specs.Prelude.{◌≡◌, ◌≤◌, ℕ, List, Some}
use Rattle.wasm_types.specs.declared.module.Value.{Value}
use Rattle.wasm_types.specs.declared.module.FuncType.{FuncType}
use Rattle.wasm_types.specs.declared.module.Module.{Module}
use Rattle.wasm_types.specs.declared.run.Reply.{Reply}
use Rattle.wasm_types.specs.Spaces.{type_of_func, mems_of}
use Rattle.wasm_types.specs.Subset.{IsSealed}
use Rattle.wasm_meaning.specs.Fits.{HaveTypes}
use Rattle.typed_runs.specs.Start.{least}
use Rattle.module_run.specs.Runs.{most_run_pages, RunEnds, RunsTo}

-- at most one
abbrev pub OneRun : Type 0
OneRun =
    (m : Module) (f i : ℕ) (args : List Value) (replies : List Reply) (budget : ℕ) (e e' : RunEnds)
    → RunsTo m f i args replies budget e → RunsTo m f i args replies budget e' → e' ≡ e

-- In a sealed module whose memory begins with no more pages than a run may have, a function called with arguments of its types has one: that it has none is
-- impossible.
abbrev pub SomeRun : Type 0
SomeRun =
    (m : Module) → IsSealed m → least (mems_of m) ≤ most_run_pages
    → (f : ℕ) (F : FuncType) → type_of_func m f ≡ Some F → (args : List Value) → HaveTypes args F.params
    → (i : ℕ) (replies : List Reply) (budget : ℕ) → ((e : RunEnds) × RunsTo m f i args replies budget e → ⊥) → ⊥
