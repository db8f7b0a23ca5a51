-- What the search for a kept set answers, by the rows of a table.
use Rattle.std.specs.Prelude.{◌≡◌, ℕ, Bool, Some}
use Rattle.wasm_types.specs.declared.module.Body.{Body}
use Rattle.wasm_types.specs.declared.module.FuncType.{FuncType}
use Rattle.wasm_types.specs.declared.module.Module.{Module}
use Rattle.wasm_types.specs.declared.place.Node.{Node}
use Rattle.wasm_types.specs.Actions.{callees}
use Rattle.wasm_types.specs.Spaces.{HasBody, type_of_func}
use Rattle.flow_domain.specs.declared.summary_table.SummaryTable.{SummaryTable}
use Rattle.flow_domain.specs.Bounds.{Cover, bounds}
use Rattle.flow_domain.specs.Kept.{Tells, KeptNode, KeptMaker}
use Rattle.flow_domain.specs.KeptSets.{KeptSet, holds}
use Rattle.flow_domain.specs.Rows.{RowOf}
use Rattle.flow_domain.specs.Sliced.{sites_at, ends_at}
use Rattle.flow_domain.specs.Summaries.{TableRows}
use Rattle.flow_domain.specs.Touch.{IsExact}

-- the kept set of position i of a body of this type, and the nodes whose value is needed
abbrev pub KeptBy : Module → SummaryTable → Cover → FuncType → Body → ℕ → Node → Type 0
KeptBy m rows W t b i n = KeptNode (bounds m W) (RowOf m (TableRows rows)) (sites_at (callees m) t b i) (ends_at (callees m) t b i) n

abbrev pub MadeBy : Module → SummaryTable → Cover → FuncType → Body → ℕ → Node → Type 0
MadeBy m rows W t b i n = KeptMaker (bounds m W) (RowOf m (TableRows rows)) (sites_at (callees m) t b i) (ends_at (callees m) t b i) n

-- it is the kept set of position i of function f, whatever the functions write and touch
abbrev pub TellsKept : Module → SummaryTable → ℕ → ℕ → KeptSet → Type 0
TellsKept m rows f i K =
    (W : Cover) → IsExact m W → (t : FuncType) (b : Body) → type_of_func m f ≡ Some t → HasBody m f b → Tells (holds K) (KeptBy m rows W t b i)

-- some test tells the nodes whose value is needed
abbrev pub TellsMade : Module → SummaryTable → ℕ → ℕ → Type 0
TellsMade m rows f i =
    (W : Cover) → IsExact m W → (t : FuncType) (b : Body) → type_of_func m f ≡ Some t → HasBody m f b → (M : Node → Bool) × Tells M (MadeBy m rows W t b i)
