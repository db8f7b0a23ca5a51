-- What holds of the table while rows are added, and when a function's rows are all there.
use Rattle.std.specs.Prelude.{◌≡◌, ℕ, ◌⊎◌, List, Bool, length, true}
use Rattle.wasm_types.specs.declared.module.Module.{Module}
use Rattle.wasm_types.specs.declared.place.Loc.{Loc}
use Rattle.wasm_types.specs.Hosts.{IsFunction}
use Rattle.wasm_types.specs.Spaces.{globals_of}
use Rattle.wasm_types.specs.Subset.{IsSealed}
use Rattle.worklist.specs.Search.{IsMarked}
use Rattle.flow_domain.specs.Bounds.{Cover, bounds}
use Rattle.flow_domain.specs.Reach.{CallsFunc}
use Rattle.flow_domain.specs.Rows.{Output, AnyRound, LedTo}
use Rattle.flow_domain.specs.Summaries.{IsKnown, IsTableOf, TableRows}
use Rattle.flow_domain.specs.Touch.{IsExact}
use Rattle.flow_domain.specs.declared.summary_table.SummaryTable.{SummaryTable}
use Rattle.call_graph.specs.Graph.{CallsNumber}
use Rattle.summary_fix.specs.declared.rounds.Growth.{Growth}
use Rattle.summary_fix.specs.TwoRuns.{IsLeastTable, TableAgrees, TableReturns}

-- it is a table of a module that is answered, and all its rows are rows of a round
pub record IsSound (m : Module) (t : SummaryTable) : Type 0 where
  pub sealed : IsSealed m
  pub table : IsTableOf m t
  pub rounds : (W : Cover) → IsExact m W → (f : ℕ) (o : Output) (x : Loc) → TableRows t f o x → AnyRound (bounds m W) f o x

-- one more round adds nothing to the rows of function f
pub record IsFull (m : Module) (t : SummaryTable) (f : ℕ) : Type 0 where
  pub has : (W : Cover) → IsExact m W → (o : Output) (x : Loc) → IsKnown (length (globals_of m)) o → LedTo (TableRows t) (bounds m W) f o x → TableRows t f o x

-- a function doesn't call another by its number if that got rows, and doesn't call it at all if its class did
abbrev pub IsApart : Module → Growth → ℕ → ℕ → Type 0
IsApart m grew f func = (grew.rows ≡ true → CallsNumber m f func → ⊥) × (grew.class ≡ true → CallsFunc m f func → ⊥)

-- wanted functions that may not be full are marked
pub record IsSettled (m : Module) (t : SummaryTable) (wanted marks : List Bool) : Type 0 where
  pub long : length marks ≡ length t.rows.items
  pub wanted_long : length wanted ≡ length t.rows.items
  pub either : (f : ℕ) → IsFunction m f → IsMarked wanted f → IsFull m t f ⊎ IsMarked marks f
  pub only : (f : ℕ) → IsMarked marks f → IsMarked wanted f

-- only functions of P have rows that they didn't have
abbrev pub GrowsOnly : (ℕ → Type 0) → SummaryTable → SummaryTable → Type 0
GrowsOnly P t u = (f : ℕ) (o : Output) (x : Loc) → TableRows u f o x → TableRows t f o x ⊎ P f

-- what wanted functions call is wanted
abbrev pub IsClosed : Module → (ℕ → Type 0) → Type 0
IsClosed m Wanted = (f h : ℕ) → Wanted f → CallsFunc m f h → IsFunction m h → Wanted h

-- A table to which one more round adds nothing, and all of whose rows are rows of rounds, is the least.
abbrev pub SettledIsLeast : Type 0
SettledIsLeast = (m : Module) (t : SummaryTable) → IsSound m t → ((f : ℕ) → IsFunction m f → IsFull m t f) → IsLeastTable m t

-- So what it leaves out has no influence, where the sets of locations that functions write and touch are given.
abbrev pub LeastTableHolds : Type 0
LeastTableHolds = (m : Module) (W : Cover) (t : SummaryTable) → IsExact m W → IsSealed m → IsLeastTable m t → TableAgrees m t × TableReturns m t
