-- What `mill` tells of a module (docs/COMMANDS.md, "What mill tells").
use Rattle.std.specs.Prelude.{◌≡◌, ℕ, zero, suc, ◌+◌, ◌-◌, List, codes, length}
use Rattle.wasm_types.specs.declared.module.Module.{Module}
use Rattle.wasm_types.specs.declared.module.Name.{Name}
use Rattle.wasm_types.specs.Canon.{canon}
use Rattle.flow_domain.specs.KeptSets.{KeptSet, holds, size}
use Rattle.flow_domain.specs.Sliced.{func_count}
use Rattle.flow_domain.specs.Sliced.{IsSliced}
use Rattle.slice_whole.specs.Slices.{IsKeptOf}
use Rattle.mill_report.specs.declared.lines.Figures.{Figures}
use Rattle.mill_report.specs.Counts.{all_positions, inputs_below}
use Rattle.mill_report.specs.Lines.{figure_lines}
use Rattle.wassail_top.specs.Queries.{positions_of}
use Rattle.wassail_top.specs.Summaries.{AreRows, RowTest}

-- the last position of a function
abbrev pub last_position : Module → ℕ → ℕ
last_position m f = positions_of m f - 1

-- the kept sets of the last positions of the first n functions have so many nodes together
abbrev pub KeepsBelow : Module → ℕ → ℕ → Type 0
KeepsBelow m zero total = total ≡ 0
KeepsBelow m (suc f) total =
    (before : ℕ) × (K : KeptSet) × KeepsBelow m f before × IsKeptOf m f (last_position m f) (holds K) × (total ≡ before + size K)

-- the name of the slice that is measured
abbrev pub measured : Name
measured = record { bytes = codes "s" }

-- the last function
abbrev pub last_function : Module → ℕ
last_function m = func_count m - 1

abbrev pub figures_of : (m : Module) → RowTest → ℕ → Module → Figures
figures_of m rows kept sliced = record {
  bytes = length (canon m);
  functions = func_count m;
  positions = all_positions m;
  inputs = inputs_below m rows (func_count m);
  kept = kept;
  slice_bytes = length (canon sliced);
}

-- How long the module is in its canonical spelling, how many functions, positions and inputs in the rows of its functions it has, how many nodes are kept for
-- the last position of each function, and how long the module is once the last function is sliced at its last position.
pub record IsReport (m : Module) (text : List ℕ) : Type 0 where
  pub rows : RowTest
  pub are : AreRows m rows
  pub kept : ℕ
  pub keeps : KeepsBelow m (func_count m) kept
  pub new : Module
  pub at : ℕ
  pub sliced : IsSliced m (last_function m) (last_position m (last_function m)) measured new at
  pub is : text ≡ figure_lines (figures_of m rows kept new)
