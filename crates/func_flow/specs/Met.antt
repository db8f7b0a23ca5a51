-- What a search met, as rows of a summary.
use Rattle.std.specs.Prelude.{◌≡◌, ◌+◌, ◌<◌, ℕ, Some}
use Rattle.wasm_types.specs.declared.place.Loc.{Loc}
use Rattle.wasm_types.specs.declared.place.Node.{Node}
use Rattle.worklist.specs.Bits.{HasBit}
use Rattle.worklist.specs.Reached.{Reached}
use Rattle.sparse_reach.specs.declared.table.SparseRows.{SparseRows}
use Rattle.flow_domain.specs.Rows.{Output}
use Rattle.flow_domain.specs.Summaries.{row_number, column_number}
use Rattle.func_flow.specs.declared.items.Item.TheVariants.{Needed}
use Rattle.func_flow.specs.declared.numbering.Numbering.{Numbering}
use Rattle.func_flow.specs.declared.tables.Tables.{Tables}
use Rattle.func_flow.specs.Items.{item_number}
use Rattle.func_flow.specs.Next.{First, Next}

-- the output has this row, the location this column, and the item the label
abbrev pub IsMetAt : SparseRows → ℕ → ℕ → ℕ → ℕ → ℕ → Output → Loc → Type 0
IsMetAt met item globals params row column o x =
    (row_number globals o ≡ Some row) × ((column_number globals params x ≡ Some column) × HasBit met.words met.bits item row)

-- one of the first rows
abbrev pub AnyRow : SparseRows → ℕ → ℕ → ℕ → ℕ → ℕ → Output → Loc → Type 0
AnyRow met item globals params rows column o x = (row : ℕ) × ((row < rows) × IsMetAt met item globals params row column o x)

-- in one of the first columns: the location is needed at the point for the output
abbrev pub IsMet : SparseRows → Numbering → Node → ℕ → ℕ → ℕ → Output → Loc → Type 0
IsMet met K first globals params columns o x =
    (column : ℕ) × ((column < columns) × AnyRow met (item_number K (Needed x first)) globals params (5 + globals) column o x)

-- the output has a row and the location a column, and the search that begins at the row meets that the location is needed at the point
abbrev pub IsFound : Tables → Node → ℕ → ℕ → Output → Loc → Type 0
IsFound t first globals params o x =
    (row : ℕ) × ((column : ℕ) × ((row_number globals o ≡ Some row) × ((column_number globals params x ≡ Some column)
    × Reached (First t row) (Next t) (Needed x first))))
