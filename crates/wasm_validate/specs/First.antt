-- The first part of a module, in an order, of which a property doesn't hold (docs/VALIDITY.md, "The order of refusals").
use Rattle.std.specs.Prelude.{◌≡◌, ◌⊎◌, ℕ, ◌<◌, Option, Some, None}
use Rattle.wasm_types.specs.declared.place.Part.{Part}
use Rattle.wasm_types.specs.declared.place.Part.TheVariants as part

-- The kinds of part in the order in which floats are looked for. Those after the data segments hold no type of a value and no code.
abbrev pub float_order : Part → ℕ
float_order (part.TypeAt k) = 0
float_order (part.ImportAt k) = 1
float_order (part.GlobalAt g) = 2
float_order (part.ElemAt k) = 3
float_order (part.FuncAt f) = 4
float_order (part.DataAt k) = 5
float_order (part.FuncTypeAt f) = 6
float_order part.TableAll = 7
float_order part.MemoryAll = 8
float_order (part.ExportAt k) = 9
float_order part.StartAt = 10

-- the kinds of part in the order in which their validity is tested
abbrev pub valid_order : Part → ℕ
valid_order (part.TypeAt k) = 0
valid_order (part.ImportAt k) = 1
valid_order (part.FuncTypeAt f) = 2
valid_order part.TableAll = 3
valid_order part.MemoryAll = 4
valid_order (part.GlobalAt g) = 5
valid_order (part.FuncAt f) = 6
valid_order (part.ExportAt k) = 7
valid_order part.StartAt = 8
valid_order (part.ElemAt k) = 9
valid_order (part.DataAt k) = 10

-- the number of a part among those of its kind
abbrev pub part_number : Part → ℕ
part_number (part.TypeAt k) = k
part_number (part.ImportAt k) = k
part_number (part.FuncTypeAt f) = f
part_number part.TableAll = 0
part_number part.MemoryAll = 0
part_number (part.GlobalAt g) = g
part_number (part.FuncAt f) = f
part_number (part.ExportAt k) = k
part_number part.StartAt = 0
part_number (part.ElemAt k) = k
part_number (part.DataAt k) = k

-- part q comes before part p
abbrev pub ComesBefore : (Part → ℕ) → Part → Part → Type 0
ComesBefore order q p = (order q < order p) ⊎ ((order q ≡ order p) × (part_number q < part_number p))

-- the property holds of each part that comes before p, and not of p
abbrev pub IsFirstWithout : (Part → Type 0) → (Part → ℕ) → Part → Type 0
IsFirstWithout P order p = (P p → ⊥) × ((q : Part) → ComesBefore order q p → P q)

-- the first part of which the property doesn't hold: none where it holds of each
abbrev pub FindsPart : (Part → Type 0) → (Part → ℕ) → Option Part → Type 0
FindsPart P order None = (p : Part) → P p
FindsPart P order (Some p) = IsFirstWithout P order p

-- the least number of which a property doesn't hold: none where it holds of each
abbrev pub FindsNumber : (ℕ → Type 0) → Option ℕ → Type 0
FindsNumber P None = (k : ℕ) → P k
FindsNumber P (Some k) = (P k → ⊥) × ((j : ℕ) → j < k → P j)
