-- The texts that the program prints (docs/COMMANDS.md), byte by byte.
use Rattle.std.specs.Prelude.{ℕ, List, [], ◌∷◌, ◌++◌, codes, decimal}
use Rattle.wasm_types.specs.declared.limits.TheConstants.{MOST_BYTES, MOST_NESTING}
use Rattle.wasm_types.specs.declared.place.Part.{Part}
use Rattle.wasm_types.specs.declared.place.Part.TheVariants as part
use Rattle.wasm_types.specs.declared.place.LimitKind.{LimitKind}
use Rattle.wasm_types.specs.declared.place.LimitKind.TheVariants as limit
use Rattle.report_text.specs.declared.refusal.Refusal.{Refusal}
use Rattle.report_text.specs.declared.refusal.Refusal.TheVariants.{Words, ReadFailed, Module, Query}
use Rattle.report_text.specs.declared.refusal.ModuleRefusal.{ModuleRefusal}
use Rattle.report_text.specs.declared.refusal.ModuleRefusal.TheVariants as of_module
use Rattle.report_text.specs.declared.refusal.QueryRefusal.{QueryRefusal}
use Rattle.report_text.specs.declared.refusal.QueryRefusal.TheVariants as of_query

-- these parts one after another, and the end of the line
abbrev pub line_of : List (List ℕ) → List ℕ
line_of [] = 10 ∷ []
line_of (text ∷ texts) = text ++ line_of texts

-- ---- refusals

-- the name of a part of a module
abbrev pub part_text : Part → List ℕ
part_text (part.TypeAt k) = codes "type " ++ decimal k
part_text (part.ImportAt k) = codes "import " ++ decimal k
part_text (part.FuncTypeAt k) = codes "function type " ++ decimal k
part_text part.TableAll = codes "table"
part_text part.MemoryAll = codes "memory"
part_text (part.GlobalAt k) = codes "global " ++ decimal k
part_text (part.FuncAt k) = codes "function " ++ decimal k
part_text (part.ExportAt k) = codes "export " ++ decimal k
part_text part.StartAt = codes "start"
part_text (part.ElemAt k) = codes "element " ++ decimal k
part_text (part.DataAt k) = codes "data " ++ decimal k

-- a number over its limit
abbrev pub limit_texts : LimitKind → ℕ → ℕ → List (List ℕ)
limit_texts limit.Functions at count = decimal count ∷ codes " functions" ∷ []
limit_texts limit.Params at count = codes "type " ∷ decimal at ∷ codes " has " ∷ decimal count ∷ codes " parameters" ∷ []
limit_texts limit.Globals at count = decimal count ∷ codes " globals" ∷ []
limit_texts limit.TableSize at count = codes "table of " ∷ decimal count ∷ codes " entries" ∷ []
limit_texts limit.Locals at count = codes "function " ∷ decimal at ∷ codes " has " ∷ decimal count ∷ codes " locals" ∷ []
limit_texts limit.Positions at count = codes "function " ∷ decimal at ∷ codes " has " ∷ decimal count ∷ codes " positions" ∷ []

-- why a module is refused
abbrev pub module_texts : ModuleRefusal → List (List ℕ)
module_texts of_module.TooLong = codes "longer than " ∷ decimal MOST_BYTES ∷ codes " bytes" ∷ []
module_texts of_module.NoHeader = codes "no module header" ∷ []
module_texts (of_module.NoFrame k) = codes "section " ∷ decimal k ∷ codes " has no frame" ∷ []
module_texts (of_module.DoesNotRead k id) = codes "section " ∷ decimal k ∷ codes " (id " ∷ decimal id ∷ codes ") does not read" ∷ []
module_texts (of_module.TooDeep id entry) = codes "nesting over " ∷ decimal MOST_NESTING ∷ codes " in section id " ∷ decimal id ∷ codes " entry " ∷ decimal entry ∷ []
module_texts of_module.Counts = codes "function and code sections differ in count" ∷ []
module_texts (of_module.Float p) = codes "float type or instruction in " ∷ part_text p ∷ []
module_texts (of_module.Limit which at count) = codes "limit: " ∷ limit_texts which at count
module_texts (of_module.Invalid p) = codes "invalid " ∷ part_text p ∷ []

-- why a query about a module is refused
abbrev pub query_texts : QueryRefusal → List (List ℕ)
query_texts (of_query.NoFunction func) = codes "no function " ∷ decimal func ∷ []
query_texts (of_query.Imported func) = codes "function " ∷ decimal func ∷ codes " is imported" ∷ []
query_texts (of_query.NoInstruction at count) = codes "no instruction " ∷ decimal at ∷ codes ", function has " ∷ decimal count ∷ []
query_texts (of_query.Dead at) = codes "instruction " ∷ decimal at ∷ codes " is dead" ∷ []
query_texts of_query.NameTaken = codes "export name taken" ∷ []
query_texts of_query.BadArguments = codes "arguments do not fit" ∷ []
query_texts (of_query.TooManyPages min) = codes "memory of " ∷ decimal min ∷ codes " pages is over 1024" ∷ []

-- what is refused, and why
abbrev pub refusal_texts : Refusal → List (List ℕ)
refusal_texts Words = codes "words refused" ∷ []
refusal_texts ReadFailed = codes "read failed" ∷ []
refusal_texts (Module cause) = codes "module refused: " ∷ module_texts cause
refusal_texts (Query cause) = codes "query refused: " ∷ query_texts cause

-- the line of a refusal
abbrev pub refusal_line : Refusal → List ℕ
refusal_line refusal = line_of (codes "wassail: " ∷ refusal_texts refusal)

-- ---- answers

-- what `check` writes of a valid module
abbrev pub valid_line : List ℕ
valid_line = line_of (codes "valid" ∷ [])

-- what `slice` writes beside the sliced module: the number of the new function, and where the instruction stands in it
abbrev pub slice_line : ℕ → ℕ → List ℕ
slice_line func at = line_of (codes "function " ∷ decimal func ∷ codes " instruction " ∷ decimal at ∷ [])
