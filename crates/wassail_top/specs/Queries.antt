-- Why a query about a function, or about a position of it, is refused (docs/COMMANDS.md, "Refusals"). Of two causes the first counts (`option_or`).
use Rattle.std.specs.Prelude.{ℕ, ℤ, List, [], length, Option, Some, None, nat_lt, if◌then◌else◌, option_and_then, slice_get, not, ◌&&◌}
use Rattle.std.specs.Option.{option_or}
use Rattle.report_text.specs.declared.refusal.QueryRefusal.{QueryRefusal}
use Rattle.report_text.specs.declared.refusal.QueryRefusal.TheVariants as of_query
use Rattle.wasm_types.specs.declared.module.FuncType.{FuncType}
use Rattle.wasm_types.specs.declared.module.Module.{Module}
use Rattle.wasm_types.specs.declared.module.ValType.{ValType}
use Rattle.wasm_types.specs.declared.module.Value.{Value}
use Rattle.wasm_types.specs.Actions.{callees}
use Rattle.wasm_types.specs.Funcs.{Func, func_of, text}
use Rattle.wasm_types.specs.Sites.{Site, body_sites}
use Rattle.wasm_types.specs.Spaces.{body_of, func_types, type_of_func, mems_of}
use Rattle.typed_runs.specs.Start.{least}
use Rattle.module_mill.specs.declared.whole.TheConstants.{MOST_MILLED}
use Rattle.module_run.specs.Runs.{most_run_pages}
use Rattle.module_run.specs.Values.{values_for}
use Rattle.slice_whole.specs.Slices.{count_in, why_not}
use Rattle.wassail_top.specs.Refusals.{why_no_code, why_not_sliced}

-- ---- positions

-- the number of positions of a function, 0 where it has no body
abbrev pub positions_of : Module → ℕ → ℕ
positions_of m f = count_in (body_of m f)

-- i is no position
abbrev pub why_no_position : ℕ → ℕ → Option QueryRefusal
why_no_position count i = if nat_lt i count then None else Some (of_query.NoInstruction i count)

-- a position without a site is dead
abbrev pub why_no_site : ℕ → Option (Option Site) → Option QueryRefusal
why_no_site i (Some (Some site)) = None
why_no_site i _ = Some (of_query.Dead i)

abbrev pub why_dead : Module → ℕ → Option Func → Option QueryRefusal
why_dead m i None = None
why_dead m i (Some F) = why_no_site i (slice_get (body_sites (callees m) F.results (text F)) i)

-- nothing is seen at position i of function f
abbrev pub why_not_seen : Module → ℕ → ℕ → Option QueryRefusal
why_not_seen m f i = option_or (why_no_position (positions_of m f) i) (why_dead m i (func_of m f))

-- ---- arguments and pages

-- the types of a function's parameters
abbrev pub params_in : Option FuncType → List ValType
params_in None = []
params_in (Some t) = t.params

abbrev pub params_of : Module → ℕ → List ValType
params_of m f = params_in (type_of_func m f)

abbrev pub why_no_values : Option (List Value) → Option QueryRefusal
why_no_values (Some values) = None
why_no_values None = Some of_query.BadArguments

-- the arguments stand for no values of the function's parameters
abbrev pub why_not_called : Module → ℕ → List ℤ → Option QueryRefusal
why_not_called m f args = why_no_values (values_for (params_of m f) args)

-- the memory begins with more pages than a run may have
abbrev pub why_too_large : ℕ → Option QueryRefusal
why_too_large min = if nat_lt most_run_pages min then Some (of_query.TooManyPages min) else None

-- a function with code isn't run
abbrev pub why_no_run : Module → ℕ → List ℤ → Option QueryRefusal
why_no_run m f args = option_or (why_not_called m f args) (why_too_large (least (mems_of m)))

-- ---- queries

-- the greatest number of a module that is made
abbrev pub most_milled : ℕ
most_milled = MOST_MILLED

-- why `summary` is refused, of one function or of all
abbrev pub why_no_summary : Module → Option ℕ → Option QueryRefusal
why_no_summary m None = None
why_no_summary m (Some f) = if nat_lt f (length (func_types m)) then None else Some (of_query.NoFunction f)

-- why `run` is refused
abbrev pub why_not_run : Module → ℕ → List ℤ → Option QueryRefusal
why_not_run m f args = option_or (why_no_code m f) (why_no_run m f args)

-- why `trace` is refused
abbrev pub why_not_traced : Module → ℕ → ℕ → List ℤ → Option QueryRefusal
why_not_traced m f i args = option_or (why_no_code m f) (option_or (why_not_seen m f i) (why_no_run m f args))

-- why `kept` is refused
abbrev pub why_not_kept : Module → ℕ → ℕ → Option QueryRefusal
why_not_kept m f i = option_or (why_no_code m f) (why_not_seen m f i)

-- why `mill` is refused
abbrev pub why_not_milled : ℕ → Option QueryRefusal
why_not_milled n = if nat_lt 0 n && not (nat_lt most_milled n) then None else Some of_query.BadArguments

-- why `slice` is refused
abbrev pub why_no_slice : Module → ℕ → ℕ → List ℕ → Option QueryRefusal
why_no_slice m f i name = option_and_then (why_not_sliced f i) (why_not m f i name)
