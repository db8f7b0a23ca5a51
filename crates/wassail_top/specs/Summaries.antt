-- The rows that `summary` prints, and what they leave out (docs/ANALYSES.md, "Rows").
use Rattle.std.specs.Prelude.{◌≡◌, ◌↔◌, ℕ, Bool, true, false, length, IsSome}
use Rattle.wasm_types.specs.declared.module.Module.{Module}
use Rattle.wasm_types.specs.declared.place.Loc.{Loc}
use Rattle.wasm_types.specs.Hosts.{IsFunction}
use Rattle.wasm_types.specs.Spaces.{globals_of}
use Rattle.flow_domain.specs.declared.summary.Input.{Input}
use Rattle.flow_domain.specs.declared.summary.Output.{Output as Asked}
use Rattle.flow_domain.specs.Bounds.{Cover, bounds}
use Rattle.flow_domain.specs.Rows.{Output, AnyRound}
use Rattle.flow_domain.specs.Summaries.{IsKnown, asked, column_number, place_of}
use Rattle.flow_domain.specs.Touch.{IsExact}
use Rattle.wassail_top.specs.Queries.{params_of}

-- the location is an input of function f: a parameter, a global of the module, the memory, its size or the host
abbrev pub IsInputOf : Module → ℕ → Loc → Type 0
IsInputOf m f x = IsSome (column_number (length (globals_of m)) (length (params_of m f)) x)

-- o is an output of function f, and x an input of it
pub record AreOf (m : Module) (f : ℕ) (o : Output) (x : Loc) : Type 0 where
  pub func : IsFunction m f
  pub out : IsKnown (length (globals_of m)) o
  pub inp : IsInputOf m f x

-- a test of whether output o of function f may depend on input i
abbrev pub RowTest : Type 0
RowTest = ℕ → Asked → Input → Bool

-- they are the rows of the module's functions: the inputs to which some round leads an output
pub record AreRows (m : Module) (rows : RowTest) : Type 0 where
  -- what callees write and what decides whether calls of them stop, just as it is
  pub cover : Cover
  pub cover_is : IsExact m cover
  pub exact : (f : ℕ) (o : Asked) (i : Input) → (rows f o i ≡ true) ↔ (AreOf m f (asked o) (place_of i) × AnyRound (bounds m cover) f (asked o) (place_of i))

-- J has inputs of function f alone, and none of them is in the row of output o
pub record LeavesOut (m : Module) (rows : RowTest) (f : ℕ) (o : Asked) (J : Loc → Bool) : Type 0 where
  pub inputs : (x : Loc) → J x ≡ true → IsInputOf m f x
  pub omitted : (i : Input) → J (place_of i) ≡ true → rows f o i ≡ false
