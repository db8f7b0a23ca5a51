-- The sliced module of a function, an instruction and a name (docs/ANALYSES.md, "The sliced module").
use Rattle.std.specs.Prelude.{◌≡◌, ℕ, List, [], ◌∷◌, ◌++◌, length, Option, Bool, Some, slice_get, nat_eq}
use Rattle.wasm_types.specs.declared.module.ValType.{ValType}
use Rattle.wasm_types.specs.declared.module.FuncType.{FuncType}
use Rattle.wasm_types.specs.declared.module.Name.{Name}
use Rattle.wasm_types.specs.declared.module.ExportKind.TheVariants as export
use Rattle.wasm_types.specs.declared.module.Export.{Export}
use Rattle.wasm_types.specs.declared.module.Body.{Body}
use Rattle.wasm_types.specs.declared.module.Module.{Module}
use Rattle.wasm_types.specs.declared.place.Node.{Node}
use Rattle.wasm_types.specs.Code.{code_of, list_of}
use Rattle.wasm_types.specs.Marked.{Marked, marked, unmarked, watched_at}
use Rattle.wasm_types.specs.Spaces.{func_types, local_types, IsOwnFunc, HasBody}
use Rattle.wasm_types.specs.Typing.{Context}
use Rattle.wasm_types.specs.Actions.{Callees, callees}
use Rattle.wasm_types.specs.Locations.{OfCalls}
use Rattle.wasm_types.specs.Sites.{Site, Sites, IsSite, EndAt, body_sites, body_ends}
use Rattle.wasm_types.specs.Places.{TypesPlaces}
use Rattle.flow_domain.specs.Bounds.{Cover, bounds}
use Rattle.flow_domain.specs.Kept.{KeptMaker, KeptNode, Tells}
use Rattle.flow_domain.specs.Cut.{cut_body}
use Rattle.flow_domain.specs.Presence.{IsNeeded}
use Rattle.flow_domain.specs.Rows.{AnyRound, CallRows, RowOf}
use Rattle.flow_domain.specs.Touch.{IsExact}

-- where the body of a function of this type stands
abbrev pub context_of : Module → FuncType → Body → Context
context_of m t b = record { inside = m; locals = local_types t b; result = t.results }

-- the result of a type, if it has one
abbrev pub result_type : FuncType → Option ValType
result_type t = slice_get t.results 0

-- the number of functions
abbrev pub func_count : Module → ℕ
func_count m = length (func_types m)

-- a body's code, with some positions watched, and with position i watched
abbrev pub watched_code : (ℕ → Bool) → Body → Marked
watched_code w b = marked w 0 (code_of b.code)

abbrev pub watched_once : Body → ℕ → Marked
watched_once b i = watched_code (nat_eq i) b

-- its sites and ends, of a body of this type
abbrev pub sites_at : Callees → FuncType → Body → ℕ → Sites
sites_at cs t b i = body_sites cs (length t.results) (watched_once b i)

abbrev pub ends_at : Callees → FuncType → Body → ℕ → List EndAt
ends_at cs t b i = body_ends cs (length t.results) (watched_once b i)

-- calls read, check and write nothing
abbrev pub no_calls : OfCalls
no_calls g x = ⊥

-- the rows of the functions of a module
abbrev pub rows_in : Module → Cover → CallRows
rows_in m W = RowOf m (AnyRound (bounds m W))

-- the kept set of position i of a body of this type, and the nodes whose value is needed
abbrev pub KeptIn : Module → Cover → FuncType → Body → ℕ → Node → Type 0
KeptIn m W kind body i n = KeptNode (bounds m W) (rows_in m W) (sites_at (callees m) kind body i) (ends_at (callees m) kind body i) n

abbrev pub MadeIn : Module → Cover → FuncType → Body → ℕ → Node → Type 0
MadeIn m W kind body i n = KeptMaker (bounds m W) (rows_in m W) (sites_at (callees m) kind body i) (ends_at (callees m) kind body i) n

-- the cut of a body, given the kept nodes, the present places and the types of the places
abbrev pub cut_of : Callees → (K P : Node → Bool) → (Node → ValType) → FuncType → Body → ℕ → Marked
cut_of cs K P T t b i = cut_body cs K P T (result_type t) (watched_once b i)

-- a body with other code
abbrev pub with_code : Marked → Body → Body
with_code c b = record b { code = list_of (unmarked c) }

-- one of the exports has the name
abbrev pub HasExport : List Export → List ℕ → Type 0
HasExport exports name = (k : ℕ) × (e : Export) × (slice_get exports k ≡ Some e) × (e.name.bytes ≡ name)

-- the module with one function more, of a type number and a body, which is exported by a name
abbrev pub appended : Module → ℕ → Body → Name → Module
appended m type body name =
    record m {
      funcs = m.funcs ++ type ∷ [];
      bodies = m.bodies ++ body ∷ [];
      exports = m.exports ++ record { name = name; kind = export.Func; index = func_count m } ∷ [];
    }

-- `new` is the sliced module of own function f, the live position i of its body, and a name: m with one function appended, of f's type and locals and with
-- the cut of its body, and with one export. The new function has the number of functions that m had. Position `at` of it is where position i of f went.
pub record IsSliced (m : Module) (f i : ℕ) (name : Name) (new : Module) (at : ℕ) : Type 0 where
  pub type : ℕ
  pub own : IsOwnFunc m f type
  pub kind : FuncType
  pub kind_is : slice_get m.types type ≡ Some kind
  pub body : Body
  pub has_body : HasBody m f body
  pub site : Site
  pub live : IsSite (sites_at (callees m) kind body i) i site
  -- what the functions of m write and touch
  pub cover : Cover
  pub cover_is : IsExact m cover
  pub kept : Node → Bool
  pub exact : Tells kept (KeptIn m cover kind body i)
  pub makers : Node → Bool
  pub made : Tells makers (MadeIn m cover kind body i)
  -- the places that are needed, and no others
  pub present : Node → Bool
  pub needed : Tells present (IsNeeded (callees m) (sites_at (callees m) kind body i) (ends_at (callees m) kind body i) kept)
  pub types : Node → ValType
  pub typed : TypesPlaces (context_of m kind body) (sites_at (callees m) kind body i) types
  pub is : new ≡ appended m type (with_code (cut_of (callees m) kept present types kind body i) body) name
  pub at_is : at ≡ watched_at (cut_of (callees m) kept present types kind body i)
