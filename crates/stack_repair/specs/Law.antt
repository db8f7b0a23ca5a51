-- What holds of the cut of a body, and of the module that it is appended to (docs/ANALYSES.md, "The cut", "The sliced module").
use Rattle.std.specs.Prelude.{◌≡◌, ℕ, ◌+◌, ◌*◌, ◌≤◌, ◌<◌, ◌^◌, List, [], ◌∷◌, length, Bool, Option, Some, slice_get}
use Rattle.wasm_types.specs.declared.module.ValType.{ValType}
use Rattle.wasm_types.specs.declared.module.FuncType.{FuncType}
use Rattle.wasm_types.specs.declared.module.Name.{Name}
use Rattle.wasm_types.specs.declared.module.Body.{Body}
use Rattle.wasm_types.specs.declared.module.Module.{Module}
use Rattle.wasm_types.specs.declared.place.Node.{Node}
use Rattle.wasm_types.specs.declared.instr.Instr.{Instr}
use Rattle.wasm_types.specs.Code.{Code, code_of, list_of, count, nest}
use Rattle.wasm_types.specs.Marked.{Marked, marked, unmarked}
use Rattle.wasm_types.specs.Canon.{canon_code, canon}
use Rattle.wasm_types.specs.Modules.{Spells}
use Rattle.wasm_types.specs.Sizes.{positions}
use Rattle.wasm_types.specs.Spaces.{type_of_func, HasBody, IsOwnFunc}
use Rattle.wasm_types.specs.Typing.{Context, Types}
use Rattle.wasm_types.specs.Validity.{IsValidBody, IsValid}
use Rattle.wasm_types.specs.Subset.{HasNoFloat, InSubset, WithinLimits, most_answered, NestsAtMost, IsSealed}
use Rattle.wasm_types.specs.WellFormed.{ProperName}
use Rattle.wasm_types.specs.Actions.{Callees, callees}
use Rattle.wasm_types.specs.Sites.{Sites, EndAt, body_sites, body_ends}
use Rattle.wasm_types.specs.Places.{TypesPlaces}
use Rattle.flow_domain.specs.Cut.{cut_body}
use Rattle.flow_domain.specs.Heights.{Shaped}
use Rattle.flow_domain.specs.Presence.{HoldsNeeded}
use Rattle.flow_domain.specs.Sliced.{HasExport, context_of, result_type, watched_code, appended}

-- the sites and live ends of a body of this type in this module, with some positions watched
abbrev pub sites_in : Module → FuncType → (ℕ → Bool) → Body → Sites
sites_in m F w b = body_sites (callees m) (length F.results) (watched_code w b)

abbrev pub ends_in : Module → FuncType → (ℕ → Bool) → Body → List EndAt
ends_in m F w b = body_ends (callees m) (length F.results) (watched_code w b)

-- a body with its code cut
abbrev pub with_cut : Callees → (K P : Node → Bool) → (Node → ValType) → (ℕ → Bool) → FuncType → Body → Body
with_cut cs K P T w F b = record b { code = list_of (unmarked (cut_body cs K P T (result_type F) (watched_code w b))) }

-- a valid module without floats has this body, of this type
pub record HasTypedBody (m : Module) (F : FuncType) (b : Body) : Type 0 where
  pub valid : IsValid m
  pub no_float : HasNoFloat m
  pub func : ℕ
  pub kind_is : type_of_func m func ≡ Some F
  pub has_body : HasBody m func b

-- ---- heights and types

-- the instruction takes and leaves something here
abbrev pub HasTypes : Context → Instr → Type 0
HasTypes c op = (t l : List ValType) × Types c op t l

-- A body keeps to the heights of its stack, and each live instruction that goes on to the next one has types.
abbrev pub ValidHasHeights : Type 0
ValidHasHeights =
    (m : Module) (F : FuncType) (b : Body) → HasTypedBody m F b → (w : ℕ → Bool)
    → Shaped (callees m) (HasTypes (context_of m F b)) (length F.results ∷ []) (length F.results) (watched_code w b) 0

-- the places of a body have types, whether it is valid or not
abbrev pub PlacesHaveTypes : Type 0
PlacesHaveTypes = (c : Context) (n : ℕ) (code : Marked) → (T : Node → ValType) × TypesPlaces c (body_sites (callees c.inside) n code) T

-- and the cut of a valid body is the same with any of them
abbrev pub CutIsOne : Type 0
CutIsOne =
    (m : Module) (F : FuncType) (b : Body) → HasTypedBody m F b → (w : ℕ → Bool) (K P : Node → Bool) (T T' : Node → ValType)
    → TypesPlaces (context_of m F b) (sites_in m F w b) T → TypesPlaces (context_of m F b) (sites_in m F w b) T'
    → with_cut (callees m) K P T w F b ≡ with_cut (callees m) K P T' w F b

-- ---- the cut

abbrev pub CutIsValid : Type 0
CutIsValid =
    (m : Module) (F : FuncType) (b : Body) → HasTypedBody m F b → (w : ℕ → Bool) (K P : Node → Bool) (T : Node → ValType)
    → TypesPlaces (context_of m F b) (sites_in m F w b) T → HoldsNeeded (callees m) (sites_in m F w b) (ends_in m F w b) K P
    → IsValidBody m F (with_cut (callees m) K P T w F b)

-- of every code, valid or not, for all sets
abbrev pub CutIsShort : Type 0
CutIsShort =
    (cs : Callees) (K P : Node → Bool) (T : Node → ValType) (t : Option ValType) (w : ℕ → Bool) (c : Code)
    → count (unmarked (cut_body cs K P T t (marked w 0 c))) ≤ 2 * count c

abbrev pub CutNestsNoDeeper : Type 0
CutNestsNoDeeper =
    (cs : Callees) (K P : Node → Bool) (T : Node → ValType) (t : Option ValType) (w : ℕ → Bool) (c : Code)
    → nest (unmarked (cut_body cs K P T t (marked w 0 c))) ≤ nest c

abbrev pub CutIsSmall : Type 0
CutIsSmall =
    (cs : Callees) (K P : Node → Bool) (T : Node → ValType) (t : Option ValType) (w : ℕ → Bool) (c : Code)
    → length (canon_code (unmarked (cut_body cs K P T t (marked w 0 c)))) ≤ 3 * length (canon_code c)

-- ---- the module with a cut appended

-- `new` is m with the cut of the body of an own function as one function more, under a name that it has not. Any nodes may be kept.
pub record HasCut (m : Module) (name : Name) (new : Module) : Type 0 where
  pub func : ℕ
  pub type : ℕ
  pub own : IsOwnFunc m func type
  pub kind : FuncType
  pub kind_is : slice_get m.types type ≡ Some kind
  pub body : Body
  pub has_body : HasBody m func body
  pub watched : ℕ → Bool
  pub kept : Node → Bool
  pub present : Node → Bool
  pub needed : HoldsNeeded (callees m) (sites_in m kind watched body) (ends_in m kind watched body) kept present
  pub types : Node → ValType
  pub typed : TypesPlaces (context_of m kind body) (sites_in m kind watched body) types
  pub proper : ProperName name
  pub free : HasExport m.exports name.bytes → ⊥
  pub is : new ≡ appended m type (with_cut (callees m) kept present types watched kind body) name

-- It is valid, has no float, is within the limits of what is answered, and nests no deeper than m does.
abbrev pub SliceIsValid : Type 0
SliceIsValid =
    (m : Module) (name : Name) (new : Module) → IsValid m → InSubset m → HasCut m name new
    → IsValid new × HasNoFloat new × WithinLimits most_answered new × ((most : ℕ) → NestsAtMost most m → NestsAtMost most new)

-- the new body has at most twice the positions of the old one, and nests no deeper
abbrev pub BodyIsShort : Type 0
BodyIsShort =
    (m : Module) (name : Name) (new : Module) → IsValid m → InSubset m → (h : HasCut m name new)
    → let cut = with_cut (callees m) h.kept h.present h.types h.watched h.kind h.body in
    (positions cut.code ≤ 2 * positions h.body.code) × (nest (code_of cut.code) ≤ nest (code_of h.body.code))

-- its canonical spelling has at most so many bytes
abbrev pub SliceIsShort : Type 0
SliceIsShort =
    (m : Module) (name : Name) (new : Module) → IsValid m → InSubset m → HasCut m name new
    → length (canon new) ≤ 5 * length (canon m) + length name.bytes + 64

-- and spells it, and no other module
abbrev pub SliceIsSpelled : Type 0
SliceIsSpelled =
    (m : Module) (name : Name) (new : Module) → IsValid m → InSubset m → HasCut m name new → length (canon m) < 2 ^ 28 → length name.bytes < 2 ^ 28
    → (length (canon new) < 2 ^ 32) × Spells (canon new) new × ((other : Module) → Spells (canon new) other → new ≡ other)

-- so it is as each module that is answered has to be
abbrev pub SliceIsSealed : Type 0
SliceIsSealed =
    (m : Module) (name : Name) (new : Module) → IsValid m → InSubset m → HasCut m name new → length (canon m) < 2 ^ 28 → length name.bytes < 2 ^ 28
    → IsSealed new
