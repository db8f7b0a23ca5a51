-- What slicing a module answers (docs/ANALYSES.md, "The sliced module").
use Rattle.std.specs.Prelude.{◌≡◌, ℕ, ◌*◌, ◌≤◌, List, [], ◌∷◌, Bool, true, false}
use Rattle.std.specs.Prelude.{◌||◌, Option, Some, None, Result, Ok, Err, nat_lt, if◌then◌else◌, slice_get, bytes_eq}
use Rattle.wasm_types.specs.declared.module.FuncType.{FuncType}
use Rattle.wasm_types.specs.declared.module.Name.{Name}
use Rattle.wasm_types.specs.declared.module.Body.{Body}
use Rattle.wasm_types.specs.declared.module.Export.{Export}
use Rattle.wasm_types.specs.declared.module.Module.{Module}
use Rattle.wasm_types.specs.declared.place.Node.{Node}
use Rattle.wasm_types.specs.Code.{code_of, count, nest}
use Rattle.wasm_types.specs.Sizes.{positions}
use Rattle.wasm_types.specs.Spaces.{HasBody, IsOwnFunc, import_count, type_of_func, body_of}
use Rattle.wasm_types.specs.Actions.{callees}
use Rattle.wasm_types.specs.Sites.{Site, Sites, IsSite}
use Rattle.flow_domain.specs.Bounds.{Cover}
use Rattle.flow_domain.specs.Kept.{Tells}
use Rattle.flow_domain.specs.Sliced.{func_count, sites_at, HasExport, KeptIn, MadeIn, IsSliced}
use Rattle.flow_domain.specs.Touch.{IsExact}
use Rattle.stack_repair.specs.Cuts.{IsCut}
use Rattle.slice_whole.specs.declared.slicing.Sliced.{Sliced}
use Rattle.slice_whole.specs.declared.slicing.NewFunc.{NewFunc}
use Rattle.slice_whole.specs.declared.slicing.SliceRefusal.{SliceRefusal}
use Rattle.slice_whole.specs.declared.slicing.SliceRefusal.TheVariants.{NoFunction, Imported, NoInstruction, Dead, NameTaken, Memory}

-- ---- an own function

-- own function f of m, its type and its body
pub record Own (m : Module) (f : ℕ) : Type 0 where
  pub type : ℕ
  pub own : IsOwnFunc m f type
  pub kind : FuncType
  pub kind_is : slice_get m.types type ≡ Some kind
  pub body : Body
  pub has_body : HasBody m f body

-- what stands at the live positions of its body
abbrev pub sites_of : (m : Module) (f : ℕ) → Own m f → ℕ → Sites
sites_of m f o i = sites_at (callees m) o.kind o.body i

-- ---- kept sets

-- K tells the kept set of position i of a body of this type, and some test the nodes of it whose value is needed
pub record KeepsIn (m : Module) (W : Cover) (t : FuncType) (b : Body) (i : ℕ) (K : Node → Bool) : Type 0 where
  pub exact : Tells K (KeptIn m W t b i)
  pub makers : Node → Bool
  pub made : Tells makers (MadeIn m W t b i)

-- K tells the kept set of position i of function f, by what the functions of m write and touch, just as it is
pub record IsKeptOf (m : Module) (f i : ℕ) (K : Node → Bool) : Type 0 where
  pub cover : Cover
  pub cover_is : IsExact m cover
  pub keeps : (t : FuncType) (b : Body) → type_of_func m f ≡ Some t → HasBody m f b → KeepsIn m cover t b i K

-- ---- refusals

-- the first of two causes
abbrev pub or_else : Option SliceRefusal → Option SliceRefusal → Option SliceRefusal
or_else (Some why) later = Some why
or_else None later = later

-- there is no function f, or it is an import
abbrev pub why_no_code : Module → ℕ → Option SliceRefusal
why_no_code m f = if nat_lt f (func_count m) then (if nat_lt f (import_count m) then Some (Imported f) else None) else Some NoFunction

-- the number of positions of a function, 0 where it has no body
abbrev pub count_in : Option Body → ℕ
count_in None = 0
count_in (Some b) = count (code_of b.code)

-- i is none of so many positions
abbrev pub why_no_position : ℕ → ℕ → Option SliceRefusal
why_no_position n i = if nat_lt i n then None else Some (NoInstruction n)

-- a position without a site is dead
abbrev pub why_no_site : ℕ → Option (Option Site) → Option SliceRefusal
why_no_site i (Some (Some site)) = None
why_no_site i _ = Some (Dead (record { 0 = i }))

-- the live positions of a function of this type with this body
abbrev pub sites_in : Module → ℕ → Option FuncType → Option Body → Sites
sites_in m i (Some t) (Some b) = sites_at (callees m) t b i
sites_in m i _ _ = []

-- an export has the name
abbrev pub is_exported : List Export → List ℕ → Bool
is_exported [] name = false
is_exported (e ∷ es) name = bytes_eq e.name.bytes name || is_exported es name

abbrev pub why_taken : Bool → Option SliceRefusal
why_taken true = Some NameTaken
why_taken false = None

-- Why position i of function f isn't sliced under a name: the first cause.
abbrev pub why_not : Module → ℕ → ℕ → List ℕ → Option SliceRefusal
why_not m f i name =
    let site = slice_get (sites_in m i (type_of_func m f) (body_of m f)) i in
    or_else (why_no_code m f) (or_else (why_no_position (count_in (body_of m f)) i) (or_else (why_no_site i site) (why_taken (is_exported m.exports name))))

-- ---- answers

-- What slicing answers: the sliced module and the number of its new function, or the first cause against it. An allocation may be refused at any time.
abbrev pub Slices : Module → ℕ → ℕ → Name → Result Sliced SliceRefusal → Type 0
Slices m f i name (Ok s) =
    (why_not m f i name.bytes ≡ None) × IsSliced m f i name s.module s.at.0 × (s.func ≡ func_count m) × (HasExport m.exports name.bytes → ⊥)
Slices m f i name (Err Memory) = Unit {0}
Slices m f i name (Err why) = why_not m f i name.bytes ≡ Some why

-- the same before the module is changed: the new function has the type of function f, and its body is the cut by the kept set
pub record IsNew (m : Module) (f i : ℕ) (new : NewFunc) : Type 0 where
  pub own : Own m f
  pub type_is : new.kind ≡ own.type
  pub site : Site
  pub live : IsSite (sites_of m f own i) i site
  pub cover : Cover
  pub cover_is : IsExact m cover
  pub kept : Node → Bool
  pub keeps : KeepsIn m cover own.kind own.body i kept
  pub cut : IsCut m f kept i new.body new.at.0

abbrev pub FindsNew : Module → ℕ → ℕ → List ℕ → Result NewFunc SliceRefusal → Type 0
FindsNew m f i name (Ok new) = (why_not m f i name ≡ None) × IsNew m f i new
FindsNew m f i name (Err Memory) = Unit {0}
FindsNew m f i name (Err why) = why_not m f i name ≡ Some why

-- The new function's body has at most twice the positions of the body of function f, and nests no deeper.
abbrev pub IsShortFor : Module → ℕ → Module → Type 0
IsShortFor m f new =
    (old cut : Body) → HasBody m f old → HasBody new (func_count m) cut
    → (positions cut.code ≤ 2 * positions old.code) × (nest (code_of cut.code) ≤ nest (code_of old.code))
