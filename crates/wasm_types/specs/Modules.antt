-- How a module is spelled (WebAssembly Core Specification 1.0, sections 5.5.2 and 5.5.15).
use Rattle.std.specs.Prelude.{◌≡◌, ◌≢◌, ◌==◌, ℕ, ◌<◌, ◌≤◌, ◌⊎◌, max, List, [], ◌∷◌, ◌++◌, length, if◌then◌else◌, Option, Some, None}
use Rattle.std.specs.Prelude.{codes, bytes_eq}
use Rattle.wasm_types.specs.declared.module.Module.{Module}
use Rattle.wasm_types.specs.declared.module.Name.{Name}
use Rattle.wasm_types.specs.Numbers.{SpellsU32}
use Rattle.wasm_types.specs.Parts.{Behind, Each, Sized}
use Rattle.wasm_types.specs.Sections.{SpellsCustom, SpellsTypes, SpellsImports, SpellsFuncs, SpellsTables, SpellsMems, SpellsGlobals, SpellsExports, SpellsElems, SpellsBodies, SpellsSegments}

-- the magic bytes and the version
abbrev pub header : List ℕ
header = 0x00 ∷ 0x61 ∷ 0x73 ∷ 0x6D ∷ 0x01 ∷ 0x00 ∷ 0x00 ∷ 0x00 ∷ []

-- A section as it stands: its id, and its contents with their size.
abbrev pub SpellsFrame : List ℕ → ℕ × List ℕ → Type 0
SpellsFrame text f = Behind f.0 (λ rest. Sized rest f.1) text

-- a custom section stands anywhere, another after those of lower ids
abbrev pub MayFollow : ℕ → ℕ → Type 0
MayFollow last id = (id ≡ 0) ⊎ ((last < id) × (id ≤ 11))

-- sections in their order, where the greatest id before them and the one after them are known
abbrev pub InOrder : ℕ → List (ℕ × List ℕ) → ℕ → Type 0
InOrder last [] final = last ≡ final
InOrder last (f ∷ fs) final = MayFollow last f.0 × InOrder (max last f.0) fs final

-- the sections from the first on
abbrev pub Sections : ℕ → List ℕ → List (ℕ × List ℕ) → Type 0
Sections final text fs = Each SpellsFrame text fs × InOrder 0 fs final

-- the contents of the section with the id, if there is one
abbrev pub contents_of : ℕ → List (ℕ × List ℕ) → Option (List ℕ)
contents_of id [] = None
contents_of id (f ∷ fs) = if f.0 == id then Some f.1 else contents_of id fs

-- a list that a section spells; an absent section is an empty list
abbrev pub ListIs : {A : Type 0} → (List ℕ → List A → Type 0) → List A → Option (List ℕ) → Type 0
ListIs Spelled xs None = xs ≡ []
ListIs Spelled xs (Some contents) = Spelled contents xs

-- what a section spells, if it is there
abbrev pub OptionIs : {A : Type 0} → (List ℕ → A → Type 0) → Option A → Option (List ℕ) → Type 0
OptionIs Spelled v None = v ≡ None
OptionIs Spelled None (Some contents) = ⊥
OptionIs Spelled (Some v) (Some contents) = Spelled contents v

-- the payload of a custom section whose name is `name`
abbrev pub named_payload : Name × List ℕ → Option (List ℕ)
named_payload c = if bytes_eq c.0.bytes (codes "name") then Some c.1 else None

-- the later of two, where it is there
abbrev pub later_of : Option (List ℕ) → Option (List ℕ) → Option (List ℕ)
later_of (Some late) early = Some late
later_of None early = early

-- Each custom section has a name, and of those with the name `name` the last one's payload is kept.
abbrev pub NamesAre : List (ℕ × List ℕ) → Option (List ℕ) → Type 0
NamesAre [] names = names ≡ None
NamesAre (f ∷ fs) names = (late : Option (List ℕ)) × NamesAre fs late × (((f.0 ≢ 0) × (names ≡ late)) ⊎ ((f.0 ≡ 0) × (c : Name × List ℕ) × SpellsCustom f.1 c × (names ≡ later_of late (named_payload c))))

-- The bytes spell the module: the header, and sections in order, each list of the module by its section.
pub record Spells (bytes : List ℕ) (m : Module) : Type 0 where
  pub rest : List ℕ
  pub begun : bytes ≡ header ++ rest
  pub frames : List (ℕ × List ℕ)
  pub final : ℕ
  pub framed : Sections final rest frames
  pub types : ListIs SpellsTypes m.types (contents_of 1 frames)
  pub imports : ListIs SpellsImports m.imports (contents_of 2 frames)
  pub funcs : ListIs SpellsFuncs m.funcs (contents_of 3 frames)
  pub tables : ListIs SpellsTables m.tables (contents_of 4 frames)
  pub mems : ListIs SpellsMems m.mems (contents_of 5 frames)
  pub globals : ListIs SpellsGlobals m.globals (contents_of 6 frames)
  pub exports : ListIs SpellsExports m.exports (contents_of 7 frames)
  pub start : OptionIs SpellsU32 m.start (contents_of 8 frames)
  pub elems : ListIs SpellsElems m.elems (contents_of 9 frames)
  pub bodies : ListIs SpellsBodies m.bodies (contents_of 10 frames)
  pub segments : ListIs SpellsSegments m.segments (contents_of 11 frames)
  pub names : NamesAre frames m.names
  pub same : length m.funcs ≡ length m.bodies
