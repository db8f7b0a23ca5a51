-- How types are spelled (WebAssembly Core Specification 1.0, section 5.3).
use Rattle.std.specs.Prelude.{◌≡◌, ℕ, Bool, true, false, List, [], ◌∷◌, Option, Some, None}
use Rattle.wasm_types.specs.declared.module.ValType.{ValType}
use Rattle.wasm_types.specs.declared.module.ValType.TheVariants as type
use Rattle.wasm_types.specs.declared.module.FuncType.{FuncType}
use Rattle.wasm_types.specs.declared.module.Limits.{Limits}
use Rattle.wasm_types.specs.declared.module.GlobalType.{GlobalType}
use Rattle.wasm_types.specs.Numbers.{SpellsU32}
use Rattle.wasm_types.specs.Parts.{Behind, Both, Counted}

-- value types (5.3.1)
abbrev pub type_byte : ValType → ℕ
type_byte type.I32 = 0x7F
type_byte type.I64 = 0x7E
type_byte type.F32 = 0x7D
type_byte type.F64 = 0x7C

abbrev pub SpellsValType : List ℕ → ValType → Type 0
SpellsValType text t = text ≡ type_byte t ∷ []

-- a block type: none, or a value type (5.3.2)
abbrev pub kind_byte : Option ValType → ℕ
kind_byte None = 0x40
kind_byte (Some t) = type_byte t

-- function types (5.3.3)
abbrev pub SpellsFuncType : List ℕ → FuncType → Type 0
SpellsFuncType text t = Behind 0x60 (λ rest. Both (Counted SpellsValType) (Counted SpellsValType) rest (t.params, t.results)) text

-- limits (5.3.4)
abbrev pub LimitsFrom : ℕ → Option ℕ → List ℕ → Type 0
LimitsFrom min None text = Behind 0x00 (λ rest. SpellsU32 rest min) text
LimitsFrom min (Some max) text = Behind 0x01 (λ rest. Both SpellsU32 SpellsU32 rest (min, max)) text

-- limits, which are the whole of a memory type too (5.3.5)
abbrev pub SpellsLimits : List ℕ → Limits → Type 0
SpellsLimits text l = LimitsFrom l.min l.max text

-- table types (5.3.6)
abbrev pub SpellsTableType : List ℕ → Limits → Type 0
SpellsTableType text l = Behind 0x70 (λ rest. SpellsLimits rest l) text

-- global types (5.3.7)
abbrev pub mutable_byte : Bool → ℕ
mutable_byte false = 0x00
mutable_byte true = 0x01

abbrev pub SpellsMutable : List ℕ → Bool → Type 0
SpellsMutable text mutable = text ≡ mutable_byte mutable ∷ []

abbrev pub SpellsGlobalType : List ℕ → GlobalType → Type 0
SpellsGlobalType text g = Both SpellsValType SpellsMutable text (g.kind, g.mutable)
