-- When values have types, and when a state fits a module (docs/MEANING.md, "The state").
use Rattle.std.specs.Prelude.{◌≡◌, ℕ, ◌*◌, ◌^◌, ◌<◌, ◌≤◌, List, [], ◌∷◌, length, map, All, Option, IfSome}
use Rattle.wasm_types.specs.declared.module.Value.{Value}
use Rattle.wasm_types.specs.declared.module.Value.TheVariants as value
use Rattle.wasm_types.specs.declared.module.ValType.{ValType}
use Rattle.wasm_types.specs.declared.module.ValType.TheVariants as type
use Rattle.wasm_types.specs.declared.module.Limits.{Limits}
use Rattle.wasm_types.specs.declared.module.GlobalType.{GlobalType}
use Rattle.wasm_types.specs.declared.module.Module.{Module}
use Rattle.wasm_types.specs.Spaces.{globals_of, mems_of}
use Rattle.wasm_types.specs.Hosts.{MayStand}
use Rattle.wasm_meaning.specs.State.{State}

-- a value has a type, and its number is below 2 to the width
abbrev pub HasType : Value → ValType → Type 0
HasType (value.I32 n) t = (t ≡ type.I32) × (n < 2 ^ 32)
HasType (value.I64 n) t = (t ≡ type.I64) × (n < 2 ^ 64)

abbrev pub HaveTypes : List Value → List ValType → Type 0
HaveTypes [] [] = Unit {0}
HaveTypes (v ∷ vs) (t ∷ ts) = HasType v t × HaveTypes vs ts
HaveTypes _ _ = ⊥

abbrev pub global_type : GlobalType → ValType
global_type g = g.kind

-- a state fits a module
pub record Fits (m : Module) (s : State) : Type 0 where
  pub globals : HaveTypes s.globals (map global_type (globals_of m))
  pub pages : s.pages ≤ 65536
  pub below_cap : s.pages ≤ s.cap
  pub below_maximum : All (λ (l : Limits). IfSome l.max (λ most. s.pages ≤ most)) (mems_of m)
  pub long : length s.bytes ≡ 65536 * s.pages
  pub bytes : All (λ b. b < 256) s.bytes
  pub table : All (λ (entry : Option ℕ). IfSome entry (MayStand m)) s.table
