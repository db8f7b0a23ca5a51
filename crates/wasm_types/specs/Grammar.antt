-- How sequences of instructions are spelled (WebAssembly Core Specification 1.0, sections 5.4.1 and 5.4.6).
use Rattle.std.specs.Prelude.{◌≡◌, ℕ, ◌⊎◌, List, [], ◌∷◌, ◌++◌, Option}
use Rattle.wasm_types.specs.declared.module.ValType.{ValType}
use Rattle.wasm_types.specs.declared.instr.Instr.{Instr}
use Rattle.wasm_types.specs.Code.{Code, done, one, block, repeat, branch, code_of}
use Rattle.wasm_types.specs.Parts.{Then}
use Rattle.wasm_types.specs.Types.{kind_byte}
use Rattle.wasm_types.specs.Plain.{SpellsPlain}

-- an opcode, a block type, the contents and the end
pub record Encloses (opcode : ℕ) (kind : Option ValType) (Contents : List ℕ → Type 0) (text : List ℕ) : Type 0 where
  pub inner : List ℕ
  pub parts : text ≡ opcode ∷ kind_byte kind ∷ inner ++ 0x0B ∷ []
  pub contents : Contents inner

-- The two arms of an if. No text at all in the place of the second arm needs no byte for else.
pub record HasArms (kind : Option ValType) (First Second : List ℕ → Type 0) (text : List ℕ) : Type 0 where
  pub yes : List ℕ
  pub first : First yes
  pub others : ((text ≡ 0x04 ∷ kind_byte kind ∷ yes ++ 0x0B ∷ []) × Second []) ⊎ ((no : List ℕ) × Second no × (text ≡ 0x04 ∷ kind_byte kind ∷ yes ++ 0x05 ∷ (no ++ 0x0B ∷ [])))

-- a sequence of instructions
abbrev pub SpellsCode : Code → List ℕ → Type 0
SpellsCode done text = text ≡ []
SpellsCode (one i rest) text = Then (λ t. SpellsPlain t i) (SpellsCode rest) text
SpellsCode (block kind inner rest) text = Then (Encloses 0x02 kind (SpellsCode inner)) (SpellsCode rest) text
SpellsCode (repeat kind inner rest) text = Then (Encloses 0x03 kind (SpellsCode inner)) (SpellsCode rest) text
SpellsCode (branch kind first second rest) text = Then (HasArms kind (SpellsCode first) (SpellsCode second)) (SpellsCode rest) text

-- the byte ends a sequence: 0x0B, or 0x05 before the second arm of an if
abbrev pub IsEnder : ℕ → Type 0
IsEnder byte = (byte ≡ 0x0B) ⊎ (byte ≡ 0x05)

-- an expression: a sequence and the end
pub record SpellsExpr (code : Code) (text : List ℕ) : Type 0 where
  pub inner : List ℕ
  pub parts : text ≡ inner ++ 0x0B ∷ []
  pub contents : SpellsCode code inner

-- the same of a list of instructions
abbrev pub SpellsInstrs : List ℕ → List Instr → Type 0
SpellsInstrs text is = SpellsExpr (code_of is) text
