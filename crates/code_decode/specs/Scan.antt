-- What is still to come where some blocks are open.
use Rattle.std.specs.Prelude.{◌≡◌, ℕ, ◌≤◌, ◌<◌, ◌⊎◌, Bool, true, false, List, [], ◌∷◌, ◌++◌, length, drop}
use Rattle.wasm_types.specs.Code.{Code}
use Rattle.wasm_types.specs.Grammar.{SpellsCode}
use Rattle.code_decode.specs.declared.scan.Step.{Step}
use Rattle.code_decode.specs.declared.scan.Step.TheVariants as step

-- a sequence, its end, and what follows
pub record Seq (ender : ℕ) (Next : List ℕ → Type 0) (text : List ℕ) : Type 0 where
  pub code : Code
  pub inner : List ℕ
  pub back : List ℕ
  pub spelled : SpellsCode code inner
  pub parts : text ≡ inner ++ ender ∷ back
  pub next : Next back

-- what closes the open blocks, the innermost first; true is an if that may still have an else
abbrev pub Closes : List ℕ → List Bool → List ℕ → Type 0
Closes rest [] text = Seq 0x0B (λ back. back ≡ rest) text
Closes rest (false ∷ open_blocks) text = Seq 0x0B (Closes rest open_blocks) text
Closes rest (true ∷ open_blocks) text = Seq 0x0B (Closes rest open_blocks) text ⊎ Seq 0x05 (Seq 0x0B (Closes rest open_blocks)) text

-- the same is to come at two places
pub record SameTail (bytes : List ℕ) (before after : List Bool) (place next : ℕ) : Type 0 where
  pub on : (rest : List ℕ) → Closes rest before (drop place bytes) → Closes rest after (drop next bytes)
  pub back : (rest : List ℕ) → Closes rest after (drop next bytes) → Closes rest before (drop place bytes)
  pub moves : place < next
  pub within : next ≤ length bytes

-- what one step leaves: the end of all, another place, or nothing that can be closed
abbrev pub Steps : List ℕ → ℕ → List Bool → List Bool → Step → Type 0
Steps bytes place before after (step.End next) = Closes (drop next bytes) before (drop place bytes) × (next ≤ length bytes)
Steps bytes place before after (step.On next) = SameTail bytes before after place next
Steps bytes place before after step.Bad = (rest : List ℕ) → Closes rest before (drop place bytes) → ⊥

-- the byte opens a block or a loop, or an if, whose else may still come
abbrev pub Opens : Bool → ℕ → Type 0
Opens false byte = (byte ≡ 0x02) ⊎ (byte ≡ 0x03)
Opens true byte = byte ≡ 0x04
