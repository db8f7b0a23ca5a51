-- What decoding a module answers.
use Rattle.std.specs.Prelude.{◌≡◌, ◌≢◌, ℕ, List, length, take, All, Option, Some, None, Result, Ok, Err}
use Rattle.wasm_types.specs.declared.module.Module.{Module}
use Rattle.wasm_types.specs.Modules.{header, Spells}
use Rattle.wasm_types.specs.Subset.{NestsAtMost, most_nesting}
use Rattle.code_decode.specs.declared.outcome.Stop.{Stop}
use Rattle.code_decode.specs.declared.outcome.Stop.TheVariants as stop
use Rattle.wasm_decode.specs.declared.refusal.DecodeEnd.{DecodeEnd}
use Rattle.wasm_decode.specs.declared.refusal.DecodeEnd.TheVariants as end
use Rattle.wasm_decode.specs.Frames.{Section, IsFramed, UnframedAt}
use Rattle.wasm_decode.specs.Contents.{IsSpelled, IsShallowSection, FirstUnspelled, FirstDeep, HasParts}

-- what was read of the sections: the first code that nests too deep, or all lists of the module
abbrev pub IsRead : List Section → Option (ℕ × ℕ) → Module → Type 0
IsRead frames None m = HasParts frames m × NestsAtMost most_nesting m × All IsShallowSection frames
IsRead frames (Some at) m = FirstDeep frames at.0 at.1

-- the first code that nests too deep, after one more section
abbrev pub first_deep : Option (ℕ × ℕ) → ℕ → Option ℕ → Option (ℕ × ℕ)
first_deep (Some at) id entry = Some at
first_deep None id (Some entry) = Some (id, entry)
first_deep None id None = None

-- the refusal of a section that isn't spelled
abbrev pub Refuses : Stop → ℕ → ℕ → DecodeEnd → Type 0
Refuses stop.No k id refusal = refusal ≡ end.Section k id
Refuses stop.Memory k id refusal = refusal ≡ end.Memory

abbrev pub ReadsSections : List Section → Result (Module × Option (ℕ × ℕ)) DecodeEnd → Type 0
ReadsSections frames (Ok found) = All IsSpelled frames × IsRead frames found.1 found.0
ReadsSections frames (Err (end.Section k id)) = FirstUnspelled frames k id
ReadsSections frames (Err end.Memory) = Unit {0}
ReadsSections frames (Err _) = ⊥

-- section k, of the id, is the first whose contents aren't spelled
pub record MalformedAt (bytes : List ℕ) (k id : ℕ) : Type 0 where
  pub frames : List Section
  pub framed : IsFramed bytes frames
  pub first : FirstUnspelled frames k id

-- all sections are spelled, and code nests too deep, first in the entry of the section with the id
pub record TooDeepAt (bytes : List ℕ) (id entry : ℕ) : Type 0 where
  pub frames : List Section
  pub framed : IsFramed bytes frames
  pub spelled : All IsSpelled frames
  pub first : FirstDeep frames id entry

-- all sections are spelled and nest within the limit, and the functions' types and bodies differ in number
pub record DiffersInCounts (bytes : List ℕ) : Type 0 where
  pub frames : List Section
  pub framed : IsFramed bytes frames
  pub m : Module
  pub parts : HasParts frames m
  pub shallow : NestsAtMost most_nesting m
  pub differ : length m.funcs ≢ length m.bodies

-- The module that the bytes spell, if it nests within the limit, or the first of the refusals, in this order.
abbrev pub Decodes : List ℕ → Result Module DecodeEnd → Type 0
Decodes bytes (Ok m) = Spells bytes m × NestsAtMost most_nesting m
Decodes bytes (Err end.Header) = take 8 bytes ≢ header
Decodes bytes (Err (end.Frame k)) = UnframedAt bytes k
Decodes bytes (Err (end.Section k id)) = MalformedAt bytes k id
Decodes bytes (Err (end.TooDeep id entry)) = TooDeepAt bytes id entry
Decodes bytes (Err end.Counts) = DiffersInCounts bytes
Decodes bytes (Err end.Memory) = Unit {0}
