-- The sections of a module as they stand (WebAssembly Core Specification 1.0, sections 5.5.2 and 5.5.15).
use Rattle.std.specs.Prelude.{◌≡◌, ◌≢◌, ℕ, ◌<◌, ◌≤◌, List, length, slice_range, All, ◌^◌, take, map, Option, Some, None, Result, Ok, Err}
use Rattle.wasm_types.specs.Standing.{Stands, NoneStands}
use Rattle.wasm_types.specs.Modules.{header, SpellsFrame, MayFollow, Sections}
use Rattle.wasm_decode.specs.declared.frames.Frame.{Frame}
use Rattle.wasm_decode.specs.declared.refusal.DecodeEnd.{DecodeEnd}
use Rattle.wasm_decode.specs.declared.refusal.DecodeEnd.TheVariants as end

-- a section as it stands: its id and its contents
abbrev pub Section : Type 0
Section = ℕ × List ℕ

-- a section that may stand where the greatest id before it is known
abbrev pub NextFrame : ℕ → List ℕ → Section → Type 0
NextFrame last text f = SpellsFrame text f × MayFollow last f.0

-- the bytes are the header and these sections
pub record IsFramed (bytes : List ℕ) (frames : List Section) : Type 0 where
  pub begun : take 8 bytes ≡ header
  pub final : ℕ
  pub framed : Stands (Sections final) bytes 8 (length bytes) frames

-- So many sections stand from the header on, and behind them, before the end of the bytes, none that may follow.
pub record UnframedAt (bytes : List ℕ) (k : ℕ) : Type 0 where
  pub begun : take 8 bytes ≡ header
  pub frames : List Section
  pub count : length frames ≡ k
  pub place : ℕ
  pub final : ℕ
  pub framed : Stands (Sections final) bytes 8 place frames
  pub within : place < length bytes
  pub none : NoneStands (NextFrame final) bytes place

-- a section, by where its contents stand
abbrev pub frame_at : List ℕ → Frame → Section
frame_at bytes f = (f.id, slice_range bytes f.start f.end)

-- the contents stand within the bytes
abbrev pub IsWithin : List ℕ → Frame → Type 0
IsWithin bytes f = (f.start ≤ f.end) × (f.end ≤ length bytes) × (f.id ≤ 11)

abbrev pub ReadsFrame : List ℕ → ℕ → ℕ → Option Frame → Type 0
ReadsFrame bytes start last (Some f) = Stands (NextFrame last) bytes start f.end (frame_at bytes f) × IsWithin bytes f
ReadsFrame bytes start last None = NoneStands (NextFrame last) bytes start

-- where all sections stand, or the first that has no frame
abbrev pub ReadsFrames : List ℕ → Result (List Frame) DecodeEnd → Type 0
ReadsFrames bytes (Ok frames) = IsFramed bytes (map (frame_at bytes) frames) × All (IsWithin bytes) frames × (length frames < 2 ^ 32)
ReadsFrames bytes (Err (end.Frame k)) = UnframedAt bytes k
ReadsFrames bytes (Err end.Header) = take 8 bytes ≢ header
ReadsFrames bytes (Err end.Memory) = Unit {0}
ReadsFrames bytes (Err _) = ⊥
