use Rattle.std.proofs.Common.{◌≡◌, ◌+◌, ◌-◌, ◌≤◌, length, take}
use Rattle.std.specs.Prelude.{map, All}
use Rattle.wasm_types.specs.Standing.{Stands}
use Rattle.wasm_decode.specs.Frames.{frame_at, IsWithin}
use Rattle.wasm_types.specs.Modules.{Sections, header}
use Rattle.wasm_decode.proofs.frames.read_frames.Given as goal

abbrev pub invariant-loop-place : goal.invariant-loop-place
invariant-loop-place l = record {
  so_far : Stands (Sections l.last) l.bytes 8 l.place (map (frame_at l.bytes) l.frames);
  few : length l.frames + 8 ≤ l.place;
  all_within : All (IsWithin l.bytes) l.frames;
  begun : take 8 l.bytes ≡ header;
}

abbrev pub decreases-loop-place : goal.decreases-loop-place
decreases-loop-place l = length l.bytes - l.place
