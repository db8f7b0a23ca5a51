use Rattle.std.proofs.Common.{◌+◌, ◌-◌, ◌*◌, length}
use Rattle.wasm_types.specs.Code.{code_of}
use Rattle.wasm_types.specs.Standing.{Stands}
use Rattle.code_decode.specs.Reading.{SpellsWithin, NoCode}
use Rattle.code_decode.proofs.read.+code.Given as goal

abbrev pub decreases-read_enclosed : goal.decreases-read_enclosed
decreases-read_enclosed l = 3 * l.room

abbrev pub decreases-read_if : goal.decreases-read_if
decreases-read_if l = 3 * l.room

abbrev pub decreases-read_instr : goal.decreases-read_instr
decreases-read_instr l = 3 * l.room + 1

abbrev pub decreases-read_code : goal.decreases-read_code
decreases-read_code l = 3 * l.room + 2

abbrev pub invariant-read_code-loop-place : goal.invariant-read_code-loop-place
invariant-read_code-loop-place l = record {
  so_far : Stands (SpellsWithin l.room) l.bytes l.at l.place (code_of l.code.items);
  back : NoCode l.room l.bytes l.place → NoCode l.room l.bytes l.at;
}

abbrev pub decreases-read_code-loop-place : goal.decreases-read_code-loop-place
decreases-read_code-loop-place l = length l.bytes - l.place
