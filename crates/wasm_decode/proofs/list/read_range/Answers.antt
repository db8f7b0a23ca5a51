use Rattle.std.proofs.Common.{◌≤◌, ℕ, List, length, arith}
use Rattle.wasm_types.specs.Numbers.{SpellsU32}
use Rattle.wasm_types.specs.Standing.{Stands}
use Rattle.wasm_decode.proofs.PartLemmas.{range_past}
use Rattle.wasm_decode.proofs.list.read_range.Goals as goal

within : {bytes : List ℕ} {at end v : ℕ} → Stands SpellsU32 bytes at end v → end ≤ length bytes
within s = s.within

pub returns-then-size-bytes : goal.returns-then-size-bytes
returns-then-size-bytes c = range_past c.args.bytes.now c.args.at c.in_ok-size.start c.in_ok-size.size c.in_ok-size.ensures
    (omega (arith, c.if-size-bytes.true, within c.in_ok-size.ensures))
