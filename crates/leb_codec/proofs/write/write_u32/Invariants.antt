use Rattle.std.proofs.Common.{◌≡◌, ◌-◌, ◌<◌, ◌≤◌, ◌++◌, length, take}
use Rattle.wasm_types.specs.Numbers.{shortest_unsigned}
use Rattle.leb_codec.proofs.Writing.{room}
use Rattle.leb_codec.proofs.write.write_u32.Given as goal

abbrev pub invariant-loop-rest : goal.invariant-loop-rest
invariant-loop-rest l = record {
  size : length l.buf ≡ 5;
  few : l.len ≤ 4;
  fits : l.rest < room l.len;
  so_far : take l.len l.buf ++ shortest_unsigned (4 - l.len) l.rest ≡ shortest_unsigned 4 l.fn.v;
}

abbrev pub decreases-loop-rest : goal.decreases-loop-rest
decreases-loop-rest l = l.rest
