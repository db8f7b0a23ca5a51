use Rattle.std.proofs.Common.{◌≡◌, ◌-◌, ◌<◌, ◌≤◌, ◌*◌, ◌++◌, length, take}
use Rattle.wasm_types.specs.Numbers.{shortest_signed, half_of}
use Rattle.leb_codec.proofs.write.write_signed.Given as goal

abbrev pub invariant-loop-buf : goal.invariant-loop-buf
invariant-loop-buf g l = record {
  size : length l.buf ≡ 10;
  few : l.len ≤ g.form.1;
  width : l.half ≡ half_of g.form.0 (g.form.1 - l.len);
  fits : l.rest < 2 * l.half;
  so_far : take l.len l.buf ++ shortest_signed (g.form.1 - l.len) l.half l.rest ≡ shortest_signed g.form.1 l.fn.half l.fn.v;
}

abbrev pub decreases-loop-buf : goal.decreases-loop-buf
decreases-loop-buf g l = l.rest
