use Rattle.std.proofs.Common.{◌≡◌}
use Rattle.ref_interp.proofs.HostWrites.{Fills}
use Rattle.ref_interp.proofs.host.write_bytes.Given as goal

abbrev pub invariant-loop-write : goal.invariant-loop-write
invariant-loop-write l = record {
  pages : l.store.pages ≡ l.initial.store.pages;
  max : l.store.max ≡ l.initial.store.max;
  cap : l.store.cap ≡ l.initial.store.cap;
  fills : Fills l.initial.store.bytes l.writes l.store.bytes l.write-index;
}
