use Rattle.ref_interp.proofs.HostWrites.{Writes}
use Rattle.ref_interp.proofs.host.write_globals.Given as goal

abbrev pub invariant-loop-write : goal.invariant-loop-write
invariant-loop-write l = Writes l.initial.globals.items l.writes l.globals.items l.write-index
