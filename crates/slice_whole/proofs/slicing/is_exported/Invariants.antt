use Rattle.std.proofs.Common.{◌≡◌, drop}
use Rattle.slice_whole.specs.Slices.{is_exported}
use Rattle.slice_whole.proofs.slicing.is_exported.Given as goal

abbrev pub invariant-loop-export : goal.invariant-loop-export
invariant-loop-export l = is_exported l.exports l.name ≡ is_exported (drop l.export-index l.exports) l.name
