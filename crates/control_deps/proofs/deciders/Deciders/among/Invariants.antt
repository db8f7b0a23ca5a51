use Rattle.control_deps.specs.Leaving.{AreExits, AreRows}
use Rattle.control_deps.proofs.deciders.Deciders.among.Given as goal

abbrev pub invariant-loop-at : goal.invariant-loop-at
invariant-loop-at l = record {
  exits : AreExits l.spots l.at l.exits.items;
  rows : AreRows l.spots l.at l.rows.items;
}
