use Rattle.std.proofs.Common.{◌≡◌, ◌↔◌, ◌+◌, length, true, eqb}
use Rattle.std.specs.List.{Contains}
use Rattle.std.proofs.lemmas.Bool.Decides.{Decides-eqb}
use Rattle.std.proofs.lemmas.List.Elements.{contains_decides, Decides-contains}
use Rattle.worklist.proofs.Pushing.{all_gained}
use Rattle.def_use.specs.Places.{Steps, place_of}
use Rattle.def_use.specs.PlacesLaws.{steps_stay}
use Rattle.def_use.specs.Writers.{writers_of}
use Rattle.def_use.proofs.Backwards.{all_placed, place_is, point_fits, tops_placed}
use Rattle.def_use.proofs.Answering.{is_answer}
use Rattle.def_use.proofs.search.find.Goals as goal

pub invariant_of-back : goal.invariant_of-back
invariant_of-back c =
    let graph = c.requires.graph in
    let g = c.args.cfg.now in
    let tables = c.args.tables.now in
    let placed = all_placed graph.0 graph.1.0 g graph.1.1 tables.places.items c.requires.tables.places in
    record {
      placed = rw c.deref.ensures.value placed;
      tops = rw (c.deref.ensures.value, c.of.ensures)
          (tops_placed g tables.skips tables.places.items (writers_of tables.writers.rows.items c.args.loc) placed c.requires.tables.skips);
      rising = rw c.of.ensures (c.requires.tables.writers c.args.loc).rising;
    }

pub place_of-requires : goal.place_of-requires
place_of-requires c =
    let graph = c.requires.graph in
    rw c.deref-2.ensures.value (point_fits graph.0 graph.1.0 c.args.cfg.now graph.1.1 c.args.tables.now.places.items c.requires.tables.places c.args.point
    c.requires.point)

pub push_steps-requires : goal.push_steps-requires
push_steps-requires c =
    let graph = c.requires.graph in
    rw (c.place_of.ensures, c.deref-2.ensures.value) (place_is graph.0 graph.1.0 c.args.cfg.now graph.1.1 c.args.tables.now.places.items
    c.requires.tables.places c.args.point c.requires.point).0

pub reach-requires-clause-roots : goal.reach-requires-clause-roots
reach-requires-clause-roots c =
    let graph = c.requires.graph in
    let g = c.args.cfg.now in
    let places = c.args.tables.now.places.items in
    let skips = c.args.tables.now.skips in
    let writers = writers_of c.args.tables.now.writers.rows.items c.args.loc in
    let here = place_of places c.args.point in
    let placed = all_placed graph.0 graph.1.0 g graph.1.1 places c.requires.tables.places in
    let gains = rw (c.place_of.ensures, c.deref.ensures.value, c.of.ensures, c.deref-2.ensures.value) at c.in_ok-push_steps.ensures
    in
    all_gained (Steps g skips places writers here) (length g.points + 1) c.new-roots.result.items c.push_steps.new.next.items c.deref-3.result.now
    c.new-roots.ensures.items c.deref-3.ensures.value gains
    (λ y s. steps_stay g skips places writers placed (tops_placed g skips places writers placed c.requires.tables.skips) here y s)

pub returns-clause-answer : goal.returns-clause-answer
returns-clause-answer c =
    let g = c.args.cfg.now in
    let places = c.args.tables.now.places.items in
    let skips = c.args.tables.now.skips in
    let writers = writers_of c.args.tables.now.writers.rows.items c.args.loc in
    let count = length g.points in
    let met = c.in_ok-met.met.items in
    let gains = rw (c.place_of.ensures, c.deref.ensures.value, c.of.ensures, c.deref-2.ensures.value) at c.in_ok-push_steps.ensures
    in
    let exact = rw (c.deref-3.ensures.value, c.deref.ensures.value, c.of.ensures) at c.in_ok-met.ensures.exact in
    let list = c.deref-4.result.now in
    let entry = c.contains-entry.result in
    let decides = Decides-contains list (length c.points.result.now) entry
    (contains_decides eqb Decides-eqb list (length c.points.result.now) entry c.contains-entry.ensures.cases) in
    let entry_is : (entry ≡ true) ↔ Contains met count = rw (c.deref-4.ensures.value, c.points.ensures) at decides in
    let gathered = rw c.deref-5.ensures.value at c.in_ok-positions.ensures.exact in
    is_answer g c.args.locs.now c.args.loc places c.requires.tables.places skips c.requires.tables.skips writers (c.requires.tables.writers c.args.loc)
    c.args.point c.requires.point
    c.new-roots.result.items c.push_steps.new.next.items met c.new-roots.ensures.items gains exact
    entry entry_is c.in_ok-positions.positions.items c.in_ok-positions.ensures.rising gathered c.in_ok-defs.defs.items
    (rw c.deref-6.ensures.value at c.in_ok-defs.ensures)
