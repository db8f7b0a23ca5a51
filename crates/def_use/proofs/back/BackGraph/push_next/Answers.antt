use Rattle.std.proofs.Common.{arith, ◌<◌, ◌≤◌, length}
use Rattle.worklist.proofs.Pushing.{gains_none, gains_same}
use Rattle.flow_domain.specs.LocTables.{WritesIn}
use Rattle.def_use.specs.Places.{Steps, GoesBack, point_at}
use Rattle.def_use.proofs.Backwards.{writes_is, writer_writes}
use Rattle.def_use.proofs.back.BackGraph.push_next.Goals as goal

pub returns-then-node-points : goal.returns-then-node-points
returns-then-node-points c =
    let back = c.args.self.now in
    let past : length back.cfg.now.points ≤ c.args.node = rw c.points.ensures at c.if-node-points.true in
    gains_none (GoesBack back.cfg.now back.locs.now back.skips.now back.places.now back.writers.now back.loc c.args.node) c.args.next.now.items
    (λ y h. let lt = h.0 in omega arith)

pub returns-in-Some : goal.returns-in-Some
returns-in-Some c =
    let back = c.args.self.now in
    gains_none (GoesBack back.cfg.now back.locs.now back.skips.now back.places.now back.writers.now back.loc c.args.node) c.args.next.now.items
    (λ y h. h.1.0 (writer_writes back.cfg.now back.locs.now back.loc c.args.node c.in-Some.field-0 c.in-Some.ensures))

pub returns-in_ok-push_steps-in-None : goal.returns-in_ok-push_steps-in-None
returns-in_ok-push_steps-in-None c =
    let back = c.args.self.now in
    let lt : c.args.node < length back.cfg.now.points = rw c.points.ensures at c.if-node-points.false in
    gains_same (Steps back.cfg.now back.skips.now back.places.now back.writers.now c.args.node)
    (GoesBack back.cfg.now back.locs.now back.skips.now back.places.now back.writers.now back.loc c.args.node) c.args.next.now.items
    c.push_steps.new.next.items
    (λ y b. (
      lt,
      (
        λ w. let is = writes_is (WritesIn back.locs.now) back.loc (point_at back.cfg.now.points c.args.node) w in c.in-None.ensures is.0 (lt, is.1),
        b,
      ),
    )) (λ y h. h.1.1) c.in_ok-push_steps-in-None.ensures
