use Rattle.wasm_types.specs.Nodes.{At}
use Rattle.func_flow.proofs.Pushes.{on_point}
use Rattle.func_flow.proofs.search.Flow.entry.Goals as goal

pub before-requires : goal.before-requires
before-requires c =
    let flow = c.args.self.now in
    on_point flow.tables.cfg.now.points flow.tables.numbering.nodes flow.points.now flow.pointed (At c.args.start) c.point_number.result c.point_number.ensures
    c.requires c.if-not-self-point_number.false
