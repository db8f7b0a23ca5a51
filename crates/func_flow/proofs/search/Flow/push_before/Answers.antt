use Rattle.std.specs.List.{Contains}
use Rattle.block_cfg.specs.Graph.{row_of}
use Rattle.func_flow.specs.declared.items.Item.TheVariants.{Needed}
use Rattle.func_flow.specs.Next.{FromEach}
use Rattle.func_flow.specs.Runs.{Arrives, Short}
use Rattle.func_flow.proofs.Pushes.{each_more, each_all, numbered_none, numbered_same, off_point, on_point}
use Rattle.func_flow.proofs.search.Flow.push_before.Goals as goal

pub returns-then-not-self-point_number : goal.returns-then-not-self-point_number
returns-then-not-self-point_number c =
    let t = c.args.self.now.tables in
    let r = c.args.self.now.runs.now in
    let K = c.args.self.now.tables.numbering in
    numbered_none K (Short t r (Needed c.args.loc c.args.point)) c.args.next.now.items
    (λ j (has, on). off_point t.cfg.now.points K.nodes c.args.self.now.points.now c.args.self.now.pointed c.args.point c.point_number.result
    c.point_number.ensures c.requires.node c.if-not-self-point_number.true has)

pub before-earlier-items-requires : goal.before-earlier-items-requires
before-earlier-items-requires c =
    on_point c.args.self.now.tables.cfg.now.points c.args.self.now.tables.numbering.nodes c.args.self.now.points.now c.args.self.now.pointed c.args.point
    c.point_number.result c.point_number.ensures c.requires.node c.if-not-self-point_number.false

pub loop-earlier-preserved : goal.loop-earlier-preserved
loop-earlier-preserved c =
    let flow = c.args.self.now in
    each_more flow.tables.numbering (Arrives flow.tables flow.runs.now c.args.loc) c.before-earlier-items.result.now c.loop-earlier.earlier-index _
    c.args.next.now.items c.loop-earlier.next.items c.push_earlier.new.next.items
    c.loop-earlier-test.true c.loop-earlier.invariant c.in_ok-push_earlier.ensures

pub returns : goal.returns
returns c =
    let t = c.args.self.now.tables in
    let r = c.args.self.now.runs.now in
    let K = c.args.self.now.tables.numbering in
    let has : Contains t.cfg.now.points c.args.point =
    on_point t.cfg.now.points K.nodes c.args.self.now.points.now c.args.self.now.pointed c.args.point c.point_number.result c.point_number.ensures
    c.requires.node c.if-not-self-point_number.false in
    let row = row_of t.cfg.now.before c.args.point in
    numbered_same K (FromEach row (Arrives t r c.args.loc)) (Short t r (Needed c.args.loc c.args.point)) c.args.next.now.items c.loop-earlier.next.items
    (λ j e. (has, e)) (λ j h. h.1)
    (each_all K (Arrives t r c.args.loc) c.before-earlier-items.result.now row c.loop-earlier.earlier-index c.args.next.now.items c.loop-earlier.next.items
    c.loop-earlier-test.false c.before-earlier-items.ensures c.loop-earlier.invariant)
