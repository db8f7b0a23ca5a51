use Rattle.std.proofs.Common.{◌≡◌, ◌+◌, arith}
use Rattle.called_rows.specs.Whom.{output_of}
use Rattle.func_flow.specs.Next.{PlaceAt}
use Rattle.func_flow.proofs.Pushes.{below_start, below_next, below_all}
use Rattle.func_flow.proofs.search.Flow.push_places.Goals as goal

pub loop-index-init : goal.loop-index-init
loop-index-init c =
    below_start c.args.self.now.tables.numbering (PlaceAt c.args.self.now.tables c.args.pos.0 (output_of c.args.made) c.args.whom) c.args.next.now.items

pub loop-index-preserved : goal.loop-index-preserved
loop-index-preserved c =
    below_next c.args.self.now.tables.numbering (PlaceAt c.args.self.now.tables c.args.pos.0 (output_of c.args.made) c.args.whom) c.loop-index.index
    c.args.next.now.items c.loop-index.next.items c.push_place.new.next.items c.loop-index.invariant c.in_ok-push_place.ensures

pub returns : goal.returns
returns c =
    let n = c.args.self.now.tables.numbering.globals + 3 in
    let all : c.loop-index.index ≡ n = omega arith in
    below_all c.args.self.now.tables.numbering (PlaceAt c.args.self.now.tables c.args.pos.0 (output_of c.args.made) c.args.whom) c.loop-index.index n
    c.args.next.now.items c.loop-index.next.items all c.loop-index.invariant
