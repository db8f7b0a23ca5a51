use Rattle.std.proofs.Common.{◌≡◌, ◌+◌, arith}
use Rattle.called_rows.specs.Called.{globals_in}
use Rattle.called_rows.specs.Whom.{output_of}
use Rattle.slice_closure.specs.Next.{InputAt}
use Rattle.slice_closure.proofs.Pushes.{below_start, below_next, below_all}
use Rattle.slice_closure.proofs.search.Closing.push_inputs.Goals as goal

pub loop-index-init : goal.loop-index-init
loop-index-init c =
    below_start c.args.self.now.numbering.nodes (InputAt c.args.self.now.tables c.args.pos.0 (output_of c.args.made) c.args.whom) c.args.next.now.items

pub loop-index-preserved : goal.loop-index-preserved
loop-index-preserved c =
    below_next c.args.self.now.numbering.nodes (InputAt c.args.self.now.tables c.args.pos.0 (output_of c.args.made) c.args.whom) c.loop-index.index
    c.args.next.now.items c.loop-index.next.items c.push_input.new.next.items c.loop-index.invariant c.in_ok-push_input.ensures

pub returns : goal.returns
returns c =
    let n = globals_in c.args.self.now.tables.called + 3 in
    let all : c.loop-index.index ≡ n = omega (arith, c.globals.ensures) in
    below_all c.args.self.now.numbering.nodes (InputAt c.args.self.now.tables c.args.pos.0 (output_of c.args.made) c.args.whom) c.loop-index.index n
    c.args.next.now.items c.loop-index.next.items all c.loop-index.invariant
