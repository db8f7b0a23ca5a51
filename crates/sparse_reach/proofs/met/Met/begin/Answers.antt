use Rattle.std.proofs.Common.{◌≡◌, ◌∙◌, take, subst, arith}
use Rattle.std.proofs.Math.Seq.{take_all}
use Rattle.worklist.proofs.Searching.{nothing_left}
use Rattle.sparse_reach.specs.Met.{AreStarts}
use Rattle.sparse_reach.proofs.Numbering.{starts_none, starts_more}
use Rattle.sparse_reach.proofs.met.Met.begin.Goals as goal

pub loop-root-init : goal.loop-root-init
loop-root-init c = record {
  none = c.new-4.ensures.items;
  starts =
      starts_none c.new.result.keys c.new-2.result.items (nothing_left c.new.result.keys c.new.ensures.len) c.new-2.ensures.items c.new-3.result.items
      c.new-3.ensures.items;
}

pub loop-root-preserved : goal.loop-root-preserved
loop-root-preserved c =
    let put = c.in_ok-start.ensures.starts in
    record {
      none = c.in_ok-start.ensures.edges ∙ c.loop-root.invariant.none;
      starts =
          starts_more c.args.roots.now c.loop-root.root-index _ c.loop-root-test.true c.loop-root.met.nodes.keys c.start.new.self.nodes.keys
          c.loop-root.met.waiting.items c.start.new.self.waiting.items c.loop-root.met.starts.items c.start.new.self.starts.items put.0
          c.loop-root.invariant.starts put.1.0 put.1.1;
    }

pub returns-clause-starts : goal.returns-clause-starts
returns-clause-starts c =
    let whole : take c.loop-root.root-index c.args.roots.now ≡ c.args.roots.now = take_all c.loop-root.root-index c.args.roots.now (omega arith) in
    subst (λ rs. AreStarts rs c.loop-root.met.nodes.keys c.loop-root.met.waiting.items c.loop-root.met.starts.items) whole c.loop-root.invariant.starts
