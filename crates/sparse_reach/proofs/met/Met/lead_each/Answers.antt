use Rattle.std.proofs.Common.{◌≡◌, ◌∙◌, take, refl, subst, arith}
use Rattle.std.proofs.Math.Seq.{take_all}
use Rattle.std.specs.List.{Contains}
use Rattle.sparse_reach.specs.Met.{Leads}
use Rattle.sparse_reach.proofs.Numbering.{leads_none, leads_more}
use Rattle.sparse_reach.proofs.met.Met.lead_each.Goals as goal

pub loop-node-init : goal.loop-node-init
loop-node-init c = record {
  starts_are = refl;
  leads = leads_none c.args.from c.args.nodes.now c.args.self.now.nodes.keys c.args.self.now.waiting.items
      c.args.self.now.edges.items;
}

pub loop-node-preserved : goal.loop-node-preserved
loop-node-preserved c = record {
  starts_are = c.in_ok-lead.ensures.starts ∙ c.loop-node.invariant.starts_are;
  leads =
      leads_more c.args.from c.args.nodes.now c.loop-node.node-index c.loop-node-test.true c.args.self.now.nodes.keys c.loop-node.self.nodes.keys
      c.lead.new.self.nodes.keys c.args.self.now.waiting.items c.loop-node.self.waiting.items c.lead.new.self.waiting.items
      c.args.self.now.edges.items c.loop-node.self.edges.items c.lead.new.self.edges.items c.loop-node.invariant.leads c.in_ok-lead.ensures.leads;
}

pub returns-clause-leads : goal.returns-clause-leads
returns-clause-leads c =
    let whole : take c.loop-node.node-index c.args.nodes.now ≡ c.args.nodes.now = take_all c.loop-node.node-index c.args.nodes.now (omega arith) in
    subst (λ ns. Leads c.args.from (Contains ns) c.args.self.now.nodes.keys c.loop-node.self.nodes.keys c.args.self.now.waiting.items
    c.loop-node.self.waiting.items c.args.self.now.edges.items c.loop-node.self.edges.items)
    whole c.loop-node.invariant.leads
