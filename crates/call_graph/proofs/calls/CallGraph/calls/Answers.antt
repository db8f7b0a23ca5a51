use Rattle.std.proofs.Common.{◌↔◌, ◌+◌, ℕ, IsTrue, sym, subst, ◌∙◌}
use Rattle.call_graph.specs.Graph.{LeadsTo}
use Rattle.call_graph.proofs.ReaderLemmas.{call_direct, call_by_class, call_by_none, not_both}
use Rattle.call_graph.proofs.calls.CallGraph.calls.Goals as goal

pub returns-then-leads : goal.returns-then-leads
returns-then-leads c = λ m g lt.
    call_direct c.args.self.now c.args.func c.args.other _ (g.calls c.args.func c.args.other lt) (c.leads.ensures.0 c.if-leads.true)

pub returns-in-None : goal.returns-in-None
returns-in-None c = λ m g lt.
    call_by_none c.args.self.now c.args.func c.args.other _ (g.calls c.args.func c.args.other lt) (not_both _ _ c.if-leads.false c.leads.ensures)
    (sym c.in-None.ensures)

pub returns-in-Some : goal.returns-in-Some
returns-in-Some c = λ m g lt.
    call_by_class c.args.self.now c.args.func c.args.other _ (g.calls c.args.func c.args.other lt) (not_both _ _ c.if-leads.false c.leads.ensures)
    c.in-Some.class c.leads-in-Some.result (sym c.in-Some.ensures)
    (subst (λ (n : ℕ). IsTrue c.leads-in-Some.result ↔ LeadsTo c.args.self.now c.args.func (n + c.in-Some.class))
    (c.len.ensures ∙ c.args.self.now.classes.by_func.ok.0) c.leads-in-Some.ensures)
