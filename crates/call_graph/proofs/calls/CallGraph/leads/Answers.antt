use Rattle.std.proofs.Common.{◌↔◌, ◌<◌, ◌∙◌, ℕ, List, IsTrue, eqb, subst}
use Rattle.std.specs.List.{Contains}
use Rattle.std.proofs.lemmas.Bool.Decides.{Decides-eqb}
use Rattle.std.proofs.lemmas.List.Elements.{contains_decides, Decides-contains}
use Rattle.call_graph.specs.Edges.{functions}
use Rattle.call_graph.proofs.ListLemmas.{got_none, got_row, has_row, no_row}
use Rattle.call_graph.proofs.calls.CallGraph.leads.Goals as goal

pub returns-then-func-len : goal.returns-then-func-len
returns-then-func-len c =
    let next = c.args.self.now.callees.next.items in
    let func = c.args.func in
    let node = c.args.node in
    let row = c.in-Some.nodes.now in
    let at = got_row next c.deref.result.now func row c.deref.ensures.value c.in-Some.ensures.lookup.3.0 c.in-Some.ensures.lookup.1 in
    let long = c.len.ensures ∙ c.args.self.now.classes.by_func.ok.0 in
    let lt : func < functions c.args.self.now.classes = subst (λ (n : ℕ). func < n) long c.if-func-len.true in
    let list = c.deref-then-func-len.result.now in
    let decides = Decides-contains list node c.contains.result (contains_decides eqb Decides-eqb list node c.contains.result c.contains.ensures.cases) in
    let told : IsTrue c.contains.result ↔ Contains row.items node =
    subst (λ (xs : List ℕ). IsTrue c.contains.result ↔ Contains xs node) c.deref-then-func-len.ensures.value decides in
    let has = has_row next func row at node in
    (λ on. (lt, has.0 (told.0 on)), λ leads. told.1 (has.1 leads.1))

pub returns-in-None : goal.returns-in-None
returns-in-None c = (
  λ on. absurd cc,
  λ leads. absurd (no_row c.args.self.now.callees.next.items c.args.func
      (got_none c.args.self.now.callees.next.items c.deref.result.now c.args.func c.deref.ensures.value c.in-None.ensures.lookup.3) c.args.node leads.1),
)
