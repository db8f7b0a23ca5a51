use Rattle.std.proofs.Common.{◌↔◌, ℕ, List, subst, sym}
use Rattle.std.specs.List.{Contains}
use Rattle.call_graph.specs.Tells.{HasClass}
use Rattle.call_graph.proofs.ListLemmas.{got_none, got_row, members_listed, members_unlisted}
use Rattle.call_graph.proofs.calls.CallGraph.members_of.Goals as goal

pub returns-in-Some : goal.returns-in-Some
returns-in-Some c = λ m g f.
    let members = c.args.self.now.members.items in
    let classes = c.args.self.now.classes in
    let row = c.in-Some.members.now in
    subst (λ (xs : List ℕ). Contains xs f ↔ HasClass classes f c.args.class) (sym c.as_slice.ensures.value)
    (members_listed classes members g.members c.args.class row
    (got_row members c.deref.result.now c.args.class row c.deref.ensures.value c.in-Some.ensures.lookup.3.0 c.in-Some.ensures.lookup.1) f)

pub returns-in-None : goal.returns-in-None
returns-in-None c = λ m g f.
    let members = c.args.self.now.members.items in
    members_unlisted c.args.self.now.classes members g.members c.args.class
    (got_none members c.deref.result.now c.args.class c.deref.ensures.value c.in-None.ensures.lookup.3) f
