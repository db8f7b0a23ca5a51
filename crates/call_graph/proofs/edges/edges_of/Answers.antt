use Rattle.std.proofs.Common.{◌≡◌, ◌↔◌, ◌⊎◌, ◌++◌, List, ap, subst, ◌∙◌}
use Rattle.std.specs.List.{Contains, filter_map}
use Rattle.call_graph.specs.declared.edges.Edge.{Edge}
use Rattle.call_graph.specs.Edges.{edge_of, IsMember}
use Rattle.call_graph.proofs.edges.edges_of.Goals as goal

pub returns : goal.returns
returns c =
    let picked = filter_map (edge_of c.args.classes.now) c.args.acts.now in
    let first : c.add_calls.new.edges.items ≡ picked = c.in_ok-add_calls.ensures ∙ ap (λ (es : List Edge). es ++ picked) c.new-edges.ensures.items in
    λ e. subst (λ (es : List Edge). Contains c.add_members.new.edges.items e ↔ (Contains es e ⊎ IsMember c.args.classes.now e)) first
    (c.in_ok-add_members.ensures e)
