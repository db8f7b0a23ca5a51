use Rattle.std.proofs.Common.{ℕ, List, Global, subst}
use Rattle.std.specs.Prelude.{map, vec_items}
use Rattle.call_graph.specs.Classes.{IsFound}
use Rattle.call_graph.proofs.ClassLemmas.{found_at}
use Rattle.call_graph.proofs.classes.find_class.Goals as goal

pub returns : goal.returns
returns c =
    subst (λ (s : List ℕ). IsFound (map (vec_items {X = ℕ} {Z = Global}) c.args.shapes.now.keys) s c.get_index_of.result) c.in_ok-shape.ensures
    (found_at (vec_items {X = ℕ} {Z = Global}) c.args.shapes.now.keys c.in_ok-shape.shape.items c.get_index_of.result c.get_index_of.ensures.index
    c.get_index_of.ensures.found c.get_index_of.ensures.within)
