use Rattle.std.proofs.Common.{ℕ, Some, Global, ap, ◌∙◌}
use Rattle.std.specs.Prelude.{vec_items}
use Rattle.call_graph.proofs.ClassLemmas.{put_keeps, put_apart, stored_at}
use Rattle.call_graph.proofs.classes.make_class.Goals as goal

pub returns-clause-class : goal.returns-clause-class
returns-clause-class c =
    let st = c.in-Ok.ensures.stored in
    stored_at (vec_items {X = ℕ} {Z = Global}) c.insert_full.new.self.keys c.in-Ok.class st.0 c.in_ok-shape.shape.items st.1 st.2
    ∙ ap Some c.in_ok-shape.ensures

pub returns-clause-kept : goal.returns-clause-kept
returns-clause-kept c =
    put_keeps (vec_items {X = ℕ} {Z = Global}) c.args.shapes.now.keys c.insert_full.new.self.keys c.in_ok-shape.shape c.in-Ok.ensures.keys

pub returns-clause-apart : goal.returns-clause-apart
returns-clause-apart c =
    put_apart (vec_items {X = ℕ} {Z = Global}) c.args.shapes.now.keys c.insert_full.new.self.keys c.in_ok-shape.shape c.in-Ok.ensures.keys c.requires
