use Rattle.std.proofs.Common.{◌≡◌, ◌∙◌, ℕ, Some, refl, subst, sym}
use Rattle.std.specs.Prelude.{slice_get}
use Rattle.std.proofs.lemmas.Option.{same_Some}
use Rattle.call_graph.proofs.ReaderLemmas.{in_class, not_in}
use Rattle.called_rows.specs.Classes.{HasAll}
use Rattle.called_rows.proofs.ClassLemmas.{table_grown, table_same}
use Rattle.called_rows.proofs.classes.TargetTable.add.Goals as goal

pub merge-requires : goal.merge-requires
merge-requires c =
    let by_func = c.args.graph.now.classes.by_func.items in
    c.requires c.in-Some.class (in_class (slice_get by_func c.args.func) c.in-Some.class (sym c.class_of.ensures ∙ c.in-Some.is))

pub returns-in_default-clause-added : goal.returns-in_default-clause-added
returns-in_default-clause-added c = λ m old new graph merged is.
    let by_func = c.args.graph.now.classes.by_func.items in
    table_same m c.args.graph.now c.args.func c.args.rows.now old new merged c.args.self.now
    (λ d has. not_in (slice_get by_func c.args.func) d (sym c.class_of.ensures ∙ c.in_default.is) has) is

pub returns-clause-added : goal.returns-clause-added
returns-clause-added c = λ m old new graph merged is.
    let by_func = c.args.graph.now.classes.by_func.items in
    let has = in_class (slice_get by_func c.args.func) c.in-Some.class (sym c.class_of.ensures ∙ c.in-Some.is) in
    let u = c.requires c.in-Some.class has in
    table_grown m c.args.graph.now c.args.func c.args.rows.now old new merged c.args.self.now _ c.in-Some.class has refl refl u.0 u.1.0 c.merge.ensures.merged is

pub returns-in_default-clause-same : goal.returns-in_default-clause-same
returns-in_default-clause-same c = λ off d has.
    absurd (not_in (slice_get c.args.graph.now.classes.by_func.items c.args.func) d (sym c.class_of.ensures ∙ c.in_default.is) has)

pub returns-clause-same : goal.returns-clause-same
returns-clause-same c = λ off d has.
    let by_func = c.args.graph.now.classes.by_func.items in
    let here = in_class (slice_get by_func c.args.func) c.in-Some.class (sym c.class_of.ensures ∙ c.in-Some.is) in
    let one : c.in-Some.class ≡ d = same_Some c.in-Some.class d (same_Some (Some c.in-Some.class) (Some d) (sym here ∙ has)) in
    subst (λ (k : ℕ). HasAll c.args.self.now.by_class.items k c.args.rows.now) one (c.merge.ensures.same off)
