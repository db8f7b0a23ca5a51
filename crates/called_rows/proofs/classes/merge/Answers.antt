use Rattle.std.proofs.Common.{◌≡◌, ◌∙◌, Some, refl, subst, sym}
use Rattle.std.specs.Prelude.{slice_get}
use Rattle.std.proofs.lemmas.Option.{same_Some, slice_get_read}
use Rattle.flow_domain.specs.Summaries.{HasInput}
use Rattle.called_rows.specs.declared.classes.Targets.{Targets}
use Rattle.called_rows.proofs.ClassLemmas.{class_within, fits_shape, merged_at}
use Rattle.called_rows.proofs.classes.merge.Goals as goal

pub merge-requires : goal.merge-requires
merge-requires c =
    let all = c.args.by_class.now in
    let a = c.index_mut.result.now in
    let here : slice_get all.items c.args.class ≡ Some a = slice_get_read all.items _ c.args.class a all.ok.0 (class_within all c.args.class c.args.rows.now
    c.requires) c.index_mut.ensures.value in
    fits_shape all.items c.args.class c.args.rows.now a c.requires here

pub returns-clause-merged : goal.returns-clause-merged
returns-clause-merged c =
    let all = c.args.by_class.now in
    let a = c.index_mut.result.now in
    let here : slice_get all.items c.args.class ≡ Some a = slice_get_read all.items _ c.args.class a all.ok.0 (class_within all c.args.class c.args.rows.now
    c.requires) c.index_mut.ensures.value in
    merged_at c.args.class c.args.rows.now a _ all.items _ here refl
    (record { shape = c.merge.ensures.shape; rows = c.merge.ensures.merged; writes = refl; touches = refl })

pub returns-clause-same : goal.returns-clause-same
returns-clause-same c = λ off u at o x has.
    let all = c.args.by_class.now in
    let a = c.index_mut.result.now in
    let here : slice_get all.items c.args.class ≡ Some a = slice_get_read all.items _ c.args.class a all.ok.0 (class_within all c.args.class c.args.rows.now
    c.requires) c.index_mut.ensures.value in
    subst (λ (z : Targets). HasInput z.rows o x) (same_Some a u (sym here ∙ at)) (c.merge.ensures.same off o x has)
