use Rattle.std.proofs.Common.{ℕ, ◌∙◌, get_or, sym, subst}
use Rattle.flow_domain.specs.Summaries.{TableRows}
use Rattle.called_rows.specs.Funcs.{AreShaped}
use Rattle.called_rows.proofs.FuncLemmas.{any_none, any_all, rows_more}
use Rattle.called_rows.proofs.funcs.rows_of.Goals as goal

pub loop-func-init : goal.loop-func-init
loop-func-init c = record {
  shape = c.in_ok-rows.ensures.shape;
  exact = λ o x. (λ h. absurd (c.in_ok-rows.ensures.none o x h), λ h. absurd (any_none (λ f. TableRows c.args.table.now f o x) h));
}

pub add_func-requires-clause-few : goal.add_func-requires-clause-few
add_func-requires-clause-few c = c.requires.few c.loop-func.func-index 0 c.loop-func-test.true

pub add_func-requires-clause-shape : goal.add_func-requires-clause-shape
add_func-requires-clause-shape c =
    let t = c.args.table.now in
    let i = c.loop-func.func-index in
    let shape = c.loop-func.invariant.shape in
    let f : ℕ = get_or c.args.funcs.now i 0 in
    subst (λ g. AreShaped t g c.loop-func.rows.params f) (sym shape.globals_is)
    (subst (λ p. AreShaped t c.args.globals p f) (sym shape.params_is) (c.requires.shapes i 0 c.loop-func-test.true))

pub loop-func-preserved : goal.loop-func-preserved
loop-func-preserved c =
    let inv = c.loop-func.invariant in
    let more = c.add_func.ensures in
    record {
      shape = record { globals_is = more.shape.globals_is ∙ inv.shape.globals_is; params_is = more.shape.params_is ∙ inv.shape.params_is };
      exact = rows_more c.args.table.now c.args.funcs.now c.loop-func.func-index c.loop-func.rows c.add_func.new.rows c.loop-func-test.true inv.exact
          more.added;
    }

pub returns-clause-exact : goal.returns-clause-exact
returns-clause-exact c = λ o x.
    let so = c.loop-func.invariant.exact o x in
    let all = any_all (λ f. TableRows c.args.table.now f o x) c.args.funcs.now c.loop-func.func-index c.loop-func-test.false in
    (λ h. all.0 (so.0 h), λ h. so.1 (all.1 h))
