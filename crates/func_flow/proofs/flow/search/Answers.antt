use Rattle.std.proofs.Common.{List, [], sym, subst, arith}
use Rattle.worklist.specs.declared.labels.Root.{Root}
use Rattle.func_flow.specs.Next.{First}
use Rattle.func_flow.specs.Roots.{Adds, Begins}
use Rattle.func_flow.proofs.Searching.{roots_below}
use Rattle.func_flow.proofs.FlowLemmas.{met_found}
use Rattle.func_flow.proofs.flow.search.Goals as goal

pub reach_sparse-requires : goal.reach_sparse-requires
reach_sparse-requires c =
    let t = c.args.flow.now.tables in
    let adds : Adds (Begins t.numbering (First t)) [] c.deref.result.now =
    subst (λ (roots : List Root). Adds (Begins t.numbering (First t)) [] roots) (sym c.deref.ensures.value) c.in_ok-roots.ensures in
    roots_below t c.args.flow.now.fits t.numbering.some c.deref.result.now adds

pub rows_at-requires-clause-rows : goal.rows_at-requires-clause-rows
rows_at-requires-clause-rows c = c.in_ok-met.ensures.rows

pub rows_at-requires-clause-labels : goal.rows_at-requires-clause-labels
rows_at-requires-clause-labels c = let words = c.in_ok-met.ensures.words in let same = c.requires.globals in omega arith

pub returns-clause-exact : goal.returns-clause-exact
returns-clause-exact c = λ o x.
    let t = c.args.flow.now.tables in
    let adds : Adds (Begins t.numbering (First t)) [] c.deref.result.now =
    subst (λ (roots : List Root). Adds (Begins t.numbering (First t)) [] roots) (sym c.deref.ensures.value) c.in_ok-roots.ensures in
    let flow = c.args.flow.now in
    let found = met_found t flow.runs.now flow.fits c.requires.quiet c.requires.runs c.requires.graph c.deref.result.now adds c.in_ok-met.met
    c.in_ok-met.ensures.exact c.args.first c.requires.first
    c.requires.begins c.requires.begun c.args.globals c.args.params c.requires.globals c.requires.params o x in
    let rows = c.in_ok-rows.ensures.exact o x in
    (λ h. found.0 (rows.0 h), λ h. rows.1 (found.1 h))
