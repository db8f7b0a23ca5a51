use Rattle.std.proofs.Common.{◌+◌, ◌∙◌, subst}
use Rattle.wasm_types.specs.declared.place.Loc.{Loc}
use Rattle.flow_domain.specs.Rows.{Output}
use Rattle.func_flow.specs.declared.items.Item.TheVariants.{Needed}
use Rattle.func_flow.specs.NextLaws.{item_below}
use Rattle.flow_domain.specs.Summaries.{HasInput}
use Rattle.func_flow.specs.Met.{AnyRow}
use Rattle.func_flow.proofs.MetLemmas.{Grows, columns_next, entry_item}
use Rattle.func_flow.proofs.rows.rows_at.Goals as goal

pub add_column-requires-clause-item : goal.add_column-requires-clause-item
add_column-requires-clause-item c =
    let K = c.args.numbering in
    let y = c.entry_at-entry.result in
    rw (c.number-item.ensures, c.requires.rows) (item_below K (Needed y c.args.first) (entry_item K c.args.globals c.args.params c.args.first y
    c.loop-column.column c.requires.globals c.requires.params c.requires.first c.entry_at-entry.ensures))

pub loop-column-preserved : goal.loop-column-preserved
loop-column-preserved c =
    let K = c.args.numbering in
    let met = c.args.met.now in
    let y = c.entry_at-entry.result in
    let mid = c.loop-column.summary in
    let new = c.add_column.new.summary in
    let inv = c.loop-column.invariant in
    let more = c.add_column.ensures in
    let i = c.loop-column.column in
    let now = λ (o : Output) (x : Loc). HasInput mid o x in
    let after = λ (o : Output) (x : Loc). HasInput new o x in
    record {
      shape = record { globals_is = more.shape.globals_is ∙ inv.shape.globals_is; params_is = more.shape.params_is ∙ inv.shape.params_is };
      exact = columns_next met K c.args.first c.args.globals c.args.params i y now after c.entry_at-entry.ensures inv.exact
          (subst (λ n. Grows now (λ o x. AnyRow met n c.args.globals c.args.params (5 + c.args.globals) i o x) after) c.number-item.ensures
          (subst (λ g. Grows now (λ o x. AnyRow met c.number-item.result g c.args.params (5 + g) i o x) after) inv.shape.globals_is
          (subst (λ p. Grows now (λ o x. AnyRow met c.number-item.result mid.globals p (5 + mid.globals) i o x) after) inv.shape.params_is more.added)));
    }
