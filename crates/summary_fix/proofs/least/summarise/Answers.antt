use Rattle.std.proofs.Common.{rules, ◌≡◌, ◌∙◌, true, replicate}
use Rattle.summary_fix.proofs.Covers.{cover_of, cover_exact}
use Rattle.summary_fix.proofs.Marking.{all_full}
use Rattle.summary_fix.proofs.Returning.{table_agrees, table_returns}
use Rattle.summary_fix.proofs.Stepping.{least_table}
use Rattle.summary_fix.proofs.least.summarise.Goals as goal

pub returns-clause-cover : goal.returns-clause-cover
returns-clause-cover c = (cover_of c.in_ok-graph.graph, cover_exact c.args.m.now c.in_ok-graph.graph c.in_ok-graph.ensures)

pub returns-clause-exact : goal.returns-clause-exact
returns-clause-exact c =
    let m = c.args.m.now in
    let sound = c.in_ok-settle.ensures.sound in
    let start = c.in_ok-table.table in
    let made : c.in_ok-wanted.wanted.items ≡ replicate c.count.result true = search rules in
    least_table m sound.sealed.valid sound.sealed.no_float c.settle.new.table sound
    (all_full m c.settle.new.table c.deref.result.now c.count.result (c.deref.ensures.value ∙ made)
    (c.count.ensures ∙ (start.rows.ok.0 ∙ c.in_ok-table.ensures.sound.table.long)) c.in_ok-settle.ensures.full)

pub returns-clause-agree : goal.returns-clause-agree
returns-clause-agree c =
    let m = c.args.m.now in
    let graph = c.in_ok-graph.graph in
    let sound = c.in_ok-settle.ensures.sound in
    let start = c.in_ok-table.table in
    let made : c.in_ok-wanted.wanted.items ≡ replicate c.count.result true = search rules in
    table_agrees m sound.sealed.valid sound.sealed.no_float (cover_of graph) (cover_exact m graph c.in_ok-graph.ensures) c.settle.new.table
    (least_table m sound.sealed.valid sound.sealed.no_float c.settle.new.table sound
    (all_full m c.settle.new.table c.deref.result.now c.count.result (c.deref.ensures.value ∙ made)
    (c.count.ensures ∙ (start.rows.ok.0 ∙ c.in_ok-table.ensures.sound.table.long)) c.in_ok-settle.ensures.full))

pub returns-clause-returns : goal.returns-clause-returns
returns-clause-returns c =
    let m = c.args.m.now in
    let graph = c.in_ok-graph.graph in
    let sound = c.in_ok-settle.ensures.sound in
    let start = c.in_ok-table.table in
    let made : c.in_ok-wanted.wanted.items ≡ replicate c.count.result true = search rules in
    table_returns m sound.sealed.valid sound.sealed.no_float (cover_of graph) (cover_exact m graph c.in_ok-graph.ensures) c.settle.new.table
    (least_table m sound.sealed.valid sound.sealed.no_float c.settle.new.table sound
    (all_full m c.settle.new.table c.deref.result.now c.count.result (c.deref.ensures.value ∙ made)
    (c.count.ensures ∙ (start.rows.ok.0 ∙ c.in_ok-table.ensures.sound.table.long)) c.in_ok-settle.ensures.full))
