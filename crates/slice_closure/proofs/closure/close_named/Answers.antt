use Rattle.std.proofs.Common.{◌∙◌, sym, nat_eq, subst}
use Rattle.flow_domain.specs.declared.summary_table.SummaryTable.{SummaryTable}
use Rattle.slice_closure.specs.Answer.{TellsKept, TellsMade}
use Rattle.slice_closure.proofs.Dead.{dead_tells, dead_made}
use Rattle.slice_closure.proofs.closure.close_named.Goals as goal

pub returns-then-not-live-clause-kept : goal.returns-then-not-live-clause-kept
returns-then-not-live-clause-kept c =
    dead_tells c.args.m.now c.args.func c.args.at.0 c.args.names.now (c.requires.names (nat_eq c.args.at.0)) (sym c.live.ensures ∙ c.if-not-live.true) c.args.table.now
    c.new.result c.new.ensures.empty

pub returns-then-not-live-clause-made : goal.returns-then-not-live-clause-made
returns-then-not-live-clause-made c =
    dead_made c.args.m.now c.args.func c.args.at.0 c.args.names.now (c.requires.names (nat_eq c.args.at.0)) (sym c.live.ensures ∙ c.if-not-live.true) c.args.table.now

pub returns-clause-kept : goal.returns-clause-kept
returns-clause-kept c =
    subst (λ (t : SummaryTable). TellsKept c.args.m.now t c.args.func c.args.at.0 c.in_ok-kept.kept) c.new-called.ensures.rows c.in_ok-kept.ensures.kept

pub returns-clause-made : goal.returns-clause-made
returns-clause-made c =
    subst (λ (t : SummaryTable). TellsMade c.args.m.now t c.args.func c.args.at.0) c.new-called.ensures.rows c.in_ok-kept.ensures.made
