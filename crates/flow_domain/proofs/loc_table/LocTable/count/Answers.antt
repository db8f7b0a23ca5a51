use Rattle.std.proofs.Common.{sym, ◌∙◌, ap, length}
use Rattle.flow_domain.proofs.LocLemmas.{length_shown}
use Rattle.flow_domain.proofs.loc_table.LocTable.count.Goals as goal

pub returns : goal.returns
returns c = c.len.ensures ∙ (c.self.inside.rows.ok.0 ∙ (sym (length_shown c.self.inside.rows.items) ∙ ap length c.self.view_is))
