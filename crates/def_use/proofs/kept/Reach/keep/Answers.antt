use Rattle.std.proofs.Common.{rules, Some}
use Rattle.indexmap.specs.IndexMap.{Updates}
use Rattle.def_use.specs.Kept.{same_question}
use Rattle.def_use.proofs.Keeping.{one_more}
use Rattle.def_use.proofs.kept.Reach.keep.Goals as goal

pub returns-clause-others : goal.returns-clause-others
returns-clause-others c =
    let up : Updates same_question c.args.self.now.found c.insert.new.self (c.args.place, c.loc_number.result) (Some c.args.defs) = search rules in
    one_more c.args.self.now (record { tables = c.args.self.now.tables; searcher = c.args.self.now.searcher; found = c.insert.new.self }) c.args.place
    c.args.loc c.args.defs (rw c.loc_number.ensures.number at up.0)
