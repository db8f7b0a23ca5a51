use Rattle.std.proofs.Common.{sym}
use Rattle.called_rows.proofs.FuncLemmas.{shaped_by}
use Rattle.called_rows.proofs.funcs.params_of.Goals as goal

pub returns-in-Some : goal.returns-in-Some
returns-in-Some c = λ globals share.
    let at = c.in-Some.ensures.lookup in
    shaped_by c.args.table.now globals c.params_in.result c.in-Some.first.now c.args.funcs.now (0, at.3.0, sym at.1) c.params_in.ensures share
