use Rattle.report_text.proofs.SummaryLemmas.{few_functions, few_globals}
use Rattle.report_text.proofs.summary.summary_text.Goals as goal

pub text_of-requires-clause-functions : goal.text_of-requires-clause-functions
text_of-requires-clause-functions c = rw c.module.ensures.same (few_functions c.args.m.now c.module.ensures.sealed)

pub text_of-requires-clause-globals : goal.text_of-requires-clause-globals
text_of-requires-clause-globals c = rw c.module.ensures.same (few_globals c.args.m.now c.module.ensures.sealed)
