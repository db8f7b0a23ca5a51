use Rattle.std.proofs.Common.{get_or, subst, arith}
use Rattle.std.proofs.lemmas.Grind.{get_or_default_zero}
use Rattle.func_flow.specs.Runs.{IsRun}
use Rattle.func_flow.proofs.RunLemmas.{run_longer}
use Rattle.func_flow.proofs.runs.start_at.Goals as goal

pub returns-in-Some : goal.returns-in-Some
returns-in-Some c =
    let t = c.args.tables.now in
    let past = c.args.past_calls in
    let starts = c.args.starts.now in
    let earlier = c.in-Some.earlier in
    let next = c.in-Some.ensures.0 in
    run_longer t past (get_or starts earlier 0) c.args.pos earlier next
    (subst (λ h. IsRun t past h earlier) (get_or_default_zero starts earlier earlier (omega (arith, c.requires.length))) (c.requires.starts earlier))
    c.in-Some.ensures.1
