use Rattle.std.proofs.Common.{◌↔◌, ℕ, IsTrue, subst, sym}
use Rattle.summary_fix.specs.TwoRuns.{CallsLead}
use Rattle.summary_fix.proofs.Stepping.{led_elsewhere}
use Rattle.summary_fix.proofs.least.leads_to.Goals as goal

pub returns-then-func-root : goal.returns-then-func-root
returns-then-func-root c =
    subst (λ (k : ℕ). IsTrue c.args.back ↔ CallsLead c.args.m.now c.args.root k) (sym c.if-func-root.true) c.requires.back

pub returns : goal.returns
returns c =
    let told = c.has.ensures c.args.m.now c.args.root c.requires.reached c.requires.there in
    let led = led_elsewhere c.args.m.now c.args.root c.args.func c.if-func-root.false in
    (λ on. led.0 (told.0 on), λ leads. told.1 (led.1 leads))
