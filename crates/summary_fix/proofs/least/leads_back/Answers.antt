use Rattle.std.proofs.Common.{ℕ, List, refl, subst, sym}
use Rattle.std.specs.List.{All}
use Rattle.wasm_types.specs.Hosts.{IsFunction}
use Rattle.flow_domain.specs.Reach.{Reached}
use Rattle.called_rows.specs.Funcs.{AnyOf}
use Rattle.summary_fix.proofs.Stepping.{led_back}
use Rattle.summary_fix.proofs.least.leads_back.Goals as goal

pub any_reached-requires-clause-within : goal.any_reached-requires-clause-within
any_reached-requires-clause-within c =
    subst (λ (fs : List ℕ). All (λ f. IsFunction c.args.m.now f) fs) (sym c.deref.ensures.value) c.in_ok-callers.ensures.within

pub returns : goal.returns
returns c =
    let m = c.args.m.now in
    let root = c.args.root in
    let same = c.deref.ensures.value in
    let told = c.any_reached.ensures in
    let led = led_back m root c.in_ok-callers.callers.items (λ f calls. c.in_ok-callers.ensures.every refl f calls) c.in_ok-callers.ensures.only in (
      λ on. led.0 (subst (λ (fs : List ℕ). AnyOf fs (λ f. Reached m root f)) same (told.0 on)),
      λ leads. told.1 (subst (λ (fs : List ℕ). AnyOf fs (λ f. Reached m root f)) (sym same) (led.1 leads)),
    )
