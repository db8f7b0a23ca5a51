use Rattle.std.proofs.Common.{◌≡◌, refl, subst}
use Rattle.func_flow.specs.declared.items.Item.{Item}
use Rattle.func_flow.specs.Runs.{Arrives, Raises}
use Rattle.func_flow.proofs.Pushes.{numbered_same}
use Rattle.func_flow.proofs.search.Flow.push_earlier.Goals as goal

pub returns : goal.returns
returns c =
    let flow = c.args.self.now in
    let passed = c.passed-passed.result in
    let item = c.raised-item.result in
    numbered_same flow.tables.numbering (λ j. j ≡ item) (Arrives flow.tables flow.runs.now c.args.loc c.args.point) c.args.next.now.items
    c.push.new.next.items
    (λ j e. (passed, ((c.passed-passed.ensures.exact passed).1 refl, (c.raised-item.ensures.exact j).1 e)))
    (λ j (k, (lands, raises)).
    (c.raised-item.ensures.exact j).0 (subst (λ (z : Item). Raises flow.runs.now z j) ((c.passed-passed.ensures.exact k).0 lands) raises))
    c.in_ok-push.ensures
