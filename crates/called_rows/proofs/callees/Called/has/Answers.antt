use Rattle.std.proofs.Common.{◌≡◌, ◌↔◌, ◌∙◌, Some, ap, sym, subst}
use Rattle.std.specs.Prelude.{IsTrue, slice_get}
use Rattle.std.specs.Option.{option_copied}
use Rattle.std.proofs.lemmas.Option.{same_Some}
use Rattle.flow_domain.specs.Summaries.{HasInput}
use Rattle.called_rows.specs.Called.{RowIn}
use Rattle.called_rows.specs.Whom.{output_of}
use Rattle.called_rows.proofs.callees.Called.has.Goals as goal

pub returns-in-Some : goal.returns-in-Some
returns-in-Some c =
    let t = c.args.self.now in
    let o = output_of c.args.made in
    let rows = c.in-Some.rows.now in
    let found : slice_get t.rows.now.rows.items c.in-Own.func ≡ Some rows = sym c.get.ensures ∙ ap option_copied c.in-Some.is in
    subst (λ w. IsTrue c.needs.result ↔ RowIn t w o c.args.loc) (sym c.in-Own.is) (
      λ h. (rows, (found, c.needs.ensures.0 h)),
      λ (s, (is, has)). c.needs.ensures.1 (subst (λ z. HasInput z o c.args.loc) (same_Some s rows (sym is ∙ found)) has),
    )
