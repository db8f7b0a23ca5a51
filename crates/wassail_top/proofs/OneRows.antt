-- The rows of a module's functions have one test.
use Rattle.std.proofs.Common.{◌≡◌, sym, subst}
use Rattle.std.proofs.Math.Path.{fun_ext}
use Rattle.wasm_types.specs.declared.module.Module.{Module}
use Rattle.flow_domain.specs.Bounds.{Cover, bounds}
use Rattle.flow_domain.specs.Rows.{AnyRound}
use Rattle.flow_domain.specs.Summaries.{asked, place_of}
use Rattle.slice_whole.proofs.OneCover.{one_cover, same_bool}
use Rattle.wassail_top.specs.Summaries.{AreRows, RowTest}

pub one_rows : (m : Module) (R Q : RowTest) → AreRows m R → AreRows m Q → R ≡ Q
one_rows m R Q a b = fun_ext (λ f. fun_ext (λ o. fun_ext (λ i. same_bool (R f o i) (Q f o i)
    (λ on. let row = (a.exact f o i).0 on in (b.exact f o i).1 (row.0, subst (λ (W : Cover). AnyRound (bounds m W) f (asked o) (place_of i)) cover row.1))
    (λ on. let row = (b.exact f o i).0 on in (a.exact f o i).1
    (row.0, subst (λ (W : Cover). AnyRound (bounds m W) f (asked o) (place_of i)) (sym cover) row.1)))))
  where
    cover : a.cover ≡ b.cover
    cover = one_cover m a.cover b.cover a.cover_is b.cover_is
