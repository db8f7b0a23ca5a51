use Rattle.std.proofs.Common.{◌≡◌, ℕ, ◌-◌, ◌∙◌, None, codes, ap, subst, sym, arith}
use Rattle.wasm_types.specs.declared.module.Module.{Module}
use Rattle.slice_whole.specs.Slices.{why_not}
use Rattle.std.proofs.lemmas.Result.{IfOk-weaker}
use Rattle.flow_domain.specs.Sliced.{IsSliced}
use Rattle.wassail_top.specs.Reports.{last_function, last_position, measured}
use Rattle.wassail_top.proofs.LargeModule.{count_is, never_refused, nothing_against}
use Rattle.wassail_top.proofs.report.sliced_length.Goals as goal

pub unreachable-requires : goal.unreachable-requires
unreachable-requires c =
    let m = c.args.valid in
    let f = c.args.count - 1 in
    let last : why_not m f (last_position m f) (codes "s") ≡ None =
    subst (λ (x : Module). why_not x f (last_position x f) (codes "s") ≡ None) (sym c.requires.milled)
    (nothing_against c.args.count f (omega (arith, c.requires.some))) in
    let none : why_not m f c.last_position-at.result.0 (codes "s") ≡ None =
    subst (λ (i : ℕ). why_not m f i (codes "s") ≡ None) (sym c.last_position-at.ensures) last in
    never_refused m f c.last_position-at.result.0 measured c.in-Err.end c.in_default.field-0 none c.in-Err.ensures.slices
    (sym c.slice_refusal.ensures ∙ c.in_default.is)

pub returns-in-Ok : goal.returns-in-Ok
returns-in-Ok c =
    let m = c.args.valid in
    let f = c.args.count - 1 in
    let new = c.in-Ok.sliced.module in
    let at = c.in-Ok.sliced.at.0 in
    let last : f ≡ last_function m = ap (λ (k : ℕ). k - 1) (sym (count_is c.args.count m c.requires.milled)) in
    let there : IsSliced m f (last_position m f) measured new at =
    subst (λ (i : ℕ). IsSliced m f i measured new at) c.last_position-at.ensures c.in-Ok.ensures.slices.1 in
    let sliced : IsSliced m (last_function m) (last_position m (last_function m)) measured new at =
    subst (λ (g : ℕ). IsSliced m g (last_position m g) measured new at) last there in
    IfOk-weaker c.spelled_length.result _ _ (λ n is. (new, at, sliced, is)) c.spelled_length.ensures
