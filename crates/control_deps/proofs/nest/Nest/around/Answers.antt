use Rattle.std.proofs.Common.{◌≡◌, ◌<◌, List, length, sym, ap, ◌∙◌, subst, arith}
use Rattle.std.specs.Prelude.{slice_get}
use Rattle.wasm_types.specs.Code.{code_of}
use Rattle.control_deps.specs.declared.spot.Spot.{Spot}
use Rattle.control_deps.specs.Nest.{IsAround}
use Rattle.control_deps.specs.Straight.{straight}
use Rattle.control_deps.proofs.AroundLemmas.{is_around}
use Rattle.control_deps.proofs.StraightLemmas.{back_all, back_straight, length_straight, nothing_around}
use Rattle.control_deps.proofs.nest.Nest.around.Goals as goal

pub returns-then-self-ne0 : goal.returns-then-self-ne0
returns-then-self-ne0 c =
    let n = c.self.inside.straight in
    let q = c.args.pos.0 in
    let all : c.args.self.now ≡ straight 0 n = sym c.self.view_is ∙ back_straight n c.self.inside.spots.items (λ e. omega (arith, c.if-self-ne0.true, e)) in
    let lt : q < n = omega (arith, c.requires, ap length all, length_straight n 0) in
    let x = nothing_around n 0 q lt in
    λ body is. subst (IsAround (code_of body.code) q) x.1.1 (is_around body c.args.self.now q x.0 is (ap (λ (z : List Spot). slice_get z q) all ∙ x.1.0))

pub returns : goal.returns
returns c =
    let q = c.args.pos.0 in
    let none : c.self.inside.straight ≡ 0 = omega (arith, c.if-self-ne0.false) in
    let all = sym c.self.view_is ∙ (back_all c.self.inside.straight c.self.inside.spots.items none ∙ sym c.as_slice.ensures.value) in
    λ body is. is_around body c.args.self.now q c.spot_at.result is (ap (λ (z : List Spot). slice_get z q) all ∙ c.spot_at.ensures)
