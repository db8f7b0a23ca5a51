use Rattle.std.proofs.Common.{◌≡◌, ◌≤◌, true, None, length, sym, ap, ◌∙◌, arith}
use Rattle.std.proofs.lemmas.Grind.{common_steps}
use Rattle.wasm_types.specs.Code.{code_of, count}
use Rattle.control_deps.specs.Spots.{spots_in}
use Rattle.control_deps.specs.Straight.{spots_back}
use Rattle.control_deps.proofs.AroundLemmas.{nested_of, few_positions}
use Rattle.control_deps.proofs.StraightLemmas.{straight_back}
use Rattle.control_deps.proofs.nest.Nest.of.Goals as goal

pub walk_code-requires-clause-room : goal.walk_code-requires-clause-room
walk_code-requires-clause-room c = omega (arith, few_positions c.args.body.now c.requires, ap (λ z. count (code_of z)) c.as_slice-code.ensures)

pub invariant_of-result : goal.invariant_of-result
invariant_of-result c =
    let code = c.as_slice-code.result.now in
    let few : count (code_of code) ≤ 200000 = omega (arith, few_positions c.args.body.now c.requires, ap (λ z. count (code_of z)) c.as_slice-code.ensures) in
    nested_of (code_of code) (spots_back (length code) c.new.result.items)
    (straight_back code c.new.result.items c.new.ensures.items (sym c.all_straight.ensures ∙ c.if-all_straight.true)) few

pub returns-then-all_straight : goal.returns-then-all_straight
returns-then-all_straight c =
    let code = c.as_slice-code.result.now in
    record {
      has_points = c.requires;
      is = straight_back code c.new.result.items c.new.ensures.items (sym c.all_straight.ensures ∙ c.if-all_straight.true)
          ∙ ap (λ z. spots_in true None 0 (code_of z) 0) c.as_slice-code.ensures;
    }

pub invariant_of-result-2 : goal.invariant_of-result-2
invariant_of-result-2 c =
    let code = code_of c.as_slice-code.result.now in
    let few : count code ≤ 200000 = omega (arith, few_positions c.args.body.now c.requires, ap (λ z. count (code_of z)) c.as_slice-code.ensures) in
    let all : c.walk_code.new.spots.items ≡ spots_in true None 0 code 0 = grind (arith, common_steps) in
    nested_of code c.walk_code.new.spots.items all few
