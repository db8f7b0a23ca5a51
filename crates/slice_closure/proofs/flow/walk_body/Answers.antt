use Rattle.std.proofs.Common.{◌≡◌, ◌≤◌, length, ap, arith}
use Rattle.wasm_types.specs.Code.{code_of, count, flatten}
use Rattle.wasm_types.proofs.CodeLemmas.{length-flatten}
use Rattle.slice_closure.proofs.flow.walk_body.Goals as goal

pub walk_code-requires : goal.walk_code-requires
walk_code-requires c =
    let few : length (flatten (code_of c.args.body.now.code)) ≤ 200000 = c.requires.positions in
    let none : length c.in_ok-trail.trail.spots.items ≡ 0 = ap length c.in_ok-trail.ensures.spots in
    omega (arith, length-flatten (code_of c.args.body.now.code), ap (λ z. count (code_of z)) c.as_slice-code.ensures)
