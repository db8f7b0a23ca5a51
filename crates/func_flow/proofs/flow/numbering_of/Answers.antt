use Rattle.std.proofs.Common.{◌≤◌, length, arith}
use Rattle.wasm_types.specs.Code.{code_of, flatten}
use Rattle.wasm_types.proofs.CodeLemmas.{length-flatten}
use Rattle.func_flow.proofs.flow.numbering_of.Goals as goal

pub count-requires : goal.count-requires
count-requires c = let few : length (flatten (code_of c.args.body.now.code)) ≤ 200000 = c.requires.positions in omega arith

pub invariant_of-result : goal.invariant_of-result
invariant_of-result c =
    let few : length (flatten (code_of c.args.body.now.code)) ≤ 200000 = c.requires.positions in
    let all = c.count.ensures in
    let bound = c.locs_bound-bound.ensures.small in
    let most = c.max-locals.ensures in
    record { some = omega arith; few = omega arith; small = omega arith; short = grind arith }

pub returns-clause-nodes : goal.returns-clause-nodes
returns-clause-nodes c = omega (arith, c.count.ensures, length-flatten (code_of c.args.body.now.code))

pub returns-clause-locals : goal.returns-clause-locals
returns-clause-locals c = λ p k d lt.
    let below = c.locs_bound-bound.ensures.below p k d lt in let most = c.max-locals.ensures in grind arith
