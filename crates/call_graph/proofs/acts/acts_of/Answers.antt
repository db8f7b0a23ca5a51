use Rattle.std.proofs.Common.{◌≤◌, length, ap, arith}
use Rattle.wasm_types.specs.Spaces.{func_types}
use Rattle.call_graph.proofs.ActLemmas.{acts_more, acts_all}
use Rattle.call_graph.proofs.acts.acts_of.Goals as goal

pub loop-func-preserved : goal.loop-func-preserved
loop-func-preserved c =
    acts_more c.args.m.now c.loop-func.func c.loop-func.acts.items c.add_func.new.acts.items c.loop-func.invariant c.in_ok-add_func.ensures

pub returns : goal.returns
returns c =
    let long = ap length c.requires.described.funcs in
    let all : length (func_types c.args.m.now) ≤ c.loop-func.func = omega arith in
    acts_all c.args.m.now c.loop-func.func c.loop-func.acts.items all c.loop-func.invariant
