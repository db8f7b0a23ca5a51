use Rattle.std.proofs.Common.{◌≡◌, ◌<◌, ◌≤◌, ◌∙◌, None, Some, true, length, slice_get, sym, ap, subst, arith}
use Rattle.wasm_types.specs.declared.place.Node.{Node}
use Rattle.wasm_types.specs.declared.place.Node.TheVariants.{Exit}
use Rattle.wasm_types.specs.Code.{code_of, count}
use Rattle.block_cfg.specs.Graph.{number}
use Rattle.block_cfg.specs.Walk.{first_of}
use Rattle.control_deps.proofs.SpotLemmas.{length_spots}
use Rattle.def_use.proofs.CfgLemmas.{cfg_is_graph}
use Rattle.func_flow.proofs.FlowLemmas.{first_within, first_low, first_begun, found_led}
use Rattle.func_flow.proofs.Right.{fits, quiet}
use Rattle.func_flow.proofs.RunLemmas.{order_of}
use Rattle.func_flow.proofs.flow.rows_by.Goals as goal

pub points_of-requires : goal.points_of-requires
points_of-requires c = (fits c.args.m.now c.args.func c.args.tables c.requires.made).points

pub invariant_of-flow : goal.invariant_of-flow
invariant_of-flow c =
    let t = c.args.tables in
    let spots : length t.nest.now ≡ count (code_of t.body.now.code) =
    ap length c.requires.made.nest.is ∙ length_spots true None 0 (code_of t.body.now.code) 0 in
    let nodes = c.requires.made.nodes in
    record {
      fits = fits c.args.m.now c.args.func t c.requires.made;
      nodes = omega arith;
      pointed = rw c.deref-2.ensures.value c.in_ok-points.ensures;
      order = order_of c.args.tables c.in_ok-runs.runs c.in_ok-runs.ensures;
    }

pub search-requires-clause-runs : goal.search-requires-clause-runs
search-requires-clause-runs c = c.in_ok-runs.ensures

pub search-requires-clause-quiet : goal.search-requires-clause-quiet
search-requires-clause-quiet c = quiet c.args.m.now c.args.func c.args.tables c.requires.made

pub new-requires-clause-graph : goal.new-requires-clause-graph
new-requires-clause-graph c = cfg_is_graph c.args.tables.body.now c.args.tables.cfg.now c.requires.made.cfg

pub search-requires-clause-graph : goal.search-requires-clause-graph
search-requires-clause-graph c = cfg_is_graph c.args.tables.body.now c.args.tables.cfg.now c.requires.made.cfg

pub search-requires-clause-begun : goal.search-requires-clause-begun
search-requires-clause-begun c =
    let t = c.args.tables in
    let is : c.first_point-first.result ≡ first_of 0 (code_of t.body.now.code) Exit = rw c.as_slice.ensures at c.first_point-first.ensures in
    subst (λ (n : Node). slice_get t.cfg.now.points 0 ≡ Some n) (sym is) (first_begun t.body.now t.cfg.now c.requires.made.cfg)

pub search-requires-clause-begins : goal.search-requires-clause-begins
search-requires-clause-begins c =
    let t = c.args.tables in
    let is : c.first_point-first.result ≡ first_of 0 (code_of t.body.now.code) Exit = rw c.as_slice.ensures at c.first_point-first.ensures in
    subst (λ (n : Node). number n ≤ 1) (sym is) (first_low (code_of t.body.now.code))

pub search-requires-clause-first : goal.search-requires-clause-first
search-requires-clause-first c =
    let t = c.args.tables in
    let is : c.first_point-first.result ≡ first_of 0 (code_of t.body.now.code) Exit = rw c.as_slice.ensures at c.first_point-first.ensures in
    let below = first_within (code_of t.body.now.code) in
    subst (λ (n : Node). number n < t.numbering.nodes) (sym is) (subst (λ k. number (first_of 0 (code_of t.body.now.code) Exit) < k)
    (sym c.requires.made.nodes) below)

pub search-requires-clause-params : goal.search-requires-clause-params
search-requires-clause-params c =
    let made = c.requires.made in
    let wide = c.requires.params made.names.kind made.names.kind_is in
    let within = made.params in omega arith

pub returns-clause-exact : goal.returns-clause-exact
returns-clause-exact c = λ W exact o known x.
    let t = c.args.tables in
    let made = c.requires.made in
    let is : c.first_point-first.result ≡ first_of 0 (code_of t.body.now.code) Exit = rw c.as_slice.ensures at c.first_point-first.ensures in
    let led = found_led c.args.m.now c.args.func t made c.requires.body W exact c.first_point-first.result is c.args.globals c.args.params c.requires.globals
    (c.requires.params made.names.kind made.names.kind_is) o known x in
    let rows = c.in_ok-rows.ensures.exact o x in
    (λ h. led.0 (rows.0 h), λ h. rows.1 (led.1 h))
