use Rattle.std.proofs.Common.{ℕ, length}
use Rattle.wasm_types.specs.declared.place.Loc.{Loc}
use Rattle.wasm_types.specs.Spaces.{globals_of}
use Rattle.flow_domain.specs.Reach.{MayWrite}
use Rattle.flow_domain.specs.Summaries.{TableRows}
use Rattle.flow_domain.specs.Touch.{MayTouch}
use Rattle.called_rows.proofs.ClassLemmas.{any_member, marks_member, members_few, members_shape, members_share}
use Rattle.called_rows.proofs.classes.targets_of.Goals as goal

pub params_of-params-requires : goal.params_of-params-requires
params_of-params-requires c =
    members_few c.args.graph.now c.args.class c.members_of-funcs.result.now (c.members_of-funcs.ensures c.args.m.now c.requires.graph)

pub rows_of-requires-clause-few : goal.rows_of-requires-clause-few
rows_of-requires-clause-few c =
    members_few c.args.graph.now c.args.class c.members_of-funcs.result.now (c.members_of-funcs.ensures c.args.m.now c.requires.graph)

pub rows_of-requires-clause-shapes : goal.rows_of-requires-clause-shapes
rows_of-requires-clause-shapes c =
    let m = c.args.m.now in
    rw c.requires.globals (c.params_of-params.ensures (length (globals_of m)) (members_share c.args.graph.now c.args.class c.members_of-funcs.result.now
    (c.members_of-funcs.ensures m c.requires.graph) m c.requires.graph c.args.table.now c.requires.table))

pub marks_of-requires : goal.marks_of-requires
marks_of-requires c =
    members_few c.args.graph.now c.args.class c.members_of-funcs.result.now (c.members_of-funcs.ensures c.args.m.now c.requires.graph)

pub marks_of-requires-2 : goal.marks_of-requires-2
marks_of-requires-2 c =
    members_few c.args.graph.now c.args.class c.members_of-funcs.result.now (c.members_of-funcs.ensures c.args.m.now c.requires.graph)

pub returns : goal.returns
returns c =
    let m = c.args.m.now in
    let g = c.args.graph.now in
    let class = c.args.class in
    let funcs = c.members_of-funcs.result.now in
    let all = c.members_of-funcs.ensures m c.requires.graph in
    let t = c.args.table.now in
    let globals = length (globals_of m) in
    record {
      shape = members_shape g class funcs all m c.requires.graph t c.requires.table c.params_of-params.result
          (c.params_of-params.ensures globals (members_share g class funcs all m c.requires.graph t c.requires.table)) c.in_ok-rows.rows
          (rw c.requires.globals at c.in_ok-rows.ensures.shape);
      rows = λ o x.
          let row = c.in_ok-rows.ensures.exact o x in
          let any = any_member g class funcs all (λ (f : ℕ). TableRows t f o x) in
          (λ h. any.0 (row.0 h), λ h. row.1 (any.1 h));
      writes_long = rw c.requires.globals at c.in_ok-writes.ensures.long;
      touches_long = rw c.requires.globals at c.in_ok-touches.ensures.long;
      writes = marks_member g class funcs all globals c.in_ok-writes.writes.items (λ (f : ℕ) (x : Loc). MayWrite m f x)
          (rw c.requires.globals at (c.in_ok-writes.ensures.exact m c.requires.graph));
      touches = marks_member g class funcs all globals c.in_ok-touches.touches.items (λ (f : ℕ) (x : Loc). MayTouch m f x)
          (rw c.requires.globals at (c.in_ok-touches.ensures.exact m c.requires.graph));
    }
