use Rattle.std.proofs.Common.{◌≡◌, ◌≤◌, ◌∙◌, length, sym, subst}
use Rattle.wasm_types.specs.Funcs.{unwatched}
use Rattle.wasm_types.specs.Spaces.{body_of, globals_of}
use Rattle.body_check.specs.declared.spaces.Spaces.{Spaces}
use Rattle.body_check.specs.Numbered.{Describes}
use Rattle.flow_domain.specs.Summaries.{IsKnown}
use Rattle.slice_closure.proofs.Right.{names_same}
use Rattle.func_flow.proofs.FlowLemmas.{value_of, own_at}
use Rattle.func_flow.proofs.flow.flow_rows.Goals as goal

pub value_names_by-requires-clause-imported : goal.value_names_by-requires-clause-imported
value_names_by-requires-clause-imported c =
    let m = c.args.m.now in
    let body = value_of (body_of m c.args.func) c.requires.own in (own_at m c.args.func body.0 body.1).0

pub value_names_by-requires-clause-own : goal.value_names_by-requires-clause-own
value_names_by-requires-clause-own c =
    let m = c.args.m.now in
    let body = value_of (body_of m c.args.func) c.requires.own in (own_at m c.args.func body.0 body.1).1

pub value_names_by-requires-clause-spaces : goal.value_names_by-requires-clause-spaces
value_names_by-requires-clause-spaces c =
    subst (λ (z : Spaces). Describes z c.args.m.now) (sym c.spaces.ensures) c.requires.targets.spaces

pub rows_by-requires-clause-made : goal.rows_by-requires-clause-made
rows_by-requires-clause-made c =
    let m = c.args.m.now in
    let a = c.in_ok-names.ensures unwatched in
    let b = c.own_body-body.result.now in
    let is = c.own_body-body.ensures.body in
    let shape = c.own_rows-own.ensures a.kind a.kind_is in
    let K = c.numbering_of-numbering.result in
    let numbered = c.numbering_of-numbering.ensures in
    record {
      sealed = c.own_body-body.ensures.sealed;
      heights = c.law_valid_has_heights.ensures;
      names = a;
      same = names_same m c.args.func unwatched c.in_ok-names.names a b is;
      cfg = c.in_ok-cfg.ensures;
      plain = c.in_ok-locs.ensures b is;
      nest = c.in_ok-nest.ensures;
      near = c.in_ok-deciders.ensures;
      steps = c.deref.ensures.value ∙ c.in_ok-steps.ensures;
      called = c.new-called.ensures.called m c.requires.graph c.requires.table c.requires.targets;
      globals = numbered.globals ∙ shape.globals_is;
      nodes = numbered.nodes;
      locals = numbered.locals;
      params = subst (λ n. n ≤ K.locals) shape.params_is numbered.params;
    }

pub rows_by-requires-clause-globals : goal.rows_by-requires-clause-globals
rows_by-requires-clause-globals c = c.numbering_of-numbering.ensures.globals ∙ sym c.globals-globals.ensures

pub rows_by-requires-clause-params : goal.rows_by-requires-clause-params
rows_by-requires-clause-params c = λ t typed. c.params-params.ensures ∙ (c.own_rows-own.ensures t typed).params_is

pub returns-clause-shape : goal.returns-clause-shape
returns-clause-shape c = λ t typed.
    let shape = c.own_rows-own.ensures t typed in
    let made = c.in_ok-rows.ensures.shape in
    record {
      globals_is = made.globals_is ∙ (c.globals-globals.ensures ∙ shape.globals_is);
      params_is = made.params_is ∙ (c.params-params.ensures ∙ shape.params_is);
    }

pub returns-clause-exact : goal.returns-clause-exact
returns-clause-exact c = λ W exact o known x.
    let a = c.in_ok-names.ensures unwatched in
    let same : c.globals-globals.result ≡ length (globals_of c.args.m.now) =
    c.globals-globals.ensures ∙ (c.own_rows-own.ensures a.kind a.kind_is).globals_is in
    rw c.new-called.ensures.rows at (c.in_ok-rows.ensures.exact W exact o (subst (λ g. IsKnown g o) (sym same) known) x)
