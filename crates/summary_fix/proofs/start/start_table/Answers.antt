use Rattle.std.proofs.Common.{rules, arith, ◌≡◌, ◌<◌, ◌≤◌, ◌^◌, ◌∙◌, List, ℕ, length, sym, ap, subst, refl, length-append}
use Rattle.std.specs.Prelude.{slice_get}
use Rattle.std.proofs.lemmas.Option.{slice_get-get_or}
use Rattle.wasm_types.specs.declared.module.Module.{Module}
use Rattle.wasm_types.specs.declared.place.LimitKind.TheVariants as limit
use Rattle.wasm_types.specs.Spaces.{func_types, func_import, globals_of, imported}
use Rattle.flow_domain.specs.Summaries.{IsKnown, IsShape}
use Rattle.summary_fix.proofs.Starting.{long_pushed, globals_pushed, shapes_pushed, imports_pushed, own_pushed, start_sound}
use Rattle.summary_fix.proofs.start.start_table.Goals as goal

pub overflow_cast-globals : goal.overflow_cast-globals
overflow_cast-globals c =
    let m = c.args.m.now in
    let few : length (globals_of m) ≤ 128 = c.module.ensures.sealed.limits limit.Globals 0 (length (globals_of m)) (refl, refl) in
    let is = c.len-globals.ensures in
    let all = ap length c.in_ok-spaces.ensures.globals in
    let same = ap (λ (z : Module). length (globals_of z)) c.module.ensures.same in
    let lt : c.len-globals.result < 2 ^ 32 = omega arith in search rules

pub overflow_cast-func : goal.overflow_cast-func
overflow_cast-func c =
    let m = c.args.m.now in
    let few : length (func_types m) ≤ 10001 = c.module.ensures.sealed.limits limit.Functions 0 (length (func_types m)) (refl, refl) in
    let within = c.loop-func-test.true in
    let list = ap length c.deref-kind-items.ensures.value in
    let all = ap length c.in_ok-spaces.ensures.funcs in
    let same = ap (λ (z : Module). length (func_types z)) c.module.ensures.same in
    let lt : c.loop-func.func < 2 ^ 32 = omega arith in search rules

pub first_rows-requires-clause-kind : goal.first_rows-requires-clause-kind
first_rows-requires-clause-kind c =
    let m = c.args.m.now in
    let i = c.loop-func.func in
    let list = c.deref-kind-items.result.now in
    let same : list ≡ func_types m = c.deref-kind-items.ensures.value ∙ (c.in_ok-spaces.ensures.funcs ∙ ap func_types c.module.ensures.same) in
    ap (λ (xs : List ℕ). slice_get xs i) (sym same) ∙ slice_get-get_or list i 0 c.loop-func-test.true

pub loop-func-preserved : goal.loop-func-preserved
loop-func-preserved c =
    let m = c.args.m.now in
    let n = c.loop-func.func in
    let old = c.loop-func.table in
    let new = c.push.new.self in
    let s = c.in_ok-rows.rows in
    let so_far = c.loop-func.invariant in
    let made = c.in_ok-push.ensures in
    let g : c.len-globals.result ≡ length (globals_of m) =
    c.len-globals.ensures ∙ (c.in_ok-spaces.spaces.globals.ok.0 ∙ ap length c.in_ok-spaces.ensures.globals ∙ ap (λ (z : Module). length (globals_of z)) c.module.ensures.same) in
    record {
      long = long_pushed old.rows.items new.rows.items s n made so_far.long;
      globals = globals_pushed m old new s n made so_far.long (length (globals_of m)) so_far.globals (c.in_ok-rows.ensures.globals ∙ g);
      shapes = shapes_pushed m old new s n made so_far.long (length (globals_of m)) so_far.shapes
          (λ kind typed. subst (λ k. IsShape k (length kind.params) s) g (c.in_ok-rows.ensures.shape kind typed));
      imports = imports_pushed m old new s n made so_far.long (length (globals_of m)) so_far.imports
          (λ lt o x known. c.in_ok-rows.ensures.imports lt o x (subst (λ k. IsKnown k o) (sym g) known));
      own = own_pushed m old new s n made so_far.long so_far.own c.in_ok-rows.ensures.own;
    }

pub returns-clause-sound : goal.returns-clause-sound
returns-clause-sound c =
    let m = c.args.m.now in
    let n = c.loop-func.func in
    let so_far = c.loop-func.invariant in
    let list = ap length c.deref-kind-items.ensures.value in
    let all = ap length c.in_ok-spaces.ensures.funcs in
    let same = ap (λ (z : Module). length (func_types z)) c.module.ensures.same in
    let past = c.loop-func-test.false in
    let most = c.loop-func.auto.func-end in
    let whole : n ≡ length (func_types m) = omega arith in
    let parts = length-append (imported func_import m.imports) m.funcs in
    start_sound m c.loop-func.table n c.module.ensures.sealed so_far.long whole (omega arith) so_far.shapes so_far.imports so_far.globals so_far.own

pub returns-clause-own : goal.returns-clause-own
returns-clause-own c = c.loop-func.invariant.own
