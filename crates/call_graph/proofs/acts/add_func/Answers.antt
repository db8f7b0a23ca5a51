use Rattle.std.proofs.Common.{◌≡◌, ◌-◌, ◌<◌, ◌≤◌, ◌++◌, List, Some, length, length-append, sym, ap, ◌∙◌, arith}
use Rattle.std.specs.Prelude.{slice_get}
use Rattle.wasm_types.specs.Code.{code_of}
use Rattle.wasm_types.specs.Spaces.{import_count, imported, func_import}
use Rattle.call_graph.specs.declared.deeds.Deed.{Deed}
use Rattle.call_graph.specs.Lists.{live_deeds}
use Rattle.call_graph.proofs.ActLemmas.{import_gained, own_gained}
use Rattle.call_graph.proofs.acts.add_func.Goals as goal

pub returns-then-func-imports : goal.returns-then-func-imports
returns-then-func-imports c =
    let m = c.args.m.now in
    let long = ap length c.requires.described.funcs in
    let parts = length-append (imported func_import m.imports) m.funcs in
    let lt : c.args.func < import_count m = omega (arith, long, parts) in
    import_gained m c.args.func c.in-Some._kind.now (sym c.in-Some.ensures) c.args.host.now c.args.acts.now.items c.push_each.new.acts.items c.requires.host lt
    c.in_ok-push_each.ensures

pub returns : goal.returns
returns c =
    let m = c.args.m.now in
    let long = ap length c.requires.described.funcs in
    let parts = length-append (imported func_import m.imports) m.funcs in
    let le : import_count m ≤ c.args.func = omega (arith, long, parts) in
    let are : c.add_code.new.deeds.items ≡ live_deeds (code_of c.in-Some-get.body.now.code) =
    rw c.as_slice.ensures at (c.in_ok-add_code.ensures ∙ ap (λ (ds : List Deed). ds ++ live_deeds (code_of c.as_slice.result.now)) c.new-deeds.ensures.items) in
    let made = rw c.deref.ensures.value at c.in_ok-push_each-2.ensures in
    let place : c.args.func - import_count m ≡ c.args.func - (c.len.result - c.len-2.result) = omega (arith, long, parts) in
    let at : slice_get m.bodies (c.args.func - import_count m) ≡ Some c.in-Some-get.body.now = rw place (sym c.in-Some-get.ensures.value) in
    own_gained m c.args.func c.in-Some._kind.now (sym c.in-Some.ensures) c.in-Some-get.body.now c.args.acts.now.items c.push_each-2.new.acts.items
    c.add_code.new.deeds.items le at are made
