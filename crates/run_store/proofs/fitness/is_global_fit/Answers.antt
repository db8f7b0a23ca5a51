use Rattle.std.proofs.Common.{◌≡◌, ◌+◌, ◌&&◌, ◌==◌, true, List, Some, length, sym, ap, ◌∙◌}
use Rattle.std.specs.Prelude.{slice_get}
use Rattle.std.specs.Int.{w128}
use Rattle.std.proofs.lemmas.Int.{to_z-of_z}
use Rattle.std.specs.List.{list_any}
use Rattle.wasm_types.specs.declared.module.Import.{Import}
use Rattle.wasm_types.specs.declared.module.Export.{Export}
use Rattle.wasm_types.specs.Spaces.{imported, global_import}
use Rattle.wasm_types.specs.Hosts.{in_range, is_global}
use Rattle.run_store.proofs.Seen.{imported_fit, own_fit, none_fit, exported}
use Rattle.run_store.proofs.fitness.is_global_fit.Goals as goal

pub returns-in-Ok : goal.returns-in-Ok
returns-in-Ok c =
    let m = c.args.m.now in
    let found : slice_get (imported global_import m.imports) c.args.global ≡ Some c.in-Ok.kind =
    sym (ap (λ (l : List Import). slice_get (imported global_import l) c.args.global) c.as_slice.ensures) ∙ c.in-Ok.ensures in
    c.is_seen_fit.ensures
    ∙ (ap (λ z. (c.in-Ok.kind.mutable && true) && in_range c.in-Ok.kind.kind z) (to_z-of_z w128 c.args.number c.ranges.number)
    ∙ sym (imported_fit m c.args.global c.in-Ok.kind c.args.number found))

pub returns-in-Some : goal.returns-in-Some
returns-in-Some c =
    let m = c.args.m.now in
    let past : c.args.global ≡ c.in-Err.own + length (imported global_import m.imports) =
    c.in-Err.ensures ∙ ap (λ (l : List Import). c.in-Err.own + length (imported global_import l)) c.as_slice.ensures in
    let shown : c.exports_global.result ≡ exported m c.args.global =
    c.exports_global.ensures
    ∙ ap (λ (l : List Export). list_any (λ (e : Export). is_global e.kind && (e.index == c.args.global)) l) c.as_slice-in-Some.ensures in
    let own = c.in-Some.own.now in
    c.is_seen_fit-in-Some.ensures
    ∙ (ap (λ z. (own.kind.mutable && c.exports_global.result) && in_range own.kind.kind z) (to_z-of_z w128 c.args.number c.ranges.number)
    ∙ (ap (λ b. (own.kind.mutable && b) && in_range own.kind.kind c.args.number) shown
    ∙ sym (own_fit m c.args.global c.in-Err.own own c.args.number past (sym c.in-Some.ensures.value))))

pub returns-in-None : goal.returns-in-None
returns-in-None c =
    let m = c.args.m.now in
    let past : c.args.global ≡ c.in-Err.own + length (imported global_import m.imports) =
    c.in-Err.ensures ∙ ap (λ (l : List Import). c.in-Err.own + length (imported global_import l)) c.as_slice.ensures in
    sym (none_fit m c.args.global c.in-Err.own c.args.number past (sym c.in-None.ensures.value))
