use Rattle.std.proofs.Common.{◌≡◌, ◌↔◌, ◌⊎◌, Bool, false, Some, List, length, get_or, sym, ap, subst, ◌∙◌, arith}
use Rattle.std.specs.Prelude.{slice_get}
use Rattle.std.specs.List.{Contains}
use Rattle.std.proofs.lemmas.Option.{slice_get-get_or}
use Rattle.wasm_types.specs.declared.module.GlobalType.{GlobalType}
use Rattle.wasm_types.specs.declared.module.ValType.TheVariants.{I32}
use Rattle.wasm_types.specs.Spaces.{globals_of}
use Rattle.call_graph.specs.Hosts.{GlobalDeed}
use Rattle.call_graph.proofs.HostLemmas.{globals_more, globals_all}
use Rattle.call_graph.proofs.hosts.add_globals.Goals as goal

pub loop-global-preserved : goal.loop-global-preserved
loop-global-preserved c =
    let m = c.args.m.now in
    let i = c.loop-global.global in
    let d : GlobalType = record { kind = I32; mutable = false } in
    let list = c.deref-kind-items.result.now in
    let same : list ≡ globals_of m = c.deref-kind-items.ensures.value ∙ c.requires.described.globals in
    let at : slice_get (globals_of m) i ≡ Some (get_or list i d) =
    ap (λ (xs : List GlobalType). slice_get xs i) (sym same) ∙ slice_get-get_or list i d c.loop-global-test.true in
    globals_more m c.args.deeds.now.items c.loop-global.deeds.items c.add_global.new.deeds.items i (get_or list i d) at c.loop-global.invariant
    (λ x. subst (λ (b : Bool). Contains c.add_global.new.deeds.items x ↔ (Contains c.loop-global.deeds.items x ⊎ GlobalDeed b i x))
    c.is_global_seen-seen.ensures (c.in_ok-add_global.ensures x))

pub returns : goal.returns
returns c =
    let m = c.args.m.now in
    let list = c.deref-kind-items.result.now in
    let same : list ≡ globals_of m = c.deref-kind-items.ensures.value ∙ c.requires.described.globals in
    let long = ap length same in
    globals_all m c.args.deeds.now.items c.loop-global.deeds.items c.loop-global.global (omega arith) c.loop-global.invariant
