use Rattle.std.proofs.Common.{rules, ◌≡◌, pos, ◌+◌, Some, length, get_or, set, sym, ap, ◌∙◌, subst, refl, to_z, of_z}
use Rattle.std.specs.Int.{w128}
use Rattle.std.proofs.lemmas.Option.{slice_get-get_or, slice_get_read}
use Rattle.std.specs.Prelude.{unwrap_or, slice_get}
use Rattle.wasm_types.specs.declared.module.Value.TheVariants as value
use Rattle.wasm_meaning.specs.State.{arg}
use Rattle.wasm_meaning.specs.HostCalls.{value_for}
use Rattle.ref_interp.specs.World.{kind_of}
use Rattle.ref_interp.proofs.HostWrites.{Writes, writable_at, written_next, put_is_set}
use Rattle.ref_interp.proofs.host.write_globals.Goals as goal

pub loop-write-preserved : goal.loop-write-preserved
loop-write-preserved c =
    let ws = c.args.writes.now in
    let i = c.loop-write.write-index in
    let w = get_or ws i (0, pos 0) in
    let gs = c.loop-write.globals.items in
    let at : slice_get ws i ≡ Some w = slice_get-get_or ws i (0, pos 0) c.loop-write-test.true in
    let fit = writable_at c.args.globals.now.items ws gs i w at c.loop-write.invariant in
    let there : slice_get gs w.0 ≡ Some c.index.result.now = slice_get_read gs (length gs) w.0 c.index.result.now refl fit.0 c.index.ensures in
    let old : arg gs w.0 ≡ c.index.result.now = ap (λ o. unwrap_or o (value.I32 0)) there in
    let number : to_z w128 (of_z w128 w.1) ≡ w.1 = search rules in
    let v : c.value_for.result ≡ value_for (kind_of (arg gs w.0)) w.1 =
    c.value_for.ensures ∙ ap (λ z. value_for c.kind_of.result z) number ∙ ap (λ k. value_for k w.1) (c.kind_of.ensures ∙ ap kind_of (sym old)) in
    subst (λ xs. Writes c.args.globals.now.items ws xs (i + 1)) (put_is_set (value.I32 0) w.0 (value_for (kind_of (arg gs w.0)) w.1) gs fit.0
    ∙ ap (set gs w.0) (sym v))
    (written_next c.args.globals.now.items ws gs i w at c.loop-write.invariant)
