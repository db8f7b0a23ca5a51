use Rattle.std.proofs.Common.{rules, ◌≡◌, pos, ◌+◌, ◌<◌, [], ◌∷◌, ◌++◌, drop, get_or, length, Some, None, if◌then◌else◌, sym, ap, ◌∙◌, subst, to_z, of_z, arith}
use Rattle.std.specs.Int.{w128}
use Rattle.wasm_types.specs.declared.module.ValType.TheVariants as type
use Rattle.wasm_types.specs.Hosts.{in_range}
use Rattle.wasm_meaning.specs.HostCalls.{value_for}
use Rattle.module_run.specs.Values.{values_for}
use Rattle.module_run.proofs.ListedValues.{joined, lengths_differ, unfit, fit, value_fits, value_unfit}
use Rattle.module_run.proofs.values.values_of.Goals as goal

pub returns-then-kinds-numbers : goal.returns-then-kinds-numbers
returns-then-kinds-numbers c = sym (lengths_differ c.args.kinds.now c.args.numbers.now c.if-kinds-numbers.true)

pub returns-in_default : goal.returns-in_default
returns-in_default c =
    let ts = c.args.kinds.now in
    let zs = c.args.numbers.now in
    let i = c.loop-i.i in
    let t = get_or ts i type.I32 in
    let z = get_or zs i (pos 0) in
    let number : to_z w128 (of_z w128 z) ≡ z = search rules in
    let e : c.value_of.result ≡ (if in_range t z then Some (value_for t z) else None) =
    c.value_of.ensures ∙ ap (λ n. if in_range t n then Some (value_for t n) else None) number in
    value_unfit type.I32 (pos 0) ts zs i c.loop-i.values.items c.loop-i-test.true (omega arith) (unfit (in_range t z) (value_for t z) (sym c.in_default.is ∙ e))
    c.loop-i.invariant

pub loop-i-preserved : goal.loop-i-preserved
loop-i-preserved c =
    let ts = c.args.kinds.now in
    let zs = c.args.numbers.now in
    let i = c.loop-i.i in
    let t = get_or ts i type.I32 in
    let z = get_or zs i (pos 0) in
    let number : to_z w128 (of_z w128 z) ≡ z = search rules in
    let e : c.value_of.result ≡ (if in_range t z then Some (value_for t z) else None) =
    c.value_of.ensures ∙ ap (λ n. if in_range t n then Some (value_for t n) else None) number in
    let h = fit (in_range t z) (value_for t z) c.in-Some.value (sym c.in-Some.is ∙ e) in
    let items : c.push_value.new.values.items ≡ c.loop-i.values.items ++ value_for t z ∷ [] =
    c.in_ok-push_value.ensures ∙ ap (λ v. c.loop-i.values.items ++ v ∷ []) h.1 in
    let within : i < length zs = omega arith in
    subst (λ vs. joined vs (values_for (drop (i + 1) ts) (drop (i + 1) zs)) ≡ values_for ts zs) (sym items)
    (value_fits type.I32 (pos 0) ts zs i c.loop-i.values.items c.loop-i-test.true within h.0 c.loop-i.invariant)
