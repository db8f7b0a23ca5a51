use Rattle.std.proofs.Common.{◌≡◌, ◌∙◌, Some, None, Option, List, ℕ, rules, subst, sym, ap, arith}
use Rattle.std.specs.List.{slice_get}
use Rattle.std.specs.Option.{option_map}
use Rattle.std.proofs.lemmas.Grind.{common_steps}
use Rattle.std.proofs.lemmas.Option.{gets}
use Rattle.std.proofs.lemmas.List.Sorted.{IsPartitionPoint-from_clause}
use Rattle.std.proofs.Math.Dec.{leb}
use Rattle.wasm_types.specs.declared.module.ValType.{ValType}
use Rattle.body_check.specs.declared.locals.RunEnd.{RunEnd}
use Rattle.body_check.specs.Locals.{Reaches, types_from}
use Rattle.body_check.proofs.LocalsLemmas.{find-local, ends-partitioned}
use Rattle.body_check.proofs.locals.Locals.get.Goals as goal

-- what was found, in the list that callers see
told : (seen : List ValType) (es ds : List RunEnd) (i x : ℕ) (found : Option RunEnd) → types_from 0 es ≡ seen → ds ≡ es
    → slice_get (types_from 0 ds) x ≡ option_map (λ (e : RunEnd). e.kind) (slice_get ds i) → slice_get ds i ≡ found → option_map (λ (e : RunEnd). e.kind) found ≡ slice_get seen x
told seen es ds i x found view same h is =
    sym (ap (option_map (λ (e : RunEnd). e.kind)) is) ∙ sym h ∙ ap (λ z. slice_get (types_from 0 z) x) same ∙ ap (λ z. slice_get z x) view

pub returns-in-Some : goal.returns-in-Some
returns-in-Some c =
    let reaches : Reaches 0 c.deref.result.now c.self.inside.count = subst (λ (z : _). Reaches 0 z c.self.inside.count) (sym c.deref.ensures.value) c.self.invariant in
    let h = IsPartitionPoint-from_clause (λ (y : RunEnd). leb y.end c.args.local) c.deref.result.now c.partition_point-at.result c.partition_point-at.ensures.partitioned
    (ends-partitioned c.deref.result.now c.self.inside.count c.args.local reaches) (λ a r f' called. search rules) in
    let found = find-local c.deref.result.now c.self.inside.count c.partition_point-at.result c.args.local reaches h in
    let at : slice_get c.deref-2.result.now c.partition_point-at.result ≡ Some c.in-Some.run'.now = grind (arith, common_steps, gets) in
    told c.args.self.now c.self.inside.ends.items c.deref.result.now c.partition_point-at.result c.args.local (Some c.in-Some.run'.now) c.self.view_is c.deref.ensures.value found
    (ap (λ z. slice_get z c.partition_point-at.result) (c.deref.ensures.value ∙ sym c.deref-2.ensures.value) ∙ at)

pub returns-in-None : goal.returns-in-None
returns-in-None c =
    let reaches : Reaches 0 c.deref.result.now c.self.inside.count = subst (λ (z : _). Reaches 0 z c.self.inside.count) (sym c.deref.ensures.value) c.self.invariant in
    let h = IsPartitionPoint-from_clause (λ (y : RunEnd). leb y.end c.args.local) c.deref.result.now c.partition_point-at.result c.partition_point-at.ensures.partitioned
    (ends-partitioned c.deref.result.now c.self.inside.count c.args.local reaches) (λ a r f' called. search rules) in
    let found = find-local c.deref.result.now c.self.inside.count c.partition_point-at.result c.args.local reaches h in
    let at : slice_get c.deref-2.result.now c.partition_point-at.result ≡ None = grind (arith, common_steps, gets) in
    told c.args.self.now c.self.inside.ends.items c.deref.result.now c.partition_point-at.result c.args.local None c.self.view_is c.deref.ensures.value found
    (ap (λ z. slice_get z c.partition_point-at.result) (c.deref.ensures.value ∙ sym c.deref-2.ensures.value) ∙ at)
