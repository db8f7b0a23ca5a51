use Rattle.std.proofs.Common.{◌≡◌, ◌∙◌, ℕ, List, All, reverse, true≢false, Some, ◌∷◌, sym, subst}
use Rattle.std.specs.List.{slice_get}
use Rattle.wasm_types.specs.declared.module.ValType.TheVariants.{I32}
use Rattle.wasm_types.specs.declared.instr.Instr.TheVariants as v
use Rattle.wasm_types.specs.Validity.{values_of}
use Rattle.body_check.specs.Labels.{labels_of}
use Rattle.body_check.specs.Signatures.{context_of}
use Rattle.body_check.specs.Stacks.{Turns, Selects}
use Rattle.body_check.proofs.PlainLemmas.{label-known, label-none, label-carries, all-as, at-instr, br_if-follows, br_if-none, br_table-follows, br_table-none, br_table-differ, drop-follows, select-follows, GoesByTypes, other-follows, other-fails, ok-follows, fails-at}
use Rattle.body_check.proofs.plain.check_plain.Goals as goal

pub returns-in-Some-label : goal.returns-in-Some-label
returns-in-Some-label c =
    let known = label-known c.args.labels.now c.in-BrIf.to c.in-Some-label.kind (sym c.in-Some-label.ensures) in
    ok-follows (context_of c.args.place.now) (labels_of c.args.labels.now) (Turns (I32 ∷ values_of c.in-Some-label.kind) (values_of c.in-Some-label.kind)) c.args.stack.now c.pass.new.self c.pass.result c.args.instr.now (v.BrIf c.in-BrIf.to) c.in-BrIf.is
    (λ ok h. br_if-follows (context_of c.args.place.now) (labels_of c.args.labels.now) c.in-BrIf.to (values_of c.in-Some-label.kind) c.args.stack.now c.pass.new.self ok known h) c.pass.ensures

pub returns-in-None-label : goal.returns-in-None-label
returns-in-None-label c = fails-at (context_of c.args.place.now) (labels_of c.args.labels.now) c.args.stack.now c.args.instr.now (v.BrIf c.in-BrIf.to) c.in-BrIf.is (br_if-none (context_of c.args.place.now) (labels_of c.args.labels.now) c.in-BrIf.to c.args.stack.now (label-none c.args.labels.now c.in-BrIf.to (sym c.in-None-label.ensures)))

pub returns-in-Some-label-2 : goal.returns-in-Some-label-2
returns-in-Some-label-2 c =
    let known = label-known c.args.labels.now c.in-BrTable.to c.in-Some-label-2.kind (sym c.in-Some-label-2.ensures) in
    let all : All (λ k. slice_get (labels_of c.args.labels.now) k ≡ Some (values_of c.in-Some-label-2.kind)) c.in-BrTable.some =
    all-as (λ k. slice_get (reverse c.args.labels.now) k ≡ Some c.in-Some-label-2.kind) (λ k. slice_get (labels_of c.args.labels.now) k ≡ Some (values_of c.in-Some-label-2.kind)) (λ k h. label-known c.args.labels.now k c.in-Some-label-2.kind h) c.in-BrTable.some
    (subst (λ (z : List ℕ). All (λ k. slice_get (reverse c.args.labels.now) k ≡ Some c.in-Some-label-2.kind) z) c.as_slice.ensures (c.all_carry.ensures.0 c.if-all_carry.true)) in
    at-instr (context_of c.args.place.now) (labels_of c.args.labels.now) c.args.stack.now c.leave_by_number.new.self c.leave_by_number.result c.args.instr.now (v.BrTable c.in-BrTable.some c.in-BrTable.to) c.in-BrTable.is
    (br_table-follows (context_of c.args.place.now) (labels_of c.args.labels.now) c.in-BrTable.some c.in-BrTable.to (values_of c.in-Some-label-2.kind) c.args.stack.now c.leave_by_number.new.self c.leave_by_number.result known all c.leave_by_number.ensures)

pub returns-in_default-label : goal.returns-in_default-label
returns-in_default-label c =
    let known = label-known c.args.labels.now c.in-BrTable.to c.in-Some-label-2.kind (sym c.in-Some-label-2.ensures) in
    fails-at (context_of c.args.place.now) (labels_of c.args.labels.now) c.args.stack.now c.args.instr.now (v.BrTable c.in-BrTable.some c.in-BrTable.to) c.in-BrTable.is
    (br_table-differ (context_of c.args.place.now) (labels_of c.args.labels.now) c.in-BrTable.some c.in-BrTable.to (values_of c.in-Some-label-2.kind) c.args.stack.now known
    (λ all. true≢false (sym (c.all_carry.ensures.1 (subst (λ (z : List ℕ). All (λ k. slice_get (reverse c.args.labels.now) k ≡ Some c.in-Some-label-2.kind) z) (sym c.as_slice.ensures)
    (all-as (λ k. slice_get (labels_of c.args.labels.now) k ≡ Some (values_of c.in-Some-label-2.kind)) (λ k. slice_get (reverse c.args.labels.now) k ≡ Some c.in-Some-label-2.kind) (λ k h. label-carries c.args.labels.now k c.in-Some-label-2.kind h) c.in-BrTable.some all))) ∙ c.if-all_carry.false)))

pub returns-in_default-label-2 : goal.returns-in_default-label-2
returns-in_default-label-2 c = fails-at (context_of c.args.place.now) (labels_of c.args.labels.now) c.args.stack.now c.args.instr.now (v.BrTable c.in-BrTable.some c.in-BrTable.to) c.in-BrTable.is (br_table-none (context_of c.args.place.now) (labels_of c.args.labels.now) c.in-BrTable.some c.in-BrTable.to c.args.stack.now (label-none c.args.labels.now c.in-BrTable.to (sym c.label-in-BrTable.ensures ∙ c.in_default-label.is)))

pub returns-in-Drop : goal.returns-in-Drop
returns-in-Drop c = at-instr (context_of c.args.place.now) (labels_of c.args.labels.now) c.args.stack.now c.drop_one.new.self c.drop_one.result c.args.instr.now v.Drop c.in-Drop.is (drop-follows (context_of c.args.place.now) (labels_of c.args.labels.now) c.args.stack.now c.drop_one.new.self c.drop_one.result c.drop_one.ensures)

pub returns-in-Select : goal.returns-in-Select
returns-in-Select c = ok-follows (context_of c.args.place.now) (labels_of c.args.labels.now) (Selects I32) c.args.stack.now c.select.new.self c.select.result c.args.instr.now v.Select c.in-Select.is (λ ok h. select-follows (context_of c.args.place.now) (labels_of c.args.labels.now) c.args.stack.now c.select.new.self ok h) c.select.ensures

pub returns-in-Some-2 : goal.returns-in-Some-2
returns-in-Some-2 c =
    let plain : GoesByTypes c.args.instr.now = record { no_unreachable = c.in_default.not-Unreachable; no_return = c.in_default.not-Return; no_br = c.in_default.not-Br; no_br_if = c.in_default.not-BrIf; no_br_table = c.in_default.not-BrTable } in
    other-follows (context_of c.args.place.now) (labels_of c.args.labels.now) c.args.instr.now c.in_ok-found-in_default.field-0 c.in-Some-2.found c.as_slice-in-Some-2.result.now c.args.stack.now c.turn.new.self c.turn.result plain c.in_ok-found-in_default.ensures c.in-Some-2.is c.as_slice-in-Some-2.ensures c.turn.ensures

pub returns-in-None-2 : goal.returns-in-None-2
returns-in-None-2 c =
    let plain : GoesByTypes c.args.instr.now = record { no_unreachable = c.in_default.not-Unreachable; no_return = c.in_default.not-Return; no_br = c.in_default.not-Br; no_br_if = c.in_default.not-BrIf; no_br_table = c.in_default.not-BrTable } in
    other-fails (context_of c.args.place.now) (labels_of c.args.labels.now) c.args.instr.now c.in_ok-found-in_default.field-0 c.args.stack.now plain c.in_ok-found-in_default.ensures c.in-None-2.is
