use Rattle.std.proofs.Common.{◌≡◌, ◌<◌, ◌+◌, ◌∙◌, List, length, drop, true, false, refl, arith, sym, subst}
use Rattle.std.proofs.Math.ListN.{drop_of_length-le}
use Rattle.wasm_types.specs.declared.instr.Instr.{Instr}
use Rattle.wasm_types.specs.Code.{Code, code_of, is_plain}
use Rattle.wasm_types.specs.Validity.{Leads}
use Rattle.wasm_types.proofs.CodeLemmas.{plain_is, count-next, code-next}
use Rattle.body_check.specs.Labels.{labels_of}
use Rattle.body_check.specs.Signatures.{context_of}
use Rattle.body_check.specs.Stacks.{Fails, Follows, Exact}
use Rattle.body_check.proofs.CheckLemmas.{code-follows, code-fails, done-follows, if-step, if-no-number, plain-step, moved, valid-as, passes-as}
use Rattle.body_check.proofs.check.+check.Goals as goal

pub check_code-check_instr-requires : goal.check_code-check_instr-requires
check_code-check_instr-requires t c =
    let lt : c.loop-instr.instr-index < length c.args.code.now = omega arith in
    let step = count-next c.args.code.now c.loop-instr.instr-index c.instr-item.result lt c.instr-item.is in
    (omega arith, tt)

pub check_code-returns-then-not-branch-clause-follows : goal.check_code-returns-then-not-branch-clause-follows
check_code-returns-then-not-branch-clause-follows t c =
    let lt : c.loop-instr.instr-index < length c.args.code.now = omega arith in
    let next = code-next c.args.code.now c.loop-instr.instr-index c.instr-item.result lt c.instr-item.is in
    c.loop-instr.invariant.whole false c.check_instr.new.stack
    (subst (λ (z : Code). Fails c.loop-instr.stack (Leads (context_of c.args.place.now) (labels_of c.args.labels.now.items) z)) (sym next)
    (code-fails (context_of c.args.place.now) (labels_of c.args.labels.now.items) c.instr-item.result (code_of (drop (c.loop-instr.instr-index + 1) c.args.code.now)) c.loop-instr.stack
    (moved (context_of c.args.place.now) c.loop-instr.labels.items c.args.labels.now.items c.instr-item.result c.loop-instr.stack c.check_instr.new.stack c.in_ok-check_instr.field-0 false c.loop-instr.invariant.labels c.if-not-branch.true c.in_ok-check_instr.ensures.follows)))

pub check_code-loop-instr-preserved : goal.check_code-loop-instr-preserved
check_code-loop-instr-preserved t c =
    let lt : c.loop-instr.instr-index < length c.args.code.now = omega arith in
    let step = count-next c.args.code.now c.loop-instr.instr-index c.instr-item.result lt c.instr-item.is in
    let next = code-next c.args.code.now c.loop-instr.instr-index c.instr-item.result lt c.instr-item.is in
    record {
      labels = c.in_ok-check_instr.ensures.labels ∙ c.loop-instr.invariant.labels;
      whole = λ ok b f. c.loop-instr.invariant.whole ok b
          (subst (λ (z : Code). Follows c.loop-instr.stack (Leads (context_of c.args.place.now) (labels_of c.args.labels.now.items) z) ok b) (sym next)
          (code-follows (context_of c.args.place.now) (labels_of c.args.labels.now.items) c.instr-item.result (code_of (drop (c.loop-instr.instr-index + 1) c.args.code.now)) c.loop-instr.stack c.check_instr.new.stack b ok
          (moved (context_of c.args.place.now) c.loop-instr.labels.items c.args.labels.now.items c.instr-item.result c.loop-instr.stack c.check_instr.new.stack c.in_ok-check_instr.field-0 true c.loop-instr.invariant.labels c.if-not-branch.false c.in_ok-check_instr.ensures.follows) f));
      smaller = omega arith;
    }

pub check_code-returns-clause-follows : goal.check_code-returns-clause-follows
check_code-returns-clause-follows t c =
    let none = drop_of_length-le c.args.code.now c.loop-instr-test.false in
    c.loop-instr.invariant.whole true c.loop-instr.stack
    (subst (λ (z : List Instr). Exact c.loop-instr.stack (Leads (context_of c.args.place.now) (labels_of c.args.labels.now.items) (code_of z)) c.loop-instr.stack) (sym none) (done-follows (context_of c.args.place.now) (labels_of c.args.labels.now.items) c.loop-instr.stack))

pub check_instr-returns-then-not-pop-clause-follows : goal.check_instr-returns-then-not-pop-clause-follows
check_instr-returns-then-not-pop-clause-follows t c = if-no-number (context_of c.args.place.now) (labels_of c.args.labels.now.items) c.args.instr.now c.in-If.kind c.in-If.first c.in-If.second c.args.stack.now c.in-If.is c.if-not-pop.ensures

pub check_instr-returns-in_ok-push_values-in-If-clause-follows : goal.check_instr-returns-in_ok-push_values-in-If-clause-follows
check_instr-returns-in_ok-push_values-in-If-clause-follows t c =
    if-step (context_of c.args.place.now) (labels_of c.args.labels.now.items) c.args.instr.now c.in-If.kind c.in-If.first c.in-If.second c.args.stack.now c.pop.new.self c.push_values-in-If.new.self c.in-If.is c.if-not-pop.ensures
    (valid-as (context_of c.args.place.now) c.args.labels.now.items c.args.labels.now.items c.in-If.kind c.as_slice-in-If.result.now c.in-If.first refl c.as_slice-in-If.ensures (c.in_ok-check_inner-in-If.ensures.valid.0 c.if-not-branch-3.false))
    (valid-as (context_of c.args.place.now) c.check_inner-in-If.new.labels.items c.args.labels.now.items c.in-If.kind c.as_slice-in-If-2.result.now c.in-If.second c.in_ok-check_inner-in-If.ensures.labels c.as_slice-in-If-2.ensures (c.in_ok-check_inner-in-If-2.ensures.valid.0 c.if-not-branch-4.false))
    c.in_ok-push_values-in-If.ensures

pub check_instr-returns-in_default : goal.check_instr-returns-in_default
check_instr-returns-in_default t c =
    let plain : is_plain c.args.instr.now ≡ true = plain_is _ c.in_default.not-Block c.in_default.not-Loop c.in_default.not-If in
    record {
      labels = refl;
      follows = plain-step (context_of c.args.place.now) (labels_of c.args.labels.now.items) c.args.instr.now c.args.stack.now c.check_plain.new.stack c.check_plain.result plain (passes-as (context_of c.args.place.now) c.as_slice-in_default.result.now c.args.labels.now.items c.args.instr.now c.args.stack.now c.check_plain.new.stack c.check_plain.result c.as_slice-in_default.ensures.value c.check_plain.ensures);
    }
