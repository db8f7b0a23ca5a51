use Rattle.std.proofs.Common.{rules, arith, ◌<◌, ◌≤◌, ◌^◌, refl, length, false}
use Rattle.std.proofs.Math.ListN.{length-set}
use Rattle.wasm_types.specs.declared.place.LimitKind.TheVariants as limit
use Rattle.wasm_types.specs.Spaces.{func_types}
use Rattle.summary_fix.proofs.Marking.{settled_after}
use Rattle.summary_fix.proofs.rounds.refresh.Goals as goal

pub overflow_cast-func : goal.overflow_cast-func
overflow_cast-func c =
    let few : length (func_types c.args.m.now) ≤ 10001 = c.requires.sound.sealed.limits limit.Functions 0 (length (func_types c.args.m.now)) (refl, refl) in
    let within = c.requires.func in
    let lt : c.args.func < 2 ^ 32 = omega arith in search rules

pub returns-in_ok-mark_callers-clause-settled : goal.returns-in_ok-mark_callers-clause-settled
returns-in_ok-mark_callers-clause-settled c =
    let marks = c.args.marks.now in
    let func = c.args.func in
    let same = length-set marks func false in
    let kept = c.mark_callers.auto.marks in
    let old = c.requires.settled.long in
    let was = c.requires.sound.table.long in
    let is = c.in_ok-grew.ensures.sound.table.long in
    settled_after c.args.m.now c.args.table.now c.fill.new.table c.args.wanted.now marks c.mark_callers.new.marks func c.in_ok-grew.grew c.requires.settled
    (omega arith) (omega arith) c.in_ok-grew.ensures.full c.in_ok-grew.ensures.others c.in_ok-mark_callers.ensures.kept
    (λ f want off. (
      λ on calls. off (c.in_ok-mark_callers.ensures.numbers f calls want),
      λ on calls. off (c.in_ok-mark_callers.ensures.every on f calls want),
    ))
    c.in_ok-mark_callers.ensures.only
