use Rattle.std.proofs.Common.{sym, subst}
use Rattle.wasm_types.specs.declared.run.Ended.{Ended}
use Rattle.module_run.specs.Runs.{Ran, RunsTo, Runs}
use Rattle.module_run.specs.Steps.{IsStart, IsPrepared, Stops, HasBegun}
use Rattle.module_run.proofs.Steps.{some_watched, not_begun_runs, start_ends, turns_within, run_ends}
use Rattle.module_run.proofs.runs.run.Goals as goal

pub returns-in-Err : goal.returns-in-Err
returns-in-Err c =
    subst (Runs c.args.m.now c.args.func c.args.watch c.args.args.now c.args.replies c.args.budget) (sym c.without_instance.ensures)
    (not_begun_runs c.args.m.now c.args.func c.args.watch c.args.args.now c.args.replies c.args.budget c.in-Err.end c.in-Err.ensures)

pub returns-in-Ok-Stopped : goal.returns-in-Ok-Stopped
returns-in-Ok-Stopped c =
    let m = c.args.m.now in
    let begun_here : IsStart m c.args.replies c.in-Ok.inst = record { can = c.in-Ok.ensures.0; begins = c.in-Ok.ensures.1 } in
    let stops : Stops m c.args.replies c.args.budget c.in-Ok-Stopped.ended =
    subst (HasBegun m c.args.replies c.args.budget c.start.new.inst) c.in-Ok-Stopped.field-0-is (c.in-Ok-Stopped.ensures c.args.replies begun_here) in
    (begun_here.can.pages, λ i w. start_ends m c.args.func i c.args.args.now c.args.replies c.args.budget c.in-Ok-Stopped.ended begun_here.can stops)

pub overflow_sub-left : goal.overflow_sub-left
overflow_sub-left c =
    let begun_here : IsStart c.args.m.now c.args.replies c.in-Ok.inst = record { can = c.in-Ok.ensures.0; begins = c.in-Ok.ensures.1 } in
    let p : IsPrepared c.args.m.now c.args.replies c.args.budget c.in-Ok-Prepared.turns c.start.new.inst =
    subst (HasBegun c.args.m.now c.args.replies c.args.budget c.start.new.inst) c.in-Ok-Prepared.field-0-is
    (c.in-Ok-Prepared.ensures c.args.replies begun_here) in p.within

pub invoke-requires-clause-instance : goal.invoke-requires-clause-instance
invoke-requires-clause-instance c =
    let begun_here : IsStart c.args.m.now c.args.replies c.in-Ok.inst = record { can = c.in-Ok.ensures.0; begins = c.in-Ok.ensures.1 } in
    let p : IsPrepared c.args.m.now c.args.replies c.args.budget c.in-Ok-Prepared.turns c.start.new.inst =
    subst (HasBegun c.args.m.now c.args.replies c.args.budget c.start.new.inst) c.in-Ok-Prepared.field-0-is
    (c.in-Ok-Prepared.ensures c.args.replies begun_here) in p.fits

pub after-requires-clause-turns : goal.after-requires-clause-turns
after-requires-clause-turns c =
    let begun_here : IsStart c.args.m.now c.args.replies c.in-Ok.inst = record { can = c.in-Ok.ensures.0; begins = c.in-Ok.ensures.1 } in
    let p : IsPrepared c.args.m.now c.args.replies c.args.budget c.in-Ok-Prepared.turns c.start.new.inst =
    subst (HasBegun c.args.m.now c.args.replies c.args.budget c.start.new.inst) c.in-Ok-Prepared.field-0-is
    (c.in-Ok-Prepared.ensures c.args.replies begun_here) in
    turns_within c.args.m.now c.args.replies c.args.budget c.in-Ok-Prepared.turns c.start.new.inst c.invoke.new.inst p c.args.func c.args.watch c.args.args.now
    c.in-Ok-invoke.run' c.in-Ok-invoke.ensures

pub returns-in-Ok-invoke : goal.returns-in-Ok-invoke
returns-in-Ok-invoke c =
    let m = c.args.m.now in
    let begun_here : IsStart m c.args.replies c.in-Ok.inst = record { can = c.in-Ok.ensures.0; begins = c.in-Ok.ensures.1 } in
    let p : IsPrepared m c.args.replies c.args.budget c.in-Ok-Prepared.turns c.start.new.inst =
    subst (HasBegun m c.args.replies c.args.budget c.start.new.inst) c.in-Ok-Prepared.field-0-is (c.in-Ok-Prepared.ensures c.args.replies begun_here) in (
      begun_here.can.pages,
      λ i w. subst (λ (e : Ended). RunsTo m c.args.func i c.args.args.now c.args.replies c.args.budget (Ran e c.in-Ok-invoke.run'.trace.items))
          (sym c.after.ensures)
          (run_ends m c.args.replies c.args.budget c.in-Ok-Prepared.turns c.start.new.inst c.invoke.new.inst p c.args.func c.args.watch c.args.args.now
          c.in-Ok-invoke.run' c.in-Ok-invoke.ensures begun_here.can i w),
    )

pub start-requires-clause-code : goal.start-requires-clause-code
start-requires-clause-code c =
    some_watched c.args.m.now c.in-Ok-program_of.program c.args.func c.args.watch c.in-Ok-program_of.ensures
