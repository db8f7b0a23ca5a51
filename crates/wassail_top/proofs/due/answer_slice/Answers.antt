use Rattle.std.proofs.Common.{arith, ◌∙◌, ap}
use Rattle.std.specs.Prelude.{option_and_then}
use Rattle.std.proofs.lemmas.Result.{IfOk-weaker}
use Rattle.wassail_top.specs.Answers.{IsSlicedAs, slice_answer}
use Rattle.wassail_top.specs.Queries.{why_no_slice}
use Rattle.wassail_top.specs.Refusals.{why_not_sliced}
use Rattle.wassail_top.specs.Reply.{reply_answer}
use Rattle.wassail_top.proofs.Unless.{taken}
use Rattle.slice_whole.proofs.Made.{name_proper}
use Rattle.wassail_top.proofs.due.answer_slice.Goals as goal

pub write_slice-requires-clause-well_formed : goal.write_slice-requires-clause-well_formed
write_slice-requires-clause-well_formed c = c.in-Ok.ensures.well_formed

pub write_slice-requires-clause-short : goal.write_slice-requires-clause-short
write_slice-requires-clause-short c = omega (arith, c.in-Ok.ensures.length, c.requires.short, c.requires.name)

pub returns-in-Ok : goal.returns-in-Ok
returns-in-Ok c =
    IfOk-weaker c.write_slice.result _ _
    (λ reply is. taken (why_no_slice c.args.valid c.args.func c.args.at c.args.name.now)
    (IsSlicedAs c.args.valid c.args.func c.args.at c.args.name.now) (reply_answer reply)
    (ap (option_and_then (why_not_sliced c.args.func c.args.at)) c.in-Ok.ensures.slices.0)
    (record {
      new = c.in-Ok.sliced.module;
      at = c.in-Ok.sliced.at.0;
      sliced = c.in-Ok.ensures.slices.1;
      proper = name_proper c.args.name.now (λ i. omega (arith, c.type_inv.name i)) c.utf8.name;
      short = c.requires.name;
      is = is ∙ ap (λ func. slice_answer c.in-Ok.sliced.module func c.in-Ok.sliced.at.0) c.in-Ok.ensures.slices.2;
    }))
    c.write_slice.ensures
