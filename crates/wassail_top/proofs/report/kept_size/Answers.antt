use Rattle.std.proofs.Common.{ℕ, subst}
use Rattle.slice_closure.specs.Answer.{TellsKept, TellsMade}
use Rattle.slice_whole.proofs.KeptRows.{kept_told}
use Rattle.wassail_top.specs.Reports.{last_position}
use Rattle.wassail_top.proofs.LargeModule.{milled_sealed, not_imported, own_function}
use Rattle.wassail_top.proofs.report.kept_size.Goals as goal

pub close-requires-clause-imported : goal.close-requires-clause-imported
close-requires-clause-imported c = not_imported c.args.count c.args.valid.now c.requires.milled c.args.func c.requires.own

pub close-requires-clause-own : goal.close-requires-clause-own
close-requires-clause-own c = own_function c.args.count c.args.valid.now c.requires.milled c.args.func c.requires.own

pub returns : goal.returns
returns c =
    let m = c.args.valid.now in
    let f = c.args.func in
    let t = c.args.table.now in
    let K = c.in_ok-kept.kept in
    let at = c.last_position-at.ensures in
    let kept : TellsKept m t f (last_position m f) K = subst (λ (i : ℕ). TellsKept m t f i K) at c.in_ok-kept.ensures.kept in
    let made : TellsMade m t f (last_position m f) = subst (TellsMade m t f) at c.in_ok-kept.ensures.made in (
      K,
      kept_told m (milled_sealed c.args.count c.requires.few m c.requires.milled) t c.requires.table c.requires.cover f
          (own_function c.args.count m c.requires.milled f c.requires.own) (λ W exact g o x there leads known. c.requires.least W exact g o x known)
          (last_position m f) K kept made,
      c.len.ensures,
    )
