use Rattle.std.proofs.Common.{get_or, bit_or, refl}
use Rattle.worklist.proofs.Gaining.{differs, sum_rises}
use Rattle.sparse_reach.proofs.Going.{gains_number}
use Rattle.sparse_reach.proofs.rounds.raise.Goals as goal

pub returns-clause-gains : goal.returns-clause-gains
returns-clause-gains c = gains_number c.args.words.now _ c.args.number c.args.word c.requires refl

pub returns-clause-rose : goal.returns-clause-rose
returns-clause-rose c = λ t.
    sum_rises c.args.words.now c.args.number c.args.word c.requires
    (differs (bit_or (get_or c.args.words.now c.args.number 0) c.args.word) (get_or c.args.words.now c.args.number 0) t)
