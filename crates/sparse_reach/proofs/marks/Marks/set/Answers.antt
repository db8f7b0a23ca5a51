use Rattle.std.proofs.Common.{◌*◌, sym, ap, ◌∙◌}
use Rattle.sparse_reach.proofs.Flagging.{word_there, flag_set, length_flags}
use Rattle.sparse_reach.proofs.marks.Marks.set.Goals as goal

pub raise-requires : goal.raise-requires
raise-requires c = word_there c.args.self.now.words c.args.node c.requires

pub returns-in_err-raise-clause-long : goal.returns-in_err-raise-clause-long
returns-in_err-raise-clause-long c =
    length_flags c.raise.new.self ∙ (ap (λ n. n * 64) c.in_err-raise.ensures.length ∙ sym (length_flags c.args.self.now.words))

pub returns-clause-long : goal.returns-clause-long
returns-clause-long c = length_flags c.raise.new.self ∙ (ap (λ n. n * 64) c.in_ok-raise.ensures.length ∙ sym (length_flags c.args.self.now.words))

pub returns-clause-set : goal.returns-clause-set
returns-clause-set c = flag_set c.args.self.now.words c.args.node c.requires c.raise.new.self c.in_ok-raise.ensures.set
