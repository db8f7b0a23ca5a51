use Rattle.sparse_reach.proofs.Flagging.{word_there, marked_is}
use Rattle.sparse_reach.proofs.marks.Marks.has.Goals as goal

pub has_bit-requires : goal.has_bit-requires
has_bit-requires c = word_there c.args.self.now.words c.args.node c.requires

pub returns : goal.returns
returns c =
    let m = marked_is c.args.self.now.words c.args.node c.requires in
    (λ h. m.0 (c.has_bit.ensures.0 h), λ h. c.has_bit.ensures.1 (m.1 h))
