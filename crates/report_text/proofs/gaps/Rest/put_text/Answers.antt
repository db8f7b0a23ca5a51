use Rattle.std.proofs.Common.{◌-◌, ◌++◌, ◌∙◌, take, drop, length, length-take-le, replicate, arith}
use Rattle.report_text.specs.Gaps.{spread}
use Rattle.report_text.proofs.GapLemmas.{text_put}
use Rattle.report_text.proofs.gaps.Rest.put_text.Goals as goal

pub returns : goal.returns
returns c =
    let r = c.args.self.now in
    let rest = replicate r.spaces 32 ++ spread r.gaps.now r.bytes.now in
    let few = c.min-count.ensures in
    record {
      same =
          (λ k. c.place_text.ensures.bytes k ++ (take (length r.text.now - c.min-count.result) (drop c.min-count.result r.text.now) ++ rest))
          ∙ text_put (take c.args.at c.args.buf.now) r.text.now rest c.min-count.result;
      long = c.place_text.ensures.long;
      within = omega (arith, few, c.place_text.ensures.moved, length-take-le c.min-count.result r.text.now (omega (arith, few)), c.requires.room);
      less = omega (arith, few, c.place_text.ensures.moved, length-take-le c.min-count.result r.text.now (omega (arith, few)), c.requires.room, c.requires.some);
    }
