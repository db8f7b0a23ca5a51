use Rattle.std.proofs.Common.{ℕ, ◌-◌, ◌++◌, ◌∙◌, sym, take, replicate, arith}
use Rattle.std.proofs.lemmas.List.{length-replicate}
use Rattle.report_text.specs.Gaps.{spread}
use Rattle.report_text.proofs.GapLemmas.{spaces_put}
use Rattle.report_text.proofs.gaps.Rest.put_spaces.Goals as goal

pub returns : goal.returns
returns c =
    let r = c.args.self.now in
    let rest = spread r.gaps.now r.bytes.now in
    let few = c.min-count.ensures in
    record {
      same =
          (λ k. c.place_spaces.ensures.bytes k ++ (c.requires.text k ++ (replicate (r.spaces - c.min-count.result) 32 ++ rest)))
          ∙ spaces_put (take c.args.at c.args.buf.now) c.min-count.result r.spaces rest (omega (arith, few))
          ∙ (λ k. take c.args.at c.args.buf.now ++ (sym c.requires.text k ++ (replicate r.spaces 32 ++ rest)));
      long = c.place_spaces.ensures.long;
      within = omega (arith, few, c.place_spaces.ensures.moved, length-replicate {A = ℕ} c.min-count.result 32, c.requires.room);
      less = omega (arith, few, c.place_spaces.ensures.moved, length-replicate {A = ℕ} c.min-count.result 32, c.requires.room, c.requires.some);
    }
