use Rattle.std.proofs.Common.{rules, arith, ◌≡◌, ◌++◌, ◌∷◌, [], length-append}
use Rattle.func_flow.proofs.RunLemmas.{starts_push}
use Rattle.func_flow.proofs.runs.starts.Goals as goal

pub loop-pos-preserved : goal.loop-pos-preserved
loop-pos-preserved c =
    let starts = c.loop-pos.starts.items in
    let start = c.start_at-start.result in
    let pushed : c.push.new.self.items ≡ starts ++ start ∷ [] = search rules in
    rw pushed (record {
      length_is = omega (arith, length-append starts (start ∷ []), c.loop-pos.invariant.length_is);
      starts = starts_push c.args.tables.now c.args.past_calls starts start c.loop-pos.pos c.loop-pos.invariant.length_is c.loop-pos.invariant.starts
          c.start_at-start.ensures;
    })
