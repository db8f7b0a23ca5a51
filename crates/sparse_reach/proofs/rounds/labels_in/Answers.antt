use Rattle.std.proofs.Common.{◌≡◌, ◌+◌, ◌*◌, ◌++◌, List, ℕ, length, take, drop, replicate, rules, sym, ap, ◌∙◌, subst}
use Rattle.worklist.specs.Bits.{GainsBits}
use Rattle.worklist.specs.Roots.{IsRootOf}
use Rattle.sparse_reach.specs.Batches.{AreLabels}
use Rattle.sparse_reach.proofs.Batching.{written}
use Rattle.sparse_reach.proofs.Going.{labels_are}
use Rattle.sparse_reach.proofs.rounds.labels_in.Goals as goal

pub returns : goal.returns
returns c =
    let words = c.in_ok-words.words in
    let roots = c.args.roots.now in
    let edges = c.args.edges.now in
    let batch = c.args.batch in
    let start = c.start_each.new.words in
    let new = c.spread.new.words in
    let zeros : words.items ≡ replicate c.args.count 0 = search rules in
    let first : c.deref_mut.result.now ≡ words.items = c.deref_mut.ensures.value in
    let long : length start ≡ words.len = c.start_each.ensures.length_is ∙ (ap length first ∙ sym words.ok.0) in
    let back : take words.len (start ++ drop (length start) words.items) ≡ start = written words.len start words.items long in
    let second : c.deref_mut-2.result.now ≡ start = c.deref_mut-2.ensures.value ∙ back in
    let gains = subst (λ (ws : List ℕ). GainsBits 1 (λ x o. IsRootOf roots (batch * 64 + o) x) c.deref_mut.result.now ws) (sym second) c.start_each.ensures in
    let are = labels_are batch c.args.count roots edges c.deref_mut.result.now c.deref_mut-2.result.now new (first ∙ zeros) gains c.spread.ensures.exact in
    let whole = written words.len new (take words.len (start ++ drop (length start) words.items)) (c.spread.ensures.length ∙ (ap length second ∙ long)) in
    subst (λ (ws : List ℕ). AreLabels roots edges batch ws) (sym whole) are
