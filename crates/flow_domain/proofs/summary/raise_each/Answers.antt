use Rattle.std.proofs.Common.{rules, arith, ◌≡◌, ◌≢◌, ◌<◌, ◌≤◌, ◌∙◌, sym, ap, inl, inr, length, set, get_or, bit_or, sum, get_or-set_same, get_or-set_other}
use Rattle.std.proofs.lemmas.Bool.{cases_eq}
use Rattle.std.proofs.lemmas.List.{set-get_or}
use Rattle.worklist.proofs.Gaining.{sum_rises, not_less}
use Rattle.flow_domain.proofs.summary.raise_each.Goals as goal
use Rattle.flow_domain.proofs.summary.raise_each.Goals.{then-new-old, else-new-old}

pub loop-k-preserved : goal.loop-k-preserved
loop-k-preserved c =
    let words = c.loop-k.words in
    let first = c.args.words.now in
    let more = c.args.more.now in
    let k = c.loop-k.k in
    let value = bit_or (get_or words k 0) (get_or more k 0) in
    let lt : k < length words = search rules in
    let up : sum first ≤ sum words = not_less c.loop-k.grew first words c.loop-k.invariant.same c.loop-k.invariant.rose in
    record {
      below = λ j le. elim (cases_eq j k) [
        | inl e ↦ rw e (get_or-set_same words k value 0 lt ∙ ap (λ n. bit_or n (get_or more k 0)) (c.loop-k.invariant.above k (omega arith)))
        | inr ne ↦ get_or-set_other words k j value 0 ne ∙ c.loop-k.invariant.below j (omega arith)
      ];
      above = λ j le. let ne : j ≢ k = omega arith in get_or-set_other words k j value 0 ne ∙ c.loop-k.invariant.above j (omega arith);
      same = λ off. elim c.if-new-old.branch [
        | then-new-old w ↦ let on = w.grew-is in absurd (cc)
        | else-new-old w ↦
            let e : value ≡ get_or words k 0 = search rules in
            ap (λ v. set words k v) e ∙ (set-get_or words k 0 ∙ c.loop-k.invariant.same (sym w.grew-is ∙ off))
      ];
      rose = λ on. elim c.if-new-old.branch [
        | then-new-old w ↦
            let ne : value ≢ get_or words k 0 = search rules in
            let more_now : sum words < sum (set words k value) = sum_rises words k (get_or more k 0) lt ne in omega arith
        | else-new-old w ↦
            let e : value ≡ get_or words k 0 = search rules in
            let same : set words k value ≡ words = ap (λ v. set words k v) e ∙ set-get_or words k 0 in
            let rose : sum first < sum words = c.loop-k.invariant.rose (sym w.grew-is ∙ on) in rw same rose
      ];
    }
