use Rattle.std.proofs.Common.{rules, arith, ◌≡◌, ◌<◌, ◌+◌, ◌*◌, ◌/◌, ◌%◌, ◌^◌, sym, length, set, get_or, bit_or}
use Rattle.std.proofs.lemmas.List.{get_or_read_under}
use Rattle.worklist.specs.Bits.{GainsBits}
use Rattle.worklist.proofs.Gaining.{gains_bit}
use Rattle.flow_domain.specs.Summaries.{asked, place_of, word_count}
use Rattle.flow_domain.proofs.Summing.{set_more, wide}
use Rattle.flow_domain.proofs.summary.Summary.add.Goals as goal

pub returns-clause-added : goal.returns-clause-added
returns-clause-added c =
    let s = c.args.self.now in
    let G = s.globals in
    let P = s.params in
    let bits = s.bits.items in
    let row = c.in-Some.row in
    let column = c.in-Some-column.column in
    let lt = (wide G P column c.in-Some-column.ensures.within).1 in
    let fits : row * word_count G P + column / 64 < length bits = search rules in
    let read : c.index-word.result.now ≡ get_or bits c.place-place.result 0 =
    get_or_read_under bits c.place-place.result _ c.index-word.result.now 0 c.index-word.ensures c.place-place.ensures.within s.bits.ok.0 in
    let made : GainsBits (word_count G P) (λ r o. (r ≡ row) × (o ≡ column)) bits
    (set bits c.place-place.result (bit_or c.index-word.result.now (1 * 2 ^ (column % 64) % 2 ^ 64))) =
    rw (read, c.place-place.ensures.place) (gains_bit (word_count G P) bits row column lt fits) in
    λ o x. set_more G P (asked c.args.out) (place_of c.args.inp) row column bits _ (sym c.in-Some.ensures.exact) (sym c.in-Some-column.ensures.exact) made o x
