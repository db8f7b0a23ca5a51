use Rattle.std.proofs.Common.{◌≡◌, ◌≤◌, ◌+◌, ◌*◌, ◌∙◌, length, None, true, ap, arith}
use Rattle.wasm_types.specs.Code.{code_of, count, flatten}
use Rattle.wasm_types.proofs.CodeLemmas.{length-flatten}
use Rattle.control_deps.proofs.SpotLemmas.{length_spots}
use Rattle.slice_closure.specs.Flow.{touch_at}
use Rattle.slice_closure.specs.Next.{spot_in}
use Rattle.slice_closure.proofs.Pushes.{asks_more}
use Rattle.slice_closure.proofs.Right.{at_below, tables_fit, search_tells, makers_tell}
use Rattle.slice_closure.proofs.closure.close_tables.Goals as goal

pub count-requires : goal.count-requires
count-requires c = let few : length (flatten (code_of c.args.tables.body.now.code)) ≤ 200000 = c.requires.points.positions in omega arith

pub invariant_of-closing-2 : goal.invariant_of-closing-2
invariant_of-closing-2 c =
    let t = c.args.tables in
    let e : 2 * c.count.result + 1 ≡ 2 * count (code_of t.body.now.code) + 1 = omega (arith, c.count.ensures, length-flatten (code_of t.body.now.code)) in
    let spots : length t.nest.now ≡ count (code_of t.body.now.code) = ap length c.requires.made.nest.is
    ∙ length_spots true None 0 (code_of t.body.now.code) 0 in
    record {
      fits = tables_fit c.args.m.now c.args.func c.args.at t c.requires.made (2 * c.count.result + 1) c.greater-locs.result e
          (λ p. asks_more c.locs_bound.result c.greater-locs.result (touch_at (spot_in t p)) (grind (arith, c.greater-locs.ensures)) (c.locs_bound.ensures.below p))
          (grind (arith, c.greater-locs.ensures, c.globals.ensures));
      nodes = omega arith;
    }

pub search-requires : goal.search-requires
search-requires c =
    let t = c.args.tables in
    let e : 2 * c.count.result + 1 ≡ 2 * count (code_of t.body.now.code) + 1 = omega (arith, c.count.ensures, length-flatten (code_of t.body.now.code)) in
    at_below c.args.m.now c.args.func c.args.at t c.requires.made (2 * c.count.result + 1) e

pub returns-clause-kept : goal.returns-clause-kept
returns-clause-kept c =
    λ W exact F b kind has.
    search_tells c.args.m.now c.args.func c.args.at c.args.tables c.requires.made F b kind has c.in_ok-kept.kept c.in_ok-kept.ensures.kept W exact

pub returns-clause-made : goal.returns-clause-made
returns-clause-made c =
    λ W exact F b kind has.
    let made = c.in_ok-kept.ensures.made in
    (made.0, makers_tell c.args.m.now c.args.func c.args.at c.args.tables c.requires.made F b kind has made.0 made.1 W exact)
