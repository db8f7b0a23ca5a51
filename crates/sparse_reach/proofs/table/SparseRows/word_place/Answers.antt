use Rattle.std.proofs.Common.{rules, arith, ◌<◌, ◌+◌, ◌*◌, ◌^◌}
use Rattle.sparse_reach.proofs.Placing.{place_within}
use Rattle.sparse_reach.proofs.table.SparseRows.word_place.Goals as goal

pub overflow_mul-result : goal.overflow_mul-result
overflow_mul-result c =
    let table = c.args.self.now in
    let below : c.args.row * table.words + c.args.at < table.rows * table.words = place_within c.args.row table.words c.args.at table.rows
    (table.rows * table.words) c.requires.row c.requires.at (omega arith) in
    let fits : c.args.row * table.words < 2 ^ 64 = omega (arith, below, table.few) in
    search rules

pub overflow_add-result : goal.overflow_add-result
overflow_add-result c =
    let table = c.args.self.now in
    let below : c.args.row * table.words + c.args.at < table.rows * table.words = place_within c.args.row table.words c.args.at table.rows
    (table.rows * table.words) c.requires.row c.requires.at (omega arith) in
    let fits : c.args.row * table.words + c.args.at < 2 ^ 64 = omega (arith, below, table.few) in
    search rules
