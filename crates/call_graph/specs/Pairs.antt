-- What a set of pairs has.
use Rattle.std.specs.Prelude.{ℕ, ◌<◌}
use Rattle.worklist.specs.Bits.{HasBit}
use Rattle.call_graph.specs.declared.pairs.Pairs.{Pairs}

abbrev pub HasPair : Pairs → ℕ → ℕ → Type 0
HasPair pairs row column = (row < pairs.rows) × ((column < pairs.columns) × HasBit pairs.bits.words pairs.bits.bits.items row column)
