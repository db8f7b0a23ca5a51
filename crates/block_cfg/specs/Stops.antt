-- Where the contents of each position end, in reading order.
use Rattle.std.specs.Prelude.{ℕ, ◌+◌, List, [], ◌∷◌, ◌++◌}
use Rattle.wasm_types.specs.Code.{Code, done, one, block, repeat, branch, count}

-- the positions of a sequence at p
abbrev pub stops_in : Code → ℕ → List ℕ
stops_in done p = []
stops_in (one i rest) p = (p + 1) ∷ stops_in rest (p + 1)
stops_in (block kind inner rest) p = let e = p + 1 + count inner in e ∷ (stops_in inner (p + 1) ++ stops_in rest e)
stops_in (repeat kind inner rest) p = let e = p + 1 + count inner in e ∷ (stops_in inner (p + 1) ++ stops_in rest e)
stops_in (branch kind x y rest) p =
    let f = p + 1 + count x in let e = p + 1 + count x + count y in e ∷ (stops_in x (p + 1) ++ (stops_in y f ++ stops_in rest e))
