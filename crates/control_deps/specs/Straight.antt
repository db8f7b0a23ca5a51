-- A body without blocks, branches and ends within: so many positions are all that is to be known of it.
use Rattle.std.specs.Prelude.{ℕ, zero, suc, ◌+◌, ◌&&◌, Bool, true, false, List, [], ◌∷◌, None}
use Rattle.wasm_types.specs.declared.instr.Instr.{Instr, Block', Loop', If'}
use Rattle.wasm_types.specs.declared.instr.Instr as instr
use Rattle.control_deps.specs.declared.spot.Form.TheVariants as form
use Rattle.control_deps.specs.declared.spot.Spot.{Spot}

-- it holds no others, doesn't branch, and goes on to the next one
abbrev pub is_straight : Instr → Bool
is_straight (Block' kind m inner) = false
is_straight (Loop' kind m inner) = false
is_straight (If' kind m first n second) = false
is_straight (instr.Br l) = false
is_straight (instr.BrIf l) = false
is_straight (instr.BrTable some other) = false
is_straight instr.Return = false
is_straight instr.Unreachable = false
is_straight _ = true

abbrev pub all_straight : List Instr → Bool
all_straight [] = true
all_straight (i ∷ rest) = is_straight i && all_straight rest

-- so many positions of such a body from p on
abbrev pub straight : ℕ → ℕ → List Spot
straight p zero = []
straight p (suc n) = record { around = None; stop = p + 1; live = true; form = form.Other } ∷ straight (p + 1) n

-- what is kept of the positions: how many there are where they are straight, and else each
abbrev pub spots_back : ℕ → List Spot → List Spot
spots_back zero spots = spots
spots_back (suc n) spots = straight 0 (suc n)
