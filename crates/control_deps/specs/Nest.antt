-- The nesting of a body: what is around its positions.
use Rattle.std.specs.Prelude.{◌≡◌, ℕ, ◌+◌, ◌≤◌, ◌<◌, List, Option, Some, None, true, IfSome, length, slice_get, ◌^◌}
use Rattle.wasm_types.specs.declared.module.Body.{Body}
use Rattle.wasm_types.specs.declared.module.Pos.{Pos}
use Rattle.wasm_types.specs.declared.instr.Instr.{Instr}
use Rattle.wasm_types.specs.Code.{Code, done, onto, code_of, count, flatten}
use Rattle.block_cfg.specs.Points.{HasPoints}
use Rattle.control_deps.specs.declared.spot.Spot.{Spot}
use Rattle.control_deps.specs.Spots.{spots_in}

-- b encloses q: q is one of the positions behind b that the instruction at b holds
pub record Encloses (c : Code) (b q : ℕ) : Type 0 where
  pub instr : Instr
  pub is : slice_get (flatten c) b ≡ Some instr
  pub behind : b < q
  pub inside : q < b + count (onto instr done)

-- the innermost block, loop or if that encloses q, or none where there is none
abbrev pub IsAround : Code → ℕ → Option Pos → Type 0
IsAround c q None = (b : ℕ) → Encloses c b q → ⊥
IsAround c q (Some b) = Encloses c b.0 q × ((other : ℕ) → Encloses c other q → other ≤ b.0)

-- what is kept of the positions of a body whose points can be asked for
pub record IsNestOf (body : Body) (nest : List Spot) : Type 0 where
  pub has_points : HasPoints body
  pub is : nest ≡ spots_in true None 0 (code_of body.code) 0

-- positions fit a Pos, and what is around one stands before it
pub record AreNested (nest : List Spot) : Type 0 where
  pub few : length nest < 2 ^ 32
  pub before : (k : ℕ) (spot : Spot) → slice_get nest k ≡ Some spot → IfSome spot.around (λ (b : Pos). b.0 < k)
