-- The types of locals, by where each run of one type ends.
use Rattle.std.specs.Prelude.{◌≡◌, ℕ, ◌-◌, ◌≤◌, List, [], ◌∷◌, ◌++◌, replicate}
use Rattle.wasm_types.specs.declared.module.ValType.{ValType}
use Rattle.body_check.specs.declared.locals.RunEnd.{RunEnd}

-- the types of the locals, where the first run begins at `start`
abbrev pub types_from : ℕ → List RunEnd → List ValType
types_from start [] = []
types_from start (e ∷ es) = replicate (e.end - start) e.kind ++ types_from e.end es

-- no run ends before it begins, and the last ends at `count`
abbrev pub Reaches : ℕ → List RunEnd → ℕ → Type 0
Reaches start [] count = start ≡ count
Reaches start (e ∷ es) count = (start ≤ e.end) × Reaches e.end es count
