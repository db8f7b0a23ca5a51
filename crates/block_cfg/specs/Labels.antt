-- Code that branches to labels that exist.
use Rattle.std.specs.Prelude.{ℕ, ◌+◌, ◌<◌}
use Rattle.std.specs.List.{All}
use Rattle.wasm_types.specs.declared.instr.Instr.{Instr}
use Rattle.wasm_types.specs.declared.instr.Instr as instr
use Rattle.wasm_types.specs.Code.{Code, done, one, block, repeat, branch}

-- an instruction that holds no others branches to labels that exist, of so many
abbrev pub LabelsBelow : ℕ → Instr → Type 0
LabelsBelow n (instr.Br l) = l < n
LabelsBelow n (instr.BrIf l) = l < n
LabelsBelow n (instr.BrTable some other) = All (λ l. l < n) some × (other < n)
LabelsBelow n i = Unit {0}

-- each label of a branch exists, where so many are around
abbrev pub LabelsExist : ℕ → Code → Type 0
LabelsExist n done = Unit {0}
LabelsExist n (one i rest) = LabelsBelow n i × LabelsExist n rest
LabelsExist n (block kind inner rest) = LabelsExist (n + 1) inner × LabelsExist n rest
LabelsExist n (repeat kind inner rest) = LabelsExist (n + 1) inner × LabelsExist n rest
LabelsExist n (branch kind x y rest) = LabelsExist (n + 1) x × (LabelsExist (n + 1) y × LabelsExist n rest)
