-- What is kept of the positions of code, in reading order.
use Rattle.std.specs.Prelude.{ℕ, ◌+◌, ◌&&◌, Bool, List, [], ◌∷◌, ◌++◌, Option, Some, max}
use Rattle.wasm_types.specs.declared.module.Pos.{Pos}
use Rattle.wasm_types.specs.declared.instr.Instr.{Instr}
use Rattle.wasm_types.specs.declared.instr.Instr as instr
use Rattle.wasm_types.specs.Code.{Code, done, one, block, repeat, branch, count}
use Rattle.block_cfg.specs.Walk.{goes_on}
use Rattle.control_deps.specs.declared.spot.Form.{Form}
use Rattle.control_deps.specs.declared.spot.Form.TheVariants as form
use Rattle.control_deps.specs.declared.spot.Spot.{Spot}

abbrev pub place : ℕ → Pos
place p = record { 0 = p }

-- the greatest of some numbers
abbrev pub greatest : ℕ → List ℕ → ℕ
greatest l [] = l
greatest l (x ∷ xs) = greatest (max l x) xs

-- what an instruction is that holds no others, so many blocks, loops and ifs around it
abbrev pub form_of : ℕ → Instr → Form
form_of depth (instr.Br l) = form.Branch l
form_of depth (instr.BrIf l) = form.Branch l
form_of depth (instr.BrTable some other) = form.Branch (greatest other some)
form_of depth instr.Return = form.Branch depth
form_of depth i = form.Other

-- a sequence at p that is live or not, this around it, and so many blocks, loops and ifs
abbrev pub spots_in : Bool → Option Pos → ℕ → Code → ℕ → List Spot
spots_in live around depth done p = []
spots_in live around depth (one i rest) p =
    record { around = around; stop = p + 1; live = live; form = form_of depth i } ∷ spots_in (goes_on i && live) around depth rest (p + 1)
spots_in live around depth (block kind inner rest) p =
    let e = p + 1 + count inner in
    record { around = around; stop = e; live = live; form = form.Block } ∷ (spots_in live (Some (place p)) (depth + 1) inner (p + 1) ++ spots_in live around depth rest e)
spots_in live around depth (repeat kind inner rest) p =
    let e = p + 1 + count inner in
    record { around = around; stop = e; live = live; form = form.Loop } ∷ (spots_in live (Some (place p)) (depth + 1) inner (p + 1) ++ spots_in live around depth rest e)
spots_in live around depth (branch kind x y rest) p =
    let f = p + 1 + count x in let e = p + 1 + count x + count y in
    record { around = around; stop = e; live = live; form = form.If } ∷ (spots_in live (Some (place p)) (depth + 1) x (p + 1) ++ (spots_in live (Some (place p)) (depth + 1) y f ++ spots_in live around depth rest e))
