-- Cuts with the needed places alone, computed: an unkept sum, an unkept `unreachable`, a loop left by a branch, a kept block with an unkept value, a carried
-- value that isn't needed, and a loop over bytes.
use Rattle.std.proofs.Common.{◌≡◌, ℕ, [], ◌∷◌, List, Bool, true, false, ◌||◌, Option, Some, None, nat_eq, nat_lt, if◌then◌else◌, refl}
use Rattle.wasm_types.specs.declared.module.ValType.{ValType}
use Rattle.wasm_types.specs.declared.module.ValType.TheVariants.{I32}
use Rattle.wasm_types.specs.declared.ops.NumOp.TheVariants as num
use Rattle.wasm_types.specs.declared.ops.Width.TheVariants.{W32}
use Rattle.wasm_types.specs.declared.ops.BinOp.TheVariants as bin
use Rattle.wasm_types.specs.declared.ops.LoadOp.TheVariants as load
use Rattle.wasm_types.specs.declared.place.Node.{Node}
use Rattle.wasm_types.specs.declared.place.Node.TheVariants as node
use Rattle.wasm_types.specs.declared.instr.Instr.{Instr, Drop, Nop, LocalGet, LocalSet, GlobalGet, GlobalSet, I32Const, Num, Load, Br, BrIf, Unreachable}
use Rattle.wasm_types.specs.Code.{Code, done, one, block, repeat}
use Rattle.wasm_types.specs.Marked.{Marked, marked, unmarked, watched_at}
use Rattle.wasm_types.specs.Actions.{Callees}
use Rattle.wasm_types.specs.Labels.{arity}
use Rattle.wasm_types.specs.Takers.{takers_of}
use Rattle.flow_domain.specs.Cut.{cut_body}
use Rattle.stack_repair.specs.Told.{is_present}

abbrev nothing_called : Callees
nothing_called = record { type_of = λ f. None; type_at = λ t. None }

-- the nodes of these positions
abbrev among : List ℕ → ℕ → Bool
among [] p = false
among (x ∷ xs) p = nat_eq x p || among xs p

abbrev positions : List ℕ → Node → Bool
positions ps (node.At p) = among ps p.0
positions ps (node.Join b) = false
positions ps node.Exit = false

abbrev all_i32 : Node → ValType
all_i32 n = I32

-- the cut of code with this result at position i, where these positions are kept, and the places present that they need
abbrev cut_at : Option ValType → ℕ → List ℕ → Code → Marked
cut_at t i ps code =
    let c = marked (nat_eq i) 0 code in
    let K = positions ps in
    cut_body nothing_called K (is_present K (takers_of nothing_called (arity t) c)) all_i32 t c

unfoldable add : Instr
add = Num (num.Bin W32 bin.Add)

unfoldable sub : Instr
sub = Num (num.Bin W32 bin.Sub)

unfoldable eqz : Instr
eqz = Num (num.Eqz W32)

-- ---- a sum of two parameters, at the first

sum_cut : unmarked (cut_at (Some I32) 0 (0 ∷ []) (one (LocalGet 0) (one (LocalGet 1) (one add done)))) ≡ one (LocalGet 0) (one Drop (one (I32Const 0) done))
unfolding add
sum_cut = refl

-- ---- an unkept `unreachable`

unfoldable left_early : Code
left_early = block None (one (LocalGet 0) (one (BrIf 0) (one Unreachable done))) (one (GlobalGet 0) done)

early_last : unmarked (cut_at (Some I32) 4 (4 ∷ []) left_early) ≡ one (GlobalGet 0) done
unfolding left_early
early_last = refl

early_inside : unmarked (cut_at (Some I32) 1 (0 ∷ 1 ∷ []) left_early) ≡ block None (one (LocalGet 0) (one Drop done)) (one (I32Const 0) done)
unfolding left_early
early_inside = refl

early_place : watched_at (cut_at (Some I32) 1 (0 ∷ 1 ∷ []) left_early) ≡ 1
unfolding left_early
early_place = refl

-- ---- a loop left by a branch

unfoldable counted : Code → Code
counted last =
    block None (repeat None (one (LocalGet 0) (one eqz (one (BrIf 1) (one (LocalGet 0) (one (I32Const 1) (one sub (one (LocalSet 0) last))))))) done) done

counted_cut : unmarked (cut_at None 5 (0 ∷ 1 ∷ 2 ∷ 3 ∷ 4 ∷ 5 ∷ 6 ∷ 7 ∷ 8 ∷ 10 ∷ []) (counted (one Nop (one (Br 0) done)))) ≡ counted (one (Br 0) done)
unfolding counted eqz sub
counted_cut = refl

-- ---- a kept block with an unkept value

kept_block : unmarked (cut_at (Some I32) 2 (0 ∷ 1 ∷ 2 ∷ []) (block (Some I32) (one (I32Const 3) (one (GlobalSet 0) (one (I32Const 4) done))) (one Drop (one (I32Const 5) done))))
    ≡ block (Some I32) (one (I32Const 3) (one (GlobalSet 0) (one (I32Const 0) done))) (one Drop (one (I32Const 0) done))
kept_block = refl

-- ---- a carried value that isn't needed

carried : unmarked (cut_at (Some I32) 4 (0 ∷ 2 ∷ 3 ∷ 4 ∷ []) (block (Some I32) (one (I32Const 7) (one (LocalGet 0) (one (BrIf 0) (one (GlobalGet 0) (one add done))))) done))
    ≡ block (Some I32) (one (I32Const 0) (one (LocalGet 0) (one (BrIf 0) (one (GlobalGet 0) (one Drop (one Drop (one (I32Const 0) done))))))) done
unfolding add
carried = refl

-- ---- a loop over bytes

unfoldable load_byte : Instr
load_byte = Load load.I32U8 (record { align = 0; offset = 0 })

unfoldable scan : Code → Code
scan last =
    one (LocalGet 0) (one (LocalSet 1) (block None (repeat None (one (LocalGet 1) (one load_byte (one eqz (one (BrIf 1) (one (LocalGet 1) (one (I32Const 1) (one add (one (LocalSet 1) (one (Br 0) done))))))))) done) last))

scan_cut : unmarked (cut_at (Some I32) 5 (0 ∷ 1 ∷ 2 ∷ 3 ∷ 4 ∷ 5 ∷ 6 ∷ 7 ∷ 8 ∷ 9 ∷ 10 ∷ 11 ∷ 12 ∷ []) (scan (one (LocalGet 1) (one (LocalGet 0) (one sub done)))))
    ≡ scan (one (I32Const 0) done)
unfolding scan add sub eqz load_byte
scan_cut = refl

scan_place : watched_at (cut_at (Some I32) 5 (0 ∷ 1 ∷ 2 ∷ 3 ∷ 4 ∷ 5 ∷ 6 ∷ 7 ∷ 8 ∷ 9 ∷ 10 ∷ 11 ∷ 12 ∷ []) (scan (one (LocalGet 1) (one (LocalGet 0) (one sub done))))) ≡ 5
unfolding scan add sub eqz load_byte
scan_place = refl
