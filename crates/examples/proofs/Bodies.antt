-- Takers, joined values, what reaches what, and shadows, of small bodies.
use Rattle.std.proofs.Common.{◌≡◌, ◌⊎◌, ℕ, [], ◌∷◌, Some, None, refl, arith, inl, inr}
use Rattle.wasm_types.specs.declared.module.ValType.TheVariants.{I32}
use Rattle.wasm_types.specs.declared.module.FuncType.{FuncType}
use Rattle.wasm_types.specs.declared.ops.NumOp.TheVariants as num
use Rattle.wasm_types.specs.declared.ops.Width.TheVariants.{W32}
use Rattle.wasm_types.specs.declared.ops.BinOp.TheVariants as bin
use Rattle.wasm_types.specs.declared.instr.Instr.{LocalGet, LocalSet, GlobalGet, I32Const, Num, Call, BrIf, Unreachable}
use Rattle.wasm_types.specs.declared.place.Node.TheVariants.{Exit}
use Rattle.wasm_types.specs.declared.place.Loc.{Loc}
use Rattle.wasm_types.specs.declared.place.Loc.TheVariants.{Local}
use Rattle.wasm_types.specs.declared.place.Def.TheVariants as def
use Rattle.wasm_types.specs.declared.place.Taker.{Taker}
use Rattle.wasm_types.specs.declared.place.Taker.TheVariants as taker
use Rattle.wasm_types.specs.Code.{Code, done, one, block, branch}
use Rattle.wasm_types.specs.Marked.{Marked, marked}
use Rattle.wasm_types.specs.Funcs.{unwatched}
use Rattle.wasm_types.specs.Actions.{Callees}
use Rattle.wasm_types.specs.Nodes.{At, Join}
use Rattle.wasm_types.specs.Sites.{Sites, body_sites, from_at, from_join, to_next, into}
use Rattle.wasm_types.specs.Reaching.{Writes, writes_it, edge, along, Reaches, from_write}
use Rattle.wasm_types.specs.Shadow.{InShadow, at_position, later, around}
use Rattle.wasm_types.specs.Takers.{takers_of, joined_of}

-- every function is `(i32) -> i32`
unary : FuncType
unary = record { params = I32 ∷ []; results = I32 ∷ [] }

abbrev cs : Callees
cs = record { type_of = λ f. Some unary; type_at = λ t. None }

abbrev by : ℕ → Taker
by p = taker.Instr (record { 0 = p })

-- 0 local.get, 1 if with result { 2 local.get, 3 const, 4 sub, 5 call } { 6 const }, 7 const, 8 add
unfoldable recursion : Code
recursion =
    one (LocalGet 0) (branch (Some I32) (one (LocalGet 0) (one (I32Const 1) (one (Num (num.Bin W32 bin.Sub)) (one (Call 0) done)))) (one (I32Const 0) done)
    (one (I32Const 1) (one (Num (num.Bin W32 bin.Add)) done)))

abbrev read : Code → Marked
read code = marked unwatched 0 code

condition_taken : takers_of cs 1 (read recursion) (At 0) ≡ by 1 ∷ []
unfolding recursion unary
condition_taken = refl

arms_meet : joined_of cs 1 (read recursion) (Join 1) ≡ At 5 ∷ At 6 ∷ []
unfolding recursion unary
arms_meet = refl

call_ends_its_arm : takers_of cs 1 (read recursion) (At 5) ≡ taker.End (Join 1) ∷ []
unfolding recursion unary
call_ends_its_arm = refl

join_added : takers_of cs 1 (read recursion) (Join 1) ≡ by 8 ∷ []
unfolding recursion unary
join_added = refl

result : joined_of cs 1 (read recursion) Exit ≡ At 8 ∷ []
unfolding recursion unary
result = refl

-- 0 block with result { 1 const, 2 local.get, 3 br_if 0, 4 global.get, 5 add }: the carried value is taken by br_if, and stays
unfoldable carrying : Code
carrying = block (Some I32) (one (I32Const 7) (one (LocalGet 0) (one (BrIf 0) (one (GlobalGet 0) (one (Num (num.Bin W32 bin.Add)) done))))) done

carried_twice : takers_of cs 1 (read carrying) (At 1) ≡ by 3 ∷ by 5 ∷ []
unfolding carrying
carried_twice = refl

branch_and_end_meet : joined_of cs 1 (read carrying) (Join 0) ≡ At 1 ∷ At 5 ∷ []
unfolding carrying
branch_and_end_meet = refl

-- 0 const, 1 local.set 1, 2 local.get 0, 3 if { 4 const, 5 local.set 1 }, 6 local.get 1
unfoldable two_sets : Code
two_sets =
    one (I32Const 7) (one (LocalSet 1) (one (LocalGet 0) (branch None (one (I32Const 9) (one (LocalSet 1) done)) done (one (LocalGet 1) done))))

-- the two sets write local 1
abbrev sets : ℕ → Loc → Type 0
sets p x = (x ≡ Local 1) × ((p ≡ 1) ⊎ (p ≡ 5))

abbrev sites : Sites
sites = body_sites cs 1 (read two_sets)

quiet : (p : ℕ) → (p ≡ 1 → ⊥) → (p ≡ 5 → ⊥) → Writes sets (Local 1) (At p) → ⊥
quiet p not_one not_five (writes_it w) = elim w.1 [ inl e ↦ not_one e | inr e ↦ not_five e ]

quiet_join : Writes sets (Local 1) (Join 3) → ⊥
quiet_join = elim [ ]

-- past the arm that sets again
first_reaches : Reaches sets sites (At 0) (Local 1) (At 6) (def.At (record { 0 = 1 }))
unfolding two_sets unary
first_reaches =
    from_write (writes_it (refl, inl refl))
    (along (At 2) (from_at _ refl (to_next _ refl)) (quiet 2 (λ e. omega (arith, e)) (λ e. omega (arith, e)))
    (along (At 3) (from_at _ refl (to_next _ refl)) (quiet 3 (λ e. omega (arith, e)) (λ e. omega (arith, e)))
    (along (Join 3) (from_at _ refl (into 1 refl)) quiet_join (edge (from_join _ refl tt)))))

second_reaches : Reaches sets sites (At 0) (Local 1) (At 6) (def.At (record { 0 = 5 }))
unfolding two_sets unary
second_reaches =
    from_write (writes_it (refl, inr refl)) (along (Join 3) (from_at _ refl (to_next _ refl)) quiet_join (edge (from_join _ refl tt)))

-- 0 block { 1 local.get, 2 br_if 0, 3 unreachable }, 4 global.get: what stands after the branch in the block, and its join
unfoldable leaving : Code
leaving = block None (one (LocalGet 0) (one (BrIf 0) (one Unreachable done))) (one (GlobalGet 0) done)

abbrev leaving_sites : Sites
leaving_sites = body_sites cs 1 (read leaving)

after_it : InShadow leaving_sites 2 (At 3)
unfolding leaving
after_it = later 0 _ refl refl (at_position _ refl (omega arith) (omega arith))

its_join : InShadow leaving_sites 2 (Join 0)
unfolding leaving
its_join = around 0 0 _ refl refl (omega arith)
