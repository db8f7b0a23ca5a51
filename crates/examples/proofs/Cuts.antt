-- A cut, with all places present and with the needed ones alone.
use Rattle.std.proofs.Common.{ℕ, [], ◌∷◌, true, Option, zero, suc, ◌<◌, List, inl, inr, slice_get, ap, sym, ◌∙◌, subst, arith, eqb-true, true≢false, ◌≡◌, Bool, false, Some, None, nat_eq, ◌||◌, if◌then◌else◌, refl}
use Rattle.wasm_types.specs.declared.module.ValType.{ValType}
use Rattle.wasm_types.specs.declared.module.ValType.TheVariants.{I32, I64}
use Rattle.wasm_types.specs.declared.ops.NumOp.TheVariants as num
use Rattle.wasm_types.specs.declared.ops.Width.TheVariants.{W32}
use Rattle.wasm_types.specs.declared.ops.BinOp.TheVariants as bin
use Rattle.wasm_types.specs.declared.instr.Instr.{Drop, LocalGet, I32Const, I64Const, Num, Br, Return}
use Rattle.wasm_types.specs.Code.{Code, done, one, block, branch}
use Rattle.wasm_types.specs.Marked.{marked, unmarked}
use Rattle.wasm_types.specs.Actions.{Callees}
use Rattle.wasm_types.specs.declared.place.Node.{Node}
use Rattle.wasm_types.specs.Nodes.{At, Join, every}
use Rattle.wasm_types.specs.declared.place.Node.TheVariants as node
use Rattle.wasm_types.specs.declared.place.Node.TheVariants.{Exit}
use Rattle.wasm_types.specs.Sites.{DoHead, UnreachableHead, Head, Site, Sites, IsSite, EndAt, body_sites, body_ends, all_operands, Among}
use Rattle.flow_domain.specs.Presence.{AmongFirst, maker, result, operand, left, at_exit, HoldsNeeded}
use Rattle.flow_domain.specs.Cut.{cut_body}

-- 0 local.get, 1 local.get, 2 add, 3 local.get, 4 if with result { 5 const 1 } { 6 const 2 }, 7 add, 8 local.get (kept), 9 add
unfoldable code : Code
code =
    one (LocalGet 0) (one (LocalGet 0) (one (Num (num.Bin W32 bin.Add)) (one (LocalGet 0) (branch (Some I32) (one (I32Const 1) done) (one (I32Const 2) done) (one (Num (num.Bin W32 bin.Add)) (one (LocalGet 1) (one (Num (num.Bin W32 bin.Add)) done)))))))

abbrev kept : Node → Bool
kept (node.At p) = nat_eq p.0 8
kept (node.Join b) = false
kept node.Exit = false

-- the kept one's place, and the one at the end
abbrev needed : Node → Bool
needed (node.At p) = nat_eq p.0 8 || nat_eq p.0 9
needed (node.Join b) = nat_eq b.0 8
needed node.Exit = false

abbrev types : Node → ValType
types n = I32

abbrev no_calls : Callees
no_calls = record { type_of = λ f. None; type_at = λ t. None }

short : unmarked (cut_body no_calls kept needed types (Some I32) (marked (nat_eq 8) 0 code)) ≡ one (LocalGet 1) (one Drop (one (I32Const 0) done))
unfolding code
short = refl

-- with all present: a constant for each, dropped by its taker
long : unmarked (cut_body no_calls kept every types (Some I32) (marked (nat_eq 8) 0 code))
    ≡ one (I32Const 0) (one (I32Const 0) (one Drop (one Drop (one (I32Const 0) (one (I32Const 0) (one Drop (one (I32Const 0) (one Drop (one Drop (one (I32Const 0) (one (LocalGet 1) (one Drop (one Drop (one (I32Const 0) done))))))))))))))
unfolding code
long = refl

-- an unkept branch: what is on its sequence's stack goes, and the constant of the sequence's result comes
unfoldable jump : Code
jump = block (Some I64) (one (I32Const 1) (one (I64Const 2) (one (Br 0) (one Drop (one Drop done))))) (one (I64Const 3) (one Return done))

abbrev block_kept : Node → Bool
block_kept (node.At p) = nat_eq p.0 0
block_kept (node.Join b) = false
block_kept node.Exit = false

abbrev jump_types : Node → ValType
jump_types (node.At p) = if nat_eq p.0 1 then I32 else I64
jump_types (node.Join b) = I64
jump_types node.Exit = I64

fallen : unmarked (cut_body no_calls block_kept every jump_types (Some I64) (marked (nat_eq 0) 0 jump))
    ≡ block (Some I64) (one (I32Const 0) (one (I64Const 0) (one Drop (one Drop (one (I64Const 0) done))))) (one (I64Const 0) (one Drop (one Drop (one (I64Const 0) done))))
unfolding jump
fallen = refl

-- ---- the two places, and a join that is none, are all that is needed

abbrev the_sites : Sites
the_sites = body_sites no_calls 1 (marked (nat_eq 8) 0 code)

abbrev the_ends : List EndAt
the_ends = body_ends no_calls 1 (marked (nat_eq 8) 0 code)

abbrev head_of : Option (Option Site) → Head
head_of None = UnreachableHead
head_of (Some None) = UnreachableHead
head_of (Some (Some s)) = s.head

head_there : (p : ℕ) (s : Site) → IsSite the_sites p s → nat_eq p 8 ≡ true → s.head ≡ DoHead (LocalGet 1)
unfolding code
head_there p s is on = ap head_of (sym is ∙ ap (slice_get the_sites) (eqb-true p 8 on))

abbrev number_of : Node → ℕ
number_of (node.At p) = p.0
number_of (node.Join b) = b.0
number_of node.Exit = 0

join_is : (b d : ℕ) → Join b ≡ Join d → b ≡ d
join_is b d e = ap number_of e

no_exit : {A : Type 0} (b : ℕ) → Exit ≡ Join b → A
no_exit b e = absurd cc

four : {A : Type 0} (b : ℕ) → b ≡ 4 → nat_eq b 8 ≡ true → A
four b e on = let f = eqb-true b 8 on in absurd (omega arith)

-- no end is that of block 8
no_end : {A : Type 0} (b : ℕ) (e : EndAt) → Among the_ends e → e.owner ≡ Join b → nat_eq b 8 ≡ true → A
unfolding code
no_end b e (inl q) o on = no_exit b (ap (λ z. z.owner) q ∙ o)
no_end b e (inr (inl q)) o on = four b (sym (join_is 4 b (ap (λ z. z.owner) q ∙ o))) on
no_end b e (inr (inr (inl q))) o on = four b (sym (join_is 4 b (ap (λ z. z.owner) q ∙ o))) on
no_end b e (inr (inr (inr h))) o on = absurd h

last_name : (k : ℕ) (n : Node) → k < 1 → slice_get (At 9 ∷ []) k ≡ Some n → n ≡ At 9
last_name zero n lt e = cc
last_name (suc k) n lt e = absurd (omega arith)

exit_name : (e : EndAt) (n : Node) → Among the_ends e → e.owner ≡ Exit → AmongFirst e.count e.names n → n ≡ At 9
unfolding code
exit_name e n (inl q) o (k, lt, at) = last_name k n (subst (λ z. k < z.count) (sym q) lt) (subst (λ z. slice_get z.names k ≡ Some n) (sym q) at)
exit_name e n (inr (inl q)) o a = no_exit 4 (sym (ap (λ z. z.owner) q ∙ o))
exit_name e n (inr (inr (inl q))) o a = no_exit 4 (sym (ap (λ z. z.owner) q ∙ o))
exit_name e n (inr (inr (inr h))) o a = absurd h

kept_needed : (n : Node) → kept n ≡ true → needed n ≡ true
kept_needed (node.At p) e = ap (λ b. b || nat_eq p.0 9) e
kept_needed (node.Join b) e = absurd (true≢false (sym e))
kept_needed node.Exit e = absurd (true≢false (sym e))

none_first : (names : List Node) (n : Node) → AmongFirst 0 names n → needed n ≡ true
none_first names n (k, lt, at) = absurd (omega arith)

holds : HoldsNeeded no_calls the_sites the_ends kept needed
holds n (maker e) = kept_needed n e
holds n (result e) = e
holds n (operand p s is on a) = none_first s.names n (subst (λ h. AmongFirst (all_operands no_calls s.around h) s.names n) (head_there p s is on) a)
holds n (left b e among o on a) = no_end b e among o on
holds n (at_exit e among o a) = ap needed (exit_name e n among o a)
