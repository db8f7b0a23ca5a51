-- What holds of each instruction and each block of code, and of a drop and the zero constants, holds of the cut's.
use Rattle.std.proofs.Common.{ℕ, zero, suc, ◌+◌, List, [], Bool, true, false, Option, Some, None, take, drop, arith}
use Rattle.wasm_types.specs.declared.module.ValType.{ValType}
use Rattle.wasm_types.specs.declared.module.ValType.TheVariants.{I32, I64, F32, F64}
use Rattle.wasm_types.specs.declared.instr.Instr.{Instr, Drop, I32Const, I64Const}
use Rattle.wasm_types.specs.Code.{Code, done, one, block, repeat, branch}
use Rattle.wasm_types.specs.Marked.{Marked, End, Do, Block, Loop, If, Br, BrIf, BrTable, Return, Unreachable, unmarked, size}
use Rattle.wasm_types.specs.Plain.{immediates}
use Rattle.wasm_types.specs.WellFormed.{ProperImmediates, ProperCode}
use Rattle.wasm_types.specs.Subset.{IsIntegerInstr, IsIntegerKind, IsIntegerCode}
use Rattle.wasm_types.specs.Actions.{Callees, takes, leaves}
use Rattle.wasm_types.specs.Labels.{arity}
use Rattle.wasm_types.specs.declared.place.Node.{Node}
use Rattle.wasm_types.specs.Nodes.{At, Join, named, made}
use Rattle.flow_domain.specs.Cut.{pick, shown, zero_const, drops, zeros, filler, result_of, cut}

abbrev pub Every : (Instr → Type 0) → (Option ValType → Type 0) → Code → Type 0
Every Q R done = Unit {0}
Every Q R (one i rest) = Q i × Every Q R rest
Every Q R (block kind inner rest) = R kind × Every Q R inner × Every Q R rest
Every Q R (repeat kind inner rest) = R kind × Every Q R inner × Every Q R rest
Every Q R (branch kind first second rest) = R kind × Every Q R first × Every Q R second × Every Q R rest

module _ (Q : Instr → Type 0) (R : Option ValType → Type 0) (q_drop : Q Drop) (q_32 : Q (I32Const 0)) (q_64 : Q (I64Const 0)) where
  abbrev Marks : Marked → Type 0
  Marks c = Every Q R (unmarked c)

  zero_every : (t : ValType) → Q (zero_const t)
  zero_every I32 = q_32
  zero_every I64 = q_64
  zero_every F32 = q_32
  zero_every F64 = q_32

  drops_every : (n : ℕ) (c : Marked) → Marks c → Marks (drops n c)
  drops_every zero c h = h
  drops_every (suc n) c h = (q_drop, drops_every n c h)

  zeros_every : (t : Option ValType) → Marks (zeros t End)
  zeros_every None = tt
  zeros_every (Some t) = (zero_every t, tt)

  pick_every : (b : Bool) (x y : Marked) → Marks x → Marks y → Marks (pick b x y)
  pick_every true x y h g = h
  pick_every false x y h g = g

  filler_every : (P : Node → Bool) (t : Option ValType) (n : Node) (c : Marked) → Marks c → Marks (filler P t n c)
  filler_every P None n c h = h
  filler_every P (Some t) n c h = pick_every (P n) (Do false (zero_const t) c) c (zero_every t, h) h

  falls_every : (P : Node → Bool) (t : Option ValType) (b : Bool) (x : Marked) (names : List Node) → Marks x
      → Marks (pick b x (drops (shown P names) (zeros t End)))
  falls_every P t b x names h = pick_every b x (drops (shown P names) (zeros t End)) h (drops_every (shown P names) (zeros t End) (zeros_every t))

  pub cut_every : (cs : Callees) (K P : Node → Bool) (T : Node → ValType) (t : Option ValType) (c : Marked) (p : ℕ) (names : List Node) → Marks c
      → Marks (cut cs K P T t c p names)
  cut_every cs K P T t End p names h = tt
  cut_every cs K P T t (Do m op rest) p names h =
      let d = cut cs K P T t rest (p + 1) (made cs p op names) in
      let filled = filler P (result_of (leaves cs op) (T (At p))) (At p) d in
      let n = shown P (take (takes cs op) names) in
      let g = cut_every cs K P T t rest (p + 1) (made cs p op names) h.1 in
      pick_every (K (At p)) (Do m op d) (drops n filled) (h.0, g) (drops_every n filled (filler_every P (result_of (leaves cs op) (T (At p))) (At p) d g))
  cut_every cs K P T t (Block m kind body rest) p names h =
      let inner = cut cs K P T kind body (p + 1) [] in
      let d = cut cs K P T t rest (p + 1 + size body) (named (arity kind) (Join p) names) in
      let g = cut_every cs K P T t rest (p + 1 + size body) (named (arity kind) (Join p) names) h.2 in
      pick_every (K (At p)) (Block m kind inner d) (filler P kind (Join p) d) (h.0, cut_every cs K P T kind body (p + 1) [] h.1, g) (filler_every P kind (Join p) d g)
  cut_every cs K P T t (Loop m kind body rest) p names h =
      let inner = cut cs K P T kind body (p + 1) [] in
      let d = cut cs K P T t rest (p + 1 + size body) (named (arity kind) (Join p) names) in
      let g = cut_every cs K P T t rest (p + 1 + size body) (named (arity kind) (Join p) names) h.2 in
      pick_every (K (At p)) (Loop m kind inner d) (filler P kind (Join p) d) (h.0, cut_every cs K P T kind body (p + 1) [] h.1, g) (filler_every P kind (Join p) d g)
  cut_every cs K P T t (If m kind x y rest) p names h =
      let in_x = cut cs K P T kind x (p + 1) [] in
      let in_y = cut cs K P T kind y (p + 1 + size x) [] in
      let d = cut cs K P T t rest (p + 1 + size x + size y) (named (arity kind) (Join p) (drop 1 names)) in
      let n = shown P (take 1 names) in
      let g = cut_every cs K P T t rest (p + 1 + size x + size y) (named (arity kind) (Join p) (drop 1 names)) h.3 in
      pick_every (K (At p)) (If m kind in_x in_y d) (drops n (filler P kind (Join p) d)) (h.0, cut_every cs K P T kind x (p + 1) [] h.1, cut_every cs K P T kind y (p + 1 + size x) [] h.2, g)
      (drops_every n (filler P kind (Join p) d) (filler_every P kind (Join p) d g))
  cut_every cs K P T t (Br m l rest) p names h = falls_every P t (K (At p)) (Br m l End) names (h.0, tt)
  cut_every cs K P T t (BrIf m l rest) p names h =
      let d = cut cs K P T t rest (p + 1) (drop 1 names) in
      let n = shown P (take 1 names) in
      let g = cut_every cs K P T t rest (p + 1) (drop 1 names) h.1 in
      pick_every (K (At p)) (BrIf m l d) (drops n d) (h.0, g) (drops_every n d g)
  cut_every cs K P T t (BrTable m labels other rest) p names h = falls_every P t (K (At p)) (BrTable m labels other End) names (h.0, tt)
  cut_every cs K P T t (Return m rest) p names h = falls_every P t (K (At p)) (Return m End) names (h.0, tt)
  cut_every cs K P T t (Unreachable m rest) p names h = falls_every P t (K (At p)) (Unreachable m End) names (h.0, tt)

-- ---- integer code

every_integer : (c : Code) → IsIntegerCode c → Every IsIntegerInstr IsIntegerKind c
every_integer done h = tt
every_integer (one i rest) h = (h.0, every_integer rest h.1)
every_integer (block kind inner rest) h = (h.0, every_integer inner h.1, every_integer rest h.2)
every_integer (repeat kind inner rest) h = (h.0, every_integer inner h.1, every_integer rest h.2)
every_integer (branch kind x y rest) h = (h.0, every_integer x h.1, every_integer y h.2, every_integer rest h.3)

integer_every : (c : Code) → Every IsIntegerInstr IsIntegerKind c → IsIntegerCode c
integer_every done h = tt
integer_every (one i rest) h = (h.0, integer_every rest h.1)
integer_every (block kind inner rest) h = (h.0, integer_every inner h.1, integer_every rest h.2)
integer_every (repeat kind inner rest) h = (h.0, integer_every inner h.1, integer_every rest h.2)
integer_every (branch kind x y rest) h = (h.0, integer_every x h.1, integer_every y h.2, integer_every rest h.3)

pub cut_integer : (cs : Callees) (K P : Node → Bool) (T : Node → ValType) (t : Option ValType) (c : Marked) (p : ℕ) (names : List Node)
    → IsIntegerCode (unmarked c) → IsIntegerCode (unmarked (cut cs K P T t c p names))
cut_integer cs K P T t c p names h = integer_every _ (cut_every IsIntegerInstr IsIntegerKind tt tt tt cs K P T t c p names (every_integer (unmarked c) h))

-- ---- proper code

abbrev Proper : Instr → Type 0
Proper i = ProperImmediates (immediates i)

abbrev AnyKind : Option ValType → Type 0
AnyKind kind = Unit {0}

every_proper : (c : Code) → ProperCode c → Every Proper AnyKind c
every_proper done h = tt
every_proper (one i rest) h = (h.0, every_proper rest h.1)
every_proper (block kind inner rest) h = (tt, every_proper inner h.0, every_proper rest h.1)
every_proper (repeat kind inner rest) h = (tt, every_proper inner h.0, every_proper rest h.1)
every_proper (branch kind x y rest) h = (tt, every_proper x h.0, every_proper y h.1, every_proper rest h.2)

proper_every : (c : Code) → Every Proper AnyKind c → ProperCode c
proper_every done h = tt
proper_every (one i rest) h = (h.0, proper_every rest h.1)
proper_every (block kind inner rest) h = (proper_every inner h.1, proper_every rest h.2)
proper_every (repeat kind inner rest) h = (proper_every inner h.1, proper_every rest h.2)
proper_every (branch kind x y rest) h = (proper_every x h.1, proper_every y h.2, proper_every rest h.3)

pub cut_proper : (cs : Callees) (K P : Node → Bool) (T : Node → ValType) (t : Option ValType) (c : Marked) (p : ℕ) (names : List Node)
    → ProperCode (unmarked c) → ProperCode (unmarked (cut cs K P T t c p names))
cut_proper cs K P T t c p names h =
    proper_every _ (cut_every Proper AnyKind tt (omega arith) (omega arith) cs K P T t c p names (every_proper (unmarked c) h))
