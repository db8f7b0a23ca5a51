-- A cut has at most twice the positions of the code, and nests no deeper.
use Rattle.std.proofs.Common.{◌≡◌, ℕ, zero, suc, ◌+◌, ◌*◌, ◌≤◌, List, [], ◌∷◌, Bool, true, false, Option, Some, None, take, drop, refl, sym, ap, ◌∙◌, arith}
use Rattle.wasm_types.specs.declared.module.ValType.{ValType}
use Rattle.wasm_types.specs.declared.instr.Instr.{Instr}
use Rattle.wasm_types.specs.declared.instr.Instr as instr
use Rattle.wasm_types.specs.Code.{Code, done, one, block, repeat, branch, count, nest}
use Rattle.wasm_types.specs.Marked.{Marked, End, Do, Block, Loop, If, Br, BrIf, BrTable, Return, Unreachable, plain, marked, unmarked, size}
use Rattle.wasm_types.specs.Actions.{Callees, takes, leaves}
use Rattle.wasm_types.specs.Labels.{arity}
use Rattle.wasm_types.specs.declared.place.Node.{Node}
use Rattle.wasm_types.specs.Nodes.{At, Join, named, made}
use Rattle.flow_domain.specs.Cut.{pick, one_more, shown, zero_const, drops, zeros, filler, result_of, cut, cut_body}

-- ---- sizes of code with and without marks

pub count-unmarked : (c : Marked) → count (unmarked c) ≡ size c
count-unmarked End = refl
count-unmarked (Do m op rest) = omega (arith, count-unmarked rest)
count-unmarked (Block m kind body rest) = omega (arith, count-unmarked body, count-unmarked rest)
count-unmarked (Loop m kind body rest) = omega (arith, count-unmarked body, count-unmarked rest)
count-unmarked (If m kind x y rest) = omega (arith, count-unmarked x, count-unmarked y, count-unmarked rest)
count-unmarked (Br m l rest) = omega (arith, count-unmarked rest)
count-unmarked (BrIf m l rest) = omega (arith, count-unmarked rest)
count-unmarked (BrTable m labels other rest) = omega (arith, count-unmarked rest)
count-unmarked (Return m rest) = omega (arith, count-unmarked rest)
count-unmarked (Unreachable m rest) = omega (arith, count-unmarked rest)

-- marks change nothing
unmarked-plain : (m : Bool) (op : Instr) (rest : Marked) → unmarked (plain m op rest) ≡ one op (unmarked rest)
unmarked-plain m (instr.Br l) rest = refl
unmarked-plain m (instr.BrIf l) rest = refl
unmarked-plain m (instr.BrTable labels other) rest = refl
unmarked-plain m instr.Return rest = refl
unmarked-plain m instr.Unreachable rest = refl
unmarked-plain m _ rest = refl

pub unmarked-marked : (w : ℕ → Bool) (p : ℕ) (c : Code) → unmarked (marked w p c) ≡ c
unmarked-marked w p done = refl
unmarked-marked w p (one op rest) = unmarked-plain (w p) op (marked w (p + 1) rest) ∙ ap (one op) (unmarked-marked w (p + 1) rest)
unmarked-marked w p (block kind body rest) =
    ap (λ z. block kind z (unmarked (marked w (p + 1 + count body) rest))) (unmarked-marked w (p + 1) body) ∙ ap (block kind body) (unmarked-marked w (p + 1 + count body) rest)
unmarked-marked w p (repeat kind body rest) =
    ap (λ z. repeat kind z (unmarked (marked w (p + 1 + count body) rest))) (unmarked-marked w (p + 1) body) ∙ ap (repeat kind body) (unmarked-marked w (p + 1 + count body) rest)
unmarked-marked w p (branch kind x y rest) =
    ap (λ z. branch kind z (unmarked (marked w (p + 1 + count x) y)) (unmarked (marked w (p + 1 + count x + count y) rest))) (unmarked-marked w (p + 1) x)
    ∙ ap (λ z. branch kind x z (unmarked (marked w (p + 1 + count x + count y) rest))) (unmarked-marked w (p + 1 + count x) y)
    ∙ ap (branch kind x y) (unmarked-marked w (p + 1 + count x + count y) rest)

-- ---- positions

size-drops : (n : ℕ) (c : Marked) → size (drops n c) ≡ n + size c
size-drops zero c = omega arith
size-drops (suc n) c = omega (arith, size-drops n c)

size-zeros : (t : Option ValType) → size (zeros t End) ≤ 1
size-zeros None = omega arith
size-zeros (Some t) = omega arith

one_more-add : (b : Bool) (n : ℕ) → one_more b n ≡ one_more b 0 + n
one_more-add true n = omega arith
one_more-add false n = omega arith

one_more-few : (b : Bool) → one_more b 0 ≤ 1
one_more-few true = omega arith
one_more-few false = omega arith

pub shown-split : (P : Node → Bool) (n : ℕ) (names : List Node) → shown P names ≡ shown P (take n names) + shown P (drop n names)
shown-split P zero names = omega arith
shown-split P (suc n) [] = refl
shown-split P (suc n) (d ∷ names) = omega (arith, shown-split P n names, one_more-add (P d) (shown P names), one_more-add (P d) (shown P (take n names)))

-- how many present places a maker of so many values makes
abbrev pub more : (Node → Bool) → ℕ → Node → ℕ
more P zero d = 0
more P (suc k) d = one_more (P d) 0

pub more-few : (P : Node → Bool) (k : ℕ) (d : Node) → more P k d ≤ 1
more-few P zero d = omega arith
more-few P (suc k) d = one_more-few (P d)

pub shown-named : (P : Node → Bool) (k : ℕ) (d : Node) (names : List Node) → shown P (named k d names) ≡ more P k d + shown P names
shown-named P zero d names = omega arith
shown-named P (suc k) d names = one_more-add (P d) (shown P names)

size-pick_zero : (b : Bool) (t : ValType) (c : Marked) → size (pick b (Do false (zero_const t) c) c) ≡ one_more b 0 + size c
size-pick_zero true t c = omega arith
size-pick_zero false t c = omega arith

size-filler : (P : Node → Bool) (t : Option ValType) (d : Node) (c : Marked) → size (filler P t d c) ≡ more P (arity t) d + size c
size-filler P None d c = omega arith
size-filler P (Some t) d c = size-pick_zero (P d) t c

size-filler_result : (P : Node → Bool) (k : ℕ) (t : ValType) (d : Node) (c : Marked) → size (filler P (result_of k t) d c) ≡ more P k d + size c
size-filler_result P zero t d c = omega arith
size-filler_result P (suc k) t d c = size-pick_zero (P d) t c

pick_within : (b : Bool) (x y : Marked) (n : ℕ) → size x ≤ n → size y ≤ n → size (pick b x y) ≤ n
pick_within true x y n a b = a
pick_within false x y n a b = b

-- a transfer that stays, or falls through
unkept : (P : Node → Bool) (t : Option ValType) (b : Bool) (x : Marked) (names : List Node) (n : ℕ) → size x ≤ n → 1 ≤ n
    → size (pick b x (drops (shown P names) (zeros t End))) ≤ 2 * n + shown P names
unkept P t b x names n le ge =
    let g = size-drops (shown P names) (zeros t End) in
    let z = size-zeros t in
    pick_within b x (drops (shown P names) (zeros t End)) (2 * n + shown P names) (omega arith) (omega arith)

-- A drop is paid by the position that made the place.
pub size-cut : (cs : Callees) (K P : Node → Bool) (T : Node → ValType) (t : Option ValType) (c : Marked) (p : ℕ) (names : List Node)
    → size (cut cs K P T t c p names) ≤ 2 * size c + shown P names
size-cut cs K P T t End p names = omega arith
size-cut cs K P T t (Do m op rest) p names =
    let d = cut cs K P T t rest (p + 1) (made cs p op names) in
    let a = size-cut cs K P T t rest (p + 1) (made cs p op names) in
    let b = shown-named P (leaves cs op) (At p) (drop (takes cs op) names) in
    let e = shown-split P (takes cs op) names in
    let f = more-few P (leaves cs op) (At p) in
    let g = size-drops (shown P (take (takes cs op) names)) (filler P (result_of (leaves cs op) (T (At p))) (At p) d) in
    let h = size-filler_result P (leaves cs op) (T (At p)) (At p) d in
    pick_within (K (At p)) (Do m op d) (drops (shown P (take (takes cs op) names)) (filler P (result_of (leaves cs op) (T (At p))) (At p) d)) (2 * size (Do m op rest) + shown P names) (omega arith) (omega arith)
size-cut cs K P T t (Block m kind body rest) p names =
    let d = cut cs K P T t rest (p + 1 + size body) (named (arity kind) (Join p) names) in
    let inner = cut cs K P T kind body (p + 1) [] in
    let a = size-cut cs K P T t rest (p + 1 + size body) (named (arity kind) (Join p) names) in
    let b = shown-named P (arity kind) (Join p) names in
    let e = size-cut cs K P T kind body (p + 1) [] in
    let f = more-few P (arity kind) (Join p) in
    let h = size-filler P kind (Join p) (cut cs K P T t rest (p + 1 + size body) (named (arity kind) (Join p) names)) in
    pick_within (K (At p)) (Block m kind inner d) (filler P kind (Join p) d) (2 * size (Block m kind body rest) + shown P names) (omega arith) (omega arith)
size-cut cs K P T t (Loop m kind body rest) p names =
    let d = cut cs K P T t rest (p + 1 + size body) (named (arity kind) (Join p) names) in
    let inner = cut cs K P T kind body (p + 1) [] in
    let a = size-cut cs K P T t rest (p + 1 + size body) (named (arity kind) (Join p) names) in
    let b = shown-named P (arity kind) (Join p) names in
    let e = size-cut cs K P T kind body (p + 1) [] in
    let f = more-few P (arity kind) (Join p) in
    let h = size-filler P kind (Join p) (cut cs K P T t rest (p + 1 + size body) (named (arity kind) (Join p) names)) in
    pick_within (K (At p)) (Loop m kind inner d) (filler P kind (Join p) d) (2 * size (Loop m kind body rest) + shown P names) (omega arith) (omega arith)
size-cut cs K P T t (If m kind x y rest) p names =
    let in_x = cut cs K P T kind x (p + 1) [] in
    let in_y = cut cs K P T kind y (p + 1 + size x) [] in
    let d = cut cs K P T t rest (p + 1 + size x + size y) (named (arity kind) (Join p) (drop 1 names)) in
    let a = size-cut cs K P T t rest (p + 1 + size x + size y) (named (arity kind) (Join p) (drop 1 names)) in
    let b = shown-named P (arity kind) (Join p) (drop 1 names) in
    let e = size-cut cs K P T kind x (p + 1) [] in
    let e' = size-cut cs K P T kind y (p + 1 + size x) [] in
    let f = more-few P (arity kind) (Join p) in
    let g = size-drops (shown P (take 1 names)) (filler P kind (Join p) d) in
    let i = shown-split P 1 names in
    let h = size-filler P kind (Join p) d in
    pick_within (K (At p)) (If m kind in_x in_y d) (drops (shown P (take 1 names)) (filler P kind (Join p) d)) (2 * size (If m kind x y rest) + shown P names) (omega arith) (omega arith)
size-cut cs K P T t (Br m l rest) p names = unkept P t (K (At p)) (Br m l End) names (size (Br m l rest)) (omega arith) (omega arith)
size-cut cs K P T t (BrIf m l rest) p names =
    let d = cut cs K P T t rest (p + 1) (drop 1 names) in
    let a = size-cut cs K P T t rest (p + 1) (drop 1 names) in
    let g = size-drops (shown P (take 1 names)) d in
    let i = shown-split P 1 names in
    pick_within (K (At p)) (BrIf m l d) (drops (shown P (take 1 names)) d) (2 * size (BrIf m l rest) + shown P names) (omega arith) (omega arith)
size-cut cs K P T t (BrTable m labels other rest) p names = unkept P t (K (At p)) (BrTable m labels other End) names (size (BrTable m labels other rest)) (omega arith) (omega arith)
size-cut cs K P T t (Return m rest) p names = unkept P t (K (At p)) (Return m End) names (size (Return m rest)) (omega arith) (omega arith)
size-cut cs K P T t (Unreachable m rest) p names = unkept P t (K (At p)) (Unreachable m End) names (size (Unreachable m rest)) (omega arith) (omega arith)

size-marked : (w : ℕ → Bool) (c : Code) → size (marked w 0 c) ≡ count c
size-marked w c = sym (count-unmarked (marked w 0 c)) ∙ ap count (unmarked-marked w 0 c)

pub cut_is_short : (cs : Callees) (K P : Node → Bool) (T : Node → ValType) (t : Option ValType) (w : ℕ → Bool) (c : Code)
    → count (unmarked (cut_body cs K P T t (marked w 0 c))) ≤ 2 * count c
cut_is_short cs K P T t w c =
    let a = count-unmarked (cut_body cs K P T t (marked w 0 c)) in
    let b = size-cut cs K P T t (marked w 0 c) 0 [] in
    let e = size-marked w c in
    omega arith

-- ---- nesting

nest-drops : (n : ℕ) (c : Marked) → nest (unmarked (drops n c)) ≡ nest (unmarked c)
nest-drops zero c = refl
nest-drops (suc n) c = nest-drops n c

nest-zeros : (t : Option ValType) → nest (unmarked (zeros t End)) ≡ 0
nest-zeros None = refl
nest-zeros (Some t) = refl

nest-pick_zero : (b : Bool) (t : ValType) (c : Marked) → nest (unmarked (pick b (Do false (zero_const t) c) c)) ≡ nest (unmarked c)
nest-pick_zero true t c = refl
nest-pick_zero false t c = refl

nest-filler : (P : Node → Bool) (t : Option ValType) (d : Node) (c : Marked) → nest (unmarked (filler P t d c)) ≡ nest (unmarked c)
nest-filler P None d c = refl
nest-filler P (Some t) d c = nest-pick_zero (P d) t c

pick_nests : (b : Bool) (x y : Marked) (n : ℕ) → nest (unmarked x) ≤ n → nest (unmarked y) ≤ n → nest (unmarked (pick b x y)) ≤ n
pick_nests true x y n a b = a
pick_nests false x y n a b = b

unkept_nests : (P : Node → Bool) (t : Option ValType) (b : Bool) (x : Marked) (names : List Node) (n : ℕ) → nest (unmarked x) ≤ n
    → nest (unmarked (pick b x (drops (shown P names) (zeros t End)))) ≤ n
unkept_nests P t b x names n le =
    let g = nest-drops (shown P names) (zeros t End) in
    let z = nest-zeros t in
    pick_nests b x (drops (shown P names) (zeros t End)) n le (omega arith)

pub nest-cut : (cs : Callees) (K P : Node → Bool) (T : Node → ValType) (t : Option ValType) (c : Marked) (p : ℕ) (names : List Node)
    → nest (unmarked (cut cs K P T t c p names)) ≤ nest (unmarked c)
nest-cut cs K P T t End p names = omega arith
nest-cut cs K P T t (Do m op rest) p names =
    let d = cut cs K P T t rest (p + 1) (made cs p op names) in
    let a = nest-cut cs K P T t rest (p + 1) (made cs p op names) in
    let g = nest-drops (shown P (take (takes cs op) names)) (filler P (result_of (leaves cs op) (T (At p))) (At p) d) in
    let h = nest-filler P (result_of (leaves cs op) (T (At p))) (At p) d in
    pick_nests (K (At p)) (Do m op d) (drops (shown P (take (takes cs op) names)) (filler P (result_of (leaves cs op) (T (At p))) (At p) d)) (nest (unmarked (Do m op rest))) a (omega arith)
nest-cut cs K P T t (Block m kind body rest) p names =
    let inner = cut cs K P T kind body (p + 1) [] in
    let d = cut cs K P T t rest (p + 1 + size body) (named (arity kind) (Join p) names) in
    let a = nest-cut cs K P T t rest (p + 1 + size body) (named (arity kind) (Join p) names) in
    let e = nest-cut cs K P T kind body (p + 1) [] in
    let h = nest-filler P kind (Join p) d in
    pick_nests (K (At p)) (Block m kind inner d) (filler P kind (Join p) d) (nest (unmarked (Block m kind body rest))) (omega arith) (omega arith)
nest-cut cs K P T t (Loop m kind body rest) p names =
    let inner = cut cs K P T kind body (p + 1) [] in
    let d = cut cs K P T t rest (p + 1 + size body) (named (arity kind) (Join p) names) in
    let a = nest-cut cs K P T t rest (p + 1 + size body) (named (arity kind) (Join p) names) in
    let e = nest-cut cs K P T kind body (p + 1) [] in
    let h = nest-filler P kind (Join p) d in
    pick_nests (K (At p)) (Loop m kind inner d) (filler P kind (Join p) d) (nest (unmarked (Loop m kind body rest))) (omega arith) (omega arith)
nest-cut cs K P T t (If m kind x y rest) p names =
    let in_x = cut cs K P T kind x (p + 1) [] in
    let in_y = cut cs K P T kind y (p + 1 + size x) [] in
    let d = cut cs K P T t rest (p + 1 + size x + size y) (named (arity kind) (Join p) (drop 1 names)) in
    let a = nest-cut cs K P T t rest (p + 1 + size x + size y) (named (arity kind) (Join p) (drop 1 names)) in
    let e = nest-cut cs K P T kind x (p + 1) [] in
    let e' = nest-cut cs K P T kind y (p + 1 + size x) [] in
    let g = nest-drops (shown P (take 1 names)) (filler P kind (Join p) d) in
    let h = nest-filler P kind (Join p) d in
    pick_nests (K (At p)) (If m kind in_x in_y d) (drops (shown P (take 1 names)) (filler P kind (Join p) d)) (nest (unmarked (If m kind x y rest))) (omega arith) (omega arith)
nest-cut cs K P T t (Br m l rest) p names = unkept_nests P t (K (At p)) (Br m l End) names (nest (unmarked (Br m l rest))) (omega arith)
nest-cut cs K P T t (BrIf m l rest) p names =
    let d = cut cs K P T t rest (p + 1) (drop 1 names) in
    let a = nest-cut cs K P T t rest (p + 1) (drop 1 names) in
    let g = nest-drops (shown P (take 1 names)) (cut cs K P T t rest (p + 1) (drop 1 names)) in
    pick_nests (K (At p)) (BrIf m l d) (drops (shown P (take 1 names)) d) (nest (unmarked (BrIf m l rest))) a (omega arith)
nest-cut cs K P T t (BrTable m labels other rest) p names = unkept_nests P t (K (At p)) (BrTable m labels other End) names (nest (unmarked (BrTable m labels other rest))) (omega arith)
nest-cut cs K P T t (Return m rest) p names = unkept_nests P t (K (At p)) (Return m End) names (nest (unmarked (Return m rest))) (omega arith)
nest-cut cs K P T t (Unreachable m rest) p names = unkept_nests P t (K (At p)) (Unreachable m End) names (nest (unmarked (Unreachable m rest))) (omega arith)

pub cut_nests_no_deeper : (cs : Callees) (K P : Node → Bool) (T : Node → ValType) (t : Option ValType) (w : ℕ → Bool) (c : Code)
    → nest (unmarked (cut_body cs K P T t (marked w 0 c))) ≤ nest c
cut_nests_no_deeper cs K P T t w c =
    let a = nest-cut cs K P T t (marked w 0 c) 0 [] in
    let e = ap nest (unmarked-marked w 0 c) in
    omega arith
