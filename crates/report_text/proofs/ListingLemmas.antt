-- The texts of a listing, one piece after the other.
use Rattle.std.proofs.Common.{◌≡◌, ℕ, zero, suc, ◌+◌, ◌*◌, Bool, true, false, List, [], ◌∷◌, ◌++◌, Option, Result, Ok, Err, IfOk, length, replicate, refl, ap, sym, ◌∙◌, append_assoc, append-nil, codes, arith}
use Rattle.std.specs.Prelude.{if◌then◌else◌, ◌==◌}
use Rattle.wasm_types.specs.Nodes.{Join}
use Rattle.wasm_types.specs.declared.module.ValType.{ValType}
use Rattle.wasm_types.specs.declared.instr.Instr.{Instr, Block', Loop', If'}
use Rattle.wasm_types.specs.declared.instr.Instr.TheVariants.{Block, Loop, If}
use Rattle.wasm_types.specs.declared.place.Node.{Node}
use Rattle.wasm_types.specs.declared.place.Taker.{Taker}
use Rattle.wasm_types.specs.Code.{Code, done, block, repeat, branch, onto, code_of_row, code_of, is_plain, count}
use Rattle.wasm_types.proofs.CodeLemmas.{onto-block, onto-loop, onto-if, onto-one}
use Rattle.stack_names.specs.Ends.{ends_at}
use Rattle.report_text.specs.InstructionTexts.{block_text, instruction_text}
use Rattle.report_text.specs.Listing.{Told, arms_lines, closing_line, contents_lines, else_lines, end_makers, ended_by, indent, last_arm, lines, maker_at, makers_in, position_line}

-- two spaces for each
pub spaces : (depth : ℕ) → indent depth ≡ replicate (2 * depth) 32
spaces zero = refl
spaces (suc depth) =
    let e : suc (suc (2 * depth)) ≡ 2 * suc depth = omega arith in
    ap (λ (l : List ℕ). 32 ∷ 32 ∷ l) (spaces depth) ∙ ap (λ n. replicate n 32) e

-- ---- the first instruction of a sequence, and those after it

behind : (K : Told) (depth p n m : ℕ) (head : List ℕ) (rest : Code) → n ≡ m → head ++ lines K depth rest n ≡ (head ++ []) ++ lines K depth rest m
behind K depth p n m head rest same =
    ap (λ k. head ++ lines K depth rest k) same ∙ ap (λ (l : List ℕ). l ++ lines K depth rest m) (sym (append-nil head))

pub lines-onto : (K : Told) (depth : ℕ) (i : Instr) (rest : Code) (p : ℕ)
    → lines K depth (onto i rest) p ≡ lines K depth (onto i done) p ++ lines K depth rest (p + count (onto i done))
unfolding onto code_of_row
lines-onto K depth (Block' k m inner) rest p = behind K depth p _ _ _ rest (omega arith)
lines-onto K depth (Loop' k m inner) rest p = behind K depth p _ _ _ rest (omega arith)
lines-onto K depth (If' k m first n second) rest p = behind K depth p _ _ _ rest (omega arith)
lines-onto K depth i rest p = behind K depth p _ _ _ rest (omega arith)

-- one that may be taken, and others
one_of : (b : Bool) (n : Node) (ns : List Node) → (if b then n ∷ ns else ns) ≡ (if b then n ∷ [] else []) ++ ns
one_of true n ns = refl
one_of false n ns = refl

takes_one : (T : Node → List Taker) (k : Node) (code : Code) (n : Node) (p q : ℕ) → p ≡ q
    → end_makers T k (n ∷ makers_in code p) ≡ end_makers T k (n ∷ []) ++ end_makers T k (makers_in code q)
takes_one T k code n p q same =
    one_of (ends_at k (T n)) n (end_makers T k (makers_in code p)) ∙ ap (λ at. end_makers T k (n ∷ []) ++ end_makers T k (makers_in code at)) same

pub makers-onto : (T : Node → List Taker) (k : Node) (i : Instr) (rest : Code) (p : ℕ)
    → end_makers T k (makers_in (onto i rest) p) ≡ end_makers T k (maker_at i p ∷ []) ++ end_makers T k (makers_in rest (p + count (onto i done)))
unfolding onto code_of_row
makers-onto T k (Block' kind m inner) rest p = takes_one T k rest _ _ _ (omega arith)
makers-onto T k (Loop' kind m inner) rest p = takes_one T k rest _ _ _ (omega arith)
makers-onto T k (If' kind m first n second) rest p = takes_one T k rest _ _ _ (omega arith)
makers-onto T k i rest p = takes_one T k rest _ _ _ (omega arith)

-- a piece before what is still to come
pub piece : {A : Type 0} (all old new part rest more : List A) → old ++ more ≡ all → more ≡ part ++ rest → new ≡ old ++ part → new ++ rest ≡ all
piece all old new part rest more so_far is put =
    ap (λ l. l ++ rest) put ∙ append_assoc old part rest ∙ ap (λ l. old ++ l) (sym is) ∙ so_far

-- two pieces
pub two : {T E : Type 0} (r : Result T E) (old mid new a b all : List ℕ) → mid ≡ old ++ a → a ++ b ≡ all → IfOk r (λ _. new ≡ mid ++ b) → IfOk r (λ _. new ≡ old ++ all)
two (Ok x) old mid new a b all p q h = h ∙ ap (λ l. l ++ b) p ∙ append_assoc old a b ∙ ap (λ l. old ++ l) q
two (Err e) old mid new a b all p q h = tt

-- ---- one instruction

pub in_block : (K : Told) (depth p : ℕ) (i : Instr) (k : Option ValType) (xs ys : List Instr) → i ≡ Block k xs → ys ≡ xs
    → position_line K depth p (block_text (codes "block") k) ++ contents_lines K depth (code_of ys) p ≡ lines K depth (onto i done) p
in_block K depth p i k xs ys e f =
    ap (λ (zs : List Instr). position_line K depth p (block_text (codes "block") k) ++ contents_lines K depth (code_of zs) p) f
    ∙ sym (append-nil _) ∙ ap (λ (c : Code). lines K depth c p) (sym (onto-block k xs done)) ∙ ap (λ (j : Instr). lines K depth (onto j done) p) (sym e)

pub in_loop : (K : Told) (depth p : ℕ) (i : Instr) (k : Option ValType) (xs ys : List Instr) → i ≡ Loop k xs → ys ≡ xs
    → position_line K depth p (block_text (codes "loop") k) ++ contents_lines K depth (code_of ys) p ≡ lines K depth (onto i done) p
in_loop K depth p i k xs ys e f =
    ap (λ (zs : List Instr). position_line K depth p (block_text (codes "loop") k) ++ contents_lines K depth (code_of zs) p) f
    ∙ sym (append-nil _) ∙ ap (λ (c : Code). lines K depth c p) (sym (onto-loop k xs done)) ∙ ap (λ (j : Instr). lines K depth (onto j done) p) (sym e)

pub in_if : (K : Told) (depth p : ℕ) (i : Instr) (k : Option ValType) (xs ys us vs : List Instr) → i ≡ If k xs ys → us ≡ xs → vs ≡ ys
    → position_line K depth p (block_text (codes "if") k) ++ arms_lines K depth (code_of us) (code_of vs) p ≡ lines K depth (onto i done) p
in_if K depth p i k xs ys us vs e f g =
    ap (λ (zs : List Instr). position_line K depth p (block_text (codes "if") k) ++ arms_lines K depth (code_of zs) (code_of vs) p) f
    ∙ ap (λ (zs : List Instr). position_line K depth p (block_text (codes "if") k) ++ arms_lines K depth (code_of xs) (code_of zs) p) g
    ∙ sym (append-nil _) ∙ ap (λ (c : Code). lines K depth c p) (sym (onto-if k xs ys done)) ∙ ap (λ (j : Instr). lines K depth (onto j done) p) (sym e)

pub in_plain : (K : Told) (depth p : ℕ) (i : Instr) → is_plain i ≡ true → position_line K depth p (instruction_text i) ≡ lines K depth (onto i done) p
in_plain K depth p i plain = sym (append-nil _) ∙ ap (λ (c : Code). lines K depth c p) (sym (onto-one i done plain))

-- ---- how many positions

pub counts_block : (i : Instr) (k : Option ValType) (xs ys : List Instr) → i ≡ Block k xs → ys ≡ xs → count (onto i done) ≡ 1 + count (code_of ys)
counts_block i k xs ys e f =
    let shown : onto i done ≡ block k (code_of ys) done = ap (λ (j : Instr). onto j done) e ∙ onto-block k xs done ∙ ap (λ (zs : List Instr). block k (code_of zs) done) (sym f) in
    omega (arith, ap count shown)

pub counts_loop : (i : Instr) (k : Option ValType) (xs ys : List Instr) → i ≡ Loop k xs → ys ≡ xs → count (onto i done) ≡ 1 + count (code_of ys)
counts_loop i k xs ys e f =
    let shown : onto i done ≡ repeat k (code_of ys) done = ap (λ (j : Instr). onto j done) e ∙ onto-loop k xs done ∙ ap (λ (zs : List Instr). repeat k (code_of zs) done) (sym f) in
    omega (arith, ap count shown)

pub counts_if : (i : Instr) (k : Option ValType) (xs ys us vs : List Instr) → i ≡ If k xs ys → us ≡ xs → vs ≡ ys
    → count (onto i done) ≡ 1 + count (code_of us) + count (code_of vs)
counts_if i k xs ys us vs e f g =
    let shown : onto i done ≡ branch k (code_of us) (code_of vs) done =
    ap (λ (j : Instr). onto j done) e ∙ onto-if k xs ys done ∙ ap (λ (zs : List Instr). branch k (code_of zs) (code_of ys) done) (sym f) ∙ ap (λ (zs : List Instr). branch k (code_of us) (code_of zs) done) (sym g) in
    omega (arith, ap count shown)

pub counts_plain : (i : Instr) → is_plain i ≡ true → count (onto i done) ≡ 1
counts_plain i plain = ap count (onto-one i done plain)

-- ---- the second arm of an if

else_onto : (i : Instr) (rest : Code) (a b : List ℕ) → else_lines (onto i rest) a b ≡ a ++ b
unfolding onto code_of_row
else_onto (Block' k m inner) rest a b = refl
else_onto (Loop' k m inner) rest a b = refl
else_onto (If' k m first n second) rest a b = refl
else_onto i rest a b = refl

last_onto : (i : Instr) (rest : Code) (x y : List Node) → last_arm (onto i rest) x y ≡ y
unfolding onto code_of_row
last_onto (Block' k m inner) rest x y = refl
last_onto (Loop' k m inner) rest x y = refl
last_onto (If' k m first n second) rest x y = refl
last_onto i rest x y = refl

-- where there is one, the lines of an if have an else
arms_some : (K : Told) (depth p : ℕ) (x : Code) (ys : List Instr) → false ≡ (length ys == 0)
    → arms_lines K depth x (code_of ys) p
    ≡ lines K (depth + 1) x (p + 1) ++ ((closing_line depth (codes "else") (ended_by K (Join p) x (p + 1)) ++ lines K (depth + 1) (code_of ys) (p + 1 + count x))
    ++ closing_line depth (codes "end") (ended_by K (Join p) (code_of ys) (p + 1 + count x)))
arms_some K depth p x [] h = absurd cc
arms_some K depth p x (y ∷ ys) h =
    let taken = ended_by K (Join p) x (p + 1) in
    let other = ended_by K (Join p) (code_of (y ∷ ys)) (p + 1 + count x) in
    let first = lines K (depth + 1) x (p + 1) in
    let second = lines K (depth + 1) (code_of (y ∷ ys)) (p + 1 + count x) in
    ap (λ (l : List ℕ). first ++ (l ++ closing_line depth (codes "end") (last_arm (code_of (y ∷ ys)) taken other)))
    (else_onto y (code_of ys) (closing_line depth (codes "else") taken) second)
    ∙ ap (λ ns. first ++ ((closing_line depth (codes "else") taken ++ second) ++ closing_line depth (codes "end") ns)) (last_onto y (code_of ys) taken other)

pub counted_next : {E : Type 0} (r : Result ℕ E) (a b : ℕ) → a ≡ b → IfOk r (λ next. next ≡ a) → IfOk r (λ next. next ≡ b)
counted_next (Ok x) a b same h = h ∙ same
counted_next (Err e) a b same h = tt

four : (old a b c d first second third fourth : List ℕ) → first ≡ old ++ a → second ≡ first ++ b → third ≡ second ++ c → fourth ≡ third ++ d
    → fourth ≡ old ++ (a ++ ((b ++ c) ++ d))
four old a b c d first second third fourth f s t u =
    u ∙ ap (λ l. l ++ d) (t ∙ ap (λ l. l ++ c) (s ∙ ap (λ l. l ++ b) f)) ∙ ap (λ l. l ++ d) (append_assoc (old ++ a) b c)
    ∙ append_assoc (old ++ a) (b ++ c) d ∙ append_assoc old a ((b ++ c) ++ d)

pub arms_made : (K : Told) (depth p : ℕ) (x : Code) (ys : List Instr) (old first second third fourth : List ℕ) (taken other : List Node) (at : ℕ)
    → false ≡ (length ys == 0) → first ≡ old ++ lines K (depth + 1) x (p + 1) → taken ≡ ended_by K (Join p) x (p + 1) → at ≡ p + 1 + count x
    → second ≡ first ++ closing_line depth (codes "else") taken → third ≡ second ++ lines K (depth + 1) (code_of ys) at
    → other ≡ ended_by K (Join p) (code_of ys) at → fourth ≡ third ++ closing_line depth (codes "end") other
    → fourth ≡ old ++ arms_lines K depth x (code_of ys) p
arms_made K depth p x ys old first second third fourth taken other at some f took place s t last u =
    four old _ _ _ _ first second third fourth f
    (s ∙ ap (λ ns. first ++ closing_line depth (codes "else") ns) took)
    (t ∙ ap (λ n. second ++ lines K (depth + 1) (code_of ys) n) place)
    (u ∙ ap (λ ns. third ++ closing_line depth (codes "end") ns) (last ∙ ap (λ n. ended_by K (Join p) (code_of ys) n) place))
    ∙ ap (λ l. old ++ l) (sym (arms_some K depth p x ys some))
