-- Steps of the writer of instructions.
use Rattle.std.proofs.Common.{◌≡◌, ℕ, ◌+◌, ◌<◌, ◌^◌, ◌==◌, ◌||◌, Bool, true, false, List, [], ◌∷◌, ◌++◌, length, Option, refl, sym, ap, subst, ◌∙◌, append_assoc, arith, rules, OnOk, Result, Ok, Err, length-append}
use Rattle.std.specs.Prelude.{if◌then◌else◌}
use Rattle.std.proofs.lemmas.List.{append-nil}
use Rattle.wasm_types.specs.declared.instr.MemArg.{MemArg}
use Rattle.wasm_types.specs.declared.instr.FloatInstr.TheVariants as float
use Rattle.wasm_types.specs.declared.module.ValType.{ValType}
use Rattle.wasm_types.specs.declared.instr.Instr.{Instr, Block', Loop', If'}
use Rattle.wasm_types.specs.declared.instr.Instr.TheVariants.{Block, Loop, If}
use Rattle.wasm_types.specs.declared.instr.Instr.TheViews.{the_lemmas}
use Rattle.wasm_types.specs.Code.{Code, done, block, repeat, branch, onto, code_of_row, code_of, is_plain, count}
use Rattle.wasm_types.specs.Types.{kind_byte}
use Rattle.wasm_types.specs.Plain.{Immediates, nothing, address, never, opcode, immediates, float_plain, float_immediates}
use Rattle.wasm_types.specs.Canon.{canon_plain, else_part, canon_code}
use Rattle.wasm_types.specs.WellFormed.{ProperImmediates, ProperCode}
use Rattle.wasm_types.proofs.CodeLemmas.{onto-block, onto-loop, onto-if, onto-one}
use Rattle.text_laws.proofs.CanonLemmas.{else_long}

-- ---- the steps of the writer

pub immediates-block : (k : Option ValType) (xs : List Instr) → immediates (Block k xs) ≡ never
immediates-block k xs = search (rules, the_lemmas)

pub immediates-loop : (k : Option ValType) (xs : List Instr) → immediates (Loop k xs) ≡ never
immediates-loop k xs = search (rules, the_lemmas)

pub immediates-if : (k : Option ValType) (xs ys : List Instr) → immediates (If k xs ys) ≡ never
immediates-if k xs ys = search (rules, the_lemmas)

where_true : (b : Bool) (t : Immediates) → ProperImmediates (if b then t else never) → (if b then t else never) ≡ t
where_true true t h = refl
where_true false t h = absurd h

pub proper-load : (n : ℕ) (m : MemArg) → ProperImmediates (float_immediates (float.Load n m)) → float_immediates (float.Load n m) ≡ address m.align m.offset
proper-load n m h = where_true ((n == 0x2A) || (n == 0x2B)) (address m.align m.offset) h

pub proper-store : (n : ℕ) (m : MemArg) → ProperImmediates (float_immediates (float.Store n m)) → float_immediates (float.Store n m) ≡ address m.align m.offset
proper-store n m h = where_true ((n == 0x38) || (n == 0x39)) (address m.align m.offset) h

pub proper-plain : (n : ℕ) → ProperImmediates (float_immediates (float.Plain n)) → float_immediates (float.Plain n) ≡ nothing
proper-plain n h = where_true (float_plain n) nothing h

pub ruleset immediates_steps = (immediates-block, immediates-loop, immediates-if, proper-load, proper-store, proper-plain)

-- a piece before what is still to come
pub piece : (all old new part rest more : List ℕ) → old ++ more ≡ all → more ≡ part ++ rest → new ≡ old ++ part → new ++ rest ≡ all
piece all old new part rest more so_far is put =
    ap (λ (l : List ℕ). l ++ rest) put ∙ append_assoc old part rest ∙ ap (λ (l : List ℕ). old ++ l) (sym is) ∙ so_far

-- ---- sequences

pub canon-onto : (i : Instr) (rest : Code) → canon_code (onto i rest) ≡ canon_code (onto i done) ++ canon_code rest
unfolding onto code_of_row
canon-onto (Block' k m inner) rest =
    ap (λ (t : List ℕ). t ++ canon_code rest) (sym (append-nil (0x02 ∷ kind_byte k ∷ canon_code (code_of_row inner) ++ 0x0B ∷ [])))
canon-onto (Loop' k m inner) rest =
    ap (λ (t : List ℕ). t ++ canon_code rest) (sym (append-nil (0x03 ∷ kind_byte k ∷ canon_code (code_of_row inner) ++ 0x0B ∷ [])))
canon-onto (If' k m first n second) rest = ap (λ (t : List ℕ). t ++ canon_code rest) (sym (append-nil (0x04 ∷ kind_byte k ∷ canon_code (code_of_row first) ++ (else_part (canon_code (code_of_row second)) ++ 0x0B ∷ []))))
canon-onto i rest = ap (λ (t : List ℕ). t ++ canon_code rest) (sym (append-nil (canon_plain i)))

pub proper-onto : (i : Instr) (rest : Code) → ProperCode (onto i rest) → ProperCode (onto i done) × ProperCode rest
unfolding onto code_of_row
proper-onto (Block' k m inner) rest h = ((h.0, tt), h.1)
proper-onto (Loop' k m inner) rest h = ((h.0, tt), h.1)
proper-onto (If' k m first n second) rest h = ((h.0, h.1, tt), h.2)
proper-onto _ rest h = ((h.0, tt), h.1)

some_text : (c : Code) (i : Instr) → (b : ℕ) × (bs : List ℕ) × (canon_code (onto i c) ≡ b ∷ bs)
unfolding onto code_of_row
some_text c (Block' k m inner) = (_, _, refl)
some_text c (Loop' k m inner) = (_, _, refl)
some_text c (If' k m first n second) = (_, _, refl)
some_text c _ = (_, _, refl)

pub else-none : (xs : List Instr) → length xs ≡ 0 → else_part (canon_code (code_of xs)) ≡ []
else-none [] h = refl
else-none (x ∷ xs) h = absurd (omega arith)

pub else-some : (xs : List Instr) → false ≡ (length xs == 0) → else_part (canon_code (code_of xs)) ≡ 0x05 ∷ canon_code (code_of xs)
else-some [] h = absurd cc
else-some (x ∷ xs) h = let s = some_text (code_of xs) x in rw s.2 refl

pub ruleset else_steps = (else-none, else-some)

pub finish : {T E : Type 0} (r : Result T E) (new old a b : List ℕ) → a ≡ b → OnOk r (new ≡ old ++ a) → OnOk r (new ≡ old ++ b)
finish (Ok x) new old a b e h = h ∙ ap (λ (t : List ℕ). old ++ t) e
finish (Err x) new old a b e h = tt

pub block_text : (i : Instr) (k : Option ValType) (xs ys : List Instr) → i ≡ Block k xs → ys ≡ xs
    → (0x02 ∷ kind_byte k ∷ canon_code (code_of ys) ++ 0x0B ∷ []) ≡ canon_code (onto i done)
block_text i k xs ys e f = ap (λ (zs : List Instr). 0x02 ∷ kind_byte k ∷ canon_code (code_of zs) ++ 0x0B ∷ []) f ∙ sym (append-nil (0x02 ∷ kind_byte k ∷ canon_code (code_of xs) ++ 0x0B ∷ [])) ∙ ap canon_code (sym (onto-block k xs done)) ∙ ap (λ (j : Instr). canon_code (onto j done)) (sym e)

pub loop_text : (i : Instr) (k : Option ValType) (xs ys : List Instr) → i ≡ Loop k xs → ys ≡ xs
    → (0x03 ∷ kind_byte k ∷ canon_code (code_of ys) ++ 0x0B ∷ []) ≡ canon_code (onto i done)
loop_text i k xs ys e f = ap (λ (zs : List Instr). 0x03 ∷ kind_byte k ∷ canon_code (code_of zs) ++ 0x0B ∷ []) f ∙ sym (append-nil (0x03 ∷ kind_byte k ∷ canon_code (code_of xs) ++ 0x0B ∷ [])) ∙ ap canon_code (sym (onto-loop k xs done)) ∙ ap (λ (j : Instr). canon_code (onto j done)) (sym e)

pub if_text : (i : Instr) (k : Option ValType) (xs ys us vs : List Instr) → i ≡ If k xs ys → us ≡ xs → vs ≡ ys
    → (0x04 ∷ kind_byte k ∷ canon_code (code_of us) ++ (else_part (canon_code (code_of vs)) ++ 0x0B ∷ [])) ≡ canon_code (onto i done)
if_text i k xs ys us vs e f g =
    ap (λ (zs : List Instr). 0x04 ∷ kind_byte k ∷ canon_code (code_of zs) ++ (else_part (canon_code (code_of vs)) ++ 0x0B ∷ [])) f
    ∙ ap (λ (zs : List Instr). 0x04 ∷ kind_byte k ∷ canon_code (code_of xs) ++ (else_part (canon_code (code_of zs)) ++ 0x0B ∷ [])) g
    ∙ sym (append-nil (0x04 ∷ kind_byte k ∷ canon_code (code_of xs) ++ (else_part (canon_code (code_of ys)) ++ 0x0B ∷ []))) ∙ ap canon_code (sym (onto-if k xs ys done)) ∙ ap (λ (j : Instr). canon_code (onto j done)) (sym e)

pub plain_text : (i : Instr) → is_plain i ≡ true → canon_plain i ≡ canon_code (onto i done)
plain_text i plain = sym (append-nil (canon_plain i)) ∙ ap canon_code (sym (onto-one i done plain))

pub plain_proper : (i : Instr) → is_plain i ≡ true → ProperCode (onto i done) → ProperImmediates (immediates i)
plain_proper i plain h = let g = subst ProperCode (onto-one i done plain) h in g.0

-- ---- parts are as short as the whole

pub rest_short : (i : Instr) (rest : Code) → length (canon_code (onto i rest)) < 2 ^ 32 → length (canon_code rest) < 2 ^ 32
rest_short i rest lt = omega (arith, lt, ap length (canon-onto i rest), length-append (canon_code (onto i done)) (canon_code rest))

pub head_short : (i : Instr) (rest : Code) → length (canon_code (onto i rest)) < 2 ^ 32 → length (canon_code (onto i done)) < 2 ^ 32
head_short i rest lt = omega (arith, lt, ap length (canon-onto i rest), length-append (canon_code (onto i done)) (canon_code rest))

pub plain_short : (i : Instr) → is_plain i ≡ true → length (canon_code (onto i done)) < 2 ^ 32 → length (canon_plain i) < 2 ^ 32
plain_short i plain lt = omega (arith, lt, ap length (plain_text i plain))

enclosed_short : (op k : ℕ) (inner all : List ℕ) → (op ∷ k ∷ inner ++ 0x0B ∷ []) ≡ all → length all < 2 ^ 32 → length inner < 2 ^ 32
enclosed_short op k inner all e lt = omega (arith, ap length e, length-append inner (0x0B ∷ []))

-- what stands in a block, a loop or an if is smaller than it, proper and short
pub record IsInside (i : Instr) (xs : List Instr) : Type 0 where
  pub smaller : count (code_of xs) < count (onto i done)
  pub proper : ProperCode (code_of xs)
  pub short : length (canon_code (code_of xs)) < 2 ^ 32

pub in_block : (i : Instr) (k : Option ValType) (xs ys : List Instr) → i ≡ Block k xs → ys ≡ xs → ProperCode (onto i done)
    → length (canon_code (onto i done)) < 2 ^ 32 → IsInside i ys
in_block i k xs ys e f h lt =
    let shown : onto i done ≡ block k (code_of ys) done = ap (λ (j : Instr). onto j done) e ∙ onto-block k xs done ∙ ap (λ (zs : List Instr). block k (code_of zs) done) (sym f) in
    record { smaller = omega (arith, ap count shown); proper = (subst ProperCode shown h).0; short = enclosed_short 0x02 (kind_byte k) (canon_code (code_of ys)) (canon_code (onto i done)) (block_text i k xs ys e f) lt }

pub in_loop : (i : Instr) (k : Option ValType) (xs ys : List Instr) → i ≡ Loop k xs → ys ≡ xs → ProperCode (onto i done)
    → length (canon_code (onto i done)) < 2 ^ 32 → IsInside i ys
in_loop i k xs ys e f h lt =
    let shown : onto i done ≡ repeat k (code_of ys) done = ap (λ (j : Instr). onto j done) e ∙ onto-loop k xs done ∙ ap (λ (zs : List Instr). repeat k (code_of zs) done) (sym f) in
    record { smaller = omega (arith, ap count shown); proper = (subst ProperCode shown h).0; short = enclosed_short 0x03 (kind_byte k) (canon_code (code_of ys)) (canon_code (onto i done)) (loop_text i k xs ys e f) lt }

pub record HasInside (i : Instr) (xs ys : List Instr) : Type 0 where
  pub smaller : count (code_of xs) + count (code_of ys) < count (onto i done)
  pub first : ProperCode (code_of xs)
  pub first_short : length (canon_code (code_of xs)) < 2 ^ 32
  pub second : ProperCode (code_of ys)
  pub second_short : length (canon_code (code_of ys)) < 2 ^ 32

first_of_arms : (k : ℕ) (first second all : List ℕ) → (0x04 ∷ k ∷ first ++ (else_part second ++ 0x0B ∷ [])) ≡ all → length all < 2 ^ 32 → length first < 2 ^ 32
first_of_arms k first second all e lt = omega (arith, ap length e, length-append first (else_part second ++ 0x0B ∷ []))

second_of_arms : (k : ℕ) (first second all : List ℕ) → (0x04 ∷ k ∷ first ++ (else_part second ++ 0x0B ∷ [])) ≡ all → length all < 2 ^ 32
    → length second < 2 ^ 32
second_of_arms k first second all e lt =
    omega (arith, ap length e, length-append first (else_part second ++ 0x0B ∷ []), length-append (else_part second) (0x0B ∷ []), else_long second)

pub in_if : (i : Instr) (k : Option ValType) (xs ys us vs : List Instr) → i ≡ If k xs ys → us ≡ xs → vs ≡ ys → ProperCode (onto i done)
    → length (canon_code (onto i done)) < 2 ^ 32 → HasInside i us vs
in_if i k xs ys us vs e f g h lt =
    let shown : onto i done ≡ branch k (code_of us) (code_of vs) done =
    ap (λ (j : Instr). onto j done) e ∙ onto-if k xs ys done ∙ ap (λ (zs : List Instr). branch k (code_of zs) (code_of ys) done) (sym f) ∙ ap (λ (zs : List Instr). branch k (code_of us) (code_of zs) done) (sym g) in
    let arms = subst ProperCode shown h in
    let text = if_text i k xs ys us vs e f g in
    record {
      smaller = omega (arith, ap count shown);
      first = arms.0;
      first_short = first_of_arms (kind_byte k) (canon_code (code_of us)) (canon_code (code_of vs)) (canon_code (onto i done)) text lt;
      second = arms.1;
      second_short = second_of_arms (kind_byte k) (canon_code (code_of us)) (canon_code (code_of vs)) (canon_code (onto i done)) text lt;
    }

pub one_more_byte : {T E : Type 0} (r : Result T E) (new mid old all rest : List ℕ) (b : ℕ) → mid ≡ old ++ b ∷ [] → all ≡ b ∷ rest
    → OnOk r (new ≡ mid ++ rest) → OnOk r (new ≡ old ++ all)
one_more_byte (Ok x) new mid old all rest b p q h =
    h ∙ ap (λ (l : List ℕ). l ++ rest) p ∙ append_assoc old (b ∷ []) rest ∙ ap (λ (l : List ℕ). old ++ l) (sym q)
one_more_byte (Err e) new mid old all rest b p q h = tt
