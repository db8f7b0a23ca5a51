-- The module of a number is valid, small and short.
use Rattle.std.proofs.Common.{◌≡◌, ℕ, zero, suc, ◌+◌, ◌-◌, ◌*◌, ◌/◌, ◌%◌, ◌<◌, ◌≤◌, ◌^◌, ◌==◌, if◌then◌else◌, Bool, true, false, List, [], ◌∷◌, ◌++◌, Some, None, length, replicate, get_or, slice_get, refl, sym, ap, ◌∙◌, subst, arith, ◌⊎◌, inl, inr, length-append, append_assoc, mul-le-mul_left}
use Rattle.std.specs.Prelude.{All}
use Rattle.std.proofs.lemmas.List.Elements.{All-nil, All-cons, All-push, All-replicate}
use Rattle.std.proofs.lemmas.List.{get_or-replicate}
use Rattle.std.proofs.lemmas.Option.{slice_get_within, slice_get-get_or}
use Rattle.std.proofs.lemmas.Bool.Decides.{nat_tests}
use Rattle.std.proofs.Math.ListN.{get_or-append, length-replicate}
use Rattle.std.proofs.Math.Seq.{get_or-append_seam}
use Rattle.wasm_types.specs.declared.module.ValType.TheVariants.{I32}
use Rattle.wasm_types.specs.declared.module.FuncType.{FuncType}
use Rattle.wasm_types.specs.declared.module.Limits.{Limits}
use Rattle.wasm_types.specs.declared.module.GlobalDef.{GlobalDef}
use Rattle.wasm_types.specs.declared.module.LocalRun.{LocalRun}
use Rattle.wasm_types.specs.declared.module.Body.{Body}
use Rattle.wasm_types.specs.declared.place.Part.{Part}
use Rattle.wasm_types.specs.declared.place.Part.TheVariants as part
use Rattle.wasm_types.specs.declared.place.LimitKind.{LimitKind}
use Rattle.wasm_types.specs.declared.place.LimitKind.TheVariants as limit
use Rattle.wasm_types.specs.declared.instr.Instr.{Instr, I32Const, LocalSet}
use Rattle.wasm_types.specs.declared.instr.Instr.TheVariants.{Loop}
use Rattle.wasm_types.specs.Code.{Code, done, one, block, repeat, onto, code_of, count, nest}
use Rattle.wasm_types.specs.Numbers.{shortest_unsigned, shortest_u32, shortest_signed, shortest_s32}
use Rattle.wasm_types.specs.Sections.{local_count}
use Rattle.wasm_types.specs.Sizes.{positions}
use Rattle.wasm_types.specs.Canon.{canon_func_type, canon_limits, canon_global, canon_run, canon_each, canon_counted, canon_code, canon_instrs, canon_body, canon_entry, canon_list, canon}
use Rattle.wasm_types.specs.WellFormed.{IsU32, ProperImport, ProperLimits, ProperGlobal, ProperExport, ProperElem, ProperCode, ProperBody, ProperSegment, IsWellFormed}
use Rattle.wasm_types.specs.Spaces.{type_numbered, type_of_func, globals_of, mems_of, IsOwnFunc, HasBody}
use Rattle.wasm_types.specs.Typing.{Context}
use Rattle.wasm_types.specs.Validity.{Leads, LimitsHold, LimitsWithin, GlobalHolds, IsValidBody, Holds}
use Rattle.wasm_types.specs.Subset.{IsInteger, IsIntegerCode, IsIntegerBody, IsIntegerGlobal, HasNoFloat, most_read, most_answered, WithinLimits, NestsAtMost, most_nesting, IsSealed}
use Rattle.wasm_types.proofs.CodeLemmas.{length-flatten, onto-block, onto-loop}
use Rattle.text_laws.proofs.LeastLemmas.{canon_lengths}
use Rattle.text_laws.proofs.SizeLemmas.{has_at_most}
use Rattle.module_mill.specs.Mill.{below, func_type, counter, adds, stores, lap, counts, work, call, calls, sum, code, body, mill}

-- ---- what stands at the numbers below n

some_same : {A : Type 0} {x y : A} → Some x ≡ Some y → x ≡ y
some_same e = cc

pub length-below : {A : Type 0} (f : ℕ → A) (n : ℕ) → length (below f n) ≡ n
length-below f zero = refl
length-below f (suc n) = omega (arith, length-append (below f n) (f n ∷ []), length-below f n)

below_or_last : (k n : ℕ) → k < suc n → (k < n) ⊎ (k ≡ n)
below_or_last zero zero lt = inr refl
below_or_last zero (suc n) lt = inl (omega arith)
below_or_last (suc k) zero lt = absurd (omega arith)
below_or_last (suc k) (suc n) lt = elim (below_or_last k n (omega arith)) [ inl h ↦ inl (omega arith) | inr e ↦ inr (ap suc e) ]

pub get_below : {A : Type 0} (f : ℕ → A) (n k : ℕ) (d : A) → k < n → get_or (below f n) k d ≡ f k
get_below f zero k d lt = absurd (omega arith)
get_below f (suc n) k d lt = elim (below_or_last k n lt) [
  | inl h ↦ get_or-append (below f n) (f n ∷ []) d k (omega (arith, length-below f n)) ∙ get_below f n k d h
  | inr e ↦ ap (λ i. get_or (below f n ++ f n ∷ []) i d) (e ∙ sym (length-below f n)) ∙ get_or-append_seam (below f n) (f n) [] d ∙ ap f (sym e)
]

pub at_below : {A : Type 0} (f : ℕ → A) (n k : ℕ) → k < n → slice_get (below f n) k ≡ Some (f k)
at_below f n k lt = slice_get-get_or (below f n) k (f k) (omega (arith, length-below f n)) ∙ ap Some (get_below f n k (f k) lt)

-- what is found among them
in_below : {A : Type 0} (f : ℕ → A) (n k : ℕ) (x : A) → slice_get (below f n) k ≡ Some x → (k < n) × (f k ≡ x)
in_below f n k x e =
    let lt : k < n = omega (arith, slice_get_within (below f n) k x e, length-below f n) in
    (lt, some_same (sym (at_below f n k lt) ∙ e))

all_below : {A : Type 0} (P : A → Type 0) (f : ℕ → A) (n : ℕ) → ((k : ℕ) → k < n → P (f k)) → All P (below f n)
all_below P f zero h = All-nil P
all_below P f (suc n) h = All-push P (below f n) (f n) (all_below P f n (λ k lt. h k (omega arith))) (h n (omega arith))

-- the same of a list that repeats one
at_replicate : {A : Type 0} (n k : ℕ) (x : A) → k < n → slice_get (replicate n x) k ≡ Some x
at_replicate n k x lt = slice_get-get_or (replicate n x) k x (omega (arith, length-replicate n x)) ∙ ap Some (get_or-replicate n k x x lt)

in_replicate : {A : Type 0} (n k : ℕ) (x y : A) → slice_get (replicate n x) k ≡ Some y → (k < n) × (x ≡ y)
in_replicate n k x y e =
    let lt : k < n = omega (arith, slice_get_within (replicate n x) k y e, length-replicate n x) in
    (lt, some_same (sym (at_replicate n k x lt) ∙ e))

-- ---- code

either : {A : Type 0} (P : A → Type 0) (b : Bool) (x y : A) → P x → P y → P (if b then x else y)
either P true x y h g = h
either P false x y h g = g

-- the counting as a tree
abbrev pub counting : ℕ → Code → Code
counting k rest = one (I32Const k) (one (LocalSet 2) (block None (repeat None (code_of lap) done) rest))

counts_code : (k : ℕ) (rest : List Instr) → counting k (code_of rest) ≡ code_of (counts k ++ rest)
unfolding onto
counts_code k rest =
    sym (ap (λ (c : Code). one (I32Const k) (one (LocalSet 2) c))
    (onto-block None (Loop None lap ∷ []) (code_of rest) ∙ ap (λ (c : Code). block None c (code_of rest)) (onto-loop None lap done)))

-- What holds of the code of each function: P is about its last part, Q about what follows its own work, R about all.
module _ (n : ℕ) (P Q R : Code → Type 0) (start : P (code_of sum)) (keep : (c : Code) → P c → Q c)
    (from_call : (j : ℕ) (rest : List Instr) → j < n → P (code_of rest) → Q (code_of (call j ++ rest)))
    (from_adds : (c : ℕ) (rest : List Instr) → c < 4 → Q (code_of rest) → R (code_of (adds c ++ rest)))
    (from_stores : (rest : List Instr) → Q (code_of rest) → R (code_of (stores ++ rest)))
    (from_counts : (k : ℕ) (rest : Code) → k < n → Q rest → R (counting k rest)) where
  from_calls : (k : ℕ) → k < n → Q (code_of (calls k ++ sum))
  from_calls k lt =
      either (λ (is : List Instr). Q (code_of (is ++ sum))) (k == 0) [] (call (k - 1)) (keep (code_of sum) start) (from_call (k - 1) sum (omega arith) start)

  from_work : (k : ℕ) (rest : List Instr) → k < n → Q (code_of rest) → R (code_of (work k ++ rest))
  from_work k rest lt h =
      let Rest : List Instr → Type 0 = λ is. R (code_of (is ++ rest)) in
      either Rest (k % 3 == 0) (adds (k % 4)) (if k % 3 == 1 then stores else counts k) (from_adds (k % 4) rest (omega arith) h)
      (either Rest (k % 3 == 1) stores (counts k) (from_stores rest h) (subst R (counts_code k rest) (from_counts k (code_of rest) lt h)))

  pub of_code : (k : ℕ) → k < n → R (code_of (code k))
  of_code k lt = subst (λ (is : List Instr). R (code_of is)) (sym (append_assoc (work k) (calls k) sum)) (from_work k (calls k ++ sum) lt (from_calls k lt))

-- ---- types

module _ (n : ℕ) where
  abbrev context : Context
  context = record { inside = mill n; locals = I32 ∷ I32 ∷ I32 ∷ []; result = I32 ∷ [] }

  abbrev Typed : Code → Type 0
  Typed c = Leads context ((I32 ∷ []) ∷ []) c [] (I32 ∷ [])

  global_at : (c : ℕ) → c < 4 → slice_get (globals_of (mill n)) c ≡ Some (record { kind = I32; mutable = true })
  global_at zero lt = refl
  global_at (suc zero) lt = refl
  global_at (suc (suc zero)) lt = refl
  global_at (suc (suc (suc zero))) lt = refl
  global_at (suc (suc (suc (suc c)))) lt = absurd (omega arith)

  pub type_at : (j : ℕ) → j < n → type_of_func (mill n) j ≡ Some func_type
  type_at j lt = ap (type_numbered (func_type ∷ [])) (at_replicate n j 0 lt)

  sum_typed : Typed (code_of sum)
  unfolding onto
  sum_typed = (
    I32 ∷ [],
    ([], I32 ∷ [], [], (I32, refl, (refl, refl)), refl, refl),
    (
      I32 ∷ I32 ∷ [],
      ([], I32 ∷ [], I32 ∷ [], (I32, refl, (refl, refl)), refl, refl),
      (I32 ∷ [], (I32 ∷ I32 ∷ [], I32 ∷ [], [], (refl, refl), refl, refl), refl),
    ),
  )

  call_typed : (j : ℕ) (rest : List Instr) → j < n → Typed (code_of rest) → Typed (code_of (call j ++ rest))
  unfolding onto
  call_typed j rest lt h = (
    I32 ∷ [],
    ([], I32 ∷ [], [], (I32, refl, (refl, refl)), refl, refl),
    (
      I32 ∷ I32 ∷ [],
      ([], I32 ∷ [], I32 ∷ [], (I32, refl, (refl, refl)), refl, refl),
      (
        I32 ∷ [],
        (I32 ∷ I32 ∷ [], I32 ∷ [], [], (func_type, type_at j lt, (refl, refl)), refl, refl),
        ([], (I32 ∷ [], [], [], (I32, refl, (refl, refl)), refl, refl), h),
      ),
    ),
  )

  adds_typed : (c : ℕ) (rest : List Instr) → c < 4 → Typed (code_of rest) → Typed (code_of (adds c ++ rest))
  unfolding onto
  adds_typed c rest lt h = (
    I32 ∷ [],
    ([], I32 ∷ [], [], (record { kind = I32; mutable = true }, global_at c lt, (refl, refl)), refl, refl),
    (
      I32 ∷ I32 ∷ [],
      ([], I32 ∷ [], I32 ∷ [], (I32, refl, (refl, refl)), refl, refl),
      (
        I32 ∷ [],
        (I32 ∷ I32 ∷ [], I32 ∷ [], [], (refl, refl), refl, refl),
        ([], (I32 ∷ [], [], [], (record { kind = I32; mutable = true }, global_at c lt, refl, (refl, refl)), refl, refl), h),
      ),
    ),
  )

  has_memory : mems_of (mill n) ≡ [] → ⊥
  has_memory e = cc

  stores_typed : (rest : List Instr) → Typed (code_of rest) → Typed (code_of (stores ++ rest))
  unfolding onto
  stores_typed rest h = (
    I32 ∷ [],
    ([], I32 ∷ [], [], (I32, refl, (refl, refl)), refl, refl),
    (
      I32 ∷ I32 ∷ [],
      ([], I32 ∷ [], I32 ∷ [], (refl, refl), refl, refl),
      (
        I32 ∷ [],
        (I32 ∷ I32 ∷ [], I32 ∷ [], [], (refl, refl), refl, refl),
        (
          I32 ∷ I32 ∷ [],
          ([], I32 ∷ [], I32 ∷ [], (I32, refl, (refl, refl)), refl, refl),
          ([], (I32 ∷ I32 ∷ [], [], [], ((has_memory, omega arith), (refl, refl)), refl, refl), h),
        ),
      ),
    ),
  )

  lap_typed : Leads context ([] ∷ [] ∷ (I32 ∷ []) ∷ []) (code_of lap) [] []
  unfolding onto
  lap_typed = (
    I32 ∷ [],
    ([], I32 ∷ [], [], (I32, refl, (refl, refl)), refl, refl),
    (
      I32 ∷ [],
      (I32 ∷ [], I32 ∷ [], [], (refl, refl), refl, refl),
      (
        [],
        ([], [], refl, refl, refl),
        (
          I32 ∷ [],
          ([], I32 ∷ [], [], (I32, refl, (refl, refl)), refl, refl),
          (
            I32 ∷ I32 ∷ [],
            ([], I32 ∷ [], I32 ∷ [], (refl, refl), refl, refl),
            (
              I32 ∷ [],
              (I32 ∷ I32 ∷ [], I32 ∷ [], [], (refl, refl), refl, refl),
              (
                [],
                (I32 ∷ [], [], [], (I32, refl, (refl, refl)), refl, refl),
                ([], ([], [], refl, refl), refl),
              ),
            ),
          ),
        ),
      ),
    ),
  )

  counts_typed : (k : ℕ) (rest : Code) → k < n → Typed rest → Typed (counting k rest)
  unfolding onto
  counts_typed k rest lt h = (
    I32 ∷ [],
    ([], I32 ∷ [], [], (refl, refl), refl, refl),
    (
      [],
      (I32 ∷ [], [], [], (I32, refl, (refl, refl)), refl, refl),
      ((lap_typed, refl), h),
    ),
  )

  valid_body : (k : ℕ) → k < n → IsValidBody (mill n) func_type (body k)
  valid_body k lt = of_code n Typed Typed Typed sum_typed (λ c h. h) call_typed adds_typed stores_typed counts_typed k lt

-- ---- the sizes of numbers and lists

short_unsigned : (more n : ℕ) → length (shortest_unsigned more n) ≤ more + 1
unfolding shortest_unsigned
short_unsigned zero n = omega arith
short_unsigned (suc more) n = let h = short_unsigned more (n / 128) in grind (arith, nat_tests)

short_u32 : (n : ℕ) → length (shortest_u32 n) ≤ 5
short_u32 n = short_unsigned 4 n

short_signed : (more half n : ℕ) → length (shortest_signed more half n) ≤ more + 1
unfolding shortest_signed
short_signed zero half n = grind (arith, nat_tests)
short_signed (suc more) half n = let h = short_signed more (half / 128) (n / 128) in grind (arith, nat_tests)

short_s32 : (n : ℕ) → length (shortest_s32 n) ≤ 5
short_s32 n = short_signed 4 2147483648 n

short_list : {A : Type 0} (id : ℕ) (f : A → List ℕ) (xs : List A) → length (canon_list id f xs) ≤ 11 + length (canon_each f xs)
short_list id f [] = omega arith
short_list id f (x ∷ xs) =
    let contents : List ℕ = canon_counted f (x ∷ xs) in
    omega (arith, length-append (shortest_u32 (length contents)) contents, short_u32 (length contents), length-append (shortest_u32 (length (x ∷ xs))) (canon_each f (x ∷ xs)), short_u32 (length (x ∷ xs)))

each_append : {A : Type 0} (f : A → List ℕ) (xs : List A) (x : A) → length (canon_each f (xs ++ x ∷ [])) ≡ length (canon_each f xs) + length (f x)
each_append f [] x = omega (arith, length-append (f x) [])
each_append f (y ∷ xs) x = omega (arith, each_append f xs x, length-append (f y) (canon_each f xs), length-append (f y) (canon_each f (xs ++ x ∷ [])))

each_replicate : {A : Type 0} (f : A → List ℕ) (n : ℕ) (x : A) → length (canon_each f (replicate n x)) ≡ n * length (f x)
each_replicate f zero x = omega arith
each_replicate f (suc n) x = omega (arith, each_replicate f n x, length-append (f x) (canon_each f (replicate n x)))

each_short : {A : Type 0} (f : A → List ℕ) (g : ℕ → A) (most n : ℕ) → ((k : ℕ) → k < n → length (f (g k)) ≤ most) → length (canon_each f (below g n)) ≤ n * most
each_short f g most zero h = omega arith
each_short f g most (suc n) h =
    let before = each_short f g most n (λ k lt. h k (omega arith)) in
    omega (arith, before, each_append f (below g n) (g n), h n (omega arith))

-- ---- one function

module _ (n : ℕ) (few : n ≤ 2000) where
  proper_code : (k : ℕ) → k < n → ProperCode (code_of (code k))
  unfolding onto
  proper_code k lt =
      of_code n ProperCode ProperCode ProperCode (omega arith, (omega arith, (tt, tt))) (λ c h. h)
      (λ j rest lt h. (omega arith, (omega arith, (omega arith, (omega arith, h))))) (λ c rest lt h. (omega arith, (omega arith, (tt, (omega arith, h)))))
      (λ rest h. (omega arith, (omega arith, (tt, (omega arith, ((omega arith, omega arith), h))))))
      (λ k rest lt h. (omega arith, (omega arith, (((omega arith, (tt, (omega arith, (omega arith, (omega arith, (tt, (omega arith, (omega arith, tt)))))))), tt), h)))) k lt

  integer_code : (k : ℕ) → k < n → IsIntegerCode (code_of (code k))
  unfolding onto
  integer_code k lt =
      of_code n IsIntegerCode IsIntegerCode IsIntegerCode (tt, (tt, (tt, tt))) (λ c h. h)
      (λ j rest lt h. (tt, (tt, (tt, (tt, h))))) (λ c rest lt h. (tt, (tt, (tt, (tt, h)))))
      (λ rest h. (tt, (tt, (tt, (tt, (tt, h))))))
      (λ k rest lt h. (tt, (tt, (tt, (tt, (tt, (tt, (tt, (tt, (tt, (tt, (tt, (tt, tt)))))))), tt), h)))) k lt

  abbrev Nests : Code → Type 0
  Nests c = nest c ≤ 2

  nests : (k : ℕ) → k < n → Nests (code_of (code k))
  unfolding onto
  nests k lt = of_code n Nests Nests Nests (omega arith) (λ c h. h) (λ j rest lt h. h) (λ c rest lt h. h) (λ rest h. h) (λ k rest lt h. grind arith) k lt

  abbrev Counts : ℕ → Code → Type 0
  Counts most c = count c ≤ most

  few_positions : (k : ℕ) → k < n → positions (code k) ≤ 19
  unfolding onto
  few_positions k lt =
      let most : count (code_of (code k)) ≤ 19 =
      of_code n (Counts 3) (Counts 7) (Counts 19) (omega arith) (λ c h. omega arith) (λ j rest lt h. omega arith) (λ c rest lt h. omega arith) (λ rest h. omega arith)
      (λ k rest lt h. omega arith) k lt
      in
      omega (arith, most, length-flatten (code_of (code k)))

  abbrev Takes : ℕ → Code → Type 0
  Takes most c = length (canon_code c) ≤ most

  sum_short : Takes 13 (code_of sum)
  unfolding onto
  sum_short = simp length-append (omega (arith, short_u32))

  call_short : (j : ℕ) (rest : List Instr) → j < n → Takes 13 (code_of rest) → Takes 37 (code_of (call j ++ rest))
  unfolding onto
  call_short j rest lt h = simp length-append (omega (arith, short_u32, h))

  adds_short : (c : ℕ) (rest : List Instr) → c < 4 → Takes 37 (code_of rest) → Takes 93 (code_of (adds c ++ rest))
  unfolding onto
  adds_short c rest lt h = simp length-append (omega (arith, short_u32, h))

  stores_short : (rest : List Instr) → Takes 37 (code_of rest) → Takes 93 (code_of (stores ++ rest))
  unfolding onto
  stores_short rest h = simp length-append (omega (arith, short_u32, short_s32, h))

  counts_short : (k : ℕ) (rest : Code) → k < n → Takes 37 rest → Takes 93 (counting k rest)
  unfolding onto
  counts_short k rest lt h = simp length-append (omega (arith, short_u32, short_s32, h))

  short_code : (k : ℕ) → k < n → Takes 93 (code_of (code k))
  short_code k lt = of_code n (Takes 13) (Takes 37) (Takes 93) sum_short (λ c h. omega arith) call_short adds_short stores_short counts_short k lt

  short_body : (k : ℕ) → k < n → length (canon_entry (body k)) ≤ 110
  short_body k lt =
      let whole_code = short_code k lt in
      let locals : length (canon_counted canon_run (body k).locals) ≤ 11 = simp length-append (omega (arith, short_u32)) in
      let whole : length (canon_body (body k)) ≤ 105 = omega (arith, locals, whole_code, length-append (canon_counted canon_run (body k).locals) (canon_instrs (code k)), length-append (canon_code (code_of (code k))) (0x0B ∷ [])) in
      omega (arith, whole, length-append (shortest_u32 (length (canon_body (body k)))) (canon_body (body k)), short_u32 (length (canon_body (body k))))

  -- ---- the module

  proper_body : (k : ℕ) → k < n → ProperBody (body k)
  proper_body k lt =
      (All-cons (λ (r : LocalRun). IsU32 r.count) (record { count = 1; kind = I32 }) [] (omega arith) (All-nil (λ (r : LocalRun). IsU32 r.count)), omega arith, proper_code k lt)

  proper_counter : ProperGlobal counter
  unfolding onto
  proper_counter = (omega arith, tt)

  well_formed : IsWellFormed (mill n)
  well_formed = record {
    imports = All-nil ProperImport;
    funcs = All-replicate IsU32 n 0 (omega arith);
    tables = All-nil ProperLimits;
    mems = All-cons ProperLimits (record { min = 1; max = None }) [] (omega arith, tt) (All-nil ProperLimits);
    globals = All-replicate ProperGlobal 4 counter proper_counter;
    exports = All-nil ProperExport;
    start = tt;
    elems = All-nil ProperElem;
    bodies = all_below ProperBody body n proper_body;
    segments = All-nil ProperSegment;
    names = tt;
    same = length-replicate n 0 ∙ sym (length-below body n);
  }

  own_type : (f t : ℕ) → IsOwnFunc (mill n) f t → t < 1
  own_type f t own = let is = (in_replicate n (f - 0) 0 t own.1).1 in omega (arith, is)

  own_body : (f : ℕ) (F : FuncType) (b : Body) → type_of_func (mill n) f ≡ Some F → HasBody (mill n) f b → IsValidBody (mill n) F b
  own_body f F b at has =
      let inside = in_below body n (f - 0) b has.1 in
      let lt : f < n = omega (arith, inside.0) in
      subst (λ (x : Body). IsValidBody (mill n) F x) inside.1 (
      subst (λ (x : FuncType). IsValidBody (mill n) x (body (f - 0))) (some_same (sym (type_at n f lt) ∙ at)) (valid_body n (f - 0) inside.0))

  own_global : (g : ℕ) (own : GlobalDef) → slice_get (replicate 4 counter) (g - 0) ≡ Some own → GlobalHolds (mill n) own
  own_global g own at = subst (GlobalHolds (mill n)) (in_replicate 4 (g - 0) counter own at).1 refl

  holds : (p : Part) → Holds (mill n) p
  holds (part.TypeAt zero) = omega arith
  holds (part.TypeAt (suc k)) = tt
  holds (part.ImportAt k) = tt
  holds (part.FuncTypeAt f) = own_type f
  holds part.TableAll = (omega arith, All-nil LimitsHold)
  holds part.MemoryAll = (omega arith, All-cons (LimitsWithin 65536) (record { min = 1; max = None }) [] (omega arith, tt) (All-nil (LimitsWithin 65536)))
  holds (part.GlobalAt g) = λ own le at. own_global g own at
  holds (part.FuncAt f) = own_body f
  holds (part.ExportAt k) = tt
  holds part.StartAt = tt
  holds (part.ElemAt k) = tt
  holds (part.DataAt k) = tt

  integer_body : (f : ℕ) (b : Body) → HasBody (mill n) f b → IsIntegerBody b
  integer_body f b has =
      let inside = in_below body n (f - 0) b has.1 in
      subst IsIntegerBody inside.1 (All-cons (λ (r : LocalRun). IsInteger r.kind) (record { count = 1; kind = I32 }) [] tt (All-nil (λ (r : LocalRun). IsInteger r.kind)), integer_code (f - 0) inside.0)

  integer_counter : IsIntegerGlobal counter
  unfolding onto
  integer_counter = (tt, (tt, tt))

  no_float : HasNoFloat (mill n)
  no_float (part.TypeAt zero) = (All-cons IsInteger I32 (I32 ∷ []) tt (All-cons IsInteger I32 [] tt (All-nil IsInteger)), All-cons IsInteger I32 [] tt (All-nil IsInteger))
  no_float (part.TypeAt (suc k)) = tt
  no_float (part.ImportAt k) = tt
  no_float (part.GlobalAt g) = λ own le at. subst IsIntegerGlobal (in_replicate 4 (g - 0) counter own at).1 integer_counter
  no_float (part.FuncAt f) = integer_body f
  no_float (part.ElemAt k) = tt
  no_float (part.DataAt k) = tt
  no_float _ = tt

  few_params : (k : ℕ) (t : FuncType) → slice_get (func_type ∷ []) k ≡ Some t → length t.params ≤ 64
  few_params zero t at = subst (λ (x : FuncType). length x.params ≤ 64) (some_same at) (omega arith)
  few_params (suc k) t at = absurd cc

  pub within_limits : WithinLimits most_read (mill n)
  within_limits limit.Functions k number (first, is) = omega (arith, is, length-replicate {A = ℕ} n 0)
  within_limits limit.Params k number (t, at, is) = omega (arith, is, few_params k t at)
  within_limits limit.Globals k number (first, is) = omega (arith, is)
  within_limits limit.TableSize k number (l, at, is) = absurd cc
  within_limits limit.Locals k number (b, has, is) =
      let same = ap (λ (x : Body). local_count x.locals) (in_below body n (k - 0) b has.1).1 in
      omega (arith, is, same)
  within_limits limit.Positions k number (b, has, is) =
      let inside = in_below body n (k - 0) b has.1 in
      let same = ap (λ (x : Body). positions x.code) inside.1 in
      omega (arith, is, same, few_positions (k - 0) inside.0)

  answered : (which : LimitKind) → most_read which ≤ most_answered which
  answered limit.Functions = omega arith
  answered limit.Params = omega arith
  answered limit.Globals = omega arith
  answered limit.TableSize = omega arith
  answered limit.Locals = omega arith
  answered limit.Positions = omega arith

  counter_flat : nest (code_of counter.init) ≤ 1024
  unfolding onto
  counter_flat = omega arith

  nesting : NestsAtMost most_nesting (mill n)
  nesting = record {
    globals = All-replicate (λ (g : GlobalDef). nest (code_of g.init) ≤ 1024) 4 counter counter_flat;
    elems = All-nil _;
    bodies = all_below (λ (b : Body). nest (code_of b.code) ≤ 1024) body n (λ k lt. omega (arith, nests k lt));
    segments = All-nil _;
  }

  short_type : length (canon_each canon_func_type (func_type ∷ [])) ≤ 14
  short_type = simp length-append (omega (arith, short_u32))

  short_memory : (l : Limits) → l ≡ record { min = 1; max = None } → length (canon_each canon_limits (l ∷ [])) ≤ 6
  short_memory l e = subst (λ (x : Limits). length (canon_each canon_limits (x ∷ [])) ≤ 6) (sym e) (simp length-append (omega (arith, short_u32)))

  short_counter : length (canon_global counter) ≤ 9
  unfolding onto
  short_counter = simp length-append (omega (arith, short_s32))

  size : length (canon (mill n)) ≤ 200 + n * 115
  size =
      omega (
        arith,
        canon_lengths (mill n),
        short_list 1 canon_func_type (func_type ∷ []),
        short_type,
        short_list 3 shortest_u32 (replicate n 0),
        each_replicate shortest_u32 n 0,
        mul-le-mul_left n (short_u32 0),
        short_list 5 canon_limits (mill n).mems,
        short_memory (record { min = 1; max = None }) refl,
        short_list 6 canon_global (replicate 4 counter),
        each_replicate canon_global 4 counter,
        short_counter,
        short_list 10 canon_entry (below body n),
        each_short canon_entry body 110 n short_body,
      )

  pub short : length (canon (mill n)) < 2 ^ 28
  short = omega (arith, size)

  pub sealed : IsSealed (mill n)
  sealed = record {
    valid = (well_formed, holds);
    no_float = no_float;
    limits = λ which k number counted. omega (arith, within_limits which k number counted, answered which);
    nesting = nesting;
    entries = has_at_most (mill n) 0xFFFF_FFFF (omega (arith, size));
  }
