-- How long the canonical spelling of a cut is at most, and of a module with one function more.
use Rattle.std.proofs.Common.{◌≡◌, ℕ, zero, suc, ◌+◌, ◌*◌, ◌/◌, ◌≤◌, List, [], ◌∷◌, ◌++◌, Bool, true, false, Option, Some, None, take, drop, length, refl, ap, arith, length-append}
use Rattle.std.specs.List.{slice_get}
use Rattle.std.proofs.lemmas.Bool.Decides.{nat_tests}
use Rattle.wasm_types.specs.declared.module.ValType.{ValType}
use Rattle.wasm_types.specs.declared.module.ValType.TheVariants.{I32, I64, F32, F64}
use Rattle.wasm_types.specs.declared.module.LocalRun.{LocalRun}
use Rattle.wasm_types.specs.declared.module.Name.{Name}
use Rattle.wasm_types.specs.declared.module.ExportKind.TheVariants as export
use Rattle.wasm_types.specs.declared.module.Body.{Body}
use Rattle.wasm_types.specs.declared.module.Module.{Module}
use Rattle.wasm_types.specs.declared.instr.Instr.{Instr, Drop, I32Const, I64Const}
use Rattle.wasm_types.specs.declared.instr.Instr as instr
use Rattle.wasm_types.specs.Numbers.{shortest_unsigned, shortest_u32, shortest_signed}
use Rattle.wasm_types.specs.Code.{Code, done, one, block, repeat, branch, code_of}
use Rattle.wasm_types.specs.Marked.{Marked, End, Do, Block, Loop, If, Br, BrIf, BrTable, Return, Unreachable, marked, unmarked, size}
use Rattle.wasm_types.specs.Sections.{export_byte}
use Rattle.wasm_types.specs.Types.{kind_byte}
use Rattle.wasm_types.specs.Canon.{canon_each, canon_counted, canon_sized, canon_plain, else_part, canon_code, canon_instrs, canon_name, canon_export, canon_run, canon_body, canon_entry, canon_list, canon}
use Rattle.text_laws.proofs.LeastLemmas.{canon_lengths}
use Rattle.wasm_types.specs.Actions.{Callees, takes, leaves}
use Rattle.wasm_types.specs.Labels.{arity}
use Rattle.wasm_types.specs.declared.place.Node.{Node}
use Rattle.wasm_types.specs.Nodes.{At, Join, named, made}
use Rattle.flow_domain.specs.Cut.{pick, one_more, shown, zero_const, drops, zeros, filler, result_of, cut, cut_body}
use Rattle.flow_domain.specs.Sliced.{func_count, appended}
use Rattle.stack_repair.proofs.Counting.{unmarked-marked, shown-split, shown-named, more, more-few}

-- ---- code

abbrev bytes : Marked → ℕ
bytes c = length (canon_code (unmarked c))

bytes-one : (i : Instr) (rest : Code) → length (canon_code (one i rest)) ≡ length (canon_plain i) + length (canon_code rest)
bytes-one i rest = length-append (canon_plain i) (canon_code rest)

bytes-block : (kind : Option ValType) (inner rest : Code)
    → length (canon_code (block kind inner rest)) ≡ 3 + length (canon_code inner) + length (canon_code rest)
bytes-block kind inner rest =
    omega (arith, length-append (0x02 ∷ kind_byte kind ∷ canon_code inner ++ 0x0B ∷ []) (canon_code rest), length-append (canon_code inner) (0x0B ∷ []))

bytes-loop : (kind : Option ValType) (inner rest : Code)
    → length (canon_code (repeat kind inner rest)) ≡ 3 + length (canon_code inner) + length (canon_code rest)
bytes-loop kind inner rest =
    omega (arith, length-append (0x03 ∷ kind_byte kind ∷ canon_code inner ++ 0x0B ∷ []) (canon_code rest), length-append (canon_code inner) (0x0B ∷ []))

bytes-if : (kind : Option ValType) (x y rest : Code)
    → length (canon_code (branch kind x y rest)) ≡ 3 + length (canon_code x) + length (else_part (canon_code y)) + length (canon_code rest)
bytes-if kind x y rest =
    omega (arith, length-append (0x04 ∷ kind_byte kind ∷ canon_code x ++ (else_part (canon_code y) ++ 0x0B ∷ [])) (canon_code rest), length-append (canon_code x) (else_part (canon_code y) ++ 0x0B ∷ []), length-append (else_part (canon_code y)) (0x0B ∷ []))

-- an instruction without what follows it
bytes-lone : (i : Instr) (rest : Code) → length (canon_code (one i done)) ≤ length (canon_code (one i rest))
bytes-lone i rest = omega (arith, bytes-one i rest, bytes-one i done)

bytes-some : (i : Instr) (rest : Code) → 1 ≤ length (canon_code (one i rest))
bytes-some i rest = omega (arith, bytes-one i rest)

-- an arm that is empty stays empty
else_within : (xs ys : List ℕ) → length ys ≤ 3 * length xs → length (else_part ys) ≤ 3 * length (else_part xs)
else_within xs [] le = omega arith
else_within [] (y ∷ ys) le = absurd (omega arith)
else_within (x ∷ xs) (y ∷ ys) le = omega arith

zero_size : (t : ValType) → length (canon_plain (zero_const t)) ≡ 2
unfolding shortest_signed
zero_size I32 = refl
zero_size I64 = refl
zero_size F32 = refl
zero_size F64 = refl

bytes-zero : (t : ValType) (c : Marked) → bytes (Do false (zero_const t) c) ≡ 2 + bytes c
bytes-zero t c = omega (arith, bytes-one (zero_const t) (unmarked c), zero_size t)

bytes-drops : (n : ℕ) (c : Marked) → bytes (drops n c) ≡ n + bytes c
bytes-drops zero c = omega arith
bytes-drops (suc n) c = omega (arith, bytes-one Drop (unmarked (drops n c)), bytes-drops n c)

bytes-zeros : (t : Option ValType) → bytes (zeros t End) ≤ 2
bytes-zeros None = omega arith
bytes-zeros (Some t) = omega (arith, bytes-zero t End)

bytes-pick_zero : (b : Bool) (t : ValType) (c : Marked) → bytes (pick b (Do false (zero_const t) c) c) ≡ 2 * one_more b 0 + bytes c
bytes-pick_zero true t c = omega (arith, bytes-zero t c)
bytes-pick_zero false t c = omega arith

bytes-filler : (P : Node → Bool) (t : Option ValType) (d : Node) (c : Marked) → bytes (filler P t d c) ≡ 2 * more P (arity t) d + bytes c
bytes-filler P None d c = omega arith
bytes-filler P (Some t) d c = bytes-pick_zero (P d) t c

bytes-filler_result : (P : Node → Bool) (k : ℕ) (t : ValType) (d : Node) (c : Marked) → bytes (filler P (result_of k t) d c) ≡ 2 * more P k d + bytes c
bytes-filler_result P zero t d c = omega arith
bytes-filler_result P (suc k) t d c = bytes-pick_zero (P d) t c

pick_within : (b : Bool) (x y : Marked) (n : ℕ) → bytes x ≤ n → bytes y ≤ n → bytes (pick b x y) ≤ n
pick_within true x y n a b = a
pick_within false x y n a b = b

transfer : (P : Node → Bool) (t : Option ValType) (b : Bool) (x : Marked) (names : List Node) (n : ℕ) → bytes x ≤ n → 1 ≤ n
    → bytes (pick b x (drops (shown P names) (zeros t End))) ≤ 3 * n + shown P names
transfer P t b x names n le ge =
    let g = bytes-drops (shown P names) (zeros t End) in
    let z = bytes-zeros t in
    pick_within b x (drops (shown P names) (zeros t End)) (3 * n + shown P names) (omega arith) (omega arith)

-- A drop is a byte, and is paid by the position that made the place.
pub bytes-cut : (cs : Callees) (K P : Node → Bool) (T : Node → ValType) (t : Option ValType) (c : Marked) (p : ℕ) (names : List Node)
    → bytes (cut cs K P T t c p names) ≤ 3 * bytes c + shown P names
bytes-cut cs K P T t End p names = omega arith
bytes-cut cs K P T t (Do m op rest) p names =
    let d = cut cs K P T t rest (p + 1) (made cs p op names) in
    let a = bytes-cut cs K P T t rest (p + 1) (made cs p op names) in
    let b = shown-named P (leaves cs op) (At p) (drop (takes cs op) names) in
    let e = shown-split P (takes cs op) names in
    let f = more-few P (leaves cs op) (At p) in
    let g = bytes-drops (shown P (take (takes cs op) names)) (filler P (result_of (leaves cs op) (T (At p))) (At p) d) in
    let h = bytes-filler_result P (leaves cs op) (T (At p)) (At p) d in
    let i = bytes-one op (unmarked rest) in
    let j = bytes-one op (unmarked d) in
    pick_within (K (At p)) (Do m op d) (drops (shown P (take (takes cs op) names)) (filler P (result_of (leaves cs op) (T (At p))) (At p) d)) (3 * bytes (Do m op rest) + shown P names) (omega arith) (omega arith)
bytes-cut cs K P T t (Block m kind body rest) p names =
    let d = cut cs K P T t rest (p + 1 + size body) (named (arity kind) (Join p) names) in
    let in_it = cut cs K P T kind body (p + 1) [] in
    let a = bytes-cut cs K P T t rest (p + 1 + size body) (named (arity kind) (Join p) names) in
    let b = shown-named P (arity kind) (Join p) names in
    let e = bytes-cut cs K P T kind body (p + 1) [] in
    let f = more-few P (arity kind) (Join p) in
    let h = bytes-filler P kind (Join p) d in
    let i = bytes-block kind (unmarked body) (unmarked rest) in
    let j = bytes-block kind (unmarked in_it) (unmarked d) in
    pick_within (K (At p)) (Block m kind in_it d) (filler P kind (Join p) d) (3 * bytes (Block m kind body rest) + shown P names) (omega arith) (omega arith)
bytes-cut cs K P T t (Loop m kind body rest) p names =
    let d = cut cs K P T t rest (p + 1 + size body) (named (arity kind) (Join p) names) in
    let in_it = cut cs K P T kind body (p + 1) [] in
    let a = bytes-cut cs K P T t rest (p + 1 + size body) (named (arity kind) (Join p) names) in
    let b = shown-named P (arity kind) (Join p) names in
    let e = bytes-cut cs K P T kind body (p + 1) [] in
    let f = more-few P (arity kind) (Join p) in
    let h = bytes-filler P kind (Join p) d in
    let i = bytes-loop kind (unmarked body) (unmarked rest) in
    let j = bytes-loop kind (unmarked in_it) (unmarked d) in
    pick_within (K (At p)) (Loop m kind in_it d) (filler P kind (Join p) d) (3 * bytes (Loop m kind body rest) + shown P names) (omega arith) (omega arith)
bytes-cut cs K P T t (If m kind x y rest) p names =
    let d = cut cs K P T t rest (p + 1 + size x + size y) (named (arity kind) (Join p) (drop 1 names)) in
    let in_x = cut cs K P T kind x (p + 1) [] in
    let in_y = cut cs K P T kind y (p + 1 + size x) [] in
    let a = bytes-cut cs K P T t rest (p + 1 + size x + size y) (named (arity kind) (Join p) (drop 1 names)) in
    let b = shown-named P (arity kind) (Join p) (drop 1 names) in
    let e = bytes-cut cs K P T kind x (p + 1) [] in
    let e' = bytes-cut cs K P T kind y (p + 1 + size x) [] in
    let l = else_within (canon_code (unmarked y)) (canon_code (unmarked in_y)) (omega arith) in
    let f = more-few P (arity kind) (Join p) in
    let g = bytes-drops (shown P (take 1 names)) (filler P kind (Join p) d) in
    let k = shown-split P 1 names in
    let h = bytes-filler P kind (Join p) d in
    let i = bytes-if kind (unmarked x) (unmarked y) (unmarked rest) in
    let j = bytes-if kind (unmarked in_x) (unmarked in_y) (unmarked d) in
    pick_within (K (At p)) (If m kind in_x in_y d) (drops (shown P (take 1 names)) (filler P kind (Join p) d)) (3 * bytes (If m kind x y rest) + shown P names) (omega arith) (omega arith)
bytes-cut cs K P T t (Br m l rest) p names =
    transfer P t (K (At p)) (Br m l End) names (bytes (Br m l rest)) (bytes-lone (instr.Br l) (unmarked rest)) (bytes-some (instr.Br l) (unmarked rest))
bytes-cut cs K P T t (BrIf m l rest) p names =
    let d = cut cs K P T t rest (p + 1) (drop 1 names) in
    let a = bytes-cut cs K P T t rest (p + 1) (drop 1 names) in
    let g = bytes-drops (shown P (take 1 names)) d in
    let k = shown-split P 1 names in
    let i = bytes-one (instr.BrIf l) (unmarked rest) in
    let j = bytes-one (instr.BrIf l) (unmarked d) in
    pick_within (K (At p)) (BrIf m l d) (drops (shown P (take 1 names)) d) (3 * bytes (BrIf m l rest) + shown P names) (omega arith) (omega arith)
bytes-cut cs K P T t (BrTable m labels other rest) p names =
    transfer P t (K (At p)) (BrTable m labels other End) names (bytes (BrTable m labels other rest)) (bytes-lone (instr.BrTable labels other) (unmarked rest)) (bytes-some (instr.BrTable labels other) (unmarked rest))
bytes-cut cs K P T t (Return m rest) p names =
    transfer P t (K (At p)) (Return m End) names (bytes (Return m rest)) (bytes-lone instr.Return (unmarked rest)) (bytes-some instr.Return (unmarked rest))
bytes-cut cs K P T t (Unreachable m rest) p names =
    transfer P t (K (At p)) (Unreachable m End) names (bytes (Unreachable m rest)) (bytes-lone instr.Unreachable (unmarked rest)) (bytes-some instr.Unreachable (unmarked rest))

pub cut_is_small : (cs : Callees) (K P : Node → Bool) (T : Node → ValType) (t : Option ValType) (w : ℕ → Bool) (c : Code)
    → length (canon_code (unmarked (cut_body cs K P T t (marked w 0 c)))) ≤ 3 * length (canon_code c)
cut_is_small cs K P T t w c =
    let a = bytes-cut cs K P T t (marked w 0 c) 0 [] in
    let e = ap (λ z. length (canon_code z)) (unmarked-marked w 0 c) in
    omega arith

-- ---- numbers and lists

short_unsigned : (more n : ℕ) → length (shortest_unsigned more n) ≤ more + 1
unfolding shortest_unsigned
short_unsigned zero n = omega arith
short_unsigned (suc more) n = let h = short_unsigned more (n / 128) in grind (arith, nat_tests)

short_u32 : (n : ℕ) → length (shortest_u32 n) ≤ 5
short_u32 n = short_unsigned 4 n

sized_short : (bytes : List ℕ) → length (canon_sized bytes) ≤ 5 + length bytes
sized_short bytes = omega (arith, length-append (shortest_u32 (length bytes)) bytes, short_u32 (length bytes))

each_push : {A : Type 0} (f : A → List ℕ) (xs : List A) (x : A) → length (canon_each f (xs ++ x ∷ [])) ≡ length (canon_each f xs) + length (f x)
each_push f [] x = omega (arith, length-append (f x) [])
each_push f (y ∷ xs) x = omega (arith, each_push f xs x, length-append (f y) (canon_each f xs), length-append (f y) (canon_each f (xs ++ x ∷ [])))

same : {A : Type 0} {x y : A} → Some x ≡ Some y → x ≡ y
same e = cc

first_in : {A : Type 0} (f : A → List ℕ) (y x : A) (xs : List A) → y ≡ x → length (f x) ≤ length (canon_each f (y ∷ xs))
first_in f y x xs e = let l : length (f y) ≡ length (f x) = ap (λ z. length (f z)) e in omega (arith, l, length-append (f y) (canon_each f xs))

each_in : {A : Type 0} (f : A → List ℕ) (xs : List A) (k : ℕ) (x : A) → slice_get xs k ≡ Some x → length (f x) ≤ length (canon_each f xs)
each_in f [] k x at = absurd cc
each_in f (y ∷ xs) zero x at = first_in f y x xs (same at)
each_in f (y ∷ xs) (suc k) x at = omega (arith, each_in f xs k x at, length-append (f y) (canon_each f xs))

list_long : {A : Type 0} (id : ℕ) (f : A → List ℕ) (xs : List A) → length (canon_each f xs) ≤ length (canon_list id f xs)
list_long id f [] = omega arith
list_long id f (x ∷ xs) =
    omega (arith, length-append (shortest_u32 (length (x ∷ xs))) (canon_each f (x ∷ xs)), length-append (shortest_u32 (length (canon_counted f (x ∷ xs)))) (canon_counted f (x ∷ xs)))

list_short : {A : Type 0} (id : ℕ) (f : A → List ℕ) (xs : List A) → length (canon_list id f xs) ≤ 11 + length (canon_each f xs)
list_short id f [] = omega arith
list_short id f (x ∷ xs) =
    omega (arith, sized_short (canon_counted f (x ∷ xs)), length-append (shortest_u32 (length (x ∷ xs))) (canon_each f (x ∷ xs)), short_u32 (length (x ∷ xs)))

list_push : {A : Type 0} (id : ℕ) (f : A → List ℕ) (xs : List A) (x : A)
    → length (canon_list id f (xs ++ x ∷ [])) ≤ 11 + length (f x) + length (canon_list id f xs)
list_push id f xs x = omega (arith, list_short id f (xs ++ x ∷ []), each_push f xs x, list_long id f xs)

-- ---- the module

body_size : (locals : List LocalRun) (code old : List Instr) → length (canon_code (code_of code)) ≤ 4 * length (canon_code (code_of old))
    → length (canon_body (record { locals = locals; code = code })) ≤ 4 * length (canon_body (record { locals = locals; code = old }))
body_size locals code old le =
    omega (
      arith,
      length-append (canon_counted canon_run locals) (canon_instrs code),
      length-append (canon_counted canon_run locals) (canon_instrs old),
      length-append (canon_code (code_of code)) (0x0B ∷ []),
      length-append (canon_code (code_of old)) (0x0B ∷ []),
    )

export_size : (name : Name) (n : ℕ) → length (canon_export (record { name = name; kind = export.Func; index = n })) ≤ 11 + length name.bytes
export_size name n = omega (arith, length-append (canon_name name) (export_byte export.Func ∷ shortest_u32 n), sized_short name.bytes, short_u32 n)

entry_long : (b : Body) → length (canon_body b) ≤ length (canon_entry b)
entry_long b = omega (arith, length-append (shortest_u32 (length (canon_body b))) (canon_body b))

pub appended_size : (m : Module) (type f : ℕ) (old : Body) (code : List Instr) (name : Name) → slice_get m.bodies f ≡ Some old
    → length (canon_code (code_of code)) ≤ 4 * length (canon_code (code_of old.code))
    → length (canon (appended m type (record old { code = code }) name)) ≤ 5 * length (canon m) + length name.bytes + 64
appended_size m type f old code name is le =
    omega (
      arith,
      canon_lengths m,
      canon_lengths (appended m type (record old { code = code }) name),
      list_push 3 shortest_u32 m.funcs type,
      short_u32 type,
      list_push 7 canon_export m.exports (record { name = name; kind = export.Func; index = func_count m }),
      export_size name (func_count m),
      list_push 10 canon_entry m.bodies (record old { code = code }),
      sized_short (canon_body (record old { code = code })),
      body_size old.locals code old.code le,
      entry_long old,
      each_in canon_entry m.bodies f old is,
      list_long 10 canon_entry m.bodies,
    )
