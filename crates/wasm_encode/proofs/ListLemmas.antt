-- Steps of the writers of lists, and that what they write is short.
use Rattle.std.proofs.Common.{◌≡◌, ℕ, zero, suc, ◌+◌, ◌<◌, ◌^◌, ◌≤◌, List, [], ◌∷◌, ◌++◌, length, get_or, drop, drop-cons, add-one, refl, sym, ap, subst, arith, length-append}
use Rattle.std.specs.Prelude.{All}
use Rattle.std.proofs.lemmas.List.Elements.{All-get_or}
use Rattle.wasm_types.specs.declared.module.ValType.{ValType}
use Rattle.wasm_types.specs.declared.module.FuncType.{FuncType}
use Rattle.wasm_types.specs.declared.module.Elem.{Elem}
use Rattle.wasm_types.specs.declared.module.LocalRun.{LocalRun}
use Rattle.wasm_types.specs.declared.module.Body.{Body}
use Rattle.wasm_types.specs.declared.module.Module.{Module}
use Rattle.wasm_types.specs.Numbers.{shortest_u32}
use Rattle.wasm_types.specs.Canon.{canon_each, canon_counted, canon_instrs, canon_func_type, canon_limits, canon_table_type, canon_import, canon_global, canon_export, canon_elem, canon_run, canon_body, canon_entry, canon_segment, canon_list, canon_start, canon_names, canon}
use Rattle.text_laws.proofs.CanonLemmas.{some_u32, some_run}
use Rattle.text_laws.proofs.LeastLemmas.{canon_lengths}
use Rattle.text_laws.proofs.SizeLemmas.{counted_long, sized_long, func_type_long, elem_long, list_long}

-- the text of the items from a place on begins with that of the item there
pub each-next : {A : Type 0} (f : A → List ℕ) (xs : List A) (k : ℕ) (x : A) → k < length xs → x ≡ get_or xs k x
    → canon_each f (drop k xs) ≡ f x ++ canon_each f (drop (k + 1) xs)
each-next f xs k x lt is = rw (drop-cons xs k x lt, ← is, add-one) refl

each_at : {A : Type 0} (f : A → List ℕ) (xs : List A) (k : ℕ) (d : A) → k < length xs → length (f (get_or xs k d)) ≤ length (canon_each f xs)
each_at f [] k d lt = absurd (omega arith)
each_at f (x ∷ xs) zero d lt = omega (arith, length-append (f x) (canon_each f xs))
each_at f (x ∷ xs) (suc k) d lt = omega (arith, each_at f xs k d (omega arith), length-append (f x) (canon_each f xs))

-- an item of a list is as short as the whole
pub item_short : {A : Type 0} (f : A → List ℕ) (xs : List A) (k : ℕ) (x : A) → k < length xs → x ≡ get_or xs k x → length (canon_each f xs) < 2 ^ 32
    → length (f x) < 2 ^ 32
item_short f xs k x lt is short = let le : length (f x) ≤ length (canon_each f xs) = subst (λ y. length (f y) ≤ length (canon_each f xs)) (sym is) (each_at f xs k x lt) in omega (arith, le, short)

pub item_proper : {A : Type 0} (Q : A → Type 0) (xs : List A) (k : ℕ) (x : A) → k < length xs → x ≡ get_or xs k x → All Q xs → Q x
item_proper Q xs k x lt is all = subst Q (sym is) (All-get_or Q xs k x lt all)

-- ---- lists of parts

pub labels_few : (labels : List ℕ) → length (canon_counted shortest_u32 labels) < 2 ^ 32 → length labels < 2 ^ 32
labels_few labels short = omega (arith, short, counted_long shortest_u32 some_u32 labels)

pub params_few : (t : FuncType) (kinds : List ValType) → kinds ≡ t.params → length (canon_func_type t) < 2 ^ 32 → length kinds < 2 ^ 32
params_few t kinds is short = omega (arith, short, ap length is, func_type_long t)

pub results_few : (t : FuncType) (kinds : List ValType) → kinds ≡ t.results → length (canon_func_type t) < 2 ^ 32 → length kinds < 2 ^ 32
results_few t kinds is short = omega (arith, short, ap length is, func_type_long t)

pub funcs_few : (e : Elem) (funcs : List ℕ) → funcs ≡ e.funcs → length (canon_elem e) < 2 ^ 32 → length funcs < 2 ^ 32
funcs_few e funcs is short = omega (arith, short, ap length is, elem_long e)

pub locals_few : (b : Body) (locals : List LocalRun) → locals ≡ b.locals → length (canon_body b) < 2 ^ 32 → length locals < 2 ^ 32
locals_few b locals is short =
    omega (arith, short, ap length is, counted_long canon_run some_run b.locals, length-append (canon_counted canon_run b.locals) (canon_instrs b.code))

pub body_short : (bodies : List Body) (k : ℕ) (b : Body) → k < length bodies → b ≡ get_or bodies k b → length (canon_each canon_entry bodies) < 2 ^ 32
    → length (canon_body b) < 2 ^ 32
body_short bodies k b lt is short = omega (arith, item_short canon_entry bodies k b lt is short, sized_long (canon_body b))

-- ---- lists of a module

pub list_few : {A : Type 0} (id : ℕ) (f : A → List ℕ) → ((x : A) → 1 ≤ length (f x)) → (xs ys : List A) → ys ≡ xs
    → length (canon_list id f xs) < 2 ^ 32 → length ys < 2 ^ 32
list_few id f some xs ys is short = omega (arith, short, ap length is, list_long id f some xs)

pub list_short : {A : Type 0} (id : ℕ) (f : A → List ℕ) (xs ys : List A) → ys ≡ xs → length (canon_list id f xs) < 2 ^ 32 → length (canon_list id f ys) < 2 ^ 32
list_short {A} id f xs ys is short = subst (λ (zs : List A). length (canon_list id f zs) < 2 ^ 32) (sym is) short

pub list_proper : {A : Type 0} (Q : A → Type 0) (xs ys : List A) → ys ≡ xs → All Q xs → All Q ys
list_proper Q xs ys is all = subst (All Q) (sym is) all

-- the section of each list is as short as the whole
pub record HasShort (m : Module) : Type 0 where
  pub types : length (canon_list 1 canon_func_type m.types) < 2 ^ 32
  pub imports : length (canon_list 2 canon_import m.imports) < 2 ^ 32
  pub funcs : length (canon_list 3 shortest_u32 m.funcs) < 2 ^ 32
  pub tables : length (canon_list 4 canon_table_type m.tables) < 2 ^ 32
  pub mems : length (canon_list 5 canon_limits m.mems) < 2 ^ 32
  pub globals : length (canon_list 6 canon_global m.globals) < 2 ^ 32
  pub exports : length (canon_list 7 canon_export m.exports) < 2 ^ 32
  pub start : length (canon_start m.start) < 2 ^ 32
  pub elems : length (canon_list 9 canon_elem m.elems) < 2 ^ 32
  pub bodies : length (canon_list 10 canon_entry m.bodies) < 2 ^ 32
  pub segments : length (canon_list 11 canon_segment m.segments) < 2 ^ 32
  pub names : length (canon_names m.names) < 2 ^ 32

pub sections_short : (m : Module) → length (canon m) < 2 ^ 32 → HasShort m
sections_short m lt =
    let all = canon_lengths m in
    record {
      types = omega (arith, lt, all);
      imports = omega (arith, lt, all);
      funcs = omega (arith, lt, all);
      tables = omega (arith, lt, all);
      mems = omega (arith, lt, all);
      globals = omega (arith, lt, all);
      exports = omega (arith, lt, all);
      start = omega (arith, lt, all);
      elems = omega (arith, lt, all);
      bodies = omega (arith, lt, all);
      segments = omega (arith, lt, all);
      names = omega (arith, lt, all);
    }
