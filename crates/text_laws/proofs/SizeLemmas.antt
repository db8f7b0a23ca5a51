-- A module has no more entries in its lists than its canonical spelling has bytes.
use Rattle.std.proofs.Common.{ℕ, ◌+◌, ◌≤◌, List, [], ◌∷◌, ◌++◌, length, get_or, Option, Some, None, arith, length-append}
use Rattle.std.specs.Prelude.{All, IfSome, codes}
use Rattle.std.proofs.lemmas.List.Elements.{All-nil, All-cons}
use Rattle.wasm_types.specs.declared.module.FuncType.{FuncType}
use Rattle.wasm_types.specs.declared.module.Import.{Import}
use Rattle.wasm_types.specs.declared.module.GlobalDef.{GlobalDef}
use Rattle.wasm_types.specs.declared.module.Export.{Export}
use Rattle.wasm_types.specs.declared.module.Elem.{Elem}
use Rattle.wasm_types.specs.declared.module.Body.{Body}
use Rattle.wasm_types.specs.declared.module.DataSegment.{DataSegment}
use Rattle.wasm_types.specs.declared.module.Module.{Module}
use Rattle.wasm_types.specs.declared.instr.Instr.{Instr}
use Rattle.wasm_types.specs.Numbers.{shortest_u32}
use Rattle.wasm_types.specs.Code.{Code, done, one, block, repeat, branch, code_of, count}
use Rattle.wasm_types.specs.Types.{kind_byte}
use Rattle.wasm_types.specs.Sections.{export_byte}
use Rattle.wasm_types.specs.Plain.{Immediates, labels, immediates}
use Rattle.wasm_types.specs.Canon.{canon_each, canon_counted, canon_sized, canon_immediates, canon_plain, else_part, canon_code, canon_instrs, canon_type, canon_func_type, canon_limits, canon_table_type, canon_global_type, canon_name, canon_import_kind, canon_import, canon_global, canon_export, canon_elem, canon_run, canon_body, canon_entry, canon_segment, canon_section, canon_list, canon_names, canon}
use Rattle.wasm_types.specs.Sizes.{positions, labels_of, LabelsAtMost, HasAtMost}
use Rattle.wasm_types.proofs.CodeLemmas.{length-flatten}
use Rattle.text_laws.proofs.CanonLemmas.{each_long, some_u32, else_long, some_func_type, some_import, some_table_type, some_limits, some_global, some_export, some_elem, some_run, some_entry, some_segment}
use Rattle.text_laws.proofs.LeastLemmas.{canon_lengths}

-- ---- a text is at least as long as what it tells

pub counted_long : {A : Type 0} (f : A → List ℕ) → ((x : A) → 1 ≤ length (f x)) → (xs : List A) → length xs ≤ length (canon_counted f xs)
counted_long f some xs = omega (arith, each_long f some xs, length-append (shortest_u32 (length xs)) (canon_each f xs))

pub sized_long : (bytes : List ℕ) → length bytes ≤ length (canon_sized bytes)
sized_long bytes = omega (arith, length-append (shortest_u32 (length bytes)) bytes)

enclosed_long : (op k : ℕ) (inner rest : List ℕ) → 1 + length inner + length rest ≤ length ((op ∷ k ∷ inner ++ 0x0B ∷ []) ++ rest)
enclosed_long op k inner rest = omega (arith, length-append (op ∷ k ∷ inner ++ 0x0B ∷ []) rest, length-append inner (0x0B ∷ []))

arms_long : (k : ℕ) (first second rest : List ℕ)
    → 1 + length first + length second + length rest ≤ length ((0x04 ∷ k ∷ first ++ (else_part second ++ 0x0B ∷ [])) ++ rest)
arms_long k first second rest =
    omega (arith, else_long second, length-append (0x04 ∷ k ∷ first ++ (else_part second ++ 0x0B ∷ [])) rest, length-append first (else_part second ++ 0x0B ∷ []), length-append (else_part second) (0x0B ∷ []))

code_long : (c : Code) → count c ≤ length (canon_code c)
code_long done = omega arith
code_long (one i rest) = omega (arith, code_long rest, length-append (canon_plain i) (canon_code rest))
code_long (block k inner rest) = omega (arith, code_long inner, code_long rest, enclosed_long 0x02 (kind_byte k) (canon_code inner) (canon_code rest))
code_long (repeat k inner rest) = omega (arith, code_long inner, code_long rest, enclosed_long 0x03 (kind_byte k) (canon_code inner) (canon_code rest))
code_long (branch k first second rest) =
    omega (arith, code_long first, code_long second, code_long rest, arms_long (kind_byte k) (canon_code first) (canon_code second) (canon_code rest))

labels_long : (t : Immediates) → length (labels_of t) ≤ length (canon_immediates t)
labels_long (labels some other) = omega (arith, counted_long shortest_u32 some_u32 some, length-append (canon_counted shortest_u32 some) (shortest_u32 other))
labels_long _ = omega arith

code_labels : (most : ℕ) (c : Code) → length (canon_code c) ≤ most → LabelsAtMost most c
code_labels most done le = tt
code_labels most (one i rest) le = (omega (arith, labels_long (immediates i), length-append (canon_plain i) (canon_code rest), le), code_labels most rest (omega (arith, length-append (canon_plain i) (canon_code rest), le)))
code_labels most (block k inner rest) le =
    let whole = enclosed_long 0x02 (kind_byte k) (canon_code inner) (canon_code rest) in
    (code_labels most inner (omega (arith, whole, le)), code_labels most rest (omega (arith, whole, le)))
code_labels most (repeat k inner rest) le =
    let whole = enclosed_long 0x03 (kind_byte k) (canon_code inner) (canon_code rest) in
    (code_labels most inner (omega (arith, whole, le)), code_labels most rest (omega (arith, whole, le)))
code_labels most (branch k first second rest) le =
    let whole = arms_long (kind_byte k) (canon_code first) (canon_code second) (canon_code rest) in
    (code_labels most first (omega (arith, whole, le)), code_labels most second (omega (arith, whole, le)), code_labels most rest (omega (arith, whole, le)))

pub instrs_long : (is : List Instr) → positions is ≤ length (canon_instrs is)
instrs_long is = omega (arith, length-flatten (code_of is), code_long (code_of is), length-append (canon_code (code_of is)) (0x0B ∷ []))

pub func_type_long : (t : FuncType) → length t.params + length t.results ≤ length (canon_func_type t)
func_type_long t =
    omega (arith, counted_long canon_type (λ v. omega arith) t.params, counted_long canon_type (λ v. omega arith) t.results, length-append (canon_counted canon_type t.params) (canon_counted canon_type t.results))

pub import_long : (i : Import) → length i.module.bytes + length i.name.bytes ≤ length (canon_import i)
import_long i = omega (arith, sized_long i.module.bytes, sized_long i.name.bytes, length-append (canon_name i.module) (canon_name i.name ++ canon_import_kind i.kind), length-append (canon_name i.name) (canon_import_kind i.kind))

global_long : (g : GlobalDef) → positions g.init ≤ length (canon_global g)
global_long g = omega (arith, instrs_long g.init, length-append (canon_global_type g.kind) (canon_instrs g.init))

pub export_long : (e : Export) → length e.name.bytes ≤ length (canon_export e)
export_long e = omega (arith, sized_long e.name.bytes, length-append (canon_name e.name) (export_byte e.kind ∷ shortest_u32 e.index))

pub elem_long : (e : Elem) → positions e.offset + length e.funcs ≤ length (canon_elem e)
elem_long e =
    omega (arith, instrs_long e.offset, counted_long shortest_u32 some_u32 e.funcs, length-append (shortest_u32 e.table) (canon_instrs e.offset ++ canon_counted shortest_u32 e.funcs), length-append (canon_instrs e.offset) (canon_counted shortest_u32 e.funcs))

pub entry_long : (b : Body) → length b.locals + positions b.code ≤ length (canon_entry b)
entry_long b = omega (arith, sized_long (canon_body b), counted_long canon_run some_run b.locals, instrs_long b.code, length-append (canon_counted canon_run b.locals) (canon_instrs b.code))

pub segment_long : (d : DataSegment) → positions d.offset + length d.bytes ≤ length (canon_segment d)
segment_long d = omega (arith, instrs_long d.offset, sized_long d.bytes, length-append (shortest_u32 d.memory) (canon_instrs d.offset ++ canon_sized d.bytes), length-append (canon_instrs d.offset) (canon_sized d.bytes))

-- ---- sections

section_long : (id : ℕ) (contents : List ℕ) → length contents ≤ length (canon_section id contents)
section_long id contents = omega (arith, sized_long contents)

pub list_long : {A : Type 0} (id : ℕ) (f : A → List ℕ) → ((x : A) → 1 ≤ length (f x)) → (xs : List A) → length xs ≤ length (canon_list id f xs)
list_long id f some [] = omega arith
list_long id f some (x ∷ xs) = omega (arith, counted_long f some (x ∷ xs), section_long id (canon_counted f (x ∷ xs)))

pub items_long : {A : Type 0} (id : ℕ) (f : A → List ℕ) (xs : List A) → length (canon_each f xs) ≤ length (canon_list id f xs)
items_long id f [] = omega arith
items_long id f (x ∷ xs) = omega (arith, length-append (shortest_u32 (length (x ∷ xs))) (canon_each f (x ∷ xs)), section_long id (canon_counted f (x ∷ xs)))

each_within : {A : Type 0} (f : A → List ℕ) (size : A → ℕ) (most : ℕ) → ((x : A) → size x ≤ length (f x)) → (xs : List A)
    → length (canon_each f xs) ≤ most → All (λ x. size x ≤ most) xs
each_within f size most long [] le = All-nil (λ x. size x ≤ most)
each_within f size most long (x ∷ xs) le =
    let both = length-append (f x) (canon_each f xs) in
    All-cons (λ x. size x ≤ most) x xs (omega (arith, long x, both, le)) (each_within f size most long xs (omega (arith, both, le)))

list_within : {A : Type 0} (id : ℕ) (f : A → List ℕ) (size : A → ℕ) (most : ℕ) → ((x : A) → size x ≤ length (f x)) → (xs : List A)
    → length (canon_list id f xs) ≤ most → All (λ x. size x ≤ most) xs
list_within id f size most long xs le = each_within f size most long xs (omega (arith, items_long id f xs, le))

body_labels : (most : ℕ) (b : Body) → length (canon_entry b) ≤ most → LabelsAtMost most (code_of b.code)
body_labels most b le =
    code_labels most (code_of b.code) (omega (
      arith,
      le,
      sized_long (canon_body b),
      length-append (canon_counted canon_run b.locals) (canon_instrs b.code),
      length-append (canon_code (code_of b.code)) (0x0B ∷ []),
    ))

bodies_labels : (most : ℕ) (bodies : List Body) → length (canon_each canon_entry bodies) ≤ most → All (λ (b : Body). LabelsAtMost most (code_of b.code)) bodies
bodies_labels most [] le = All-nil (λ (b : Body). LabelsAtMost most (code_of b.code))
bodies_labels most (b ∷ bs) le =
    let both = length-append (canon_entry b) (canon_each canon_entry bs) in
    All-cons (λ (b : Body). LabelsAtMost most (code_of b.code)) b bs (body_labels most b (omega (arith, both, le))) (bodies_labels most bs (omega (arith, both, le)))

names_within : (names : Option (List ℕ)) (most : ℕ) → length (canon_names names) ≤ most → IfSome names (λ (bytes : List ℕ). length bytes ≤ most)
names_within None most le = tt
names_within (Some payload) most le = omega (arith, section_long 0 (canon_sized (codes "name") ++ payload), length-append (canon_sized (codes "name")) payload)

-- two numbers whose sum is within the bound are within it
both_within : {A : Type 0} (a b : A → ℕ) (most : ℕ) (xs : List A) → All (λ x. a x + b x ≤ most) xs → All (λ x. (a x ≤ most) × (b x ≤ most)) xs
both_within a b most xs h = λ k d lt. let le = h k d lt in (omega (arith, le), omega (arith, le))

pub has_at_most : (m : Module) (most : ℕ) → length (canon m) ≤ most → HasAtMost most m
has_at_most m most le =
    let all = canon_lengths m in
    record {
      types = omega (arith, all, le, list_long 1 canon_func_type some_func_type m.types);
      imports = omega (arith, all, le, list_long 2 canon_import some_import m.imports);
      funcs = omega (arith, all, le, list_long 3 shortest_u32 some_u32 m.funcs);
      tables = omega (arith, all, le, list_long 4 canon_table_type some_table_type m.tables);
      mems = omega (arith, all, le, list_long 5 canon_limits some_limits m.mems);
      globals = omega (arith, all, le, list_long 6 canon_global some_global m.globals);
      exports = omega (arith, all, le, list_long 7 canon_export some_export m.exports);
      elems = omega (arith, all, le, list_long 9 canon_elem some_elem m.elems);
      bodies = omega (arith, all, le, list_long 10 canon_entry some_entry m.bodies);
      segments = omega (arith, all, le, list_long 11 canon_segment some_segment m.segments);
      values = both_within (λ (t : FuncType). length t.params) (λ (t : FuncType). length t.results) most m.types
          (list_within 1 canon_func_type (λ (t : FuncType). length t.params + length t.results) most func_type_long m.types (omega (arith, all, le)));
      import_names = both_within (λ (i : Import). length i.module.bytes) (λ (i : Import). length i.name.bytes) most m.imports
          (list_within 2 canon_import (λ (i : Import). length i.module.bytes + length i.name.bytes) most import_long m.imports (omega (arith, all, le)));
      inits = list_within 6 canon_global (λ (g : GlobalDef). positions g.init) most global_long m.globals (omega (arith, all, le));
      export_names = list_within 7 canon_export (λ (e : Export). length e.name.bytes) most export_long m.exports (omega (arith, all, le));
      elem_lists = both_within (λ (e : Elem). positions e.offset) (λ (e : Elem). length e.funcs) most m.elems
          (list_within 9 canon_elem (λ (e : Elem). positions e.offset + length e.funcs) most elem_long m.elems (omega (arith, all, le)));
      codes = both_within (λ (b : Body). length b.locals) (λ (b : Body). positions b.code) most m.bodies
          (list_within 10 canon_entry (λ (b : Body). length b.locals + positions b.code) most entry_long m.bodies (omega (arith, all, le)));
      labels = bodies_labels most m.bodies (omega (arith, all, le, items_long 10 canon_entry m.bodies));
      segment_lists = both_within (λ (d : DataSegment). positions d.offset) (λ (d : DataSegment). length d.bytes) most m.segments
          (list_within 11 canon_segment (λ (d : DataSegment). positions d.offset + length d.bytes) most segment_long m.segments (omega (arith, all, le)));
      names = names_within m.names most (omega (arith, all, le));
    }

-- a greater bound
more_labels : (most more : ℕ) → most ≤ more → (c : Code) → LabelsAtMost most c → LabelsAtMost more c
more_labels most more le done h = tt
more_labels most more le (one i rest) h = (omega (arith, h.0), more_labels most more le rest h.1)
more_labels most more le (block kind inner rest) h = (more_labels most more le inner h.0, more_labels most more le rest h.1)
more_labels most more le (repeat kind inner rest) h = (more_labels most more le inner h.0, more_labels most more le rest h.1)
more_labels most more le (branch kind first second rest) h = (more_labels most more le first h.0, more_labels most more le second h.1, more_labels most more le rest h.2)

more_each : {A : Type 0} (P Q : A → Type 0) → ((x : A) → P x → Q x) → (xs : List A) → All P xs → All Q xs
more_each P Q f xs h = λ k d lt. f (get_or xs k d) (h k d lt)

more_bytes : (most more : ℕ) → most ≤ more → (names : Option (List ℕ)) → IfSome names (λ (bytes : List ℕ). length bytes ≤ most)
    → IfSome names (λ (bytes : List ℕ). length bytes ≤ more)
more_bytes most more le None h = tt
more_bytes most more le (Some bytes) h = omega (arith, h)

pub has_at_most_more : (most more : ℕ) (m : Module) → most ≤ more → HasAtMost most m → HasAtMost more m
has_at_most_more most more m le h =
    record {
      types = omega (arith, h.types);
      imports = omega (arith, h.imports);
      funcs = omega (arith, h.funcs);
      tables = omega (arith, h.tables);
      mems = omega (arith, h.mems);
      globals = omega (arith, h.globals);
      exports = omega (arith, h.exports);
      elems = omega (arith, h.elems);
      bodies = omega (arith, h.bodies);
      segments = omega (arith, h.segments);
      values = more_each (λ (t : FuncType). (length t.params ≤ most) × (length t.results ≤ most)) (λ (t : FuncType). (length t.params ≤ more) × (length t.results ≤ more)) (λ t e. (omega (arith, e.0), omega (arith, e.1))) m.types h.values;
      import_names = more_each (λ (i : Import). (length i.module.bytes ≤ most) × (length i.name.bytes ≤ most)) (λ (i : Import). (length i.module.bytes ≤ more) × (length i.name.bytes ≤ more)) (λ i e. (omega (arith, e.0), omega (arith, e.1))) m.imports h.import_names;
      inits = more_each (λ (g : GlobalDef). positions g.init ≤ most) (λ (g : GlobalDef). positions g.init ≤ more) (λ g e. omega (arith, e)) m.globals h.inits;
      export_names = more_each (λ (x : Export). length x.name.bytes ≤ most) (λ (x : Export). length x.name.bytes ≤ more) (λ x e. omega (arith, e)) m.exports h.export_names;
      elem_lists = more_each (λ (x : Elem). (positions x.offset ≤ most) × (length x.funcs ≤ most)) (λ (x : Elem). (positions x.offset ≤ more) × (length x.funcs ≤ more)) (λ x e. (omega (arith, e.0), omega (arith, e.1))) m.elems h.elem_lists;
      codes = more_each (λ (b : Body). (length b.locals ≤ most) × (positions b.code ≤ most)) (λ (b : Body). (length b.locals ≤ more) × (positions b.code ≤ more)) (λ b e. (omega (arith, e.0), omega (arith, e.1))) m.bodies h.codes;
      labels = more_each (λ (b : Body). LabelsAtMost most (code_of b.code)) (λ (b : Body). LabelsAtMost more (code_of b.code)) (λ b e. more_labels most more le (code_of b.code) e) m.bodies h.labels;
      segment_lists = more_each (λ (d : DataSegment). (positions d.offset ≤ most) × (length d.bytes ≤ most)) (λ (d : DataSegment). (positions d.offset ≤ more) × (length d.bytes ≤ more)) (λ d e. (omega (arith, e.0), omega (arith, e.1))) m.segments h.segment_lists;
      names = more_bytes most more le m.names h.names;
    }
