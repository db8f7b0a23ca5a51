-- The rows that a walk over code makes are those of its sites.
use Rattle.std.proofs.Common.{◌≡◌, ◌↔◌, ℕ, zero, suc, ◌+◌, List, [], ◌∷◌, ◌++◌, ◌&&◌, Vec, Global, Bool, true, false, Option, Some, None, replicate, refl, ap, sym, ◌∙◌, subst, arith, append_assoc, inl, inr, ◌⊎◌, ⊎_elim, drop, length, get_or, ◌<◌, ◌≤◌}
use Rattle.std.specs.Prelude.{slice_get}
use Rattle.std.specs.List.{Contains}
use Rattle.std.proofs.lemmas.List.{append-nil, replicate-append-replicate}
use Rattle.std.proofs.lemmas.Bool.Decides.{Decides-eqb}
use Rattle.wasm_types.specs.declared.module.FuncType.{FuncType}
use Rattle.wasm_types.specs.declared.module.ValType.{ValType}
use Rattle.wasm_types.specs.declared.module.Body.{Body}
use Rattle.wasm_types.specs.declared.place.Loc.{Loc}
use Rattle.wasm_types.specs.declared.place.Loc.TheVariants.{Local, Global as GlobalLoc, Mem, Size, Host}
use Rattle.wasm_types.specs.declared.place.Node.{Node}
use Rattle.wasm_types.specs.declared.place.Node.TheVariants.{Exit}
use Rattle.wasm_types.specs.declared.instr.Instr.{Instr, Block', Loop', If'}
use Rattle.wasm_types.specs.declared.instr.Instr as instr
use Rattle.wasm_types.specs.declared.instr.Instr.TheVariants.{Block, Loop, If}
use Rattle.wasm_types.specs.Code.{Code, done, one, block, repeat, branch, onto, code_of_row, code_of, count, is_plain}
use Rattle.wasm_types.specs.Marked.{Marked, plain, marked, size}
use Rattle.wasm_types.specs.Nodes.{Join, named, made}
use Rattle.wasm_types.specs.Labels.{Label, arity, block_label, loop_label, body_label, arities, outermost}
use Rattle.wasm_types.specs.Actions.{Callees, Action, Get, Set, Tee, GetGlobal, SetGlobal, Read, Write, Pages, Grow, Copy, Fill, Form, NoForm, Plain, CallOf, CallBy, form_of, own_task, table_task, task_by}
use Rattle.wasm_types.specs.Locations.{is_local, is_global, is_mem, is_size, reads_in, checks_in, writes_in, TaskReads, TaskChecks, TaskWrites}
use Rattle.wasm_types.specs.Reaching.{HeadReads, HeadChecks, HeadWrites}
use Rattle.wasm_types.specs.Sites.{Head, DoHead, BlockHead, LoopHead, IfHead, BrHead, BrIfHead, BrTableHead, ReturnHead, UnreachableHead, Site, Sites, IsSite, sites, body_sites}
use Rattle.wasm_types.proofs.CodeLemmas.{onto-block, onto-loop, onto-if, onto-one}
use Rattle.flow_domain.specs.declared.loc_table.LocUse.{LocUse}
use Rattle.flow_domain.specs.LocRows.{shown_row, shown, reading, checking, writing, changing, uses_in, uses_by, uses_of, goes_on, if_live, rows_of}
use Rattle.flow_domain.specs.LocTables.{Rows, HasRow, HasUse, IsRowAt, row_in, IsPlainTable}
use Rattle.flow_domain.specs.Sliced.{no_calls, watched_code}

-- ---- what the code makes

pub shown_push : (rows : List (Option (Vec LocUse Global))) (row : Option (Vec LocUse Global)) → shown (rows ++ row ∷ []) ≡ shown rows ++ shown_row row ∷ []
shown_push [] row = refl
shown_push (r ∷ rows) row = ap (λ (xs : List (Option (List LocUse))). shown_row r ∷ xs) (shown_push rows row)

pub length_shown : (rows : List (Option (Vec LocUse Global))) → length (shown rows) ≡ length rows
length_shown [] = refl
length_shown (r ∷ rows) = ap suc (length_shown rows)

pub shown_at : (rows : List (Option (Vec LocUse Global))) (p : ℕ) (d : Option (Vec LocUse Global)) → p < length rows
    → slice_get (shown rows) p ≡ Some (shown_row (get_or rows p d))
shown_at [] p d lt = absurd (omega arith)
shown_at (r ∷ rows) zero d lt = refl
shown_at (r ∷ rows) (suc p) d lt = shown_at rows p d (omega arith)

pub shown_past : (rows : List (Option (Vec LocUse Global))) (p : ℕ) → length rows ≤ p → slice_get (shown rows) p ≡ None
shown_past [] p le = refl
shown_past (r ∷ rows) zero le = absurd (omega arith)
shown_past (r ∷ rows) (suc p) le = shown_past rows p (omega arith)

is_one : Code → Bool
is_one (one i rest) = true
is_one _ = false

-- a block, loop or if uses nothing
holder_uses : (i : Instr) → is_one (onto i done) ≡ false → uses_of i ≡ []
unfolding is_one onto code_of_row
holder_uses (Block' k m inner) h = refl
holder_uses (Loop' k m inner) h = refl
holder_uses (If' k m first n second) h = refl
holder_uses _ h = absurd cc

block_uses : (i : Instr) (k : Option ValType) (body : Code) → onto i done ≡ block k body done → uses_of i ≡ []
unfolding is_one
block_uses i k body e = holder_uses i (rw e refl)

loop_uses : (i : Instr) (k : Option ValType) (body : Code) → onto i done ≡ repeat k body done → uses_of i ≡ []
unfolding is_one
loop_uses i k body e = holder_uses i (rw e refl)

if_uses : (i : Instr) (k : Option ValType) (x y : Code) → onto i done ≡ branch k x y done → uses_of i ≡ []
unfolding is_one
if_uses i k x y e = holder_uses i (rw e refl)

module _ (live : Bool) (i : Instr) (a b : List (Option (List LocUse))) (made : b ≡ a ++ if_live live (uses_of i) ∷ []) where
  pub block_rows : (k : Option ValType) (xs : List Instr) (c : List (Option (List LocUse))) → i ≡ Block k xs → c ≡ b ++ rows_of live (code_of xs)
      → c ≡ a ++ rows_of live (onto i done)
  block_rows k xs c is more =
      let e : onto i done ≡ block k (code_of xs) done = ap (λ (z : Instr). onto z done) is ∙ onto-block k xs done in
      rw (e, more, made, block_uses i k (code_of xs) e, append-nil (rows_of live (code_of xs)))
      (append_assoc a (if_live live [] ∷ []) (rows_of live (code_of xs)))

  pub loop_rows : (k : Option ValType) (xs : List Instr) (c : List (Option (List LocUse))) → i ≡ Loop k xs → c ≡ b ++ rows_of live (code_of xs)
      → c ≡ a ++ rows_of live (onto i done)
  loop_rows k xs c is more =
      let e : onto i done ≡ repeat k (code_of xs) done = ap (λ (z : Instr). onto z done) is ∙ onto-loop k xs done in
      rw (e, more, made, loop_uses i k (code_of xs) e, append-nil (rows_of live (code_of xs)))
      (append_assoc a (if_live live [] ∷ []) (rows_of live (code_of xs)))

  pub if_rows : (k : Option ValType) (xs ys : List Instr) (c d : List (Option (List LocUse))) → i ≡ If k xs ys → c ≡ b ++ rows_of live (code_of xs)
      → d ≡ c ++ rows_of live (code_of ys) → d ≡ a ++ rows_of live (onto i done)
  if_rows k xs ys c d is more also =
      let e : onto i done ≡ branch k (code_of xs) (code_of ys) done = ap (λ (z : Instr). onto z done) is ∙ onto-if k xs ys done in
      rw (e, also, more, made, if_uses i k (code_of xs) (code_of ys) e, append-nil (rows_of live (code_of ys)))
      (append_assoc (a ++ if_live live [] ∷ []) (rows_of live (code_of xs)) (rows_of live (code_of ys)) ∙ append_assoc a (if_live live [] ∷ [])
      (rows_of live (code_of xs) ++ rows_of live (code_of ys)))

  pub one_rows : is_plain i ≡ true → b ≡ a ++ rows_of live (onto i done)
  one_rows h = rw (onto-one i done h, made) refl

-- the rows of an instruction, and then of the rest
rows-onto : (live : Bool) (i : Instr) (rest : Code) → rows_of live (onto i rest) ≡ rows_of live (onto i done) ++ rows_of (goes_on i && live) rest
unfolding onto code_of_row
rows-onto live (Block' k m inner) rest = ap (λ (xs : Rows). if_live live [] ∷ (xs ++ rows_of live rest)) (sym (append-nil (rows_of live (code_of_row inner))))
rows-onto live (Loop' k m inner) rest = ap (λ (xs : Rows). if_live live [] ∷ (xs ++ rows_of live rest)) (sym (append-nil (rows_of live (code_of_row inner))))
rows-onto live (If' k m first n second) rest =
    let x : Rows = rows_of live (code_of_row first) in let y : Rows = rows_of live (code_of_row second) in
    ap (λ (xs : Rows). if_live live [] ∷ xs) (sym (append_assoc x y (rows_of live rest)) ∙ ap (λ (z : Rows). (x ++ z) ++ rows_of live rest)
    (sym (append-nil y)))
rows-onto live _ rest = refl

pub rows-next : (live after : Bool) (i : Instr) (rest : Code) (a b all : Rows) → b ≡ a ++ rows_of live (onto i done) → after ≡ (goes_on i && live)
    → a ++ rows_of live (onto i rest) ≡ all → b ++ rows_of after rest ≡ all
rows-next live after i rest a b all made is e =
    rw (made, is) (append_assoc a (rows_of live (onto i done)) (rows_of (goes_on i && live) rest) ∙
    (ap (λ (xs : List (Option (List LocUse))). a ++ xs) (sym (rows-onto live i rest)) ∙ e))

-- ---- what a row tells

-- the uses of a row are what the instruction does
pub record Tells (cs : Callees) (uses : List LocUse) (head : Head) : Type 0 where
  pub reads : (x : Loc) → HasUse (λ u. u.reads) uses x ↔ HeadReads cs head x
  pub checks : (x : Loc) → HasUse (λ u. u.checks) uses x ↔ HeadChecks cs no_calls head x
  pub writes : (x : Loc) → HasUse (λ u. u.writes) uses x ↔ HeadWrites cs no_calls head x

none_there : {A : Type 0} (x : A) → Contains [] x → ⊥
none_there x (k, lt, is) = omega arith

there_later : {A : Type 0} (y x : A) (ys : List A) → Contains ys x → Contains (y ∷ ys) x
there_later y x ys (k, lt, is) = (suc k, omega arith, is)

there_split : {A : Type 0} (y x : A) (ys : List A) → Contains (y ∷ ys) x → (y ≡ x) ⊎ Contains ys x
there_split y x ys (zero, lt, is) = inl is
there_split y x ys (suc k, lt, is) = inr (k, omega arith, is)

pub no_use : (way : LocUse → Bool) (x : Loc) → HasUse way [] x → ⊥
no_use way x h = none_there h.found h.there

use_nil : (way : LocUse → Bool) (x : Loc) → HasUse way [] x ↔ (false ≡ true)
use_nil way x = (λ h. absurd (no_use way x h), λ e. absurd cc)

use_split : (way : LocUse → Bool) (u : LocUse) (us : List LocUse) (x : Loc) → HasUse way (u ∷ us) x → ((way u ≡ true) × (u.loc ≡ x)) ⊎ HasUse way us x
use_split way u us x h = ⊎_elim
    (λ e. inl (ap way e ∙ h.so, ap (λ (v : LocUse). v.loc) e ∙ h.same))
    (λ k. inr (record { found = h.found; there = k; same = h.same; so = h.so }))
    (there_split u h.found us h.there)

-- the first use is in this way, and no other
use_on : (way : LocUse → Bool) (u : LocUse) (us : List LocUse) (x : Loc) (B : Type 0) → way u ≡ true → (HasUse way us x → ⊥) → (u.loc ≡ x) ↔ B
    → HasUse way (u ∷ us) x ↔ B
use_on way u us x B on none same = (
  λ h. ⊎_elim (λ p. same.0 p.1) (λ k. absurd (none k)) (use_split way u us x h),
  λ b. record { found = u; there = (0, omega arith, refl); same = same.1 b; so = on },
)

use_off : (way : LocUse → Bool) (u : LocUse) (us : List LocUse) (x : Loc) (B : Type 0) → way u ≡ false → HasUse way us x ↔ B → HasUse way (u ∷ us) x ↔ B
use_off way u us x B off rest = (
  λ h. ⊎_elim (λ p. let on = p.0 in absurd cc) rest.0 (use_split way u us x h),
  λ b. let h = rest.1 b in record { found = h.found; there = there_later u h.found us h.there; same = h.same; so = h.so },
)

local_is : (k : ℕ) (x : Loc) → (Local k ≡ x) ↔ (is_local k x ≡ true)
local_is k (Local j) = (λ e. (Decides-eqb k j).1 cc, λ t. ap Local ((Decides-eqb k j).0 t))
local_is k (GlobalLoc j) = (λ e. absurd cc, λ t. absurd cc)
local_is k Mem = (λ e. absurd cc, λ t. absurd cc)
local_is k Size = (λ e. absurd cc, λ t. absurd cc)
local_is k Host = (λ e. absurd cc, λ t. absurd cc)

global_is : (k : ℕ) (x : Loc) → (GlobalLoc k ≡ x) ↔ (is_global k x ≡ true)
global_is k (GlobalLoc j) = (λ e. (Decides-eqb k j).1 cc, λ t. ap GlobalLoc ((Decides-eqb k j).0 t))
global_is k (Local j) = (λ e. absurd cc, λ t. absurd cc)
global_is k Mem = (λ e. absurd cc, λ t. absurd cc)
global_is k Size = (λ e. absurd cc, λ t. absurd cc)
global_is k Host = (λ e. absurd cc, λ t. absurd cc)

mem_is : (x : Loc) → (Mem ≡ x) ↔ (is_mem x ≡ true)
mem_is Mem = (λ e. refl, λ t. refl)
mem_is (Local j) = (λ e. absurd cc, λ t. absurd cc)
mem_is (GlobalLoc j) = (λ e. absurd cc, λ t. absurd cc)
mem_is Size = (λ e. absurd cc, λ t. absurd cc)
mem_is Host = (λ e. absurd cc, λ t. absurd cc)

size_is : (x : Loc) → (Size ≡ x) ↔ (is_size x ≡ true)
size_is Size = (λ e. refl, λ t. refl)
size_is (Local j) = (λ e. absurd cc, λ t. absurd cc)
size_is (GlobalLoc j) = (λ e. absurd cc, λ t. absurd cc)
size_is Mem = (λ e. absurd cc, λ t. absurd cc)
size_is Host = (λ e. absurd cc, λ t. absurd cc)

act_reads : (a : Action) (x : Loc) → HasUse (λ u. u.reads) (uses_in a) x ↔ (reads_in a x ≡ true)
act_reads (Get k) x = use_on (λ u. u.reads) (reading (Local k)) [] x (is_local k x ≡ true) refl (no_use (λ u. u.reads) x) (local_is k x)
act_reads (Set k) x = use_off (λ u. u.reads) (writing (Local k)) [] x (false ≡ true) refl (use_nil (λ u. u.reads) x)
act_reads (Tee k) x = use_off (λ u. u.reads) (writing (Local k)) [] x (false ≡ true) refl (use_nil (λ u. u.reads) x)
act_reads (GetGlobal k) x = use_on (λ u. u.reads) (reading (GlobalLoc k)) [] x (is_global k x ≡ true) refl (no_use (λ u. u.reads) x) (global_is k x)
act_reads (SetGlobal k) x = use_off (λ u. u.reads) (writing (GlobalLoc k)) [] x (false ≡ true) refl (use_nil (λ u. u.reads) x)
act_reads (Read access signed) x =
    use_on (λ u. u.reads) (reading Mem) (checking Size ∷ []) x (is_mem x ≡ true) refl
    (λ h. let e : false ≡ true = (use_off (λ u. u.reads) (checking Size) [] x (false ≡ true) refl (use_nil (λ u. u.reads) x)).0 h in cc) (mem_is x)
act_reads (Write access) x =
    use_on (λ u. u.reads) (changing Mem) (checking Size ∷ []) x (is_mem x ≡ true) refl
    (λ h. let e : false ≡ true = (use_off (λ u. u.reads) (checking Size) [] x (false ≡ true) refl (use_nil (λ u. u.reads) x)).0 h in cc) (mem_is x)
act_reads Pages x = use_on (λ u. u.reads) (reading Size) [] x (is_size x ≡ true) refl (no_use (λ u. u.reads) x) (size_is x)
act_reads Grow x = use_on (λ u. u.reads) (changing Size) [] x (is_size x ≡ true) refl (no_use (λ u. u.reads) x) (size_is x)
act_reads Copy x =
    use_on (λ u. u.reads) (changing Mem) (checking Size ∷ []) x (is_mem x ≡ true) refl
    (λ h. let e : false ≡ true = (use_off (λ u. u.reads) (checking Size) [] x (false ≡ true) refl (use_nil (λ u. u.reads) x)).0 h in cc) (mem_is x)
act_reads Fill x =
    use_on (λ u. u.reads) (changing Mem) (checking Size ∷ []) x (is_mem x ≡ true) refl
    (λ h. let e : false ≡ true = (use_off (λ u. u.reads) (checking Size) [] x (false ≡ true) refl (use_nil (λ u. u.reads) x)).0 h in cc) (mem_is x)
act_reads _ x = use_nil (λ u. u.reads) x

act_checks : (a : Action) (x : Loc) → HasUse (λ u. u.checks) (uses_in a) x ↔ (checks_in a x ≡ true)
act_checks (Get k) x = use_off (λ u. u.checks) (reading (Local k)) [] x (false ≡ true) refl (use_nil (λ u. u.checks) x)
act_checks (Set k) x = use_off (λ u. u.checks) (writing (Local k)) [] x (false ≡ true) refl (use_nil (λ u. u.checks) x)
act_checks (Tee k) x = use_off (λ u. u.checks) (writing (Local k)) [] x (false ≡ true) refl (use_nil (λ u. u.checks) x)
act_checks (GetGlobal k) x = use_off (λ u. u.checks) (reading (GlobalLoc k)) [] x (false ≡ true) refl (use_nil (λ u. u.checks) x)
act_checks (SetGlobal k) x = use_off (λ u. u.checks) (writing (GlobalLoc k)) [] x (false ≡ true) refl (use_nil (λ u. u.checks) x)
act_checks (Read access signed) x =
    use_off (λ u. u.checks) (reading Mem) (checking Size ∷ []) x (is_size x ≡ true) refl
    (use_on (λ u. u.checks) (checking Size) [] x (is_size x ≡ true) refl (no_use (λ u. u.checks) x) (size_is x))
act_checks (Write access) x =
    use_off (λ u. u.checks) (changing Mem) (checking Size ∷ []) x (is_size x ≡ true) refl
    (use_on (λ u. u.checks) (checking Size) [] x (is_size x ≡ true) refl (no_use (λ u. u.checks) x) (size_is x))
act_checks Pages x = use_off (λ u. u.checks) (reading Size) [] x (false ≡ true) refl (use_nil (λ u. u.checks) x)
act_checks Grow x = use_off (λ u. u.checks) (changing Size) [] x (false ≡ true) refl (use_nil (λ u. u.checks) x)
act_checks Copy x =
    use_off (λ u. u.checks) (changing Mem) (checking Size ∷ []) x (is_size x ≡ true) refl
    (use_on (λ u. u.checks) (checking Size) [] x (is_size x ≡ true) refl (no_use (λ u. u.checks) x) (size_is x))
act_checks Fill x =
    use_off (λ u. u.checks) (changing Mem) (checking Size ∷ []) x (is_size x ≡ true) refl
    (use_on (λ u. u.checks) (checking Size) [] x (is_size x ≡ true) refl (no_use (λ u. u.checks) x) (size_is x))
act_checks _ x = use_nil (λ u. u.checks) x

act_writes : (a : Action) (x : Loc) → HasUse (λ u. u.writes) (uses_in a) x ↔ (writes_in a x ≡ true)
act_writes (Get k) x = use_off (λ u. u.writes) (reading (Local k)) [] x (false ≡ true) refl (use_nil (λ u. u.writes) x)
act_writes (Set k) x = use_on (λ u. u.writes) (writing (Local k)) [] x (is_local k x ≡ true) refl (no_use (λ u. u.writes) x) (local_is k x)
act_writes (Tee k) x = use_on (λ u. u.writes) (writing (Local k)) [] x (is_local k x ≡ true) refl (no_use (λ u. u.writes) x) (local_is k x)
act_writes (GetGlobal k) x = use_off (λ u. u.writes) (reading (GlobalLoc k)) [] x (false ≡ true) refl (use_nil (λ u. u.writes) x)
act_writes (SetGlobal k) x = use_on (λ u. u.writes) (writing (GlobalLoc k)) [] x (is_global k x ≡ true) refl (no_use (λ u. u.writes) x) (global_is k x)
act_writes (Read access signed) x =
    use_off (λ u. u.writes) (reading Mem) (checking Size ∷ []) x (false ≡ true) refl
    (use_off (λ u. u.writes) (checking Size) [] x (false ≡ true) refl (use_nil (λ u. u.writes) x))
act_writes (Write access) x =
    use_on (λ u. u.writes) (changing Mem) (checking Size ∷ []) x (is_mem x ≡ true) refl
    (λ h. let e : false ≡ true = (use_off (λ u. u.writes) (checking Size) [] x (false ≡ true) refl (use_nil (λ u. u.writes) x)).0 h in cc) (mem_is x)
act_writes Pages x = use_off (λ u. u.writes) (reading Size) [] x (false ≡ true) refl (use_nil (λ u. u.writes) x)
act_writes Grow x = use_on (λ u. u.writes) (changing Size) [] x (is_size x ≡ true) refl (no_use (λ u. u.writes) x) (size_is x)
act_writes Copy x =
    use_on (λ u. u.writes) (changing Mem) (checking Size ∷ []) x (is_mem x ≡ true) refl
    (λ h. let e : false ≡ true = (use_off (λ u. u.writes) (checking Size) [] x (false ≡ true) refl (use_nil (λ u. u.writes) x)).0 h in cc) (mem_is x)
act_writes Fill x =
    use_on (λ u. u.writes) (changing Mem) (checking Size ∷ []) x (is_mem x ≡ true) refl
    (λ h. let e : false ≡ true = (use_off (λ u. u.writes) (checking Size) [] x (false ≡ true) refl (use_nil (λ u. u.writes) x)).0 h in cc) (mem_is x)
act_writes _ x = use_nil (λ u. u.writes) x

own_reads : (g : ℕ) (t : Option FuncType) (x : Loc) → TaskReads (own_task g t) x → ⊥
own_reads g None x h = h
own_reads g (Some t) x h = h

own_checks : (g : ℕ) (t : Option FuncType) (x : Loc) → TaskChecks no_calls (own_task g t) x → ⊥
own_checks g None x h = h
own_checks g (Some t) x h = h

own_writes : (g : ℕ) (t : Option FuncType) (x : Loc) → TaskWrites no_calls (own_task g t) x → ⊥
own_writes g None x h = h
own_writes g (Some t) x h = h

table_reads : (g : ℕ) (t : Option FuncType) (x : Loc) → TaskReads (table_task g t) x → ⊥
table_reads g None x h = h
table_reads g (Some t) x h = h

table_checks : (g : ℕ) (t : Option FuncType) (x : Loc) → TaskChecks no_calls (table_task g t) x → ⊥
table_checks g None x h = h
table_checks g (Some t) x h = h

table_writes : (g : ℕ) (t : Option FuncType) (x : Loc) → TaskWrites no_calls (table_task g t) x → ⊥
table_writes g None x h = h
table_writes g (Some t) x h = h

form_reads : (cs : Callees) (F : Form) (x : Loc) → HasUse (λ u. u.reads) (uses_by F) x ↔ TaskReads (task_by cs F) x
form_reads cs NoForm x = (no_use (λ u. u.reads) x, λ h. absurd h)
form_reads cs (Plain a) x = act_reads a x
form_reads cs (CallOf g) x = (λ h. absurd (no_use (λ u. u.reads) x h), λ h. absurd (own_reads g (cs.type_of g) x h))
form_reads cs (CallBy t) x = (λ h. absurd (no_use (λ u. u.reads) x h), λ h. absurd (table_reads t (cs.type_at t) x h))

form_checks : (cs : Callees) (F : Form) (x : Loc) → HasUse (λ u. u.checks) (uses_by F) x ↔ TaskChecks no_calls (task_by cs F) x
form_checks cs NoForm x = (no_use (λ u. u.checks) x, λ h. absurd h)
form_checks cs (Plain a) x = act_checks a x
form_checks cs (CallOf g) x = (λ h. absurd (no_use (λ u. u.checks) x h), λ h. absurd (own_checks g (cs.type_of g) x h))
form_checks cs (CallBy t) x = (λ h. absurd (no_use (λ u. u.checks) x h), λ h. absurd (table_checks t (cs.type_at t) x h))

form_writes : (cs : Callees) (F : Form) (x : Loc) → HasUse (λ u. u.writes) (uses_by F) x ↔ TaskWrites no_calls (task_by cs F) x
form_writes cs NoForm x = (no_use (λ u. u.writes) x, λ h. absurd h)
form_writes cs (Plain a) x = act_writes a x
form_writes cs (CallOf g) x = (λ h. absurd (no_use (λ u. u.writes) x h), λ h. absurd (own_writes g (cs.type_of g) x h))
form_writes cs (CallBy t) x = (λ h. absurd (no_use (λ u. u.writes) x h), λ h. absurd (table_writes t (cs.type_at t) x h))

tells_do : (cs : Callees) (op : Instr) → Tells cs (uses_of op) (DoHead op)
tells_do cs op =
    record { reads = λ x. form_reads cs (form_of op) x; checks = λ x. form_checks cs (form_of op) x; writes = λ x. form_writes cs (form_of op) x }

tells_nothing : (cs : Callees) (head : Head) → ((x : Loc) → HeadReads cs head x → ⊥) → ((x : Loc) → HeadChecks cs no_calls head x → ⊥)
    → ((x : Loc) → HeadWrites cs no_calls head x → ⊥) → Tells cs [] head
tells_nothing cs head r c w = record {
  reads = λ x. (λ h. absurd (no_use (λ u. u.reads) x h), λ h. absurd (r x h));
  checks = λ x. (λ h. absurd (no_use (λ u. u.checks) x h), λ h. absurd (c x h));
  writes = λ x. (λ h. absurd (no_use (λ u. u.writes) x h), λ h. absurd (w x h));
}

-- ---- rows and sites, one by one

abbrev Fit : Callees → Rows → Sites → Type 0
Fit cs [] [] = Unit {0}
Fit cs (None ∷ rows) (None ∷ S) = Fit cs rows S
Fit cs (Some uses ∷ rows) (Some s ∷ S) = Tells cs uses s.head × Fit cs rows S
Fit cs _ _ = ⊥

fit_append : (cs : Callees) (a b : Rows) (S T : Sites) → Fit cs a S → Fit cs b T → Fit cs (a ++ b) (S ++ T)
fit_append cs [] b [] T f g = g
fit_append cs [] b (s ∷ S) T f g = absurd f
fit_append cs (None ∷ a) b (None ∷ S) T f g = fit_append cs a b S T f g
fit_append cs (Some u ∷ a) b (Some s ∷ S) T f g = (f.0, fit_append cs a b S T f.1 g)
fit_append cs (None ∷ a) b (Some s ∷ S) T f g = absurd f
fit_append cs (Some u ∷ a) b (None ∷ S) T f g = absurd f
fit_append cs (None ∷ a) b [] T f g = absurd f
fit_append cs (Some u ∷ a) b [] T f g = absurd f

fit_dead : (cs : Callees) (n : ℕ) → Fit cs (replicate n None) (replicate n None)
fit_dead cs zero = tt
fit_dead cs (suc n) = fit_dead cs n

and_false : (b : Bool) → (b && false) ≡ false
and_false true = refl
and_false false = refl

one_none : (m n : ℕ) → m ≡ suc n → None ∷ replicate n None ≡ replicate {A = Option (List LocUse)} m None
one_none m n e = rw e refl

dead_rows : (c : Code) → rows_of false c ≡ replicate (count c) None
dead_rows done = refl
dead_rows (one op rest) = rw (and_false (goes_on op), dead_rows rest) (one_none (1 + count rest) (count rest) (omega arith))
dead_rows (block kind body rest) =
    rw (
      dead_rows body,
      dead_rows rest,
      replicate-append-replicate {A =
          Option (List LocUse)} (count body) (count rest) None,
    ) (one_none (1 + count body + count rest) (count body + count rest) (omega arith))
dead_rows (repeat kind body rest) =
    rw (
      dead_rows body,
      dead_rows rest,
      replicate-append-replicate {A =
          Option (List LocUse)} (count body) (count rest) None,
    ) (one_none (1 + count body + count rest) (count body + count rest) (omega arith))
dead_rows (branch kind x y rest) =
    rw (
      dead_rows x,
      dead_rows y,
      dead_rows rest,
      replicate-append-replicate {A =
          Option (List LocUse)} (count y) (count rest) None,
      replicate-append-replicate {A = Option (List LocUse)} (count x) (count y + count rest) None,
    )
    (one_none (1 + count x + count y + count rest) (count x + (count y + count rest)) (omega arith))

size_leaf : (m : Bool) (op : Instr) (rest : Marked) → size (plain m op rest) ≡ 1 + size rest
size_leaf m instr.Return rest = refl
size_leaf m _ rest = refl

size_marked : (w : ℕ → Bool) (c : Code) (p : ℕ) → size (marked w p c) ≡ count c
size_marked w done p = refl
size_marked w (one op rest) p = omega (arith, size_leaf (w p) op (marked w (p + 1) rest), size_marked w rest (p + 1))
size_marked w (block kind body rest) p = omega (arith, size_marked w body (p + 1), size_marked w rest (p + 1 + count body))
size_marked w (repeat kind body rest) p = omega (arith, size_marked w body (p + 1), size_marked w rest (p + 1 + count body))
size_marked w (branch kind x y rest) p =
    omega (arith, size_marked w x (p + 1), size_marked w y (p + 1 + count x), size_marked w rest (p + 1 + count x + count y))

fit_dead_code : (cs : Callees) (w : ℕ → Bool) (q : ℕ) (c : Code) → Fit cs (rows_of false c) (replicate (size (marked w q c)) None)
fit_dead_code cs w q c = rw (dead_rows c, size_marked w c q) (fit_dead cs (count c))

module _ (cs : Callees) where
  -- an instruction that holds no others, where the rest fits whether it is live or not
  fit_plain : (ctx : List Label) (k : Node) (m : Bool) (op : Instr) (M : Marked) (c : Code) (p : ℕ) (names : List Node)
      → ((names' : List Node) → Fit cs (rows_of true c) (sites cs ctx k M (p + 1) names')) → Fit cs (rows_of false c) (replicate (size M) None)
      → Fit cs (Some (uses_of op) ∷ rows_of (goes_on op && true) c) (sites cs ctx k (plain m op M) p names)
  fit_plain ctx k m (instr.Br l) M c p names live dead = (tells_nothing cs (BrHead l) (λ x h. h) (λ x h. h) (λ x h. h), dead)
  fit_plain ctx k m (instr.BrIf l) M c p names live dead = (tells_nothing cs (BrIfHead l) (λ x h. h) (λ x h. h) (λ x h. h), live _)
  fit_plain ctx k m (instr.BrTable labels other) M c p names live dead = (tells_nothing cs (BrTableHead labels other) (λ x h. h) (λ x h. h) (λ x h. h), dead)
  fit_plain ctx k m instr.Return M c p names live dead = (tells_nothing cs (ReturnHead (outermost (arities ctx))) (λ x h. h) (λ x h. h) (λ x h. h), dead)
  fit_plain ctx k m instr.Unreachable M c p names live dead = (tells_nothing cs UnreachableHead (λ x h. h) (λ x h. h) (λ x h. h), dead)
  fit_plain ctx k m op M c p names live dead = (tells_do cs op, live _)

  fit_code : (w : ℕ → Bool) (c : Code) (ctx : List Label) (k : Node) (q p : ℕ) (names : List Node)
      → Fit cs (rows_of true c) (sites cs ctx k (marked w q c) p names)
  fit_code w done ctx k q p names = tt
  fit_code w (one op rest) ctx k q p names =
      fit_plain ctx k (w q) op (marked w (q + 1) rest) rest p names (λ names'. fit_code w rest ctx k (q + 1) (p + 1) names') (fit_dead_code cs w (q + 1) rest)
  fit_code w (block kind body rest) ctx k q p names =
      let B = marked w (q + 1) body in let e = p + 1 + size B in (
        tells_nothing cs (BlockHead kind) (λ x h. h) (λ x h. h) (λ x h. h),
        fit_append cs (rows_of true body) (rows_of true rest) _ _
            (fit_code w body (block_label p (arity kind) e ∷ ctx) (Join p) (q + 1) (p + 1) [])
            (fit_code w rest ctx k (q + 1 + count body) e (named (arity kind) (Join p) names)),
      )
  fit_code w (repeat kind body rest) ctx k q p names =
      let B = marked w (q + 1) body in let e = p + 1 + size B in (
        tells_nothing cs (LoopHead kind) (λ x h. h) (λ x h. h) (λ x h. h),
        fit_append cs (rows_of true body) (rows_of true rest) _ _
            (fit_code w body (loop_label p e ∷ ctx) (Join p) (q + 1) (p + 1) [])
            (fit_code w rest ctx k (q + 1 + count body) e (named (arity kind) (Join p) names)),
      )
  fit_code w (branch kind x y rest) ctx k q p names =
      let X = marked w (q + 1) x in let Y = marked w (q + 1 + count x) y in let e = p + 1 + size X + size Y in (
        tells_nothing cs (IfHead kind) (λ z h. h) (λ z h. h) (λ z h. h),
        fit_append cs (rows_of true x) (rows_of true y ++ rows_of true rest) _ _
            (fit_code w x (block_label p (arity kind) e ∷ ctx) (Join p) (q + 1) (p + 1) [])
            (fit_append cs (rows_of true y) (rows_of true rest) _ _
            (fit_code w y (block_label p (arity kind) e ∷ ctx) (Join p) (q + 1 + count x) (p + 1 + size X) [])
            (fit_code w rest ctx k (q + 1 + count x + count y) e (named (arity kind) (Join p) (drop 1 names)))),
      )

  fit_row : (rows : Rows) (S : Sites) → Fit cs rows S → (p : ℕ) (uses : List LocUse) → HasRow rows p uses → (s : Site) × (IsSite S p s × Tells cs uses s.head)
  fit_row [] [] fit p uses h = absurd cc
  fit_row [] (s ∷ S) fit p uses h = absurd fit
  fit_row (None ∷ rows) (None ∷ S) fit zero uses h = absurd cc
  fit_row (None ∷ rows) (None ∷ S) fit (suc p) uses h = fit_row rows S fit p uses h
  fit_row (Some u ∷ rows) (Some s ∷ S) fit zero uses h = let e : u ≡ uses = cc in (s, (refl, subst (λ (z : List LocUse). Tells cs z s.head) e fit.0))
  fit_row (Some u ∷ rows) (Some s ∷ S) fit (suc p) uses h = fit_row rows S fit.1 p uses h
  fit_row (None ∷ rows) (Some s ∷ S) fit p uses h = absurd fit
  fit_row (Some u ∷ rows) (None ∷ S) fit p uses h = absurd fit
  fit_row (None ∷ rows) [] fit p uses h = absurd fit
  fit_row (Some u ∷ rows) [] fit p uses h = absurd fit

  fit_site : (rows : Rows) (S : Sites) → Fit cs rows S → (p : ℕ) (s : Site) → IsSite S p s
      → (uses : List LocUse) × (HasRow rows p uses × Tells cs uses s.head)
  fit_site [] [] fit p s h = absurd cc
  fit_site [] (t ∷ S) fit p s h = absurd fit
  fit_site (None ∷ rows) (None ∷ S) fit zero s h = absurd cc
  fit_site (None ∷ rows) (None ∷ S) fit (suc p) s h = fit_site rows S fit p s h
  fit_site (Some u ∷ rows) (Some t ∷ S) fit zero s h = let e : t ≡ s = cc in (u, (refl, subst (λ (z : Site). Tells cs u z.head) e fit.0))
  fit_site (Some u ∷ rows) (Some t ∷ S) fit (suc p) s h = fit_site rows S fit.1 p s h
  fit_site (None ∷ rows) (Some t ∷ S) fit p s h = absurd fit
  fit_site (Some u ∷ rows) (None ∷ S) fit p s h = absurd fit
  fit_site (None ∷ rows) [] fit p s h = absurd fit
  fit_site (Some u ∷ rows) [] fit p s h = absurd fit

  pub plain_table : (results : ℕ) (w : ℕ → Bool) (b : Body) (T : Rows) → T ≡ rows_of true (code_of b.code)
      → IsPlainTable cs (body_sites cs results (watched_code w b)) T
  plain_table results w b T is =
      let c : Marked = watched_code w b in
      let S : Sites = body_sites cs results c in
      let fit : Fit cs T S = rw is (fit_code w (code_of b.code) (body_label results (size c) ∷ []) Exit 0 0 []) in
      record {
        live = λ p. (λ h. let s = fit_row T S fit p h.0 h.1 in (s.0, s.1.0), λ h. let r = fit_site T S fit p h.0 h.1 in (r.0, r.1.0));
        reads = λ p x. (
          λ h. let s = fit_row T S fit p h.0 h.1.0 in (s.0, (s.1.0, (s.1.1.reads x).0 h.1.1)),
          λ h. let r = fit_site T S fit p h.0 h.1.0 in (r.0, (r.1.0, (r.1.1.reads x).1 h.1.1)),
        );
        checks = λ p x. (
          λ h. let s = fit_row T S fit p h.0 h.1.0 in (s.0, (s.1.0, (s.1.1.checks x).0 h.1.1)),
          λ h. let r = fit_site T S fit p h.0 h.1.0 in (r.0, (r.1.0, (r.1.1.checks x).1 h.1.1)),
        );
        writes = λ p x. (
          λ h. let s = fit_row T S fit p h.0 h.1.0 in record { site = s.0; is = s.1.0; writes = (s.1.1.writes x).0 h.1.1 },
          λ h. let r = fit_site T S fit p h.site h.is in (r.0, (r.1.0, (r.1.1.writes x).1 h.writes)),
        );
      }

pub same_body : (a b : Body) → Some a ≡ Some b → a ≡ b
same_body a b e = cc

-- ---- reading a row

module _ (T : Rows) (rows list : List (Option (Vec LocUse Global))) (p : ℕ) (view : shown rows ≡ T) (same : list ≡ rows) where
  pub row_past : length list ≤ p → IsRowAt T p []
  row_past le = let none : slice_get (shown rows) p ≡ None = shown_past rows p (rw same at le) in rw (← view, none) refl

  pub row_here : (row : Option (Vec LocUse Global)) (uses : List LocUse) → p < length list → row ≡ get_or list p row → uses ≡ row_in (Some (shown_row row))
      → IsRowAt T p uses
  row_here row uses lt is e =
      let at : slice_get (shown rows) p ≡ Some (shown_row row) = shown_at rows p row (rw same at lt) ∙ ap
      (λ (r : Option (Vec LocUse Global)). Some (shown_row r)) (sym (rw same at is)) in
      rw (← view, at) e
