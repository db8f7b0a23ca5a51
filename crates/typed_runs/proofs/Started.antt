-- The start of a valid module fits it.
use Rattle.std.proofs.Common.{◌≡◌, ℕ, zero, suc, ◌+◌, ◌-◌, ◌*◌, ◌<◌, ◌≤◌, inl, List, [], ◌∷◌, ◌++◌, map, length, true, Option, Some, None, IfSome, slice_get, get_or, All, refl, sym, ◌∙◌, subst, arith}
use Rattle.std.proofs.lemmas.List.{map-append, length-replicate}
use Rattle.std.proofs.lemmas.List.Elements.{All-nil, All-cons, All-head, All-tail, All-replicate}
use Rattle.std.proofs.lemmas.Option.{slice_get_within, get_or_from_slice_get}
use Rattle.wasm_types.specs.declared.module.Value.{Value}
use Rattle.wasm_types.specs.declared.module.Value.TheVariants as value
use Rattle.wasm_types.specs.declared.module.ValType.{ValType}
use Rattle.wasm_types.specs.declared.module.Limits.{Limits}
use Rattle.wasm_types.specs.declared.module.GlobalType.{GlobalType}
use Rattle.wasm_types.specs.declared.module.GlobalDef.{GlobalDef}
use Rattle.wasm_types.specs.declared.module.ImportKind.{ImportKind}
use Rattle.wasm_types.specs.declared.module.ImportKind.TheVariants as import
use Rattle.wasm_types.specs.declared.module.Import.{Import}
use Rattle.wasm_types.specs.declared.module.Elem.{Elem}
use Rattle.wasm_types.specs.declared.module.DataSegment.{DataSegment}
use Rattle.wasm_types.specs.declared.module.Module.{Module}
use Rattle.wasm_types.specs.declared.place.Part.TheVariants as part
use Rattle.wasm_types.specs.declared.instr.Instr.{Instr, GlobalGet, I32Const, I64Const}
use Rattle.wasm_types.specs.Code.{onto}
use Rattle.wasm_types.specs.WellFormed.{ProperInstrs, ProperGlobal}
use Rattle.wasm_types.specs.Spaces.{imported, memory_import, global_import, global_kind, tables_of, mems_of}
use Rattle.wasm_types.specs.Validity.{LimitsWithin, most_pages, ImportHolds, IsConstant, ElemHolds}
use Rattle.wasm_meaning.specs.Fits.{HasType, HaveTypes, global_type}
use Rattle.wasm_types.specs.Hosts.{is_within, MayStand}
use Rattle.wasm_meaning.specs.Cells.{put}
use Rattle.wasm_meaning.specs.Memory.{written}
use Rattle.typed_runs.specs.Start.{constant, first_globals, least, bare, begins, named, table_after, data_after, StartsFit}
use Rattle.wasm_meaning.proofs.Values.{some_same, if_some, have_append, have_at}
use Rattle.typed_runs.proofs.Bytes.{IsByte, AreBytes, written_long, written_bytes, within_le}
use Rattle.typed_runs.proofs.ActionTyping.{global_known}

-- ---- lists

-- P holds of each element
abbrev Each : {A : Type 0} → (A → Type 0) → List A → Type 0
Each P xs = (k : ℕ) (x : _) → slice_get xs k ≡ Some x → P x

each_append : {A : Type 0} (P : A → Type 0) (xs ys : List A) → Each P xs → Each P ys → Each P (xs ++ ys)
each_append P [] ys h g k x at = g k x at
each_append P (z ∷ xs) ys h g zero x at = h zero x at
each_append P (z ∷ xs) ys h g (suc k) x at = each_append P xs ys (λ j y a. h (suc j) y a) g k x at

each_of : {A : Type 0} (P : A → Type 0) (xs : List A) → All P xs → Each P xs
each_of P xs all k x at = subst P (get_or_from_slice_get xs k x x at) (all k x (slice_get_within xs k x at))

-- ---- globals

constant_fits : (ims : List GlobalType) (gs : List Value) → HaveTypes gs (map global_type ims) → (t : ValType) (code : List Instr) → IsConstant ims t code
    → ProperInstrs code → HasType (constant gs code) t
unfolding onto
constant_fits ims gs h t (I32Const n ∷ []) c p = (c, p.0)
constant_fits ims gs h t (I64Const n ∷ []) c p = (c, p.0)
constant_fits ims gs h t (GlobalGet x ∷ []) c p =
    subst (HasType (constant gs (GlobalGet x ∷ []))) c.2 (have_at gs (map global_type ims) x c.0.kind (value.I32 0) h (global_known ims x c.0 c.1))
constant_fits ims gs h t _ c p = absurd c

own_fit : (ims : List GlobalType) (gs : List Value) → HaveTypes gs (map global_type ims) → (ds : List GlobalDef)
    → Each (λ (g : GlobalDef). IsConstant ims g.kind.kind g.init × ProperInstrs g.init) ds
    → HaveTypes (map (λ (g : GlobalDef). constant gs g.init) ds) (map global_type (map global_kind ds))
own_fit ims gs h [] each = tt
own_fit ims gs h (d ∷ ds) each =
    let a = each zero d refl in (constant_fits ims gs h d.kind.kind d.init a.0 a.1, own_fit ims gs h ds (λ k x at. each (suc k) x at))

-- ---- limits

memory_within : (k : ImportKind) (m : Module) → ImportHolds m k → Each (LimitsWithin most_pages) (memory_import k)
memory_within (import.Func t) m h k x at = absurd cc
memory_within (import.Table l) m h k x at = absurd cc
memory_within (import.Memory l) m h zero x at = subst (LimitsWithin most_pages) (some_same at) h
memory_within (import.Memory l) m h (suc k) x at = absurd cc
memory_within (import.Global g) m h k x at = absurd cc

imports_within : (m : Module) (is : List Import) → Each (λ (i : Import). ImportHolds m i.kind) is → Each (LimitsWithin most_pages) (imported memory_import is)
imports_within m [] h k x at = absurd cc
imports_within m (i ∷ is) h k x at =
    each_append (LimitsWithin most_pages) (memory_import i.kind) (imported memory_import is) (memory_within i.kind m (h zero i refl))
    (imports_within m is (λ j y a. h (suc j) y a)) k x at

least_within : (ls : List Limits) → Each (LimitsWithin most_pages) ls → least ls ≤ 65536
least_within [] h = omega arith
least_within (l ∷ ls) h = (h zero l refl).0

max_above : (o : Option ℕ) (n : ℕ) → IfSome o (λ max. (n ≤ max) × (max ≤ most_pages)) → IfSome o (λ most. n ≤ most)
max_above None n h = tt
max_above (Some x) n h = h.0

least_below : (ls : List Limits) → length ls ≤ 1 → Each (LimitsWithin most_pages) ls → All (λ (l : Limits). IfSome l.max (λ most. least ls ≤ most)) ls
least_below [] le h = All-nil (λ (l : Limits). IfSome l.max (λ most. 0 ≤ most))
least_below (l ∷ []) le h =
    All-cons (λ (x : Limits). IfSome x.max (λ most. l.min ≤ most)) l [] (max_above l.max l.min (h zero l refl).1)
    (All-nil (λ (x : Limits). IfSome x.max (λ most. l.min ≤ most)))
least_below (l ∷ k ∷ ls) le h = absurd (omega arith)

-- ---- segments

data_fit : (gs : List Value) (ds : List DataSegment) (bytes : List ℕ) (long : ℕ) → length bytes ≡ long → AreBytes bytes
    → All (λ (d : DataSegment). is_within (begins gs d.offset) (length d.bytes) long ≡ true) ds → All (λ (d : DataSegment). AreBytes d.bytes) ds
    → (length (data_after gs ds bytes) ≡ long) × AreBytes (data_after gs ds bytes)
data_fit gs [] bytes long l h fit proper = (l, h)
data_fit gs (d ∷ ds) bytes long l h fit proper =
    let le = within_le (begins gs d.offset) (length d.bytes) long
    (All-head (λ (d : DataSegment). is_within (begins gs d.offset) (length d.bytes) long ≡ true) d ds fit) in
    let le' : begins gs d.offset + length d.bytes ≤ length bytes = subst (λ n. begins gs d.offset + length d.bytes ≤ n) (sym l) le in
    let b = All-head (λ (d : DataSegment). AreBytes d.bytes) d ds proper in
    data_fit gs ds (written (begins gs d.offset) d.bytes bytes) long (written_long (begins gs d.offset) d.bytes bytes le' ∙ l)
    (written_bytes (begins gs d.offset) d.bytes bytes b h)
    (All-tail (λ (d : DataSegment). is_within (begins gs d.offset) (length d.bytes) long ≡ true) d ds fit)
    (All-tail (λ (d : DataSegment). AreBytes d.bytes) d ds proper)

module _ (P : ℕ → Type 0) where
  abbrev Entry : Option ℕ → Type 0
  Entry entry = IfSome entry P

  put_entry : (k f : ℕ) (table : List (Option ℕ)) → P f → All Entry table → All Entry (put None k (Some f) table)
  put_entry zero f [] p h = All-cons Entry (Some f) [] p h
  put_entry zero f (x ∷ table) p h = All-cons Entry (Some f) table p (All-tail Entry x table h)
  put_entry (suc k) f [] p h = All-cons Entry None _ tt (put_entry k f [] p h)
  put_entry (suc k) f (x ∷ table) p h = All-cons Entry x _ (All-head Entry x table h) (put_entry k f table p (All-tail Entry x table h))

  named_fit : (at : ℕ) (fs : List ℕ) (table : List (Option ℕ)) → All P fs → All Entry table → All Entry (named at fs table)
  named_fit at [] table p h = h
  named_fit at (f ∷ fs) table p h = named_fit (at + 1) fs (put None at (Some f) table) (All-tail P f fs p) (put_entry at f table (All-head P f fs p) h)

  table_fit : (gs : List Value) (es : List Elem) (table : List (Option ℕ)) → Each (λ (e : Elem). All P e.funcs) es → All Entry table
      → All Entry (table_after gs es table)
  table_fit gs [] table p h = h
  table_fit gs (e ∷ es) table p h =
      table_fit gs es (named (begins gs e.offset) e.funcs table) (λ k x at. p (suc k) x at) (named_fit (begins gs e.offset) e.funcs table (p zero e refl) h)

-- a function that a valid element segment names may stand in the table
may_stand : (m : Module) (k : ℕ) (e : Elem) → slice_get m.elems k ≡ Some e → ElemHolds m e → All (MayStand m) e.funcs
may_stand m k e at h j f lt =
    let same = get_or_from_slice_get m.elems k e e at in
    (h.2 j f lt, inl (k, e, slice_get_within m.elems k e at, same, (j, lt, again e.funcs j f lt)))
  where
    again : (fs : List ℕ) (j d : ℕ) → j < length fs → get_or fs j (get_or fs j d) ≡ get_or fs j d
    again [] j d lt = absurd (omega arith)
    again (x ∷ fs) zero d lt = refl
    again (x ∷ fs) (suc j) d lt = again fs j d (omega arith)

-- ---- the start

pub starts_fit : StartsFit
starts_fit m valid gs cap host can =
    let s = bare m gs cap host in
    let within : Each (LimitsWithin most_pages) (mems_of m) = each_append (LimitsWithin most_pages) (imported memory_import m.imports) m.mems
    (imports_within m m.imports imports) (each_of (LimitsWithin most_pages) m.mems (valid.1 part.MemoryAll).1) in
    let a = data_fit s.globals m.segments s.bytes (65536 * least (mems_of m)) (length-replicate (65536 * least (mems_of m)) 0)
    (All-replicate IsByte (65536 * least (mems_of m)) 0 (omega arith)) can.segments bytes in
    record {
      globals = subst (HaveTypes (first_globals m gs)) (sym (map-append global_type (imported global_import m.imports) (map global_kind m.globals)))
          (have_append gs (map (λ (g : GlobalDef). constant gs g.init) m.globals) (map global_type (imported global_import m.imports))
          (map global_type (map global_kind m.globals)) can.globals
          (own_fit (imported global_import m.imports) gs can.globals m.globals own));
      pages = least_within (mems_of m) within;
      below_cap = can.pages;
      below_maximum = least_below (mems_of m) (valid.1 part.MemoryAll).0 within;
      long = a.0;
      bytes = a.1;
      table =
          table_fit (MayStand m) s.globals m.elems s.table
          (λ k e at. may_stand m k e at (if_some (slice_get m.elems k) e (ElemHolds m) at (valid.1 (part.ElemAt k))))
          (All-replicate (λ (entry : Option ℕ). IfSome entry (MayStand m)) (least (tables_of m)) None tt);
    }
  where
    imports : Each (λ (i : Import). ImportHolds m i.kind) m.imports
    imports k i at = if_some (slice_get m.imports k) i (λ (i : Import). ImportHolds m i.kind) at (valid.1 (part.ImportAt k))

    bytes : All (λ (d : DataSegment). AreBytes d.bytes) m.segments
    bytes k d lt = (valid.0.segments k d lt).2

    own : Each (λ (g : GlobalDef). IsConstant (imported global_import m.imports) g.kind.kind g.init × ProperInstrs g.init) m.globals
    own j g at =
        let n = length (imported global_import m.imports) in
        let e : j ≡ n + j - n = omega arith in (
          valid.1 (part.GlobalAt (n + j)) g (omega arith)
              (subst (λ z. slice_get m.globals z ≡ Some g) e at),
          each_of ProperGlobal m.globals valid.0.globals j g at,
        )
