-- An instance that is made as the start says begins a run of the module.
use Rattle.std.proofs.Common.{◌≡◌, ℕ, ◌*◌, ◌≤◌, false, List, [], length, map, replicate, All, Option, None, sym, ap, ◌∙◌, subst}
use Rattle.std.proofs.lemmas.List.{length-replicate}
use Rattle.wasm_types.specs.declared.module.Value.{Value}
use Rattle.wasm_types.specs.declared.module.GlobalDef.{GlobalDef}
use Rattle.wasm_types.specs.declared.module.Elem.{Elem}
use Rattle.wasm_types.specs.declared.module.DataSegment.{DataSegment}
use Rattle.wasm_types.specs.declared.module.Module.{Module}
use Rattle.wasm_types.specs.Spaces.{imported, global_import, tables_of, mems_of}
use Rattle.wasm_types.specs.Validity.{IsValid}
use Rattle.wasm_meaning.specs.State.{State, HostCall, Script}
use Rattle.wasm_meaning.specs.Fits.{Fits, HaveTypes, global_type}
use Rattle.typed_runs.specs.Start.{first_globals, least, started, table_after, data_after, ElemFits, SegmentFits, CanStart}
use Rattle.typed_runs.proofs.Started.{starts_fit}
use Rattle.run_store.specs.Pages.{Paged, most_pages, zero_pages}
use Rattle.run_store.specs.Scripts.{Replies}
use Rattle.inst_make.specs.declared.instance.Instance.{Instance}
use Rattle.inst_make.specs.Instances.{state_of, declared_max}
use Rattle.inst_make.specs.Starts.{with_own, ElemWithin, SegmentWithin, IsFirstWithout, bare_of, Begins}
use Rattle.inst_make.proofs.Standing.{fits_after}
use Rattle.inst_make.proofs.FirstLimits.{least_allowed}

-- what was read of the module: its numbers of pages, the size of its table, and the globals' first values
pub record Reads (x m : Module) (gs : List Value) (pages : ℕ) (max : Option ℕ) (size : ℕ) (all : List Value) : Type 0 where
  pub same : x ≡ m
  pub pages_is : pages ≡ least (mems_of m)
  pub max_is : max ≡ declared_max (mems_of m)
  pub size_is : size ≡ least (tables_of m)
  pub all_is : all ≡ first_globals m gs

pub reads : (gs : List Value) {x m : Module} {own : List GlobalDef} {pages : ℕ} {max : Option ℕ} {size : ℕ} {all values : List Value}
    → x ≡ m → own ≡ x.globals → pages ≡ least (mems_of x) → max ≡ declared_max (mems_of x) → size ≡ least (tables_of x) → all ≡ with_own gs own → values ≡ all
    → Reads x m gs pages max size values
reads gs same own_is pages_is max_is size_is all_is values_is = record {
  same = same;
  pages_is = pages_is ∙ ap (λ (y : Module). least (mems_of y)) same;
  max_is = max_is ∙ ap (λ (y : Module). declared_max (mems_of y)) same;
  size_is = size_is ∙ ap (λ (y : Module). least (tables_of y)) same;
  all_is = values_is ∙ (all_is ∙ ap (with_own gs) (own_is ∙ ap (λ (y : Module). y.globals) same));
}

module _ {x m : Module} {gs : List Value} {pages : ℕ} {max : Option ℕ} {size : ℕ} {all : List Value} (read : Reads x m gs pages max size all)
    (most : ℕ) (given : Replies) where
  elems_are : {es : List Elem} → es ≡ x.elems → es ≡ m.elems
  elems_are e = e ∙ ap (λ (y : Module). y.elems) read.same

  segments_are : {ds : List DataSegment} → ds ≡ x.segments → ds ≡ m.segments
  segments_are e = e ∙ ap (λ (y : Module). y.segments) read.same

  -- ---- what the tests of segments tell

  pub elems_fit : (es : List Elem) → es ≡ x.elems → All (ElemWithin all size) es → All (ElemFits (bare_of m gs most given)) m.elems
  elems_fit es es_is h =
      let a = subst (λ g. All (ElemWithin g size) es) read.all_is h in
      let least_size = least (tables_of m) in
      let n : size ≡ length (replicate {A = Option ℕ} least_size None) = read.size_is ∙ sym (length-replicate {A = Option ℕ} least_size None) in
      let b = subst (λ k. All (ElemWithin (first_globals m gs) k) es) n a in
      subst (λ (l : List Elem). All (ElemFits (bare_of m gs most given)) l) (elems_are es_is) b

  pub segments_fit : (long : ℕ) (ds : List DataSegment) → long ≡ pages → ds ≡ x.segments → All (SegmentWithin all (65536 * long)) ds
      → All (SegmentFits (bare_of m gs most given)) m.segments
  segments_fit long ds long_is ds_is h =
      let a = subst (λ g. All (SegmentWithin g (65536 * long)) ds) read.all_is h in
      let b = subst (λ n. All (SegmentWithin (first_globals m gs) (65536 * n)) ds) (long_is ∙ read.pages_is) a in
      subst (λ (l : List DataSegment). All (SegmentFits (bare_of m gs most given)) l) (segments_are ds_is) b

  pub segment_out : (long : ℕ) (ds : List DataSegment) (k : ℕ) → long ≡ pages → ds ≡ x.segments → IsFirstWithout (SegmentWithin all (65536 * long)) ds k
      → IsFirstWithout (SegmentFits (bare_of m gs most given)) m.segments k
  segment_out long ds k long_is ds_is h =
      let a = subst (λ g. IsFirstWithout (SegmentWithin g (65536 * long)) ds k) read.all_is h in
      let b = subst (λ n. IsFirstWithout (SegmentWithin (first_globals m gs) (65536 * n)) ds k) (long_is ∙ read.pages_is) a in
      subst (λ (l : List DataSegment). IsFirstWithout (SegmentFits (bare_of m gs most given)) l k) (segments_are ds_is) b

  -- ---- the start

  pub below : pages ≤ most → least (mems_of m) ≤ most
  below le = subst (λ n. n ≤ most) read.pages_is le

  pub can_start : HaveTypes gs (map global_type (imported global_import m.imports)) → pages ≤ most
      → All (ElemFits (bare_of m gs most given)) m.elems → All (SegmentFits (bare_of m gs most given)) m.segments → CanStart m gs most (Script given.replies)
  can_start types le elems segments = record { globals = types; pages = below le; elems = elems; segments = segments }

  start_fits : IsValid m → CanStart m gs most (Script given.replies) → Fits m (started m (bare_of m gs most given))
  start_fits valid can = starts_fit m valid gs most (Script given.replies) can

  least_is_allowed : IsValid m → CanStart m gs most (Script given.replies) → least (mems_of m) ≤ most_pages (declared_max (mems_of m)) most
  least_is_allowed valid can = let h = start_fits valid can in least_allowed (mems_of m) most h.pages can.pages h.below_maximum

  -- the memory may begin with these pages
  pub allowed : IsValid m → CanStart m gs most (Script given.replies) → pages ≤ most_pages max most
  allowed valid can =
      let h = subst (λ o. least (mems_of m) ≤ most_pages o most) (sym read.max_is) (least_is_allowed valid can) in
      subst (λ n. n ≤ most_pages max most) (sym read.pages_is) h

  -- the memory and the table with the segments written
  abbrev pub first_store : Paged
  first_store = record { pages = pages; bytes = data_after all m.segments (zero_pages pages); max = max; cap = most }

  abbrev pub first_table : List (Option ℕ)
  first_table = table_after all m.elems (replicate size None)

  pub store_is : (ds : List DataSegment) (made written : Paged) → ds ≡ x.segments
      → made ≡ record { pages = pages; bytes = zero_pages pages; max = max; cap = most }
      → written ≡ record made { bytes = data_after all ds made.bytes } → written ≡ first_store
  store_is ds made written ds_is made_is written_is =
      written_is
      ∙ (ap (λ (p : Paged). record p { bytes = data_after all ds p.bytes }) made_is
      ∙ ap (λ (l : List DataSegment). record { pages = pages; bytes = data_after all l (zero_pages pages); max = max; cap = most }) (segments_are ds_is))

  pub table_is : (es : List Elem) (empty written : List (Option ℕ)) → es ≡ x.elems → empty ≡ replicate size None
      → written ≡ table_after all es empty → written ≡ first_table
  table_is es empty written es_is empty_is written_is =
      written_is ∙ (ap (table_after all es) empty_is ∙ ap (λ (l : List Elem). table_after all l (replicate size None)) (elems_are es_is))

  -- a state by what an instance holds
  abbrev shape : List HostCall → List Value → Paged → List (Option ℕ) → Replies → State
  shape calls globals p table script = record {
    globals = globals;
    pages = p.pages;
    bytes = p.bytes;
    table = table;
    cap = p.cap;
    host = Script script.replies;
    host_calls = calls;
    turns = 0;
  }

  abbrev shape_of : List HostCall → List Value → ℕ → ℕ → State
  shape_of calls globals n k =
      let store : Paged = record { pages = n; bytes = data_after globals m.segments (zero_pages n); max = max; cap = most } in
      shape calls globals store (table_after globals m.elems (replicate k None)) given

  pub begun : (inst : Instance) → IsValid m → CanStart m gs most (Script given.replies)
      → inst.globals.items ≡ all → inst.store ≡ first_store → inst.entries.items ≡ first_table → inst.script ≡ given → inst.spent ≡ false
      → Begins m gs most given inst
  begun inst valid can globals store entries script unspent = record {
    unspent = unspent;
    script = script;
    fits = λ _. record {
      max = ap (λ (p : Paged). p.max) store ∙ read.max_is;
      below = subst (λ (p : Paged). p.pages ≤ most_pages p.max p.cap) (sym store) (allowed valid can);
      fits = fits_after m inst [] 0 (subst (Fits m) (same []) (start_fits valid can));
    };
    stands = λ calls long. record { unspent = unspent; same = same calls; used = long ∙ sym (ap (λ (r : Replies). r.used) script) };
  }
    where
      made : (calls : List HostCall) → state_of inst calls 0 ≡ shape_of calls all pages size
      made calls =
          ap (λ (l : List Value). shape calls l inst.store inst.entries.items inst.script) globals
          ∙ (ap (λ (p : Paged). shape calls all p inst.entries.items inst.script) store
          ∙ (ap (λ (t : List (Option ℕ)). shape calls all first_store t inst.script) entries
          ∙ ap (shape calls all first_store first_table) script))

      same : (calls : List HostCall) → record (started m (bare_of m gs most given)) { host_calls = calls } ≡ state_of inst calls 0
      same calls = sym (
          made calls
          ∙ (ap (λ (l : List Value). shape_of calls l pages size) read.all_is
          ∙ (ap (λ n. shape_of calls (first_globals m gs) n size) read.pages_is
          ∙ ap (shape_of calls (first_globals m gs) (least (mems_of m))) read.size_is)))
