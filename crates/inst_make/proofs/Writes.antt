-- Segments are searched and written one after the other.
use Rattle.std.proofs.Common.{◌≡◌, ℕ, zero, suc, ◌+◌, ◌<◌, ◌≤◌, true, List, [], ◌∷◌, length, get_or, set, take, drop, cond, All, Option, Some, None, refl, sym, ap, ◌∙◌, subst, arith}
use Rattle.std.specs.Prelude.{slice_get}
use Rattle.std.proofs.lemmas.List.{at_drop_more, take_all}
use Rattle.std.proofs.lemmas.List.Elements.{All-more, All-same}
use Rattle.std.proofs.lemmas.Option.{get_or_from_slice_get, slice_get_within, slice_get_read}
use Rattle.wasm_types.specs.declared.module.Value.{Value}
use Rattle.wasm_types.specs.declared.module.DataSegment.{DataSegment}
use Rattle.wasm_types.specs.Hosts.{is_within}
use Rattle.wasm_meaning.specs.Cells.{put}
use Rattle.wasm_meaning.specs.Memory.{written}
use Rattle.typed_runs.specs.Start.{begins, named, data_after}
use Rattle.typed_runs.proofs.Bytes.{within_le, written_long}
use Rattle.run_store.specs.Pages.{Paged, after_write}
use Rattle.inst_make.specs.Starts.{SegmentWithin}

put_set : {A : Type 0} (d : A) (k : ℕ) (v : A) (xs : List A) → k < length xs → put d k v xs ≡ set xs k v
put_set d k v [] lt = absurd (omega arith)
put_set d zero v (x ∷ xs) lt = refl
put_set d (suc k) v (x ∷ xs) lt = ap (λ l. x ∷ l) (put_set d k v xs (omega arith))

-- one more entry of the table is written
pub named_more : (at k f : ℕ) (funcs : List ℕ) (table : List (Option ℕ)) → k < length funcs → f ≡ get_or funcs k 0 → at + k < length table
    → named (at + (k + 1)) (drop (k + 1) funcs) (set table (at + k) (Some f)) ≡ named (at + k) (drop k funcs) table
named_more at k f funcs table lt is within =
    let one = at_drop_more (λ fs. named (at + k) fs table) funcs k 0 lt in
    let p : put None (at + k) (Some f) table ≡ set table (at + k) (Some f) = put_set None (at + k) (Some f) table within in
    let n : at + (k + 1) ≡ at + k + 1 = omega arith in
    ap (λ j. named j (drop (k + 1) funcs) (set table (at + k) (Some f))) n
    ∙ (ap (λ t. named (at + k + 1) (drop (k + 1) funcs) t) (sym p ∙ ap (λ g. put None (at + k) (Some g) table) is)
    ∙ sym one)

pub at_number : {A : Type 0} (P : A → Type 0) (xs : List A) (k : ℕ) (x : A) → All P xs → slice_get xs k ≡ Some x → P x
at_number P xs k x all at = subst P (get_or_from_slice_get xs k x x at) (all k x (slice_get_within xs k x at))

-- one more data segment is written
pub data_more : (gs : List Value) (ds : List DataSegment) (k : ℕ) (d : DataSegment) (bytes : List ℕ) → k < length ds → d ≡ get_or ds k d
    → data_after gs (drop (k + 1) ds) (written (begins gs d.offset) d.bytes bytes) ≡ data_after gs (drop k ds) bytes
data_more gs ds k d bytes lt is =
    let one = at_drop_more (λ rest. data_after gs rest bytes) ds k d lt in
    sym (one ∙ ap (λ (x : DataSegment). data_after gs (x ∷ drop (k + 1) ds) bytes) (sym is))

-- ---- the search

-- one more entry has a property
pub one_more : {A : Type 0} (P : A → Type 0) (xs : List A) (k : ℕ) (x : A) → k < length xs → x ≡ get_or xs k x → All P (take k xs) → P x
    → All P (take (k + 1) xs)
one_more P xs k x lt is h p = All-more P xs k x lt h (subst P is p)

pub none_left : {A : Type 0} (P : A → Type 0) (xs : List A) (k : ℕ) → length xs ≤ k → All P (take k xs) → All P xs
none_left P xs k le h = All-same P xs (take k xs) (sym (take_all k xs le)) h

-- ---- the memory with the first of the segments written

-- what is left to write gives the same, the length stays, and nothing else changes
pub record WrittenTo (gs : List Value) (rest ds : List DataSegment) (first now : Paged) : Type 0 where
  pub rest_is : data_after gs rest now.bytes ≡ data_after gs ds first.bytes
  pub long : length now.bytes ≡ length first.bytes
  pub same : now ≡ record first { bytes = now.bytes }

pub written_more : (gs : List Value) (ds : List DataSegment) (k : ℕ) (d : DataSegment) (first now after : Paged) → k < length ds → d ≡ get_or ds k d
    → All (SegmentWithin gs (length first.bytes)) ds → WrittenTo gs (drop k ds) ds first now → after ≡ after_write now (begins gs d.offset) d.bytes
    → WrittenTo gs (drop (k + 1) ds) ds first after
written_more gs ds k d first now after lt is all w wrote =
    let at = slice_get_read ds (length ds) k d refl lt is in
    let inside : is_within (begins gs d.offset) (length d.bytes) (length now.bytes) ≡ true =
    ap (is_within (begins gs d.offset) (length d.bytes)) w.long ∙ at_number (SegmentWithin gs (length first.bytes)) ds k d all at in
    let bytes = written (begins gs d.offset) d.bytes now.bytes in
    let e : after ≡ record now { bytes = bytes } = wrote ∙ ap (λ b. cond b (record now { bytes = bytes }) now) inside in
    let b : after.bytes ≡ bytes = ap (λ (p : Paged). p.bytes) e in
    let room = within_le (begins gs d.offset) (length d.bytes) (length now.bytes) inside in
    record {
      rest_is = ap (data_after gs (drop (k + 1) ds)) b ∙ (data_more gs ds k d now.bytes lt is ∙ w.rest_is);
      long = ap length b ∙ (written_long (begins gs d.offset) d.bytes now.bytes room ∙ w.long);
      same = e ∙ (ap (λ (p : Paged). record p { bytes = bytes }) w.same ∙ ap (λ (l : List ℕ). record first { bytes = l }) (sym b));
    }
