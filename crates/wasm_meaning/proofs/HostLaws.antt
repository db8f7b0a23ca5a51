-- The law of calls of an imported function.
use Rattle.std.proofs.Common.{◌≡◌, ℕ, ℤ, suc, ◌+◌, ◌*◌, List, [], ◌∷◌, ◌++◌, reverse, length, Bool, true, false, ◌&&◌, if◌then◌else◌, Option, Some, None, slice_get, refl, sym, ap, ap₂, ◌∙◌, subst, arith, true≢false}
use Rattle.std.specs.List.{list_all}
use Rattle.wasm_types.specs.declared.module.Value.{Value}
use Rattle.wasm_types.specs.declared.module.Value.TheVariants as value
use Rattle.wasm_types.specs.declared.module.ValType.{ValType}
use Rattle.wasm_types.specs.declared.place.Loc.{Loc}
use Rattle.wasm_types.specs.declared.place.Loc.TheVariants.{Local, Global, Mem, Size, Host}
use Rattle.wasm_types.specs.declared.run.Reply.{Reply}
use Rattle.wasm_types.specs.declared.run.Reason.TheVariants.{ReplyMissing}
use Rattle.wasm_types.specs.Hosts.{HostFunc, is_seen, host_reads, host_writes, result_fits, global_fits, bytes_fit, reply_fits}
use Rattle.wasm_meaning.specs.Cells.{cell}
use Rattle.wasm_meaning.specs.State.{State, Store, ShownMemory, reply_of}
use Rattle.wasm_meaning.specs.Stops.{Stop, Trap}
use Rattle.wasm_meaning.specs.Memory.{bytes_at, written, memory_length}
use Rattle.wasm_meaning.specs.Equality.{EqAt}
use Rattle.wasm_meaning.specs.Effects.{Effect, Gives, Stops}
use Rattle.wasm_meaning.specs.HostCalls.{shown, asked, value_for, host_results, global_set, globals_after, bytes_after, told, replied, answered}
use Rattle.wasm_meaning.specs.Laws.{HostDoes, HostSame, HostStops, HostLaw}
use Rattle.wasm_meaning.proofs.ActionLaws.{stuck, give_stops, stops_why, passed, if_true, cell_put_other, put_same, SameBytes, written_same, bytes_same, never, never'}

-- ---- what is shown

abbrev SameSeen : List (Option ValType) → List Value → List Value → Type 0
SameSeen seen xs ys = (k : ℕ) → is_seen (slice_get seen k) ≡ true → cell (value.I32 0) ys k ≡ cell (value.I32 0) xs k

shown_same : (seen : List (Option ValType)) (k : ℕ) (xs ys : List Value)
    → ((j : ℕ) → is_seen (slice_get seen j) ≡ true → cell (value.I32 0) ys (k + j) ≡ cell (value.I32 0) xs (k + j)) → shown seen k ys ≡ shown seen k xs
shown_same [] k xs ys h = refl
shown_same (Some t ∷ seen) k xs ys h =
    ap₂ {A = Value} {B = List Value} (λ v r. v ∷ r) (subst (λ z. cell (value.I32 0) ys z ≡ cell (value.I32 0) xs z) (first k) (h 0 refl))
    (shown_same seen (k + 1) xs ys (λ j s. subst (λ z. cell (value.I32 0) ys z ≡ cell (value.I32 0) xs z) (next k j) (h (suc j) s)))
  where
    first : (k : ℕ) → k + 0 ≡ k
    first k = omega arith

    next : (k j : ℕ) → k + suc j ≡ k + 1 + j
    next k j = omega arith
shown_same (None ∷ seen) k xs ys h =
    shown_same seen (k + 1) xs ys (λ j s. subst (λ z. cell (value.I32 0) ys z ≡ cell (value.I32 0) xs z) (next k j) (h (suc j) s))
  where
    next : (k j : ℕ) → k + suc j ≡ k + 1 + j
    next k j = omega arith

-- the memory that is shown
abbrev memory_of : Bool → State → Option ShownMemory
memory_of b s = if b then Some (record { pages = s.pages; bytes = bytes_at 0 (memory_length s) s.bytes }) else None

memory_same : (b : Bool) (s s' : State) → (b ≡ true → s'.pages ≡ s.pages) → (b ≡ true → SameBytes s.bytes s'.bytes) → memory_of b s' ≡ memory_of b s
memory_same false s s' p h = refl
memory_same true s s' p h =
    ap₂ {A = ℕ} {B = List ℕ} (λ n bs. Some (record { pages = n; bytes = bs })) (p refl)
    (ap (λ n. bytes_at 0 (65536 * n) s'.bytes) (p refl) ∙ bytes_same 0 (memory_length s) s.bytes s'.bytes (h refl))

-- ---- what a reply writes

set_frame : (seen : List (Option ValType)) (o : Option (Option ValType)) (g : ℕ) (n : ℤ) (gs : List Value) (k : ℕ) → slice_get seen g ≡ o
    → is_seen (slice_get seen k) ≡ false → cell (value.I32 0) (global_set o g n gs) k ≡ cell (value.I32 0) gs k
set_frame seen None g n gs k e off = refl
set_frame seen (Some None) g n gs k e off = refl
set_frame seen (Some (Some t)) g n gs k e off =
    cell_put_other (value.I32 0) g (value_for t n) gs k (λ q. true≢false (sym (ap is_seen (sym (ap (slice_get seen) q) ∙ e)) ∙ off))

globals_frame : (seen : List (Option ValType)) (ws : List (ℕ × ℤ)) (gs : List Value) (k : ℕ) → is_seen (slice_get seen k) ≡ false
    → cell (value.I32 0) (globals_after seen ws gs) k ≡ cell (value.I32 0) gs k
globals_frame seen [] gs k off = refl
globals_frame seen (w ∷ ws) gs k off =
    globals_frame seen ws (global_set (slice_get seen w.0) w.0 w.1 gs) k off ∙ set_frame seen (slice_get seen w.0) w.0 w.1 gs k refl off

set_same : (o : Option (Option ValType)) (g : ℕ) (n : ℤ) (xs ys : List Value) (k : ℕ) → cell (value.I32 0) ys k ≡ cell (value.I32 0) xs k
    → cell (value.I32 0) (global_set o g n ys) k ≡ cell (value.I32 0) (global_set o g n xs) k
set_same None g n xs ys k h = h
set_same (Some None) g n xs ys k h = h
set_same (Some (Some t)) g n xs ys k h = put_same (value.I32 0) g (value_for t n) xs ys k h

globals_same : (seen : List (Option ValType)) (ws : List (ℕ × ℤ)) (xs ys : List Value) (k : ℕ) → cell (value.I32 0) ys k ≡ cell (value.I32 0) xs k
    → cell (value.I32 0) (globals_after seen ws ys) k ≡ cell (value.I32 0) (globals_after seen ws xs) k
globals_same seen [] xs ys k h = h
globals_same seen (w ∷ ws) xs ys k h =
    globals_same seen ws (global_set (slice_get seen w.0) w.0 w.1 xs) (global_set (slice_get seen w.0) w.0 w.1 ys) k
    (set_same (slice_get seen w.0) w.0 w.1 xs ys k h)

after_same : (ws : List (ℕ × List ℕ)) (xs ys : List ℕ) → SameBytes xs ys → SameBytes (bytes_after ws xs) (bytes_after ws ys)
after_same [] xs ys h = h
after_same (w ∷ ws) xs ys h = after_same ws (written w.0 w.1 xs) (written w.0 w.1 ys) (written_same w.0 w.1 xs ys h)

-- ---- when it fits

and_false : (a b : Bool) → (a && b) ≡ true → a ≡ true
and_false true b e = refl
and_false false b e = never' e

and_right : (a b : Bool) → (a && b) ≡ true → b ≡ true
and_right true b e = e
and_right false b e = never' e

-- where the memory isn't seen no bytes are written
unseen_bytes : (long : ℕ) (ws : List (ℕ × List ℕ)) (bs : List ℕ) → list_all (bytes_fit false long) ws ≡ true → bytes_after ws bs ≡ bs
unseen_bytes long [] bs e = refl
unseen_bytes long (w ∷ ws) bs e = never' e

fit_same : (b : Bool) (n n' : ℕ) (ws : List (ℕ × List ℕ)) → (b ≡ true → n' ≡ n) → list_all (bytes_fit b n') ws ≡ list_all (bytes_fit b n) ws
fit_same true n n' ws h = ap (λ z. list_all (bytes_fit true z) ws) (h refl)
fit_same false n n' [] h = refl
fit_same false n n' (w ∷ ws) h = refl

-- a result that fits is as long as its type
long_by : (ts : List ValType) (r : Option ℤ) → result_fits ts r ≡ true → length (host_results ts r) ≡ length ts
long_by [] None e = refl
long_by [] (Some z) e = never' e
long_by (t ∷ []) None e = never' e
long_by (t ∷ []) (Some z) e = refl
long_by (t ∷ u ∷ ts) r e = never' e

-- an answer that stops failed its test
failed : (b : Bool) (x : Effect) (why : Stop) (st : State) (why' : Stop) (st' : State) → (if b then Gives x else Stops why st) ≡ Stops why' st'
    → (b ≡ false) × (why' ≡ why)
failed true x why st why' st' e = give_stops x why' st' e
failed false x why st why' st' e = (refl, stops_why why why' st st' e)

if_false : {A : Type 0} (b : Bool) (x y : A) → b ≡ false → (if b then x else y) ≡ y
if_false b x y e = rw e refl

module _ (H : HostFunc) (vs : List Value) where
  call_same : (st st' : Store) → ((x : Loc) → host_reads H x ≡ true → EqAt x st st') → asked H vs st'.state ≡ asked H vs st.state
  call_same st st' eq =
      ap₂ {A = List Value} {B = Option ShownMemory} (λ gs mem. record { import = H.import; args = reverse vs; globals = gs; memory = mem })
      (shown_same H.globals 0 st.state.globals st'.state.globals (λ j s. zeroth st st' j (eq (Global j) s)))
      (memory_same H.memory st.state st'.state (λ on. eq Size on) (λ on. eq Mem on))
    where
      zeroth : (st st' : Store) (j : ℕ) → cell (value.I32 0) st'.state.globals j ≡ cell (value.I32 0) st.state.globals j
          → cell (value.I32 0) st'.state.globals (0 + j) ≡ cell (value.I32 0) st.state.globals (0 + j)
      zeroth st st' j e = subst (λ z. cell (value.I32 0) st'.state.globals z ≡ cell (value.I32 0) st.state.globals z) (start j) e
        where
          start : (j : ℕ) → j ≡ 0 + j
          start j = omega arith

  -- the state after a reply that fits
  abbrev done : Reply → Store → Store
  done r s = record s { state = replied H r (told (asked H vs s.state) s.state) }

  frame : (r : Reply) (st : Store) → list_all (bytes_fit H.memory (memory_length st.state)) r.bytes ≡ true → (x : Loc) → host_writes H x ≡ false
      → EqAt x st (done r st)
  frame r st fits (Local k) off = refl
  frame r st fits (Global k) off = globals_frame H.globals r.globals st.state.globals k off
  frame r st fits Mem off = λ a. ap (λ bs. cell 0 bs a)
      (unseen_bytes (memory_length st.state) r.bytes st.state.bytes (subst (λ b. list_all (bytes_fit b (memory_length st.state)) r.bytes ≡ true) off fits))
  frame r st fits Size off = refl
  frame r st fits Host off = never off

  written_at : (r : Reply) (st st' : Store) → ((x : Loc) → host_reads H x ≡ true → EqAt x st st') → (x : Loc) → host_writes H x ≡ true
      → EqAt x (done r st) (done r st')
  written_at r st st' eq (Local k) on = never' on
  written_at r st st' eq (Global k) on = globals_same H.globals r.globals st.state.globals st'.state.globals k (eq (Global k) on)
  written_at r st st' eq Mem on = after_same r.bytes st.state.bytes st'.state.bytes (eq Mem on)
  written_at r st st' eq Size on = never' on
  written_at r st st' eq Host on = ((eq Host refl).0, ap₂ (λ cs c. cs ++ c ∷ []) (eq Host refl).1 (call_same st st' eq))

  reply_same : (st st' : Store) → ((x : Loc) → host_reads H x ≡ true → EqAt x st st')
      → reply_of st'.state.host st'.state.host_calls (asked H vs st'.state) ≡ reply_of st.state.host st.state.host_calls (asked H vs st.state)
  reply_same st st' eq =
      ap (λ c. reply_of st'.state.host st'.state.host_calls c) (call_same st st' eq)
      ∙ ap₂ (λ h cs. reply_of h cs (asked H vs st.state)) (eq Host refl).0 (eq Host refl).1

  fits_same : (r : Reply) (st st' : Store) → ((x : Loc) → host_reads H x ≡ true → EqAt x st st')
      → reply_fits H (memory_length st'.state) r ≡ reply_fits H (memory_length st.state) r
  fits_same r st st' eq =
      ap (λ z. result_fits H.kind.results r.result && (list_all (λ w. global_fits (slice_get H.globals w.0) w.1) r.globals && z))
      (fit_same H.memory (memory_length st.state) (memory_length st'.state) r.bytes (λ on. ap (λ n. 65536 * n) (eq Size on)))

  result_long : (r : Reply) (b : Bool) → (result_fits H.kind.results r.result && b) ≡ true
      → length (host_results H.kind.results r.result) ≡ length H.kind.results
  result_long r b e = long_by H.kind.results r.result (and_false _ b e)

  does_by : (o : Option Reply) (st : Store) (e : Effect) → answered H vs st o ≡ Gives e → HostDoes H st e
  does_by None st e h = stuck _ e h tt
  does_by (Some r) st e h =
      let q = passed _ _ _ _ e h in
      let fits = and_right _ _ (and_right _ _ q.0) in
      subst (HostDoes H st) q.1 (record { left = result_long r _ q.0; frame = frame r st fits; turns = refl })

  same_by : (o : Option Reply) (st st' : Store) (e : Effect) → ((x : Loc) → host_reads H x ≡ true → EqAt x st st')
      → reply_of st.state.host st.state.host_calls (asked H vs st.state) ≡ o → answered H vs st o ≡ Gives e → HostSame H vs st' e
  same_by None st st' e eq is h = stuck _ e h tt
  same_by (Some r) st st' e eq is h =
      let q = passed _ _ _ _ e h in
      subst (HostSame H vs st') q.1 (record {
        other = record { results = host_results H.kind.results r.result; store = done r st' };
        is = ap (answered H vs st') (reply_same st st' eq ∙ is) ∙ if_true (reply_fits H (memory_length st'.state) r) _ _ (fits_same r st st' eq ∙ q.0);
        results = refl;
        written = written_at r st st' eq;
      })

  stops_by : (o : Option Reply) (st st' : Store) (why : Stop) (s : State) → ((x : Loc) → host_reads H x ≡ true → EqAt x st st')
      → reply_of st.state.host st.state.host_calls (asked H vs st.state) ≡ o → answered H vs st o ≡ Stops why s
      → HostStops H vs st' why
  stops_by None st st' why s eq is h =
      record {
        last = st'.state;
        is = ap (answered H vs st') (reply_same st st' eq ∙ is)
            ∙ ap (λ z. Stops z st'.state) (sym (stops_why (Trap ReplyMissing) why st.state s h));
        turns = refl;
      }
  stops_by (Some r) st st' why s eq is h =
      let q = failed _ _ _ _ why s h in
      record {
        last = told (asked H vs st'.state) st'.state;
        is =
            ap (answered H vs st') (reply_same st st' eq ∙ is) ∙ if_false (reply_fits H (memory_length st'.state) r) _ _ (fits_same r st st' eq ∙ q.0)
            ∙ ap (λ z. Stops z (told (asked H vs st'.state) st'.state)) (sym q.1);
        turns = refl;
      }

pub host_law : (H : HostFunc) → HostLaw H
host_law H = record {
  does = λ vs st e h. does_by H vs (reply_of st.state.host st.state.host_calls (asked H vs st.state)) st e h;
  same = λ vs st st' e eq h. same_by H vs (reply_of st.state.host st.state.host_calls (asked H vs st.state)) st st' e eq refl h;
  stops = λ vs st st' why s eq h. stops_by H vs (reply_of st.state.host st.state.host_calls (asked H vs st.state)) st st' why s eq refl h;
}
