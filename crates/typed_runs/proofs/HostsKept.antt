-- A call of an imported function keeps types.
use Rattle.std.proofs.Common.{◌≡◌, ℕ, ℤ, pos, negsuc, zero, suc, ◌+◌, ◌≤◌, List, [], ◌∷◌, map, reverse, Bool, true, false, ◌&&◌, if◌then◌else◌, Option, Some, None, length, slice_get, nat_lt, refl, sym, ap, ◌∙◌, subst, arith, true≢false}
use Rattle.std.specs.List.{list_all}
use Rattle.wasm_types.specs.declared.module.Value.{Value}
use Rattle.wasm_types.specs.declared.module.ValType.{ValType}
use Rattle.wasm_types.specs.declared.module.ValType.TheVariants as type
use Rattle.wasm_types.specs.declared.module.FuncType.{FuncType}
use Rattle.wasm_types.specs.declared.module.GlobalType.{GlobalType}
use Rattle.wasm_types.specs.declared.module.Module.{Module}
use Rattle.wasm_types.specs.Spaces.{globals_of}
use Rattle.wasm_types.specs.declared.run.Reply.{Reply}
use Rattle.wasm_meaning.specs.State.{State, Store, reply_of}
use Rattle.wasm_meaning.specs.Fits.{HasType, HaveTypes, global_type}
use Rattle.wasm_meaning.specs.Memory.{written, memory_length}
use Rattle.wasm_types.specs.Hosts.{HostFunc, is_within, seen_from, global_visible, memory_visible, in_range, result_fits, global_fits, bytes_fit, reply_fits}
use Rattle.wasm_meaning.specs.HostCalls.{asked, value_for, host_results, global_set, globals_after, bytes_after, told, replied, answered, call_host}
use Rattle.typed_runs.specs.Kept.{StateKept, StoreKept, AnswerKept}
use Rattle.wasm_meaning.proofs.Values.{some_same, value_in_fits, have_set, reverse_few}
use Rattle.typed_runs.proofs.States.{kept_by, fits_by, told_kept}
use Rattle.typed_runs.proofs.Bytes.{and_true, AreBytes, written_long, written_bytes, within_le, all_bytes}

-- ---- values

value_for_fits : (t : ValType) (n : ℤ) → in_range t n ≡ true → HasType (value_for t n) t
value_for_fits type.I32 (pos n) e = value_in_fits type.I32 _ tt
value_for_fits type.I32 (negsuc n) e = value_in_fits type.I32 _ tt
value_for_fits type.I64 (pos n) e = value_in_fits type.I64 _ tt
value_for_fits type.I64 (negsuc n) e = value_in_fits type.I64 _ tt
value_for_fits type.F32 n e = absurd (true≢false (sym e))
value_for_fits type.F64 n e = absurd (true≢false (sym e))

results_fit : (ts : List ValType) (r : Option ℤ) → result_fits ts r ≡ true → HaveTypes (host_results ts r) ts
results_fit [] None e = tt
results_fit [] (Some n) e = absurd (true≢false (sym e))
results_fit (t ∷ []) None e = absurd (true≢false (sym e))
results_fit (t ∷ []) (Some n) e = (value_for_fits t n e, tt)
results_fit (t ∷ u ∷ ts) None e = absurd (true≢false (sym e))
results_fit (t ∷ u ∷ ts) (Some n) e = absurd (true≢false (sym e))

few_results : (ts : List ValType) (r : Option ℤ) → result_fits ts r ≡ true → length ts ≤ 1
few_results [] r e = omega arith
few_results (t ∷ []) r e = omega arith
few_results (t ∷ u ∷ ts) None e = absurd (true≢false (sym e))
few_results (t ∷ u ∷ ts) (Some n) e = absurd (true≢false (sym e))

-- ---- globals

picked : (b : Bool) (x t : ValType) → Some (if b then Some x else None) ≡ Some (Some t) → x ≡ t
picked true x t e = some_same (some_same e)
picked false x t e = absurd (none (some_same e))
  where
    none : {A : Type 0} {y : A} → None ≡ Some y → ⊥
    none e = cc

seen_type : (m : Module) (k : ℕ) (gs : List GlobalType) (g : ℕ) (t : ValType) → slice_get (seen_from m k gs) g ≡ Some (Some t)
    → slice_get (map global_type gs) g ≡ Some t
seen_type m k [] g t e = absurd cc
seen_type m k (x ∷ gs) zero t e = ap Some (picked (global_visible m k x) x.kind t e)
seen_type m k (x ∷ gs) (suc g) t e = seen_type m (k + 1) gs g t e

-- these types are those of the globals that are seen
abbrev AreSeen : List (Option ValType) → List ValType → Type 0
AreSeen seen ts = (g : ℕ) (t : ValType) → slice_get seen g ≡ Some (Some t) → slice_get ts g ≡ Some t

global_set_fits : (seen : List (Option ValType)) (ts : List ValType) → AreSeen seen ts → (o : Option (Option ValType)) (g : ℕ) (n : ℤ) (gs : List Value)
    → slice_get seen g ≡ o → global_fits o n ≡ true → HaveTypes gs ts → HaveTypes (global_set o g n gs) ts
global_set_fits seen ts s None g n gs at e h = h
global_set_fits seen ts s (Some None) g n gs at e h = h
global_set_fits seen ts s (Some (Some t)) g n gs at e h = have_set gs ts g t (value_for t n) h (s g t at) (value_for_fits t n e)

globals_fit : (seen : List (Option ValType)) (ts : List ValType) → AreSeen seen ts → (ws : List (ℕ × ℤ)) (gs : List Value)
    → list_all (λ w. global_fits (slice_get seen w.0) w.1) ws ≡ true → HaveTypes gs ts → HaveTypes (globals_after seen ws gs) ts
globals_fit seen ts s [] gs e h = h
globals_fit seen ts s (w ∷ ws) gs e h =
    let a = and_true (global_fits (slice_get seen w.0) w.1) (list_all (λ w. global_fits (slice_get seen w.0) w.1) ws) e in
    globals_fit seen ts s ws (global_set (slice_get seen w.0) w.0 w.1 gs) a.1 (global_set_fits seen ts s (slice_get seen w.0) w.0 w.1 gs refl a.0 h)

-- ---- bytes

bytes_after_fit : (visible : Bool) (long : ℕ) (ws : List (ℕ × List ℕ)) (bs : List ℕ) → list_all (bytes_fit visible long) ws ≡ true → length bs ≡ long
    → AreBytes bs
    → (length (bytes_after ws bs) ≡ long) × AreBytes (bytes_after ws bs)
bytes_after_fit visible long [] bs e l h = (l, h)
bytes_after_fit visible long (w ∷ ws) bs e l h =
    let a = and_true (bytes_fit visible long w) (list_all (bytes_fit visible long) ws) e in
    let b = and_true visible (is_within w.0 (length w.1) long && list_all (λ b. nat_lt b 256) w.1) a.0 in
    let c = and_true (is_within w.0 (length w.1) long) (list_all (λ b. nat_lt b 256) w.1) b.1 in
    let le : w.0 + length w.1 ≤ length bs = subst (λ z. w.0 + length w.1 ≤ z) (sym l) (within_le w.0 (length w.1) long c.0) in
    bytes_after_fit visible long ws (written w.0 w.1 bs) a.1 (written_long w.0 w.1 bs le ∙ l) (written_bytes w.0 w.1 bs (all_bytes w.1 c.1) h)

-- ---- a call

-- the imported function of this number and type
abbrev pub host_func : Module → ℕ → FuncType → HostFunc
host_func m f F = record { import = f; kind = F; globals = seen_from m 0 (globals_of m); memory = memory_visible m }

module _ (m : Module) (z : State) where
  replied_kept : (f : ℕ) (F : FuncType) (r : Reply) (s : State) → StateKept m z s
      → list_all (λ w. global_fits (slice_get (seen_from m 0 (globals_of m)) w.0) w.1) r.globals ≡ true
      → list_all (bytes_fit (memory_visible m) (memory_length s)) r.bytes ≡ true
      → StateKept m z (replied (host_func m f F) r s)
  replied_kept f F r s k g b =
      let a = bytes_after_fit (memory_visible m) (memory_length s) r.bytes s.bytes b k.fits.long k.fits.bytes in
      let s' = replied (host_func m f F) r s in
      kept_by m z s s' k
      (fits_by m z s s' k.fits
      (globals_fit (seen_from m 0 (globals_of m)) (map global_type (globals_of m))
      (λ g t e. seen_type m 0 (globals_of m) g t e) r.globals s.globals g k.fits.globals)
      (a.0 ∙ sym k.fits.long) a.1 refl refl refl) refl refl refl refl refl

  -- by whether the reply fits
  fit_kept : (b : Bool) (types : List ValType) (f : ℕ) (F : FuncType) (r : Reply) (vs : List Value) (s : Store)
      → reply_fits (host_func m f F) (memory_length s.state) r ≡ b → StoreKept m z types s
      → AnswerKept m z types (reverse F.results) (answered (host_func m f F) vs s (Some r))
  fit_kept false types f F r vs s e k = rw e (tt, told_kept m z (asked (host_func m f F) vs s.state) s.state k.state)
  fit_kept true types f F r vs s e k =
      let a = and_true (result_fits F.results r.result) _ e in
      let b = and_true (list_all (λ w. global_fits (slice_get (seen_from m 0 (globals_of m)) w.0) w.1) r.globals) _ a.1 in
      let c = told (asked (host_func m f F) vs s.state) s.state in
      let h = subst (HaveTypes (host_results F.results r.result)) (sym (reverse_few F.results (few_results F.results r.result a.0)))
      (results_fit F.results r.result a.0) in
      rw e (h, record { locals = k.locals; state = replied_kept f F r c (told_kept m z (asked (host_func m f F) vs s.state) s.state k.state) b.0 b.1 })

  answered_kept : (types : List ValType) (f : ℕ) (F : FuncType) (o : Option Reply) (vs : List Value) (s : Store) → StoreKept m z types s
      → AnswerKept m z types (reverse F.results) (answered (host_func m f F) vs s o)
  answered_kept types f F None vs s k = (tt, k.state)
  answered_kept types f F (Some r) vs s k = fit_kept (reply_fits (host_func m f F) (memory_length s.state) r) types f F r vs s refl k

  pub host_kept : (types : List ValType) (f : ℕ) (F : FuncType) (vs : List Value) (s : Store) → StoreKept m z types s
      → AnswerKept m z types (reverse F.results) (call_host (host_func m f F) vs s)
  host_kept types f F vs s k = answered_kept types f F (reply_of s.state.host s.state.host_calls (asked (host_func m f F) vs s.state)) vs s k
