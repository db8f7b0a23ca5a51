-- An action on operands of its types keeps types: one case an action.
use Rattle.std.proofs.Common.{◌≡◌, ℕ, zero, ◌+◌, ◌*◌, ◌%◌, ◌≤◌, ◌==◌, ◌&&◌, List, [], ◌∷◌, ◌++◌, map, reverse, replicate, Bool, true, false, if◌then◌else◌, nat_le, nat_eq, suc, Option, Some, None, length, slice_get, refl, sym, ap, ◌∙◌, subst, arith, true≢false, leb-true, length-append, eq-eqb}
use Rattle.std.proofs.lemmas.List.{length-replicate, length-reverse}
use Rattle.std.proofs.lemmas.List.Elements.{All-append, All-replicate}
use Rattle.wasm_types.specs.declared.module.Value.{Value}
use Rattle.wasm_types.specs.declared.module.Value.TheVariants as value
use Rattle.wasm_types.specs.declared.module.ValType.{ValType}
use Rattle.wasm_types.specs.declared.module.ValType.TheVariants as type
use Rattle.wasm_types.specs.declared.module.FuncType.{FuncType}
use Rattle.wasm_types.specs.declared.module.Module.{Module}
use Rattle.wasm_types.specs.declared.ops.Width.{Width}
use Rattle.wasm_types.specs.declared.ops.Width.TheVariants.{W32, W64}
use Rattle.wasm_types.specs.declared.ops.NumOp.{NumOp}
use Rattle.wasm_types.specs.declared.ops.NumOp.TheVariants as num
use Rattle.wasm_types.specs.Types.{type_byte}
use Rattle.wasm_types.specs.Spaces.{type_of_func, globals_of, mems_of}
use Rattle.wasm_types.specs.Typing.{Takes, TypesNum, type_of_width, low_type}
use Rattle.wasm_types.specs.Subset.{IsInteger}
use Rattle.wasm_meaning.specs.State.{State, Store}
use Rattle.wasm_meaning.specs.Fits.{HasType, HaveTypes, global_type}
use Rattle.wasm_types.specs.declared.ops.LowOp.{LowOp}
use Rattle.wasm_types.specs.declared.ops.LowOp.TheVariants as low
use Rattle.wasm_types.specs.declared.run.Reason.TheVariants.{MemoryBounds, WrongType}
use Rattle.wasm_types.specs.Hosts.{is_within}
use Rattle.wasm_types.specs.Actions.{callees, Access, Action, Nothing, Const, Number, Discard, Choose, Get, Set, Tee, GetGlobal, SetGlobal, Read, Write, Pages, Grow, Copy, Fill, Own, Through, Task, NoTask, Acts, Asks, task_of}
use Rattle.wasm_meaning.specs.Stops.{Stuck}
use Rattle.wasm_meaning.specs.Operations.{value_in, number_of, Made, Makes, Traps, truth, related, unary, binary, signed, unsigned, low_width, extend_low, widened}
use Rattle.wasm_meaning.specs.Memory.{bytes_of, bytes_at, written, memory_length, most_of, number_from}
use Rattle.wasm_meaning.specs.Effects.{Fixed, fixed, Answer, Stops, Calls, gives, traps, made_by, set_local, set_global, with_bytes, write, read, grown, grow, copy, same_types, same_type, Finds, Fails, found_by, found_at, call_found, perform, do_task, if_value, act}
use Rattle.typed_runs.specs.Kept.{StoreKept, AnswerKept, CallsKept, InstructionsKeepTypes}
use Rattle.wasm_meaning.proofs.Values.{value_in_fits, have_at, have_set, have_length, none_case, one_case, two_case, three_case, top_case}
use Rattle.typed_runs.proofs.Bytes.{and_true, IsByte, AreBytes, byte_of, bytes_of_fit, written_long, written_bytes, within_le, bytes_at_long, bytes_at_fit, most_caps}
use Rattle.typed_runs.proofs.States.{kept_by, fits_by}
use Rattle.typed_runs.proofs.ActionTyping.{ActionTypes, TaskTypes, task_types, task_takes, task_leaves}

-- ---- equal types

byte_is : (t u : ValType) → (type_byte t == type_byte u) ≡ true → t ≡ u
byte_is type.I32 type.I32 e = refl
byte_is type.I64 type.I64 e = refl
byte_is type.F32 type.F32 e = refl
byte_is type.F64 type.F64 e = refl
byte_is _ _ e = absurd (true≢false (sym e))

types_are : (ts us : List ValType) → same_types ts us ≡ true → ts ≡ us
types_are [] [] e = refl
types_are [] (u ∷ us) e = absurd (true≢false (sym e))
types_are (t ∷ ts) [] e = absurd (true≢false (sym e))
types_are (t ∷ ts) (u ∷ us) e =
    let h = and_true (type_byte t == type_byte u) (same_types ts us) e in ap (λ x. x ∷ ts) (byte_is t u h.0) ∙ ap (λ xs. u ∷ xs) (types_are ts us h.1)

pub low_type_is : (op : LowOp) → type_of_width (low_width op) ≡ low_type op
low_type_is low.I32S8 = refl
low_type_is low.I32S16 = refl
low_type_is low.I64S8 = refl
low_type_is low.I64S16 = refl
low_type_is low.I64S32 = refl

integer_width : (w : Width) → IsInteger (type_of_width w)
integer_width W32 = tt
integer_width W64 = tt

module _ (m : Module) (z : State) (types : List ValType) where
  abbrev Kept : List ValType → Answer → Type 0
  Kept l a = AnswerKept m z types l a

  abbrev Z : Fixed
  Z = fixed m z

  abbrev Does : Action → List ValType → Store → List Value → Type 0
  Does a l s vs = AnswerKept m z types l (act Z.cap a vs s)

  -- ---- the state

  if_kept : (b : Bool) (l : List ValType) (x y : Answer) → (b ≡ true → Kept l x) → Kept l y → Kept l (if b then x else y)
  if_kept true l x y f g = f refl
  if_kept false l x y f g = g

  local_set_kept : (s : Store) (k : ℕ) (t : ValType) (v : Value) → StoreKept m z types s → slice_get types k ≡ Some t → HasType v t
      → StoreKept m z types (set_local k v s)
  local_set_kept s k t v h e g = record { locals = have_set s.locals types k t v h.locals e g; state = h.state }

  global_set_kept : (s : Store) (k : ℕ) (t : ValType) (v : Value) → StoreKept m z types s → slice_get (map global_type (globals_of m)) k ≡ Some t
      → HasType v t → StoreKept m z types (set_global k v s)
  global_set_kept s k t v h e g =
      let s' = (set_global k v s).state in
      let f = h.state.fits in
      record {
        locals = h.locals;
        state =
            kept_by m z s.state s' h.state
            (fits_by m z s.state s' f
            (have_set s.state.globals (map global_type (globals_of m)) k t v f.globals e g) refl f.bytes refl refl refl) refl refl refl refl refl;
      }

  bytes_kept : (s : Store) (bytes : List ℕ) → StoreKept m z types s → length bytes ≡ length s.state.bytes → AreBytes bytes
      → StoreKept m z types (with_bytes bytes s)
  bytes_kept s bytes h e g =
      let s' = (with_bytes bytes s).state in
      record {
        locals = h.locals;
        state = kept_by m z s.state s' h.state
            (fits_by m z s.state s' h.state.fits h.state.fits.globals e g refl refl refl) refl refl refl refl refl;
      }

  -- what lies within the memory is there
  there : (at count : ℕ) (s : Store) → StoreKept m z types s → is_within at count (memory_length s.state) ≡ true → at + count ≤ length s.state.bytes
  there at count s k e = subst (λ x. at + count ≤ x) (sym k.state.fits.long) (within_le at count (memory_length s.state) e)

  write_kept : (at : ℕ) (these : List ℕ) (s : Store) → StoreKept m z types s → AreBytes these → Kept [] (write at these s)
  write_kept at these s k h =
      if_kept (is_within at (length these) (memory_length s.state)) [] (gives [] (with_bytes (written at these s.state.bytes) s)) (traps MemoryBounds s)
      (λ e. (
        tt,
        bytes_kept s (written at these s.state.bytes) k (written_long at these s.state.bytes (there at (length these) s k e))
            (written_bytes at these s.state.bytes h k.state.fits.bytes),
      ))
      (tt, k.state)

  read_kept : (access : Access) (sg : Bool) (at : ℕ) (s : Store) → IsInteger access.kind → StoreKept m z types s → Kept (access.kind ∷ []) (read access sg at s)
  read_kept access sg at s i k =
      if_kept (is_within at access.count (memory_length s.state)) (access.kind ∷ [])
      (gives (value_in access.kind (widened sg (8 * access.count) 64 (number_from (bytes_at at access.count s.state.bytes))) ∷ []) s) (traps MemoryBounds s)
      (λ e. ((value_in_fits access.kind (widened sg (8 * access.count) 64 (number_from (bytes_at at access.count s.state.bytes))) i, tt), k))
      (tt, k.state)

  copy_kept : (to from count : ℕ) (s : Store) → StoreKept m z types s → Kept [] (copy to from count s)
  copy_kept to from count s k =
      let bytes = s.state.bytes in
      let these = bytes_at from count bytes in
      if_kept (is_within from count (memory_length s.state) && is_within to count (memory_length s.state)) []
      (gives [] (with_bytes (written to these bytes) s)) (traps MemoryBounds s)
      (λ e.
      let h = and_true (is_within from count (memory_length s.state)) (is_within to count (memory_length s.state)) e in
      let le : to + length these ≤ length bytes = subst (λ x. to + x ≤ length bytes) (sym (bytes_at_long from count bytes)) (there to count s k h.1) in (
        tt,
        bytes_kept s (written to these bytes) k (written_long to these bytes le)
            (written_bytes to these bytes (bytes_at_fit from count bytes k.state.fits.bytes) k.state.fits.bytes),
      ))
      (tt, k.state)

  grown_kept : (n : ℕ) (s : Store) → StoreKept m z types s → s.state.pages + n ≤ most_of (mems_of m) z.cap → StoreKept m z types (grown n s)
  grown_kept n s k le =
      let f = k.state.fits in
      let h = most_caps (mems_of m) z.cap (s.state.pages + n) le in
      let zeros : List ℕ = replicate (65536 * n) 0 in
      let a : length (s.state.bytes ++ zeros) ≡ length s.state.bytes + length zeros = length-append s.state.bytes zeros in
      let b : length zeros ≡ 65536 * n = length-replicate (65536 * n) 0 in
      let l = f.long in
      record {
        locals = k.locals;
        state = kept_by m z s.state (grown n s).state k.state
            (record {
              globals = f.globals;
              pages = h.0;
              below_cap = subst (λ x. s.state.pages + n ≤ x) (sym k.state.cap) h.1;
              below_maximum = h.2;
              long = omega arith;
              bytes = All-append IsByte s.state.bytes (replicate (65536 * n) 0) f.bytes (All-replicate IsByte (65536 * n) 0 (omega arith));
              table = f.table;
            }) refl refl refl refl refl;
      }

  grow_kept : (n : ℕ) (s : Store) → StoreKept m z types s → Kept (type.I32 ∷ []) (grow Z.cap n s)
  grow_kept n s k =
      let p = k.state.fits.pages in
      if_kept (nat_le (s.state.pages + n) (most_of (mems_of m) z.cap)) (type.I32 ∷ []) (gives (value.I32 s.state.pages ∷ []) (grown n s))
      (gives (value.I32 4294967295 ∷ []) s)
      (λ e. (((refl, omega arith), tt), grown_kept n s k (leb-true (s.state.pages + n) (most_of (mems_of m) z.cap) e)))
      (((refl, omega arith), tt), k)

  -- ---- numbers

  made_kept : (t : ValType) → IsInteger t → (o : Made) (s : Store) → StoreKept m z types s → Kept (t ∷ []) (made_by t (Some o) s)
  made_kept t i (Makes n) s k = ((value_in_fits t n i, tt), k)
  made_kept t i (Traps reason) s k = (tt, k.state)

  -- with the types that are taken and left in place
  from_types : (a : Action) (s : Store) (vs : List Value) (t l t' l' : List ValType) → Takes t' l' t l → HaveTypes vs t → (HaveTypes vs t' → Does a l' s vs)
      → Does a l s vs
  from_types a s vs t l t' l' h g f = subst (λ x. Does a x s vs) (sym h.1) (f (subst (HaveTypes vs) h.0 g))

  number_does : (op : NumOp) (t l : List ValType) → TypesNum op t l → (vs : List Value) → HaveTypes vs t → (s : Store) → StoreKept m z types s
      → Does (Number op) l s vs
  number_does (num.Eqz w) t l h vs g s k =
      from_types (Number (num.Eqz w)) s vs t l (type_of_width w ∷ []) (type.I32 ∷ []) h g
      (λ g. one_case (Does (Number (num.Eqz w)) (type.I32 ∷ []) s) vs (type_of_width w) g
      (λ a ha. made_kept type.I32 tt (Makes (truth (number_of a == 0))) s k))
  number_does (num.Rel w op) t l h vs g s k =
      from_types (Number (num.Rel w op)) s vs t l (type_of_width w ∷ type_of_width w ∷ []) (type.I32 ∷ []) h g
      (λ g. two_case (Does (Number (num.Rel w op)) (type.I32 ∷ []) s) vs (type_of_width w) (type_of_width w) g
      (λ b a hb ha. made_kept type.I32 tt (Makes (truth (related w op (number_of a) (number_of b)))) s k))
  number_does (num.Un w op) t l h vs g s k =
      from_types (Number (num.Un w op)) s vs t l (type_of_width w ∷ []) (type_of_width w ∷ []) h g
      (λ g. one_case (Does (Number (num.Un w op)) (type_of_width w ∷ []) s) vs (type_of_width w) g
      (λ a ha. made_kept (type_of_width w) (integer_width w) (Makes (unary w op (number_of a))) s k))
  number_does (num.Bin w op) t l h vs g s k =
      from_types (Number (num.Bin w op)) s vs t l (type_of_width w ∷ type_of_width w ∷ []) (type_of_width w ∷ []) h g
      (λ g. two_case (Does (Number (num.Bin w op)) (type_of_width w ∷ []) s) vs (type_of_width w) (type_of_width w) g
      (λ b a hb ha. made_kept (type_of_width w) (integer_width w) (binary w op (number_of a) (number_of b)) s k))
  number_does num.Wrap t l h vs g s k =
      from_types (Number num.Wrap) s vs t l (type.I64 ∷ []) (type.I32 ∷ []) h g
      (λ g. one_case (Does (Number num.Wrap) (type.I32 ∷ []) s) vs type.I64 g (λ a ha. made_kept type.I32 tt (Makes (number_of a)) s k))
  number_does num.ExtendS t l h vs g s k =
      from_types (Number num.ExtendS) s vs t l (type.I32 ∷ []) (type.I64 ∷ []) h g
      (λ g. one_case (Does (Number num.ExtendS) (type.I64 ∷ []) s) vs type.I32 g
      (λ a ha. made_kept type.I64 tt (Makes (unsigned W64 (signed W32 (number_of a)))) s k))
  number_does num.ExtendU t l h vs g s k =
      from_types (Number num.ExtendU) s vs t l (type.I32 ∷ []) (type.I64 ∷ []) h g
      (λ g. one_case (Does (Number num.ExtendU) (type.I64 ∷ []) s) vs type.I32 g (λ a ha. made_kept type.I64 tt (Makes (number_of a)) s k))
  number_does (num.Low op) t l h vs g s k =
      from_types (Number (num.Low op)) s vs t l (low_type op ∷ []) (low_type op ∷ []) h g
      (λ g. one_case (Does (Number (num.Low op)) (low_type op ∷ []) s) vs (low_type op) g
      (λ a ha. subst (λ u. Kept (u ∷ []) (made_by (type_of_width (low_width op)) (Some (Makes (extend_low op (number_of a)))) s)) (low_type_is op)
      (made_kept (type_of_width (low_width op)) (integer_width (low_width op)) (Makes (extend_low op (number_of a))) s k)))

  chosen_fits : (t : ValType) (n : ℕ) (a b : Value) → HasType a t → HasType b t → HasType (if_value n a b) t
  chosen_fits t zero a b ha hb = hb
  chosen_fits t (suc n) a b ha hb = ha

  -- ---- calls

  typed_kept : (c : Calls) → CallsKept m z c → (F : FuncType) (f : ℕ) (o : Option FuncType) → type_of_func m f ≡ o → (vs : List Value) (s : Store)
      → HaveTypes vs (reverse F.params) → StoreKept m z types s
      → Kept (reverse F.results) (call_found c (found_by f o (Some F)) vs s)
  typed_kept c ck F f None is vs s h k = (tt, k.state)
  typed_kept c ck F f (Some G) is vs s h k = go (same_type G F) refl
    where
      go : (b : Bool) → same_type G F ≡ b → Kept (reverse F.results) (call_found c (if b then Finds f else Fails WrongType) vs s)
      go false e = (tt, k.state)
      go true e =
          let q = and_true (same_types G.params F.params) (same_types G.results F.results) e in
          subst (λ x. Kept (reverse x) (c f vs s)) (types_are G.results F.results q.1)
          (ck f G is vs types s (subst (λ x. HaveTypes vs (reverse x)) (sym (types_are G.params F.params q.0)) h) k)

  found_kept : (c : Calls) → CallsKept m z c → (F : FuncType) (k : ℕ) → slice_get m.types k ≡ Some F → (e : Option (Option ℕ)) (vs : List Value) (s : Store)
      → HaveTypes vs (reverse F.params) → StoreKept m z types s
      → Kept (reverse F.results) (call_found c (found_at (callees m) k e) vs s)
  found_kept c ck F n is None vs s h k = (tt, k.state)
  found_kept c ck F n is (Some None) vs s h k = (tt, k.state)
  found_kept c ck F n is (Some (Some f)) vs s h k =
      subst (λ (o : Option FuncType). Kept (reverse F.results) (call_found c (found_by f (type_of_func m f) o) vs s)) (sym is)
      (typed_kept c ck F f (type_of_func m f) refl vs s h k)

  on_true : (b : Bool) (x y : Answer) → b ≡ true → (if b then x else y) ≡ x
  on_true b x y e = rw e refl

  -- with as many operands as it takes
  asked_kept : (l : List ValType) (vs : List Value) (n : ℕ) (a : Answer) (s : Store) → length vs ≡ n → Kept l a
      → Kept l (if nat_eq (length vs) n then a else Stops Stuck s.state)
  asked_kept l vs n a s e k = subst (Kept l) (sym (on_true (nat_eq (length vs) n) a (Stops Stuck s.state) (eq-eqb (length vs) n e))) k

  -- ---- each action

  pub does : (a : Action) (t l : List ValType) → ActionTypes m types a t l → (vs : List Value) → HaveTypes vs t → (s : Store) → StoreKept m z types s
      → Does a l s vs
  does Nothing t l h vs g s k = from_types Nothing s vs t l [] [] h g (λ g. none_case (Does Nothing [] s) vs g (tt, k))
  does (Const v) t l (u, hv, h) vs g s k = from_types (Const v) s vs t l [] (u ∷ []) h g (λ g. none_case (Does (Const v) (u ∷ []) s) vs g ((hv, tt), k))
  does (Number op) t l h vs g s k = number_does op t l h vs g s k
  does Discard t l (u, h) vs g s k = from_types Discard s vs t l (u ∷ []) [] h g (λ g. one_case (Does Discard [] s) vs u g (λ v hv. (tt, k)))
  does Choose t l (u, h) vs g s k =
      from_types Choose s vs t l (type.I32 ∷ u ∷ u ∷ []) (u ∷ []) h g
      (λ g. three_case (Does Choose (u ∷ []) s) vs type.I32 u u g (λ n b a hn hb ha. ((chosen_fits u (number_of n) a b ha hb, tt), k)))
  does (Get x) t l (u, at, h) vs g s k =
      from_types (Get x) s vs t l [] (u ∷ []) h g
      (λ g. none_case (Does (Get x) (u ∷ []) s) vs g ((have_at s.locals types x u (value.I32 0) k.locals at, tt), k))
  does (Set x) t l (u, at, h) vs g s k =
      from_types (Set x) s vs t l (u ∷ []) [] h g (λ g. one_case (Does (Set x) [] s) vs u g (λ v hv. (tt, local_set_kept s x u v k at hv)))
  does (Tee x) t l (u, at, h) vs g s k =
      from_types (Tee x) s vs t l (u ∷ []) (u ∷ []) h g (λ g. one_case (Does (Tee x) (u ∷ []) s) vs u g (λ v hv. ((hv, tt), local_set_kept s x u v k at hv)))
  does (GetGlobal x) t l (u, at, h) vs g s k =
      from_types (GetGlobal x) s vs t l [] (u ∷ []) h g
      (λ g. none_case (Does (GetGlobal x) (u ∷ []) s) vs g
      ((have_at s.state.globals (map global_type (globals_of m)) x u (value.I32 0) k.state.fits.globals at, tt), k))
  does (SetGlobal x) t l (u, at, h) vs g s k =
      from_types (SetGlobal x) s vs t l (u ∷ []) [] h g (λ g. one_case (Does (SetGlobal x) [] s) vs u g (λ v hv. (tt, global_set_kept s x u v k at hv)))
  does (Read access sg) t l (i, h) vs g s k =
      from_types (Read access sg) s vs t l (type.I32 ∷ []) (access.kind ∷ []) h g
      (λ g. one_case (Does (Read access sg) (access.kind ∷ []) s) vs type.I32 g (λ a ha. read_kept access sg (number_of a + access.offset) s i k))
  does (Write access) t l h vs g s k =
      from_types (Write access) s vs t l (access.kind ∷ type.I32 ∷ []) [] h g (λ g. two_case (Does (Write access) [] s) vs access.kind type.I32 g
      (λ v a hv ha. write_kept (number_of a + access.offset) (bytes_of access.count (number_of v)) s k (bytes_of_fit access.count (number_of v))))
  does Pages t l h vs g s k =
      let p = k.state.fits.pages in
      from_types Pages s vs t l [] (type.I32 ∷ []) h g (λ g. none_case (Does Pages (type.I32 ∷ []) s) vs g (((refl, omega arith), tt), k))
  does Grow t l h vs g s k =
      from_types Grow s vs t l (type.I32 ∷ []) (type.I32 ∷ []) h g
      (λ g. one_case (Does Grow (type.I32 ∷ []) s) vs type.I32 g (λ n hn. grow_kept (number_of n) s k))
  does Copy t l h vs g s k =
      from_types Copy s vs t l (type.I32 ∷ type.I32 ∷ type.I32 ∷ []) [] h g
      (λ g. three_case (Does Copy [] s) vs type.I32 type.I32 type.I32 g (λ n from to hn hf ht. copy_kept (number_of to) (number_of from) (number_of n) s k))
  does Fill t l h vs g s k =
      from_types Fill s vs t l (type.I32 ∷ type.I32 ∷ type.I32 ∷ []) [] h g (λ g. three_case (Does Fill [] s) vs type.I32 type.I32 type.I32 g
      (λ n v to hn hv ht. write_kept (number_of to) (replicate (number_of n) (number_of v % 256)) s k
      (All-replicate IsByte (number_of n) (number_of v % 256) (byte_of (number_of v)))))

  pub task_kept : (c : Calls) → CallsKept m z c → (task : Task) (t l : List ValType) → TaskTypes m types task t l → (vs : List Value) → HaveTypes vs t
      → (s : Store) → StoreKept m z types s → Kept l (do_task Z c task vs s)
  task_kept c ck NoTask t l h vs g s k = absurd h
  task_kept c ck (Acts a) t l h vs g s k = does a t l h vs g s k
  task_kept c ck (Asks (Own f) n r) t l (F, at, takes, leaves, h) vs g s k =
      let g' = subst (HaveTypes vs) h.0 g in
      let long : length vs ≡ n = have_length vs (reverse F.params) g' ∙ length-reverse F.params ∙ sym takes in
      asked_kept l vs n (c f vs s) s long (subst (λ x. Kept x (c f vs s)) (sym h.1) (ck f F at vs types s g' k))
  task_kept c ck (Asks (Through i j) n r) t l (F, at, takes, leaves, h) vs g s k =
      let g' = subst (HaveTypes vs) h.0 g in
      let long : length vs ≡ n = have_length vs (type.I32 ∷ reverse F.params) g' ∙ ap suc (length-reverse F.params) ∙ sym takes in
      asked_kept l vs n (perform Z c (Through i j) vs s) s long (subst (λ x. Kept x (perform Z c (Through i j) vs s)) (sym h.1)
      (top_case (λ x. Kept (reverse F.results) (perform Z c (Through i j) x s)) vs type.I32 (reverse F.params) g'
      (λ v ws hv hw. found_kept c ck F i at (slice_get z.table (number_of v)) ws s hw k)))

pub instructions_keep_types : InstructionsKeepTypes
instructions_keep_types m z c ck types result op t l p ty =
    let a = task_types m types result op t l p ty in (
      task_takes m types (task_of (callees m) op) t l a,
      task_leaves m types (task_of (callees m) op) t l a,
      λ vs h s k. task_kept m z types c ck
          (task_of (callees m) op) t l a vs h s k,
    )
