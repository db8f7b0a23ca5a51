-- Calls keep types at every number of turns that may nest.
use Rattle.std.proofs.Common.{◌≡◌, ℕ, zero, suc, ◌-◌, ◌<◌, ◌≤◌, List, [], ◌∷◌, map, reverse, replicate, Bool, true, false, if◌then◌else◌, nat_lt, Option, Some, None, length, slice_get, All, refl, sym, ap, ap₂, ◌∙◌, subst, arith, ltb-false, lt-ltb, le-ltb, length-append, nat_eq}
use Rattle.std.proofs.lemmas.List.Elements.{All-nil, All-append, All-replicate, All-head, All-tail}
use Rattle.std.proofs.lemmas.List.{reverse-reverse}
use Rattle.std.proofs.lemmas.Option.{slice_get_within, get_or_from_slice_get}
use Rattle.wasm_types.specs.declared.module.Value.{Value}
use Rattle.wasm_types.specs.declared.module.ValType.{ValType}
use Rattle.wasm_types.specs.declared.module.FuncType.{FuncType}
use Rattle.wasm_types.specs.declared.module.LocalRun.{LocalRun}
use Rattle.wasm_types.specs.declared.module.Body.{Body}
use Rattle.wasm_types.specs.declared.module.Module.{Module}
use Rattle.wasm_types.specs.declared.place.Part.TheVariants as part
use Rattle.wasm_types.specs.Code.{code_of}
use Rattle.wasm_types.specs.Marked.{marked}
use Rattle.wasm_types.specs.WellFormed.{ProperCode, ProperBody}
use Rattle.wasm_types.specs.Spaces.{imported, func_import, import_count, func_types, type_numbered, type_of_func, HasBody, body_of, run_types, local_types}
use Rattle.wasm_types.specs.Validity.{Leads, IsValid}
use Rattle.wasm_types.specs.Subset.{IsInteger, HasNoFloat}
use Rattle.wasm_meaning.specs.State.{State, Store}
use Rattle.wasm_types.specs.Hosts.{HostFunc, host_from, host_of}
use Rattle.wasm_types.specs.Funcs.{Func, func_from, func_of, unwatched}
use Rattle.wasm_meaning.specs.Fits.{Fits, HaveTypes}
use Rattle.wasm_meaning.specs.Effects.{fixed, Answer, Gives, Stops}
use Rattle.wasm_meaning.specs.Run.{Outcome, Normal, Branch, Stopped, Run, Below, turned}
use Rattle.wasm_meaning.specs.HostCalls.{call_host}
use Rattle.wasm_meaning.specs.Invoke.{zero_value, entered, activation, returned, call_own, call_by, calls, nested, seen_in, invoked_own, invoked_by, alone, invocation, Ending, Returned, Trapped, EndsAs}
use Rattle.typed_runs.specs.Kept.{standing, StateKept, StoreKept, EndKept, RunKept, AnswerKept, CallsKept, EndingKept, SequencesKeepTypes, CallsKeepTypes, InvocationsKeepTypes, EndsKeepTypes, RunsKeepTypes}
use Rattle.typed_runs.proofs.MarkedCode.{by_kind, unmarked-marked}
use Rattle.wasm_meaning.proofs.Values.{some_same, if_some, have_append, have_reverse, zeros_fit, reverse_few}
use Rattle.typed_runs.proofs.HostsKept.{host_func, host_kept}
use Rattle.typed_runs.proofs.ActionsKept.{instructions_keep_types}
use Rattle.typed_runs.proofs.Sequences.{labels, BelowKept, again_kept, sequence_kept}
use Rattle.typed_runs.proofs.States.{kept_start, turned_kept}

-- ---- lists

at_of : {A : Type 0} (P : A → Type 0) (xs : List A) (i : ℕ) (x : A) → All P xs → slice_get xs i ≡ Some x → P x
at_of P xs i x all at = subst P (get_or_from_slice_get xs i x x at) (all i x (slice_get_within xs i x at))

there : {A : Type 0} (xs : List A) (k : ℕ) → k < length xs → (x : A) × (slice_get xs k ≡ Some x)
there [] k lt = absurd (omega arith)
there (x ∷ xs) zero lt = (x, refl)
there (x ∷ xs) (suc k) lt = there xs k (omega arith)

numbered : (types : List FuncType) (o : Option ℕ) (F : FuncType) → type_numbered types o ≡ Some F → (k : ℕ) × (o ≡ Some k) × (slice_get types k ≡ Some F)
numbered types None F e = absurd cc
numbered types (Some k) F e = (k, refl, e)

on_true : {A : Type 0} (b : Bool) (x y : A) → b ≡ true → (if b then x else y) ≡ x
on_true b x y e = rw e refl

on_false : {A : Type 0} (b : Bool) (x y : A) → b ≡ false → (if b then x else y) ≡ y
on_false b x y e = rw e refl

runs_integer : (rs : List LocalRun) → All (λ (r : LocalRun). IsInteger r.kind) rs → All IsInteger (run_types rs)
runs_integer [] all = All-nil IsInteger
runs_integer (r ∷ rs) all =
    All-append IsInteger (replicate r.count r.kind) (run_types rs)
    (All-replicate IsInteger r.count r.kind (All-head (λ (x : LocalRun). IsInteger x.kind) r rs all))
    (runs_integer rs (All-tail (λ (x : LocalRun). IsInteger x.kind) r rs all))

module _ (m : Module) (valid : IsValid m) (nofl : HasNoFloat m) where
  -- ---- functions of the module

  few_results : (f : ℕ) (F : FuncType) → type_of_func m f ≡ Some F → length F.results ≤ 1
  few_results f F at =
      let n = numbered m.types (slice_get (func_types m) f) F at in
      if_some (slice_get m.types n.0) F (λ (t : FuncType). length t.results ≤ 1) n.2 (valid.1 (part.TypeAt n.0))

  is_function : (f : ℕ) (F : FuncType) → type_of_func m f ≡ Some F → f < length (func_types m)
  is_function f F at = let n = numbered m.types (slice_get (func_types m) f) F at in slice_get_within (func_types m) f n.0 n.1

  has_body : (f : ℕ) (F : FuncType) → type_of_func m f ≡ Some F → import_count m ≤ f → (b : Body) × HasBody m f b
  has_body f F at le =
      let lt = is_function f F at in
      let n = length-append (imported func_import m.imports) m.funcs in
      let same = valid.0.same in
      let x = there m.bodies (f - import_count m) (omega arith) in
      (x.0, (le, x.1))

  body_is : (f : ℕ) (F : FuncType) (b : Body) → type_of_func m f ≡ Some F → HasBody m f b → body_of m f ≡ Some b
  body_is f F b at has = rw (le-ltb f (import_count m) has.0, lt-ltb f (length (func_types m)) (is_function f F at)) has.1

  abbrev func : FuncType → Body → Func
  func F b = record { params = length F.params; results = length F.results; locals = run_types b.locals; code = code_of b.code }

  func_is : (f : ℕ) (F : FuncType) (b : Body) → type_of_func m f ≡ Some F → HasBody m f b → func_of m f ≡ Some (func F b)
  func_is f F b at has = ap₂ func_from at (body_is f F b at has)

  imported_is : (f : ℕ) (F : FuncType) → type_of_func m f ≡ Some F → nat_lt f (import_count m) ≡ true → host_of m f ≡ Some (host_func m f F)
  imported_is f F at e = on_true (nat_lt f (import_count m)) (host_from m f (type_of_func m f)) None e ∙ ap (host_from m f) at

  own_is : (f : ℕ) → nat_lt f (import_count m) ≡ false → host_of m f ≡ None
  own_is f e = on_false (nat_lt f (import_count m)) (host_from m f (type_of_func m f)) None e

  module _ (z : State) where
    -- ---- activations

    pub activation_kept : (below : Below) → BelowKept m z below → (f : ℕ) (F : FuncType) (b : Body) → type_of_func m f ≡ Some F → HasBody m f b
        → (watched : ℕ → Bool) (args : List Value) (s : State) → HaveTypes args F.params → StateKept m z s
        → RunKept m z (local_types F b) (F.results ∷ []) F.results (activation (fixed m z) below watched (func F b) args s)
    activation_kept below bk f F b at has watched args s ha k =
        let back = sym (unmarked-marked watched 0 (code_of b.code)) in
        sequence_kept m z (local_types F b) F.results below bk [] (length F.results ∷ []) refl (marked watched 0 (code_of b.code))
        (by_kind watched 0 (code_of b.code))
        (subst ProperCode back (at_of ProperBody m.bodies (f - import_count m) b valid.0.bodies has.1).2) [] F.results
        (subst (λ x. Leads (standing m (local_types F b) F.results) (F.results ∷ []) x [] F.results) back (valid.1 (part.FuncAt f) F b at has))
        (entered (func F b) args s) tt
        (record {
          locals = have_append args (map zero_value (run_types b.locals)) F.params (run_types b.locals) ha
              (zeros_fit (run_types b.locals) (runs_integer b.locals (nofl (part.FuncAt f) b has).0));
          state = k;
        })

    returned_kept : (types locals : List ValType) (F : FuncType) (o : Outcome) (s : Store) (r : Run) → length F.results ≤ 1 → r.outcome ≡ o
        → RunKept m z locals (F.results ∷ []) F.results r → StoreKept m z types s → AnswerKept m z types (reverse F.results) (returned o s r.there)
    returned_kept types locals F Normal s r few e k g = (
      subst (HaveTypes r.there.stack) (sym (reverse_few F.results few))
          (subst (λ x. EndKept (F.results ∷ []) F.results x r.there.stack) e k.ends),
      record { locals = g.locals; state = k.store.state },
    )
    returned_kept types locals F (Branch zero) s r few e k g =
        let a = subst (λ x. EndKept (F.results ∷ []) F.results x r.there.stack) e k.ends in
        (subst (HaveTypes r.there.stack) (sym (some_same a.1) ∙ sym (reverse_few F.results few)) a.2, record { locals = g.locals; state = k.store.state })
    returned_kept types locals F (Branch (suc l)) s r few e k g =
        let a = subst (λ x. EndKept (F.results ∷ []) F.results x r.there.stack) e k.ends in absurd (nothing a.0 a.1)
      where
        nothing : (t : List ValType) → None ≡ Some t → ⊥
        nothing t e = cc
    returned_kept types locals F (Stopped why) s r few e k g = (subst (λ x. EndKept (F.results ∷ []) F.results x r.there.stack) e k.ends, k.store.state)

    -- ---- calls

    call_kept : (below : Below) → BelowKept m z below → CallsKept m z (calls (fixed m z) below)
    call_kept below bk f F at vs types s h k = go (nat_lt f (import_count m)) refl
      where
        k' : StoreKept m z types (turned s)
        k' = turned_kept m z types s k

        go : (x : Bool) → nat_lt f (import_count m) ≡ x → AnswerKept m z types (reverse F.results) (calls (fixed m z) below f vs s)
        go true e =
            subst (λ (x : Option HostFunc). AnswerKept m z types (reverse F.results) (call_by (fixed m z) below x f vs (turned s)))
            (sym (imported_is f F at e)) (host_kept m z types f F vs (turned s) k')
        go false e =
            let (b, has) = has_body f F at (ltb-false f (import_count m) e) in
            let args = subst (HaveTypes (reverse vs)) (reverse-reverse F.params) (have_reverse vs (reverse F.params) h) in
            let r = activation_kept below bk f F b at has unwatched (reverse vs) (turned s).state args k'.state in
            let x = returned_kept types (local_types F b) F _ (turned s) _ (few_results f F at) refl r k' in
            subst (λ (o : Option HostFunc). AnswerKept m z types (reverse F.results) (call_by (fixed m z) below o f vs (turned s))) (sym (own_is f e))
            (subst (λ (o : Option Func). AnswerKept m z types (reverse F.results) (call_own (fixed m z) below o vs (turned s))) (sym (func_is f F b at has)) x)

    -- ---- any number of turns

    pub nested_kept : (n : ℕ) → BelowKept m z (nested (fixed m z) n)
    nested_kept zero = record {
      call = λ f F at vs types s h k. (tt, k.state);
      lap = λ types result outer ls body to e kind proper q h hs s. record { ends = tt; store = s };
    }
    nested_kept (suc n) = record {
      call = call_kept (nested (fixed m z) n) (nested_kept n);
      lap = λ types result outer ls body to e kind proper q h hs s.
          again_kept m z types (labels outer result) to _ ((nested (fixed m z) n).lap ls body)
          (sequence_kept m z types result (nested (fixed m z) n) (nested_kept n) ([] ∷ outer) (0 ∷ ls) (ap (λ xs. 0 ∷ xs) e) body kind proper [] to q h hs s)
          (λ h' hs' s'. (nested_kept n).lap types result outer ls body to e kind proper q h' hs' s');
    }

-- ---- the laws

pub sequences_keep_types : SequencesKeepTypes
sequences_keep_types m valid nofl z depth types result outer code mark p from to proper q h hs s =
    let back = sym (unmarked-marked mark p code) in
    sequence_kept m z types result (nested (fixed m z) depth) (nested_kept m valid nofl z depth) outer (map length (labels outer result)) refl
    (marked mark p code) (by_kind mark p code)
    (subst ProperCode back proper) from to (subst (λ x. Leads (standing m types result) (labels outer result) x from to) back q) h hs s

pub calls_keep_types : CallsKeepTypes
calls_keep_types m valid nofl z depth = call_kept m valid nofl z (nested (fixed m z) depth) (nested_kept m valid nofl z depth)

-- an imported function
invoked_host : (m : Module) (valid : IsValid m) (nofl : HasNoFloat m) (f : ℕ) (F : FuncType) → type_of_func m f ≡ Some F → (s : State) → Fits m s
    → (args : List Value) → nat_lt f (import_count m) ≡ true
    → (depth : ℕ) (watched : ℕ → Bool) → AnswerKept m s [] F.results (invocation m depth watched f args s).answer
invoked_host m valid nofl f F at s fits args e depth watched =
    let Z = fixed m s in
    let k = host_kept m s [] f F (reverse args) (alone s) (record { locals = tt; state = kept_start m s fits }) in
    subst (λ (x : Option HostFunc). AnswerKept m s [] F.results (invoked_by Z (nested Z depth) watched x f args (alone s)).answer)
    (sym (imported_is m valid nofl f F at e))
    (subst (λ x. AnswerKept m s [] x (call_host (host_func m f F) (reverse args) (alone s))) (reverse_few F.results (few_results m valid nofl f F at)) k)

-- an own function
invoked_itself : (m : Module) (valid : IsValid m) (nofl : HasNoFloat m) (f : ℕ) (F : FuncType) → type_of_func m f ≡ Some F → (s : State) → Fits m s
    → (args : List Value) → HaveTypes args F.params → nat_lt f (import_count m) ≡ false
    → (depth : ℕ) (watched : ℕ → Bool) → AnswerKept m s [] F.results (invocation m depth watched f args s).answer
invoked_itself m valid nofl f F at s fits args ha e depth watched =
    let Z = fixed m s in
    let (b, has) = has_body m valid nofl f F at (ltb-false f (import_count m) e) in
    let r = activation_kept m valid nofl s (nested Z depth) (nested_kept m valid nofl s depth) f F b at has watched args s ha (kept_start m s fits) in
    let k = returned_kept m valid nofl s [] (local_types F b) F _ (alone s) _ (few_results m valid nofl f F at) refl r
    (record { locals = tt; state = kept_start m s fits }) in
    subst (λ (o : Option HostFunc). AnswerKept m s [] F.results (invoked_by Z (nested Z depth) watched o f args (alone s)).answer)
    (sym (own_is m valid nofl f e))
    (subst (λ (o : Option Func). AnswerKept m s [] F.results (invoked_own Z (nested Z depth) watched o args (alone s)).answer)
    (sym (func_is m valid nofl f F b at has))
    (subst (λ x. AnswerKept m s [] x (seen_in (activation Z (nested Z depth) watched (func m valid nofl F b) args s) (alone s)).answer)
    (reverse_few F.results (few_results m valid nofl f F at)) k))

pub invocations_keep_types : InvocationsKeepTypes
invocations_keep_types m valid nofl f F at s fits args ha depth watched = go (nat_lt f (import_count m)) refl
  where
    go : (x : Bool) → nat_lt f (import_count m) ≡ x → AnswerKept m s [] F.results (invocation m depth watched f args s).answer
    go true e = invoked_host m valid nofl f F at s fits args e depth watched
    go false e = invoked_itself m valid nofl f F at s fits args ha e depth watched

ending_kept : (m : Module) (s : State) (result : List ValType) (a : Answer) (ending : Ending) (last : State) → AnswerKept m s [] result a
    → EndsAs a ending last → EndingKept result ending × StateKept m s last
ending_kept m s result (Gives e) (Returned results) last k h = (subst (λ x. HaveTypes x result) h.0 k.0, subst (StateKept m s) h.1 k.1.state)
ending_kept m s result (Gives e) (Trapped reason) last k h = absurd h
ending_kept m s result (Stops why st) (Returned results) last k h = absurd h
ending_kept m s result (Stops why st) (Trapped reason) last k h = (tt, subst (StateKept m s) h.1 k.1)

pub ends_keep_types : EndsKeepTypes
ends_keep_types m valid nofl f F at s fits args ha i ending last events d =
    ending_kept m s F.results (invocation m d.depth (nat_eq i) f args s).answer ending last
    (invocations_keep_types m valid nofl f F at s fits args ha d.depth (nat_eq i)) d.ends

pub runs_keep_types : RunsKeepTypes
runs_keep_types = record {
  instructions = instructions_keep_types;
  sequences = sequences_keep_types;
  calls = calls_keep_types;
  invocations = invocations_keep_types;
  ends = ends_keep_types;
}
