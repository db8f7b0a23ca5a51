-- The laws of an import: its rows are sound.
use Rattle.wasm_meaning.proofs.ActionLaws.{gives_is}
use Rattle.wasm_meaning.proofs.Instructions.{instruction_law}
use Rattle.wasm_meaning.specs.Run.{turned}
use Rattle.std.proofs.Common.{◌+◌, ◌≡◌, ℕ, suc, ◌≤◌, ◌<◌, ◌⊎◌, inl, inr, List, [], ◌∷◌, reverse, Bool, true, false, Some, length, refl, sym, ap, ap₂, ◌∙◌, subst, arith, true≢false}
use Rattle.std.proofs.lemmas.List.{reverse-reverse, length-reverse}
use Rattle.wasm_types.specs.declared.module.Value.{Value}
use Rattle.wasm_meaning.specs.State.{Store, arg}
use Rattle.wasm_meaning.specs.Effects.{Effect, Gives}
use Rattle.wasm_types.specs.declared.place.Loc.{Loc}
use Rattle.wasm_types.specs.declared.place.Loc.TheVariants.{Local, Global, Mem, Size, Host}
use Rattle.wasm_meaning.specs.Equality.{EqAt}
use Rattle.flow_domain.specs.Bounds.{Bounds}
use Rattle.wasm_types.specs.Locations.{is_outer}
use Rattle.wasm_types.specs.Hosts.{host_reads, HostFunc, host_of, host_writes}
use Rattle.wasm_meaning.specs.HostCalls.{call_host}
use Rattle.wasm_meaning.proofs.Equal.{eq-turns, eq-both_turns, eq-sym, eq-then}
use Rattle.flow_domain.specs.Rows.{Output, Ret, Final, Done, Rows, HostUses, HostFinal, by_host, Holds}
use Rattle.flow_laws.specs.Calls.{AgreeOn, SameOn, begun}
use Rattle.flow_laws.proofs.Order.{less_or, arg_past}

lists_same : (vs vs' : List Value) → length vs' ≡ length vs → ((k : ℕ) → arg vs' k ≡ arg vs k) → vs' ≡ vs
lists_same [] [] l f = refl
lists_same [] (v' ∷ vs') l f = absurd (omega arith)
lists_same (v ∷ vs) [] l f = absurd (omega arith)
lists_same (v ∷ vs) (v' ∷ vs') l f = ap₂ {A = Value} {B = List Value} (λ x y. x ∷ y) (f 0) (lists_same vs vs' (omega arith) (λ k. f (suc k)))

-- lists of arguments that are equal at each parameter
args_same : (n : ℕ) (vs vs' : List Value) → length vs ≡ n → length vs' ≡ n → ((k : ℕ) → k < n → arg (reverse vs') k ≡ arg (reverse vs) k) → vs' ≡ vs
args_same n vs vs' l l' f =
    let r : length (reverse vs) ≡ n = length-reverse vs ∙ l in
    let r' : length (reverse vs') ≡ n = length-reverse vs' ∙ l' in
    sym (reverse-reverse vs') ∙ ap reverse (lists_same (reverse vs) (reverse vs') (r' ∙ sym r) (λ k. go r r' k (less_or k n))) ∙ reverse-reverse vs
  where
    go : length (reverse vs) ≡ n → length (reverse vs') ≡ n → (k : ℕ) → (k < n) ⊎ (n ≤ k) → arg (reverse vs') k ≡ arg (reverse vs) k
    go r r' k (inl lt) = f k lt
    go r r' k (inr le) = arg_past (reverse vs') k (omega arith) ∙ sym (arg_past (reverse vs) k (omega arith))

-- equal before the arguments came in
before : (x : Loc) (vs vs' : List Value) (st st' : Store) → is_outer x ≡ true → EqAt x (begun vs st) (begun vs' st') → EqAt x st st'
before (Local k) vs vs' st st' on e = absurd (true≢false (sym on))
before (Global g) vs vs' st st' on e = e
before Mem vs vs' st st' on e = e
before Size vs vs' st st' on e = e
before Host vs vs' st st' on e = e

-- ---- a call of an import, which takes a turn

abbrev pub HostReadsSame : HostFunc → Store → Store → Type 0
HostReadsSame H st st' = (x : Loc) → host_reads H x ≡ true → EqAt x st st'

to_turned : (x : Loc) (st st' : Store) → EqAt x st st' → EqAt x (turned st) (turned st')
to_turned x st st' e = eq-both_turns x st st' (st.state.turns + 1) (st'.state.turns + 1) e

from_turned : (x : Loc) (st s : Store) → EqAt x (turned st) s → EqAt x st s
from_turned x st s e = eq-sym x s st (eq-turns x s (turned st) st.state.turns (eq-sym x (turned st) s e))

pub record HostGives (H : HostFunc) (st : Store) (e : Effect) : Type 0 where
  pub left : length e.results ≡ length H.kind.results
  pub frame : (x : Loc) → host_writes H x ≡ false → EqAt x st e.store
  pub turns : e.store.state.turns ≡ st.state.turns + 1

pub host_does : (H : HostFunc) (vs : List Value) (st : Store) (e : Effect) → call_host H vs (turned st) ≡ Gives e → HostGives H st e
host_does H vs st e q =
    let d = (instruction_law.host H).does vs (turned st) e q in
    record { left = d.left; frame = λ x off. from_turned x st e.store (d.frame x off); turns = d.turns }

-- results, and what is written, are equal
record HostAgrees (H : HostFunc) (e e' : Effect) : Type 0 where
  pub results : e'.results ≡ e.results
  pub written : (x : Loc) → host_writes H x ≡ true → EqAt x e.store e'.store

host_same : (H : HostFunc) (vs : List Value) (st st' : Store) (e e' : Effect) → HostReadsSame H st st' → call_host H vs (turned st) ≡ Gives e
    → call_host H vs (turned st') ≡ Gives e' → HostAgrees H e e'
host_same H vs st st' e e' rd q q' =
    let s = (instruction_law.host H).same vs (turned st) (turned st') e (λ x on. to_turned x st st' (rd x on)) q in
    subst (λ z. HostAgrees H e z) (gives_is s.other e' (sym s.is ∙ q')) (record { results = s.results; written = s.written })

pub record HostComes (H : HostFunc) (vs : List Value) (st st' : Store) (e : Effect) : Type 0 where
  pub other : Effect
  pub is : call_host H vs (turned st') ≡ Gives other
  pub turns : other.store.state.turns + st.state.turns ≡ e.store.state.turns + st'.state.turns

host_comes : (H : HostFunc) (vs : List Value) (st st' : Store) (e : Effect) → HostReadsSame H st st' → call_host H vs (turned st) ≡ Gives e
    → HostComes H vs st st' e
host_comes H vs st st' e rd q =
    let s = (instruction_law.host H).same vs (turned st) (turned st') e (λ x on. to_turned x st st' (rd x on)) q in
    let t = (host_does H vs st e q).turns in
    let t' = (host_does H vs st' s.other s.is).turns in
    record { other = s.other; is = s.is; turns = omega arith }

module _ (B : Bounds) (f : ℕ) (H : HostFunc) (is : host_of B.m f ≡ Some H) where
  -- what it uses is equal
  reads_same : (vs vs' : List Value) (st st' : Store) → SameOn (HostUses H) vs vs' st st' → HostReadsSame H st st'
  reads_same vs vs' st st' same (Local k) on = absurd (true≢false (sym on))
  reads_same vs vs' st st' same (Global g) on = same (Global g) on
  reads_same vs vs' st st' same Mem on = same Mem on
  reads_same vs vs' st st' same Size on = same Size on
  reads_same vs vs' st st' same Host on = same Host on

  use_same : (vs vs' : List Value) (st st' : Store) → length vs ≡ length H.kind.params → length vs' ≡ length H.kind.params → SameOn (HostUses H) vs vs' st st'
      → vs' ≡ vs
  use_same vs vs' st st' l l' same = args_same (length H.kind.params) vs vs' l l' (λ k lt. same (Local k) lt)

  module _ (R : Rows) (holds : Holds B R) where
    pub import_two : (o : Output) (vs vs' : List Value) → length vs ≡ length H.kind.params → length vs' ≡ length H.kind.params
        → (st st' : Store) (e e' : Effect) → SameOn (R f o) vs vs' st st' → call_host H vs (turned st) ≡ Gives e → call_host H vs' (turned st') ≡ Gives e'
        → AgreeOn o e e'
    import_two Ret vs vs' l l' st st' e e' same q q' =
        let s : SameOn (HostUses H) vs vs' st st' = λ x row. same x (holds f Ret x (by_host (H, is, row))) in
        (host_same H vs st st' e e' (reads_same vs vs' st st' s) q (subst (λ z. call_host H z (turned st') ≡ Gives e') (use_same vs vs' st st' l l' s) q')).results
    import_two (Final y) vs vs' l l' st st' e e' same q q' = λ outer. go outer (host_writes H y) refl
      where
        go : is_outer y ≡ true → (b : Bool) → host_writes H y ≡ b → EqAt y e.store e'.store
        go outer true on =
            let s : SameOn (HostUses H) vs vs' st st' = λ x row. same x (holds f (Final y) x (by_host (H, is, subst (λ z. HostFinal z H y x) (sym on) row))) in
            (host_same H vs st st' e e' (reads_same vs vs' st st' s) q (subst (λ z. call_host H z (turned st') ≡ Gives e') (use_same vs vs' st st' l l' s) q')).written
            y on
        go outer false off =
            let d = host_does H vs st e q in
            let d' = host_does H vs' st' e' q' in
            let s = before y vs vs' st st' outer (same y (holds f (Final y) y (by_host (H, is, subst (λ z. HostFinal z H y y) (sym off) (outer, refl))))) in
            eq-then y e.store st e'.store (eq-sym y st e.store (d.frame y off)) (eq-then y st st' e'.store s (d'.frame y off))
    import_two Done vs vs' l l' st st' e e' same q q' = tt

    pub import_done : (vs vs' : List Value) → length vs ≡ length H.kind.params → length vs' ≡ length H.kind.params → (st st' : Store) (e : Effect)
        → SameOn (R f Done) vs vs' st st' → call_host H vs (turned st) ≡ Gives e → HostComes H vs' st st' e
    import_done vs vs' l l' st st' e same q =
        let s : SameOn (HostUses H) vs vs' st st' = λ x row. same x (holds f Done x (by_host (H, is, row))) in
        host_comes H vs' st st' e (reads_same vs vs' st st' s) (subst (λ z. call_host H z (turned st) ≡ Gives e) (sym (use_same vs vs' st st' l l' s)) q)
