-- Invocations of an imported function, and what its rows leave out of two of them.
use Rattle.std.proofs.Common.{◌≡◌, ℕ, suc, ◌+◌, ◌≤◌, ◌<◌, List, [], ◌∷◌, reverse, Bool, true, false, Some, length, nat_eq, refl, sym, ap, ap₂, ◌∙◌, subst, arith, true≢false}
use Rattle.wasm_types.specs.declared.module.Module.{Module}
use Rattle.wasm_types.specs.declared.module.Value.{Value}
use Rattle.wasm_types.specs.declared.place.Loc.{Loc}
use Rattle.wasm_types.specs.declared.place.Loc.TheVariants.{Local, Global, Mem, Size, Host}
use Rattle.wasm_types.specs.declared.run.Event.{Event}
use Rattle.wasm_types.specs.Hosts.{HostFunc, host_of, host_reads, host_writes}
use Rattle.wasm_types.specs.Locations.{is_outer}
use Rattle.wasm_meaning.specs.Effects.{Answer, Effect, Gives, Stops, fixed}
use Rattle.wasm_meaning.specs.Equality.{EqAt}
use Rattle.wasm_meaning.specs.HostCalls.{call_host}
use Rattle.wasm_meaning.specs.Invoke.{EndsAs, Invoked, Returned, Returns, alone, invocation, invoked_by, nested}
use Rattle.wasm_meaning.specs.Laws.{HostSame}
use Rattle.wasm_meaning.specs.State.{State, Store, arg}
use Rattle.wasm_meaning.proofs.ActionLaws.{gives_is}
use Rattle.wasm_meaning.proofs.Equal.{eq-sym, eq-then}
use Rattle.wasm_meaning.proofs.Instructions.{instruction_law}
use Rattle.flow_domain.specs.Bounds.{Cover, bounds}
use Rattle.flow_domain.specs.Rows.{Output, Ret, Final, Done, HostFinal, HostRow, HostUses, IsInput, by_host}
use Rattle.flow_laws.specs.Soundness.{AgreeAt, Omits, ReturnsAlike, entry}
use Rattle.summary_fix.specs.TwoRuns.{StartsDiffer}

-- ---- an invocation is a call of the host

abbrev host_seen : HostFunc → List Value → State → Invoked
host_seen H args s = record { answer = call_host H (reverse args) (alone s); events = [] }

host_invocation : (m : Module) (depth : ℕ) (w : ℕ → Bool) (f : ℕ) (H : HostFunc) (args : List Value) (s : State) → host_of m f ≡ Some H
    → invocation m depth w f args s ≡ host_seen H args s
host_invocation m depth w f H args s is = ap (λ z. invoked_by (fixed m s) (nested (fixed m s) depth) w z f args (alone s)) is

pub record HostReturns (H : HostFunc) (args : List Value) (s : State) (results : List Value) (final : State) : Type 0 where
  pub effect : Effect
  pub is : call_host H (reverse args) (alone s) ≡ Gives effect
  pub gives : effect.results ≡ results
  pub ends : effect.store.state ≡ final

read_answer : (a : Answer) (results : List Value) (final : State) → EndsAs a (Returned results) final
    → (e : Effect) × ((a ≡ Gives e) × ((e.results ≡ results) × (e.store.state ≡ final)))
read_answer (Gives e) results final h = (e, (refl, (h.0, h.1)))
read_answer (Stops why s) results final h = absurd h

module _ (m : Module) (f i : ℕ) (H : HostFunc) (is : host_of m f ≡ Some H) (args : List Value) (s : State) (n : ℕ) where
  pub host_returns : (results : List Value) (final : State) (events : List Event) → Returns m f i args s n results final events
      → HostReturns H args s results final
  host_returns results final events r =
      let v = host_invocation m r.ends.depth (nat_eq i) f H args s is in
      let q = read_answer (call_host H (reverse args) (alone s)) results final (subst (λ (z : Invoked). EndsAs z.answer (Returned results) final) v r.ends.ends) in
      record { effect = q.0; is = q.1.0; gives = q.1.1.0; ends = q.1.1.1 }

  returns_host : (results : List Value) (final : State) → HostReturns H args s results final → final.turns ≤ s.turns + n → Returns m f i args s n results final []
  returns_host results final h le =
      let v = host_invocation m 0 (nat_eq i) f H args s is in
      record {
        ends = record {
          depth = 0;
          ends = subst (λ (z : Invoked). EndsAs z.answer (Returned results) final) (sym v)
              (subst (λ (a : Answer). EndsAs a (Returned results) final) (sym h.is) (h.gives, h.ends));
          shows = ap (λ (z : Invoked). z.events) v;
        };
        turns = le;
      }

-- ---- locations

-- what is no local is equal by the states alone
by_states : (x : Loc) → is_outer x ≡ true → (st st' : Store) → EqAt x st st' → EqAt x (alone st.state) (alone st'.state)
by_states (Local k) on st st' e = absurd (true≢false (sym on))
by_states (Global k) on st st' e = e
by_states Mem on st st' e = e
by_states Size on st st' e = e
by_states Host on st st' e = e

outer_input : (n : ℕ) (x : Loc) → is_outer x ≡ true → IsInput n x
outer_input n (Local k) on = absurd (true≢false (sym on))
outer_input n (Global k) on = tt
outer_input n Mem on = tt
outer_input n Size on = tt
outer_input n Host on = tt

used_input : (H : HostFunc) (x : Loc) → HostUses H x → IsInput (length H.kind.params) x
used_input H (Local k) has = has
used_input H (Global k) has = tt
used_input H Mem has = tt
used_input H Size has = tt
used_input H Host has = tt

same_values : (vs vs' : List Value) → length vs' ≡ length vs → ((k : ℕ) → k < length vs → arg vs' k ≡ arg vs k) → vs' ≡ vs
same_values [] [] l f = refl
same_values [] (v' ∷ vs') l f = absurd (omega arith)
same_values (v ∷ vs) [] l f = absurd (omega arith)
same_values (v ∷ vs) (v' ∷ vs') l f =
    ap₂ {A = Value} {B = List Value} (λ x y. x ∷ y) (f 0 (omega arith)) (same_values vs vs' (omega arith) (λ k lt. f (suc k) (omega arith)))

-- ---- two invocations

module _ (m : Module) (W : Cover) (f : ℕ) (H : HostFunc) (is : host_of m f ≡ Some H) (J : Loc → Bool) (args args' : List Value) (s s' : State)
    (differ : StartsDiffer m (length H.kind.params) J args args' s s') where
  -- the starts are equal at what is in a row that has nothing of J
  row_equal : (o : Output) → Omits (bounds m W) f o J → (x : Loc) → IsInput (length H.kind.params) x → HostRow H o x → EqAt x (entry args s) (entry args' s')
  row_equal o omits x inp row = go (J x) refl
    where
      go : (b : Bool) → J x ≡ b → EqAt x (entry args s) (entry args' s')
      go true on = absurd (omits x on 0 (by_host (H, is, row)))
      go false off = differ.equal x inp off

  -- so are the arguments and what the host is shown, where the function uses them for an output
  module _ (uses : (x : Loc) → HostUses H x → EqAt x (entry args s) (entry args' s')) where
    args_same : args' ≡ args
    args_same = same_values args args' (differ.long' ∙ sym differ.long) (λ k lt. uses (Local k) (subst (λ n. k < n) differ.long lt))

    reads_same : (x : Loc) → host_reads H x ≡ true → EqAt x (alone s) (alone s')
    reads_same (Local k) on = absurd (true≢false (sym on))
    reads_same (Global k) on = uses (Global k) on
    reads_same Mem on = uses Mem on
    reads_same Size on = uses Size on
    reads_same Host on = uses Host on

    call_same : (e : Effect) → call_host H (reverse args) (alone s) ≡ Gives e → HostSame H (reverse args) (alone s') e
    call_same e q = (instruction_law.host H).same (reverse args) (alone s) (alone s') e reads_same q

    effect_is : (a e : Effect) → call_host H (reverse args) (alone s') ≡ Gives a → call_host H (reverse args') (alone s') ≡ Gives e → a ≡ e
    effect_is a e q q' = gives_is a e (sym q ∙ subst (λ vs. call_host H (reverse vs) (alone s') ≡ Gives e) args_same q')

  used : (o : Output) → ((x : Loc) → HostUses H x → HostRow H o x) → Omits (bounds m W) f o J → (x : Loc) → HostUses H x → EqAt x (entry args s) (entry args' s')
  used o row omits x has = row_equal o omits x (used_input H x has) (row x has)

  pub host_agrees : (o : Output) → Omits (bounds m W) f o J → (results results' : List Value) (final final' : State) → HostReturns H args s results final
      → HostReturns H args' s' results' final' → AgreeAt o results results' final final'
  host_agrees Ret omits results results' final final' r r' =
      let uses = used Ret (λ x u. u) omits in
      let c = call_same uses r.effect r.is in
      let same = effect_is uses c.other r'.effect c.is r'.is in
      sym r'.gives ∙ (ap (λ (e : Effect). e.results) (sym same) ∙ (c.results ∙ r.gives))
  host_agrees (Final y) omits results results' final final' r r' = λ outer. subst (λ z. EqAt y (alone z) (alone final')) r.ends
      (subst (λ z. EqAt y (alone r.effect.store.state) (alone z)) r'.ends (by_states y outer r.effect.store r'.effect.store (go outer (host_writes H y) refl)))
    where
      go : is_outer y ≡ true → (b : Bool) → host_writes H y ≡ b → EqAt y r.effect.store r'.effect.store
      go outer true on =
          let uses = used (Final y) (λ x u. subst (λ b. HostFinal b H y x) (sym on) u) omits in
          let c = call_same uses r.effect r.is in
          subst (λ (e : Effect). EqAt y r.effect.store e.store) (effect_is uses c.other r'.effect c.is r'.is) (c.written y on)
      go outer false off =
          let start = row_equal (Final y) omits y (outer_input (length H.kind.params) y outer) (subst (λ b. HostFinal b H y y) (sym off) (outer, refl)) in
          let d = (instruction_law.host H).does (reverse args) (alone s) r.effect r.is in
          let d' = (instruction_law.host H).does (reverse args') (alone s') r'.effect r'.is in
          eq-then y r.effect.store (alone s) r'.effect.store (eq-sym y (alone s) r.effect.store (d.frame y off))
          (eq-then y (alone s) (alone s') r'.effect.store (by_states y outer (entry args s) (entry args' s') start) (d'.frame y off))
  host_agrees Done omits results results' final final' r r' = tt

  pub host_alike : Omits (bounds m W) f Done J → (i n : ℕ) (results : List Value) (final : State) → HostReturns H args s results final
      → ReturnsAlike m f i args' s' n s final
  host_alike omits i n results final r =
      let uses = used Done (λ x u. u) omits in
      let c = call_same uses r.effect r.is in
      let d = (instruction_law.host H).does (reverse args) (alone s) r.effect r.is in
      let d' = (instruction_law.host H).does (reverse args) (alone s') c.other c.is in
      let t : r.effect.store.state.turns ≡ s.turns = d.turns in
      let t' : c.other.store.state.turns ≡ s'.turns = d'.turns in
      let last : r.effect.store.state.turns ≡ final.turns = ap (λ (z : State). z.turns) r.ends in
      record {
        results = c.other.results;
        final = c.other.store.state;
        events = [];
        returns = returns_host m f i H is args' s' n c.other.results c.other.store.state
            (record { effect = c.other; is = subst (λ vs. call_host H (reverse vs) (alone s') ≡ Gives c.other) (sym (args_same uses)) c.is; gives = refl; ends = refl }) (omega arith);
        turns = omega arith;
      }
