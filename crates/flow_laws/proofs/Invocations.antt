-- The two laws, of invocations at whose positions something may be watched.
use Rattle.flow_laws.proofs.Starts.{own_no_host}
use Rattle.wasm_meaning.specs.Run.{Here, Stopped, Branch, Normal, Outcome}
use Rattle.std.proofs.Common.{Bool, Some, ◌≤◌, ◌+◌, suc, zero, ◌≡◌, ℕ, List, [], ◌∷◌, nat_eq, refl, sym, ap, ◌∙◌, subst, arith}
use Rattle.wasm_types.specs.declared.module.Value.{Value}
use Rattle.wasm_types.specs.declared.module.Module.{Module}
use Rattle.wasm_meaning.specs.State.{Store, State}
use Rattle.wasm_meaning.specs.Effects.{fixed}
use Rattle.wasm_types.specs.declared.run.Event.{Event}
use Rattle.wasm_types.specs.Funcs.{func_of, Func, unwatched}
use Rattle.wasm_meaning.specs.Invoke.{Returned, EndsAs, returned, invoked_own, invoked_by, alone, seen_in, nested, entered, calls, invocation, Returns}
use Rattle.flow_laws.proofs.Following.{IsReturn}
use Rattle.flow_laws.specs.Soundness.{RowsSound, DoneSound}
use Rattle.flow_laws.proofs.Erase.{Alike, watched_alike}
use Rattle.flow_laws.proofs.Ends.{OwnEnds, own_run}
use Rattle.flow_laws.proofs.Sound.{rows_end, done_end}

-- an invocation with position i watched, and one with nothing watched
pub alike : (m : Module) (d i : ℕ) (F : Func) (args : List Value) (s : State) → Alike (own_run m d (nat_eq i) F args s) (own_run m d unwatched F args s)
alike m d i F args s = watched_alike (fixed m s) (calls (fixed m s)) d (F.results ∷ []) (nat_eq i) F.code 0 (entered F args s)

-- an own function returns, by its activation
pub record OwnReturns (m : Module) (f i : ℕ) (args : List Value) (s : State) (n : ℕ) (results : List Value) (final : State) (events : List Event) : Type 0 where
  pub func : Func
  pub is : func_of m f ≡ Some func
  pub depth : ℕ
  pub returns : IsReturn (own_run m depth (nat_eq i) func args s).outcome
  pub gives : (own_run m depth (nat_eq i) func args s).there.stack ≡ results
  pub ends : (own_run m depth (nat_eq i) func args s).there.store.state ≡ final
  pub shows : (own_run m depth (nat_eq i) func args s).events ≡ events
  pub turns : final.turns ≤ s.turns + n

own_invocation : (m : Module) (depth : ℕ) (w : ℕ → Bool) (f : ℕ) (F : Func) (args : List Value) (s : State) → func_of m f ≡ Some F
    → invocation m depth w f args s ≡ seen_in (own_run m depth w F args s) (alone s)
own_invocation m depth w f F args s is =
    let Z = fixed m s in
    ap (λ z. invoked_by Z (nested Z depth) w z f args (alone s)) (own_no_host m f F is) ∙ ap (λ z. invoked_own Z (nested Z depth) w z args (alone s)) is

record ReadOff (o : Outcome) (h : Here) (results : List Value) (last : State) : Type 0 where
  pub returns : IsReturn o
  pub gives : h.stack ≡ results
  pub ends : h.store.state ≡ last

read_end : (o : Outcome) (s : Store) (h : Here) (results : List Value) (last : State) → EndsAs (returned o s h) (Returned results) last
    → ReadOff o h results last
read_end Normal s h results last e = record { returns = tt; gives = e.0; ends = e.1 }
read_end (Branch zero) s h results last e = record { returns = tt; gives = e.0; ends = e.1 }
read_end (Branch (suc l)) s h results last e = absurd e
read_end (Stopped why) s h results last e = absurd e

end_read : (o : Outcome) (s : Store) (h : Here) (results : List Value) (last : State) → ReadOff o h results last
    → EndsAs (returned o s h) (Returned results) last
end_read Normal s h results last r = (r.gives, r.ends)
end_read (Branch zero) s h results last r = (r.gives, r.ends)
end_read (Branch (suc l)) s h results last r = absurd r.returns
end_read (Stopped why) s h results last r = absurd r.returns

-- for an own function the two are the same
pub own_returns : (m : Module) (f i : ℕ) (F : Func) (args : List Value) (s : State) (n : ℕ) (results : List Value) (final : State) (events : List Event)
    → func_of m f ≡ Some F → Returns m f i args s n results final events → OwnReturns m f i args s n results final events
own_returns m f i F args s n results final events is r =
    let v = own_invocation m r.ends.depth (nat_eq i) f F args s is in
    let x = own_run m r.ends.depth (nat_eq i) F args s in
    let e = read_end x.outcome (alone s) x.there results final (subst (λ z. EndsAs z.answer (Returned results) final) v r.ends.ends) in
    record { func = F; is = is; depth = r.ends.depth; returns = e.returns; gives = e.gives; ends = e.ends; shows = sym (ap (λ z. z.events) v) ∙ r.ends.shows; turns = r.turns }

pub returns_own : (m : Module) (f i : ℕ) (args : List Value) (s : State) (n : ℕ) (results : List Value) (final : State) (events : List Event)
    → OwnReturns m f i args s n results final events → Returns m f i args s n results final events
returns_own m f i args s n results final events r =
    let v = own_invocation m r.depth (nat_eq i) f r.func args s r.is in
    let x = own_run m r.depth (nat_eq i) r.func args s in
    record {
      ends = record {
        depth = r.depth;
        ends =
            subst (λ z. EndsAs z.answer (Returned results) final) (sym v)
            (end_read x.outcome (alone s) x.there results final (record { returns = r.returns; gives = r.gives; ends = r.ends }));
        shows = ap (λ z. z.events) v ∙ r.shows;
      };
      turns = r.turns;
    }

ends_of : (m : Module) (f i : ℕ) (args : List Value) (s : State) (n : ℕ) (results : List Value) (final : State) (events : List Event)
    (r : OwnReturns m f i args s n results final events)
    → OwnEnds m f args s r.depth results final
ends_of m f i args s n results final events r =
    let a = alike m r.depth i r.func args s in
    record { func = r.func; is = r.is; returns = subst IsReturn (sym a.outcome) r.returns; gives = ap (λ h. h.stack) a.there ∙ r.gives; ends = ap (λ h. h.store.state) a.there ∙ r.ends }

pub rows_sound : RowsSound
rows_sound m W ok f F is o J omitted args args' s s' d i i' n n' results results' final final' events events' r r' =
    let e = own_returns m f i F args s n results final events is r in
    let e' = own_returns m f i' F args' s' n' results' final' events' is r' in
    rows_end m W ok f F is o J omitted args args' s s' d e.depth e'.depth results results' final final' (ends_of m f i args s n results final events e)
    (ends_of m f i' args' s' n' results' final' events' e')

pub done_sound : DoneSound
done_sound m W ok f F is J omitted args args' s s' d i n results final events r0 =
    let r = own_returns m f i F args s n results final events is r0 in
    let e = done_end m W ok f F is J omitted args args' s s' d r.depth results final (ends_of m f i args s n results final events r) in
    let a = alike m r.depth i e.returns.func args' s' in
    let t = e.turns in let u = r.turns in
    record {
      results = e.results;
      final = e.final;
      events = _;
      returns =
          returns_own m f i args' s' n e.results e.final _
          (record { func = e.returns.func; is = e.returns.is; depth = r.depth; returns = subst IsReturn a.outcome e.returns.returns; gives = sym (ap (λ h. h.stack) a.there) ∙ e.returns.gives; ends = sym (ap (λ h. h.store.state) a.there) ∙ e.returns.ends; shows = refl; turns = omega arith });
      turns = e.turns;
    }
