-- Two runs of a valid module, by the rounds of rows and by a table.
use Rattle.std.proofs.Common.{◌≡◌, ℕ, List, [], ◌∷◌, Bool, length, nat_eq, Option, Some, None, refl, sym, ap, ◌∙◌, subst}
use Rattle.wasm_types.specs.declared.module.FuncType.{FuncType}
use Rattle.wasm_types.specs.declared.module.Module.{Module}
use Rattle.wasm_types.specs.declared.module.Value.{Value}
use Rattle.wasm_types.specs.declared.place.Loc.{Loc}
use Rattle.wasm_types.specs.declared.run.Event.{Event}
use Rattle.wasm_types.specs.Actions.{callees}
use Rattle.wasm_types.specs.Funcs.{Func, func_of, unwatched}
use Rattle.wasm_types.specs.Hosts.{HostFunc, host_of}
use Rattle.wasm_types.specs.Spaces.{globals_of, type_of_func}
use Rattle.wasm_types.specs.Subset.{HasNoFloat}
use Rattle.wasm_types.specs.Validity.{IsValid}
use Rattle.wasm_meaning.specs.Effects.{fixed}
use Rattle.wasm_meaning.specs.Invoke.{EndsAs, Invoked, Returned, Returns, alone, invoked_by, invoked_own, nested}
use Rattle.wasm_meaning.specs.State.{State}
use Rattle.flow_domain.specs.Bounds.{Cover, bounds}
use Rattle.flow_domain.specs.Reach.{WritesExact}
use Rattle.flow_domain.specs.Rows.{Output, Done, IsInput}
use Rattle.flow_domain.specs.Sliced.{context_of}
use Rattle.flow_domain.specs.Summaries.{IsKnown}
use Rattle.flow_domain.specs.Touch.{IsExact}
use Rattle.flow_domain.specs.declared.summary_table.SummaryTable.{SummaryTable}
use Rattle.flow_laws.specs.Calls.{AnyInstr, HasHeights, ModuleOk}
use Rattle.flow_laws.specs.Soundness.{DifferOnly, Omits}
use Rattle.flow_laws.proofs.Invocations.{rows_sound, done_sound}
use Rattle.flow_laws.proofs.ReachLaw.{exact_serves}
use Rattle.flow_laws.proofs.Starts.{has_type, host_type}
use Rattle.stack_repair.specs.Law.{HasTypes}
use Rattle.stack_repair.proofs.Bodies.{valid_has_heights}
use Rattle.stack_repair.proofs.Heights.{shaped_weaker}
use Rattle.summary_fix.specs.TwoRuns.{StartsDiffer, TwoAgree, BothReturn, RoundsAgree, RoundsReturn, IsLeastTable, LeavesOut, TableAgrees, TableReturns}
use Rattle.summary_fix.proofs.Hosted.{host_returns, host_agrees, host_alike}

heights : (m : Module) → IsValid m → HasNoFloat m → HasHeights m
heights m valid integer f t b is has =
    shaped_weaker (callees m) (HasTypes (context_of m t b)) AnyInstr (λ op h. tt) (length t.results ∷ []) (length t.results) _ 0
    (valid_has_heights m t b (record { valid = valid; no_float = integer; func = f; kind_is = is; has_body = has }) unwatched)

serves : (m : Module) (W : Cover) → IsValid m → HasNoFloat m → WritesExact m W → ModuleOk (bounds m W)
serves m W valid integer exact = exact_serves m W valid (heights m valid integer) exact

-- the starts of an own function
differ_only : (m : Module) (F : Func) (params : ℕ) → F.params ≡ params → (J : Loc → Bool) (args args' : List Value) (s s' : State)
    → StartsDiffer m params J args args' s s' → DifferOnly m F J args args' s s'
differ_only m F params same J args args' s s' d = record {
  long = d.long ∙ sym same;
  long' = d.long' ∙ sym same;
  fits = d.fits;
  table = d.table;
  cap = d.cap;
  equal = λ x inp off. d.equal x (subst (λ n. IsInput n x) same inp) off;
}

-- what is no function doesn't return
not_there : (m : Module) (f i : ℕ) (args : List Value) (s : State) (n : ℕ) (results : List Value) (final : State) (events : List Event)
    → host_of m f ≡ None → func_of m f ≡ None → Returns m f i args s n results final events → ⊥
not_there m f i args s n results final events no_host no_own r =
    let Z = fixed m s in
    let b = nested Z r.ends.depth in
    let v = ap (λ z. invoked_by Z b (nat_eq i) z f args (alone s)) no_host ∙ ap (λ z. invoked_own Z b (nat_eq i) z args (alone s)) no_own in
    subst (λ (z : Invoked). EndsAs z.answer (Returned results) final) v r.ends.ends

module _ (m : Module) (W : Cover) (valid : IsValid m) (integer : HasNoFloat m) (exact : WritesExact m W) (f : ℕ) (t : FuncType)
    (is : type_of_func m f ≡ Some t) (J : Loc → Bool) where
  host_differ : (H : HostFunc) → host_of m f ≡ Some H → (args args' : List Value) (s s' : State) → StartsDiffer m (length t.params) J args args' s s'
      → StartsDiffer m (length H.kind.params) J args args' s s'
  host_differ H at args args' s s' d = subst (λ (k : FuncType). StartsDiffer m (length k.params) J args args' s s') (sym (host_type m f H t at is)) d

  own_differ : (F : Func) → func_of m f ≡ Some F → (args args' : List Value) (s s' : State) → StartsDiffer m (length t.params) J args args' s s'
      → DifferOnly m F J args args' s s'
  own_differ F at args args' s s' d = differ_only m F (length t.params) (has_type m f F t at is).params J args args' s s' d

  agree_by : (o : Output) → Omits (bounds m W) f o J → (h : Option HostFunc) → host_of m f ≡ h → (F : Option Func) → func_of m f ≡ F
      → TwoAgree m f (length t.params) o J
  agree_by o omits (Some H) host F own = λ args args' s s' d i i' n n' results results' final final' events events' r r'.
      host_agrees m W f H host J args args' s s' (host_differ H host args args' s s' d) o omits results results' final final'
      (host_returns m f i H host args s n results final events r) (host_returns m f i' H host args' s' n' results' final' events' r')
  agree_by o omits None host (Some F) own = λ args args' s s' d i i' n n' results results' final final' events events' r r'.
      rows_sound m W (serves m W valid integer exact) f F own o J omits args args' s s' (own_differ F own args args' s s' d) i i' n n' results results'
      final final' events events' r r'
  agree_by o omits None host None own = λ args args' s s' d i i' n n' results results' final final' events events' r r'.
      absurd (not_there m f i args s n results final events host own r)

  return_by : Omits (bounds m W) f Done J → (h : Option HostFunc) → host_of m f ≡ h → (F : Option Func) → func_of m f ≡ F → BothReturn m f (length t.params) J
  return_by omits (Some H) host F own = λ args args' s s' d i n results final events r.
      host_alike m W f H host J args args' s s' (host_differ H host args args' s s' d) omits i n results final
      (host_returns m f i H host args s n results final events r)
  return_by omits None host (Some F) own = λ args args' s s' d i n results final events r.
      done_sound m W (serves m W valid integer exact) f F own J omits args args' s s' (own_differ F own args args' s s' d) i n results final events r
  return_by omits None host None own = λ args args' s s' d i n results final events r.
      absurd (not_there m f i args s n results final events host own r)

pub rounds_agree : RoundsAgree
rounds_agree m W valid integer exact f t is o J omits = agree_by m W valid integer exact f t is J o omits (host_of m f) refl (func_of m f) refl

pub rounds_return : RoundsReturn
rounds_return m W valid integer exact f t is J omits = return_by m W valid integer exact f t is J omits (host_of m f) refl (func_of m f) refl

module _ (m : Module) (valid : IsValid m) (integer : HasNoFloat m) (W : Cover) (exact : IsExact m W) (t : SummaryTable) (least : IsLeastTable m t) where
  omits_of : (f : ℕ) (o : Output) (J : Loc → Bool) → IsKnown (length (globals_of m)) o → LeavesOut t f o J → Omits (bounds m W) f o J
  omits_of f o J known out x on n row = out x on ((least W exact f o x known).1 (n, row))

  pub table_agrees : TableAgrees m t
  table_agrees f kind is o J known out = rounds_agree m W valid integer exact.writes f kind is o J (omits_of f o J known out)

  pub table_returns : TableReturns m t
  table_returns f kind is J out = rounds_return m W valid integer exact.writes f kind is J (omits_of f Done J refl out)
