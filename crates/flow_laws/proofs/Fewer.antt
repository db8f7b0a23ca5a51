-- A kept call that uses only what its needed outputs and its completion depend on: what the simulation asks of it.
use Rattle.std.proofs.Common.{◌≡◌, ℕ, List, reverse, Bool, true, Some, take, slice_get}
use Rattle.wasm_types.specs.declared.module.Value.{Value}
use Rattle.wasm_types.specs.declared.instr.Instr.{Instr}
use Rattle.flow_laws.proofs.Callees.{FixedOk, call_done, call_outer, call_two}
use Rattle.flow_laws.proofs.Tasks.{IsCall}
use Rattle.flow_laws.proofs.Closed.{Agreed, Matches}
use Rattle.flow_laws.proofs.Module.{length_match, operand_same}
use Rattle.wasm_types.specs.Nodes.{At}
use Rattle.wasm_types.specs.declared.place.Node.{Node}
use Rattle.flow_domain.specs.Rows.{Done, Final, Output, Ret, RowOf, Rows}
use Rattle.flow_laws.specs.Calls.{DoneLaw, SameOn, TwoLaw}
use Rattle.wasm_types.specs.Actions.{Callee, callees, takes}
use Rattle.wasm_meaning.specs.Effects.{Calls, Effect, Fixed, Gives, effect}
use Rattle.flow_laws.proofs.Effects.{Comes}
use Rattle.flow_domain.specs.Bounds.{Bounds, Cover, bounds, writes}
use Rattle.wasm_meaning.specs.Equality.{EqAt}
use Rattle.wasm_types.specs.declared.place.Loc.TheVariants.{Global, Host, Local, Mem, Size}
use Rattle.wasm_types.specs.declared.place.Loc.{Loc}
use Rattle.wasm_meaning.specs.State.{Store}

module _ (Z : Fixed) (W : Cover) (R : Rows) (ok : FixedOk Z W) (M : Node → Bool) (N : Node → Loc → Type 0) (p : ℕ) (names : List Node) (s : Node) (op : Instr)
    (g : Callee) (cc : IsCall (callees Z.m) op g) where
  abbrev B : Bounds
  B = bounds Z.m W

  -- the call uses an input of its row: the operand's maker is kept with its value, the location is needed at the call
  abbrev pub Uses : Loc → Type 0
  Uses (Local k) = (d : Node) → slice_get (reverse (take (takes (callees Z.m) op) names)) k ≡ Some d → M d ≡ true
  Uses x = N (At p) x

  abbrev pub UsesRow : Output → Type 0
  UsesRow out = (x : Loc) → RowOf Z.m R g out x → Uses x

  begins_same : (out : Output) (vs vs' : List Value) (st st' : Store) → UsesRow out → Matches M (take (takes (callees Z.m) op) names) vs vs'
      → ((x : Loc) → N (At p) x → EqAt x st st') → SameOn (RowOf Z.m R g out) vs vs' st st'
  begins_same out vs vs' st st' u ma eq (Local k) row = operand_same M (take (takes (callees Z.m) op) names) vs vs' k ma (λ d e. u (Local k) row d e)
  begins_same out vs vs' st st' u ma eq (Global i) row = eq (Global i) (u (Global i) row)
  begins_same out vs vs' st st' u ma eq Mem row = eq Mem (u Mem row)
  begins_same out vs vs' st st' u ma eq Size row = eq Size (u Size row)
  begins_same out vs vs' st st' u ma eq Host row = eq Host (u Host row)

  -- it returns from the slice's store too, in as many turns
  pub kept_comes : (c : Calls) → DoneLaw R Z.m c → UsesRow Done → (vs vs' : List Value) (st st' : Store) (e : Effect)
      → Matches M (take (takes (callees Z.m) op) names) vs vs' → ((x : Loc) → N (At p) x → EqAt x st st') → effect Z c op vs st ≡ Gives e
      → Comes Z c op vs' st st' e
  kept_comes c dones u vs vs' st st' e ma eq q =
      call_done Z W ok c R dones op g cc vs vs' st st' e (length_match M (take (takes (callees Z.m) op) names) vs vs' ma)
      (begins_same Done vs vs' st st' u ma eq) q

  -- what is needed of it is equal
  pub kept_agrees : (c : Calls) → TwoLaw R Z.m c → (M (At p) ≡ true → UsesRow Ret) → ((y : Loc) → N s y → writes B op y ≡ true → UsesRow (Final y))
      → (vs vs' : List Value) (st st' : Store) (e e' : Effect) → Matches M (take (takes (callees Z.m) op) names) vs vs'
      → ((x : Loc) → N (At p) x → EqAt x st st') → effect Z c op vs st ≡ Gives e → effect Z c op vs' st' ≡ Gives e' → Agreed B op (M (At p)) (N s) e e'
  kept_agrees c twos ret fin vs vs' st st' e e' ma eq q q' = record {
    results = λ m. call_two Z W ok c R twos op g cc Ret vs vs' st st' e e' (begins_same Ret vs vs' st st' (ret m) ma eq) q q';
    written =
        λ y nd on. call_two Z W ok c R twos op g cc (Final y) vs vs' st st' e e' (begins_same (Final y) vs vs' st st' (fin y nd on) ma eq) q q'
        (call_outer Z W ok c op g cc y on);
  }
