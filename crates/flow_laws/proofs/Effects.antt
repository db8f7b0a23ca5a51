-- What is known of an instruction in a body: a call's part comes from what is known of the callee.
use Rattle.std.proofs.Common.{◌≡◌, ◌+◌, ◌≤◌, List, true, false, length, subst}
use Rattle.wasm_types.specs.declared.module.Value.{Value}
use Rattle.wasm_types.specs.declared.instr.Instr.{Instr}
use Rattle.wasm_types.specs.declared.place.Loc.{Loc}
use Rattle.wasm_types.specs.Actions.{callees, takes, leaves}
use Rattle.wasm_meaning.specs.State.{State, Store}
use Rattle.wasm_meaning.specs.Stops.{Stop}
use Rattle.wasm_meaning.specs.Effects.{Fixed, Effect, Answer, Gives, Stops, Calls, effect}
use Rattle.wasm_meaning.specs.Equality.{EqAt}
use Rattle.flow_domain.specs.Bounds.{Bounds, reads, checks, writes}

-- What an instruction does at all: it takes its operands and leaves its results, only what it writes changes, and turns do not fall.
pub record Does (B : Bounds) (op : Instr) (vs : List Value) (st : Store) (e : Effect) : Type 0 where
  pub took : length vs ≡ takes (callees B.m) op
  pub left : length e.results ≡ leaves (callees B.m) op
  pub frame : (x : Loc) → writes B op x ≡ false → EqAt x st e.store
  pub turns : st.state.turns ≤ e.store.state.turns

-- From other operands and another store the instruction goes on too, in as many turns.
pub record Comes (Z : Fixed) (c : Calls) (op : Instr) (vs' : List Value) (st st' : Store) (e : Effect) : Type 0 where
  pub other : Effect
  pub is : effect Z c op vs' st' ≡ Gives other
  pub turns : other.store.state.turns + st.state.turns ≡ e.store.state.turns + st'.state.turns

-- An instruction goes on, and takes no turn.
pub record GoesOn (Z : Fixed) (c : Calls) (op : Instr) (vs : List Value) (st : Store) : Type 0 where
  pub effect_is : Effect
  pub is : effect Z c op vs st ≡ Gives effect_is
  pub turns : effect_is.store.state.turns ≡ st.state.turns

-- results, and what is written, are equal
pub record SameEnd (B : Bounds) (op : Instr) (e e' : Effect) : Type 0 where
  pub results : e'.results ≡ e.results
  pub written : (x : Loc) → writes B op x ≡ true → EqAt x e.store e'.store

abbrev pub ReadsSame : Bounds → Instr → Store → Store → Type 0
ReadsSame B op s s' = (x : Loc) → reads B op x ≡ true → EqAt x s s'

abbrev pub ChecksSame : Bounds → Instr → Store → Store → Type 0
ChecksSame B op s s' = (x : Loc) → checks B op x ≡ true → EqAt x s s'

-- ---- answers

abbrev IsStop : Answer → Type 0
IsStop (Gives e) = ⊥
IsStop (Stops why s) = Unit {0}

pub stops_give : {A : Type 0} {why : Stop} {st : State} (e : Effect) → Stops why st ≡ Gives e → A
stops_give e q = absurd (subst IsStop q tt)
