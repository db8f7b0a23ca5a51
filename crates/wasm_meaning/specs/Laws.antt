-- What is known of each instruction that goes on to the next one.
use Rattle.std.specs.Prelude.{◌≡◌, ℕ, ◌⊎◌, List, ◌∷◌, true, false, length}
use Rattle.wasm_types.specs.declared.module.Value.{Value}
use Rattle.wasm_types.specs.declared.place.Loc.{Loc}
use Rattle.wasm_types.specs.declared.instr.Instr.{Instr}
use Rattle.wasm_types.specs.declared.ops.BinOp.{BinOp}
use Rattle.wasm_types.specs.declared.ops.BinOp.TheVariants as bin
use Rattle.wasm_types.specs.declared.ops.NumOp.{NumOp}
use Rattle.wasm_types.specs.declared.ops.NumOp.TheVariants as num
use Rattle.wasm_types.specs.declared.run.Reason.{Reason}
use Rattle.wasm_types.specs.declared.run.Reason.TheVariants.{DivideByZero, Overflow, MemoryBounds}
use Rattle.wasm_types.specs.Actions.{callees, Callee, Own, Through, Action, Number, Read, Write, Copy, Fill, Asks, task_of, takes, takes_in, leaves_in}
use Rattle.wasm_types.specs.Locations.{reads_in, checks_in, writes_in, may_trap_in, traps_in}
use Rattle.wasm_types.specs.Hosts.{HostFunc, host_reads, host_writes}
use Rattle.wasm_meaning.specs.State.{State, Store, arg}
use Rattle.wasm_meaning.specs.Stops.{Stop, Trap}
use Rattle.wasm_meaning.specs.Operations.{number_of}
use Rattle.wasm_meaning.specs.Effects.{Fixed, Effect, Answer, Gives, Stops, Calls, Found, Finds, Fails, found, act, effect}
use Rattle.wasm_meaning.specs.Equality.{EqAt}
use Rattle.wasm_meaning.specs.HostCalls.{call_host}

-- ---- actions

-- What an action does at all: it takes its operands and leaves its results, only what it writes changes, and it takes no turn.
pub record Does (a : Action) (vs : List Value) (st : Store) (e : Effect) : Type 0 where
  pub took : length vs ≡ takes_in a
  pub left : length e.results ≡ leaves_in a
  pub frame : (x : Loc) → writes_in a x ≡ false → EqAt x st e.store
  pub turns : e.store.state.turns ≡ st.state.turns

-- two effects have equal results, and equal values where the action writes
pub record SameEnd (a : Action) (e e' : Effect) : Type 0 where
  pub results : e'.results ≡ e.results
  pub written : (x : Loc) → writes_in a x ≡ true → EqAt x e.store e'.store

-- an action goes on
pub record GoesOn (cap : ℕ) (a : Action) (vs : List Value) (st : Store) : Type 0 where
  pub effect : Effect
  pub is : act cap a vs st ≡ Gives effect

-- for which reasons an operation or an action may trap
abbrev pub DividesFor : BinOp → Reason → Type 0
DividesFor bin.DivS reason = (reason ≡ DivideByZero) ⊎ (reason ≡ Overflow)
DividesFor bin.DivU reason = reason ≡ DivideByZero
DividesFor bin.RemS reason = reason ≡ DivideByZero
DividesFor bin.RemU reason = reason ≡ DivideByZero
DividesFor _ reason = ⊥

abbrev pub NumberTrapsFor : NumOp → Reason → Type 0
NumberTrapsFor (num.Bin w op) reason = DividesFor op reason
NumberTrapsFor _ reason = ⊥

abbrev pub TrapsFor : Action → Reason → Type 0
TrapsFor (Number op) reason = NumberTrapsFor op reason
TrapsFor (Read access signed) reason = reason ≡ MemoryBounds
TrapsFor (Write access) reason = reason ≡ MemoryBounds
TrapsFor Copy reason = reason ≡ MemoryBounds
TrapsFor Fill reason = reason ≡ MemoryBounds
TrapsFor _ reason = ⊥

-- it traps for such a reason, in the state in which it began
pub record TrapsWith (a : Action) (st : Store) (why : Stop) (s : State) : Type 0 where
  pub reason : Reason
  pub may : TrapsFor a reason
  pub is : why ≡ Trap reason
  pub kept : s ≡ st.state

-- the operands that decide whether it traps are equal, and so is what it checks
pub record SameCause (a : Action) (vs vs' : List Value) (st st' : Store) : Type 0 where
  pub long : length vs' ≡ length vs
  pub operands : (k : ℕ) → traps_in a k → arg vs' k ≡ arg vs k
  pub checks : (x : Loc) → checks_in a x ≡ true → EqAt x st st'

-- The law of an action, of all stores: what it does at all; that it does the same where it goes on from a store that is equal where it reads; that it goes on
-- where nothing can make it trap; and that from an equal cause it goes on as before, or traps for the same reason.
pub record ActionLaw (cap : ℕ) (a : Action) : Type 0 where
  pub does : (vs : List Value) (st : Store) (e : Effect) → act cap a vs st ≡ Gives e → Does a vs st e
  pub same : (vs : List Value) (st st' : Store) (e e' : Effect) → ((x : Loc) → reads_in a x ≡ true → EqAt x st st') → act cap a vs st ≡ Gives e
      → act cap a vs st' ≡ Gives e' → SameEnd a e e'
  pub total : (vs : List Value) (st : Store) → may_trap_in a ≡ false → length vs ≡ takes_in a → GoesOn cap a vs st
  pub comes : (vs vs' : List Value) (st st' : Store) (e : Effect) → SameCause a vs vs' st st' → act cap a vs st ≡ Gives e → GoesOn cap a vs' st'
  pub stops : (vs : List Value) (st : Store) (why : Stop) (s : State) → length vs ≡ takes_in a → act cap a vs st ≡ Stops why s → TrapsWith a st why s
  pub stops_too : (vs vs' : List Value) (st st' : Store) (why : Stop) (s : State) → length vs ≡ takes_in a → SameCause a vs vs' st st'
      → act cap a vs st ≡ Stops why s → act cap a vs' st' ≡ Stops why st'.state

-- ---- calls of imported functions

-- only what the host may write changes, and no turn is taken
pub record HostDoes (H : HostFunc) (st : Store) (e : Effect) : Type 0 where
  pub left : length e.results ≡ length H.kind.results
  pub frame : (x : Loc) → host_writes H x ≡ false → EqAt x st e.store
  pub turns : e.store.state.turns ≡ st.state.turns

-- with equal results, and equal values where the host may write
pub record HostSame (H : HostFunc) (vs : List Value) (st' : Store) (e : Effect) : Type 0 where
  pub other : Effect
  pub is : call_host H vs st' ≡ Gives other
  pub results : other.results ≡ e.results
  pub written : (x : Loc) → host_writes H x ≡ true → EqAt x e.store other.store

-- it stops for the same reason, after no turn
pub record HostStops (H : HostFunc) (vs : List Value) (st' : Store) (why : Stop) : Type 0 where
  pub last : State
  pub is : call_host H vs st' ≡ Stops why last
  pub turns : last.turns ≡ st'.state.turns

-- What a call of an imported function does, and that it does the same from a store that is equal where it reads.
pub record HostLaw (H : HostFunc) : Type 0 where
  pub does : (vs : List Value) (st : Store) (e : Effect) → call_host H vs st ≡ Gives e → HostDoes H st e
  pub same : (vs : List Value) (st st' : Store) (e : Effect) → ((x : Loc) → host_reads H x ≡ true → EqAt x st st') → call_host H vs st ≡ Gives e
      → HostSame H vs st' e
  pub stops : (vs : List Value) (st st' : Store) (why : Stop) (s : State) → ((x : Loc) → host_reads H x ≡ true → EqAt x st st')
      → call_host H vs st ≡ Stops why s → HostStops H vs st' why

-- ---- instructions that call

-- what a call through the table answers with what it found: what the function does, or a trap that takes no turn
abbrev pub TableAnswers : Calls → Found → List Value → Store → Answer → Type 0
TableAnswers c (Finds f) args st a = a ≡ c f args st
TableAnswers c (Fails reason) args st a = a ≡ Stops (Trap reason) st.state

-- what a call of a callee answers is what the function called does, with its reason where it stops, and its turns
abbrev pub CalleeAnswers : Fixed → Calls → Callee → List Value → Store → Answer → Type 0
CalleeAnswers Z c (Own f) vs st a = a ≡ c f vs st
CalleeAnswers Z c (Through t n) vs st a =
    (i : Value) × (args : List Value) × (vs ≡ i ∷ args) × (length args ≡ n) × TableAnswers c (found Z t (number_of i)) args st a

-- An instruction that calls, with so many operands as it takes: it answers what the callee does, so what is known of calls is known of it.
pub record CallLaw (Z : Fixed) (c : Calls) (op : Instr) (g : Callee) : Type 0 where
  pub answers : (vs : List Value) (st : Store) → length vs ≡ takes (callees Z.m) op → CalleeAnswers Z c g vs st (effect Z c op vs st)
  pub gives : (vs : List Value) (st : Store) (e : Effect) → effect Z c op vs st ≡ Gives e → length vs ≡ takes (callees Z.m) op

-- the law of the instructions that go on to the next one
pub record InstructionLaw : Type 0 where
  pub action : (cap : ℕ) (a : Action) → ActionLaw cap a
  pub host : (H : HostFunc) → HostLaw H
  pub call : (Z : Fixed) (c : Calls) (op : Instr) (g : Callee) (n r : ℕ) → task_of (callees Z.m) op ≡ Asks g n r → CallLaw Z c op g
