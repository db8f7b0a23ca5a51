-- The relation between a run and the run of its cut.
use Rattle.std.proofs.Common.{◌≡◌, ℕ, ◌≤◌, List, [], ◌∷◌, Bool, true, false, length}
use Rattle.wasm_types.specs.declared.module.Value.{Value}
use Rattle.wasm_meaning.specs.State.{Store}
use Rattle.wasm_types.specs.declared.place.Loc.{Loc}
use Rattle.wasm_meaning.specs.Equality.{EqAt}
use Rattle.wasm_meaning.specs.Run.{Outcome, Normal, Branch, Stopped, Run}
use Rattle.wasm_types.specs.Labels.{carried, Label, arities, point_of, join_of}
use Rattle.wasm_types.specs.declared.place.Node.{Node}
use Rattle.flow_laws.proofs.Closed.{Cuts, Skip}

abbrev pub RelOne : Bool → Bool → Value → (List Value → Type 0) → List Value → Type 0
RelOne true k v go [] = ⊥
RelOne true k v go (v' ∷ s') = (k ≡ true → v' ≡ v) × go s'
RelOne false k v go s' = go s'

abbrev pub Rel : (K P : Node → Bool) → List Node → List Value → List Value → Type 0
Rel K P [] [] s' = s' ≡ []
Rel K P [] (v ∷ s) s' = ⊥
Rel K P (d ∷ names) [] s' = ⊥
Rel K P (d ∷ names) (v ∷ s) s' = RelOne (P d) (K d) v (Rel K P names s) s'

pub record Stores (needed : Loc → Type 0) (s s' : Store) : Type 0 where
  pub equal : (x : Loc) → needed x → EqAt x s s'
  pub turns : s'.state.turns ≤ s.state.turns

-- results of t values, equal where k is kept
pub record Values (kept : Bool) (t : ℕ) (s s' : List Value) : Type 0 where
  pub long : length s ≡ t
  pub long' : length s' ≡ t
  pub equal : kept ≡ true → s' ≡ s

pub record Normals (K M : Node → Bool) (N : Node → Loc → Type 0) (k : Node) (t : ℕ) (r r' : Run) : Type 0 where
  pub values : Values (M k) t r.there.stack r'.there.stack
  pub store : Stores (N k) r.there.store r'.there.store
  pub events : r'.events ≡ r.events

pub record Jumps (K M : Node → Bool) (N : Node → Loc → Type 0) (ctx : List Label) (l : ℕ) (r r' : Run) : Type 0 where
  pub values : Values (M (join_of ctx l)) (carried (arities ctx) l) r.there.stack r'.there.stack
  pub store : Stores (N (point_of ctx l)) r.there.store r'.there.store
  pub events : r'.events ≡ r.events

-- the original takes an unkept branch, and the slice falls through to the sequence's end at q
pub record Skips (K M : Node → Bool) (N : Node → Loc → Type 0) (ctx : List Label) (l q t : ℕ) (r r' : Run) : Type 0 where
  pub long : length r.there.stack ≡ carried (arities ctx) l
  pub long' : length r'.there.stack ≡ t
  pub store : Stores (N (point_of ctx l)) r.there.store r'.there.store
  pub skip : Skip Cuts K ctx l q
  pub events : r'.events ≡ r.events

abbrev pub SimBy : (K M : Node → Bool) (N : Node → Loc → Type 0) (ctx : List Label) (q t : ℕ) (k : Node) (r r' : Run) → Outcome → Outcome → Type 0
SimBy K M N ctx q t k r r' Normal Normal = Normals K M N k t r r'
SimBy K M N ctx q t k r r' (Branch l) (Branch l') = (l' ≡ l) × Jumps K M N ctx l r r'
SimBy K M N ctx q t k r r' (Branch l) Normal = Skips K M N ctx l q t r r'
SimBy K M N ctx q t k r r' (Stopped why) o' = Unit {0}
SimBy K M N ctx q t k r r' _ _ = ⊥

abbrev pub Sim : (K M : Node → Bool) (N : Node → Loc → Type 0) (ctx : List Label) (q t : ℕ) (k : Node) (r r' : Run) → Type 0
Sim K M N ctx q t k r r' = SimBy K M N ctx q t k r r' r.outcome r'.outcome
