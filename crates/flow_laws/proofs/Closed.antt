-- What a kept set K, the kept makers M, the present places P and the needed locations N owe at each instruction.
use Rattle.std.proofs.Common.{◌≡◌, ℕ, zero, suc, ◌+◌, ◌≤◌, ◌<◌, List, [], ◌∷◌, Bool, true, false, take, drop, length}
use Rattle.wasm_types.specs.Marked.{Marked, End, Do, Block, Loop, If, Br, BrIf, BrTable, Return, Unreachable, size}
use Rattle.wasm_types.specs.declared.instr.Instr.{Instr}
use Rattle.wasm_types.specs.declared.module.Value.{Value}
use Rattle.wasm_meaning.specs.State.{Store}
use Rattle.wasm_types.specs.declared.place.Loc.{Loc}
use Rattle.wasm_meaning.specs.Equality.{EqAt}
use Rattle.flow_domain.specs.Bounds.{Cover, Bounds, bounds, writes}
use Rattle.wasm_meaning.specs.Effects.{Fixed, Effect, Gives, Calls, effect}
use Rattle.wasm_types.specs.Actions.{callees, takes, leaves}
use Rattle.wasm_types.specs.Labels.{arity, carried, outermost, Label, block_label, loop_label, arities, point_of, join_of, first}
use Rattle.flow_laws.proofs.Effects.{Does, Comes, GoesOn}
use Rattle.wasm_types.specs.declared.place.Node.{Node}
use Rattle.wasm_types.specs.Nodes.{At, Join, named, made, AllIn}
use Rattle.wasm_types.specs.Sites.{OneOf}
use Rattle.flow_domain.specs.Cut.{shown}

-- what a proof is about: a cut, two ends that agree, or that the other run ends too
pub data Mode : Type 0 where
  Cuts : Mode
  Agrees : Mode
  Completes : Mode

abbrev pub cuts : Mode → Bool
cuts Cuts = true
cuts Agrees = false
cuts Completes = false

abbrev pub strict : Mode → Bool
strict Cuts = false
strict Agrees = false
strict Completes = true

-- the other run goes on where the first does
abbrev pub follows : Mode → Bool
follows Cuts = true
follows Agrees = false
follows Completes = true

-- no node from position a up to e is kept
abbrev pub Dark : (Node → Bool) → ℕ → ℕ → Type 0
Dark K a e = (m : ℕ) → a ≤ m → m < e → (K (At m) ≡ false) × (K (Join m) ≡ false)

-- Nothing is kept from q on to the end of the target of label l; where the target is a loop, nothing in it. In a strict proof it is no loop.
abbrev pub Skip : Mode → (Node → Bool) → List Label → ℕ → ℕ → Type 0
Skip w K [] l q = ⊥
Skip w K (L ∷ ctx) zero q = Dark K q L.stop × (K L.join ≡ false) × (L.loop ≡ true → Dark K L.start L.stop) × (strict w ≡ true → L.loop ≡ false)
Skip w K (L ∷ ctx) (suc l) q = Dark K q L.stop × Skip w K ctx l L.stop

pub record EndOk (M P : Node → Bool) (o : Bool) (k : Node) (t : ℕ) (names : List Node) : Type 0 where
  pub long : length names ≡ t
  pub values : M k ≡ true → AllIn M t names
  pub shows : o ≡ true → shown P names ≡ t

-- operands that are equal where their makers' values are needed
abbrev pub Matches : (Node → Bool) → List Node → List Value → List Value → Type 0
Matches M [] [] [] = Unit {0}
Matches M (d ∷ names) (v ∷ vs) (v' ∷ vs') = (M d ≡ true → v' ≡ v) × Matches M names vs vs'
Matches M _ _ _ = ⊥

-- two effects agree on what is needed of them
pub record Agreed (B : Bounds) (op : Instr) (result : Bool) (needed : Loc → Type 0) (e e' : Effect) : Type 0 where
  pub results : result ≡ true → e'.results ≡ e.results
  pub written : (x : Loc) → needed x → writes B op x ≡ true → EqAt x e.store e'.store

-- an instruction at p, marked or not, with these names before it, where s stands after it
pub record DoOk (Z : Fixed) (W : Cover) (G : Calls → Type 0) (w : Mode) (K M P : Node → Bool) (N : Node → Loc → Type 0) (m : Bool) (op : Instr) (p : ℕ)
    (names : List Node) (s : Node) : Type 0 where
  pub does : (c : Calls) → G c → (vs : List Value) (st : Store) (e : Effect) → effect Z c op vs st ≡ Gives e → Does (bounds Z.m W) op vs st e
  pub few : leaves (callees Z.m) op ≤ 1
  pub enough : takes (callees Z.m) op ≤ length names
  pub marks : m ≡ true → K (At p) ≡ true
  pub watched : m ≡ true → AllIn M (takes (callees Z.m) op) names × (M (At p) ≡ true)
  pub shows : K (At p) ≡ true → AllIn P (takes (callees Z.m) op) names × (P (At p) ≡ true)
  -- one that isn't kept always goes on
  pub total : strict w ≡ true → K (At p) ≡ false → (c : Calls) → G c → (vs : List Value) (st : Store) → length vs ≡ takes (callees Z.m) op → GoesOn Z c op vs st
  -- a kept instruction goes on from the other store too
  pub comes : follows w ≡ true → K (At p) ≡ true → (c : Calls) → G c → (vs vs' : List Value) (st st' : Store) (e : Effect)
      → Matches M (take (takes (callees Z.m) op) names) vs vs' → ((x : Loc) → N (At p) x → EqAt x st st') → effect Z c op vs st ≡ Gives e
      → Comes Z c op vs' st st' e
  -- and what is needed of it is equal
  pub agree : K (At p) ≡ true → (c : Calls) → G c → (vs vs' : List Value) (st st' : Store) (e e' : Effect)
      → Matches M (take (takes (callees Z.m) op) names) vs vs' → ((x : Loc) → N (At p) x → EqAt x st st') → effect Z c op vs st ≡ Gives e
      → effect Z c op vs' st' ≡ Gives e' → Agreed (bounds Z.m W) op (M (At p)) (N s) e e'
  pub keeps : (x : Loc) → N s x → writes (bounds Z.m W) op x ≡ false → N (At p) x
  pub defines : (x : Loc) → N s x → writes (bounds Z.m W) op x ≡ true → K (At p) ≡ true

-- a block, loop or if at p with r results, whose contents begin with f and end at e
pub record BlockOk (Z : Fixed) (W : Cover) (G : Calls → Type 0) (w : Mode) (K M P : Node → Bool) (N : Node → Loc → Type 0) (m : Bool) (r p e : ℕ) (f s : Node)
    : Type 0 where
  pub small : r ≤ 1
  pub marks : m ≡ true → K (At p) ≡ true
  pub shows : K (At p) ≡ true → P (Join p) ≡ true
  pub dark : cuts w ≡ true → K (At p) ≡ false → Dark K (p + 1) e
  pub join : cuts w ≡ true → K (At p) ≡ false → K (Join p) ≡ false
  pub enters : (x : Loc) → N f x → N (At p) x
  pub leaves_it : (x : Loc) → N s x → N (Join p) x

-- a branch at p to label l, with these names below its condition
pub record BrOk (Z : Fixed) (W : Cover) (G : Calls → Type 0) (w : Mode) (K M P : Node → Bool) (N : Node → Loc → Type 0) (ctx : List Label) (m : Bool)
    (l p : ℕ) (names : List Node) : Type 0 where
  pub enough : carried (arities ctx) l ≤ length names
  pub marks : m ≡ true → K (At p) ≡ true
  pub watched : m ≡ true → AllIn M (carried (arities ctx) l) names
  pub shows : K (At p) ≡ true → AllIn P (carried (arities ctx) l) names
  pub carries : M (join_of ctx l) ≡ true → AllIn M (carried (arities ctx) l) names
  pub skips : K (At p) ≡ false → Skip w K ctx l (p + 1)
  pub goes : (x : Loc) → N (point_of ctx l) x → N (At p) x

-- a condition, an if or an index at p: its operand
pub record TestOk (K M : Node → Bool) (p : ℕ) (names : List Node) : Type 0 where
  pub enough : 1 ≤ length names
  pub operand : K (At p) ≡ true → AllIn M 1 names

abbrev pub Closed : (Z : Fixed) (W : Cover) (G : Calls → Type 0) (w : Mode) (K M P : Node → Bool) (N : Node → Loc → Type 0) (ctx : List Label) (o : Bool)
    (k : Node) (t : ℕ)
    → Marked → ℕ → List Node → Type 0
Closed Z W G w K M P N ctx o k t End p names = EndOk M P o k t names
Closed Z W G w K M P N ctx o k t (Do m op rest) p names =
    DoOk Z W G w K M P N m op p names (first (p + 1) rest k) × Closed Z W G w K M P N ctx o k t rest (p + 1) (made (callees Z.m) p op names)
Closed Z W G w K M P N ctx o k t (Block m r body rest) p names =
    BlockOk Z W G w K M P N m (arity r) p (p + 1 + size body) (first (p + 1) body (Join p)) (first (p + 1 + size body) rest k) × Closed Z W G w K M P N
    (block_label p (arity r) (p + 1 + size body) ∷ ctx) (K (At p)) (Join p) (arity r) body (p + 1) [] × Closed Z W G w K M P N ctx o k t rest
    (p + 1 + size body) (named (arity r) (Join p) names)
Closed Z W G w K M P N ctx o k t (Loop m r body rest) p names =
    BlockOk Z W G w K M P N m (arity r) p (p + 1 + size body) (first (p + 1) body (Join p)) (first (p + 1 + size body) rest k) × Closed Z W G w K M P N
    (loop_label p (p + 1 + size body) ∷ ctx) (K (At p)) (Join p) (arity r) body (p + 1) [] × Closed Z W G w K M P N ctx o k t rest (p + 1 + size body)
    (named (arity r) (Join p) names)
Closed Z W G w K M P N ctx o k t (If m r x y rest) p names =
    TestOk K M p names × BlockOk Z W G Cuts K M P N m (arity r) p (p + 1 + size x + size y) (first (p + 1) x (Join p))
    (first (p + 1 + size x + size y) rest k) × ((z : Loc) → N (first (p + 1 + size x) y (Join p)) z → N (At p) z) × Closed Z W G w K M P N
    (block_label p (arity r) (p + 1 + size x + size y) ∷ ctx) (K (At p)) (Join p) (arity r) x (p + 1) [] × Closed Z W G w K M P N
    (block_label p (arity r) (p + 1 + size x + size y) ∷ ctx) (K (At p)) (Join p) (arity r) y (p + 1 + size x) [] × Closed Z W G w K M P N ctx o k t rest
    (p + 1 + size x + size y) (named (arity r) (Join p) (drop 1 names))
Closed Z W G w K M P N ctx o k t (Br m l rest) p names = BrOk Z W G w K M P N ctx m l p names
Closed Z W G w K M P N ctx o k t (BrIf m l rest) p names =
    TestOk K M p names × BrOk Z W G w K M P N ctx m l p (drop 1 names) × ((z : Loc) → N (first (p + 1) rest k) z → N (At p) z) × Closed Z W G w K M P N ctx o
    k t rest (p + 1) (drop 1 names)
Closed Z W G w K M P N ctx o k t (BrTable m labels other rest) p names =
    TestOk K M p
    names × ((l : ℕ) → OneOf labels other l → BrOk Z W G w K M P N ctx m l p (drop 1 names) × (carried (arities ctx) l ≡ carried (arities ctx) other))
Closed Z W G w K M P N ctx o k t (Return m rest) p names = BrOk Z W G w K M P N ctx m (outermost (arities ctx)) p names
Closed Z W G w K M P N ctx o k t (Unreachable m rest) p names = (m ≡ true → K (At p) ≡ true) × (strict w ≡ true → K (At p) ≡ true)
