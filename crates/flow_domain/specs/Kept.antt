-- The kept set of a watched instruction, where a kept call uses only what its needed outputs and its completion depend on (docs/ANALYSES.md, "The kept set").
use Rattle.std.specs.Prelude.{◌≡◌, ℕ, ◌<◌, ◌⊎◌, List, Bool, true, Option, Some, None, take, reverse, slice_get}
use Rattle.wasm_types.specs.declared.instr.Instr.{Instr}
use Rattle.wasm_types.specs.declared.place.Loc.{Loc}
use Rattle.wasm_types.specs.declared.place.Loc.TheVariants.{Local}
use Rattle.wasm_types.specs.declared.place.Node.{Node}
use Rattle.wasm_types.specs.Actions.{callees, Callee, takes}
use Rattle.wasm_types.specs.Labels.{carried, arities, join_of}
use Rattle.wasm_types.specs.Locations.{is_outer}
use Rattle.wasm_types.specs.Nodes.{At, Join}
use Rattle.wasm_types.specs.Reaching.{Writes, Path}
use Rattle.wasm_types.specs.Shadow.{InShadow}
use Rattle.wasm_types.specs.Sites.{Head, DoHead, Site, Sites, IsSite, Branches, Among, EndAt, operand_count, all_operands, carry_names}
use Rattle.flow_domain.specs.Bounds.{Bounds, reads, checks, called, written_by}
use Rattle.flow_domain.specs.Rows.{Output, Ret, Final, Done, CallRows, Item, Makes, Place}

-- whom an instruction calls
abbrev pub called_at : Bounds → Head → Option Callee
called_at B (DoHead op) = called B op
called_at B _ = None

-- The kept set, with these rows for the functions that are called: the least set of items with these rules. `Makes n Done` says that n is kept, since what is
-- kept has to complete; `Makes n Ret` that its value is needed, and `Makes n (Final x)` what it writes to x; `Place a x` that location x is needed at point a.
pub data KeptItem (B : Bounds) (R : CallRows) (S : Sites) (ends : List EndAt) : Item → Type 0 where
  -- the watched instruction, and the makers of all its operands
  criterion : {p : ℕ} (s : Site) → IsSite S p s → s.mark ≡ true → KeptItem B R S ends (Makes (At p) Ret)
  criterion_operand : {n : Node} (p k : ℕ) (s : Site) → IsSite S p s → s.mark ≡ true → k < all_operands (callees B.m) s.around s.head
      → slice_get s.names k ≡ Some n → KeptItem B R S ends (Makes n Ret)
  -- what is needed of a node keeps the node; one that is kept and calls nothing is kept for its value
  completes : {n : Node} (out : Output) → KeptItem B R S ends (Makes n out) → KeptItem B R S ends (Makes n Done)
  whole : {p : ℕ} (s : Site) → KeptItem B R S ends (Makes (At p) Done) → IsSite S p s → called_at B s.head ≡ None → KeptItem B R S ends (Makes (At p) Ret)
  -- where a kept position calls nothing: the makers of its operands, the values that a branch carries left out, and the locations that it reads or checks
  operand : {n : Node} (p k : ℕ) (s : Site) → KeptItem B R S ends (Makes (At p) Done) → IsSite S p s → called_at B s.head ≡ None
      → k < operand_count (callees B.m) s.head → slice_get s.names k ≡ Some n → KeptItem B R S ends (Makes n Ret)
  using : {p : ℕ} {x : Loc} (s : Site) (op : Instr) → KeptItem B R S ends (Makes (At p) Done) → IsSite S p s → s.head ≡ DoHead op → called B op ≡ None
      → (reads B op x ≡ true) ⊎ (checks B op x ≡ true) → KeptItem B R S ends (Place (At p) x)
  -- what a kept call needs for an output: the inputs that the callee's row has for it, as operands of the call, and as locations at it
  argument : {n : Node} (p k : ℕ) (g : Callee) (out : Output) (s : Site) (op : Instr) → KeptItem B R S ends (Makes (At p) out) → IsSite S p s
      → s.head ≡ DoHead op → called B op ≡ Some g → R g out (Local k) → slice_get (reverse (take (takes (callees B.m) op) s.names)) k ≡ Some n
      → KeptItem B R S ends (Makes n Ret)
  place : {p : ℕ} {x : Loc} (g : Callee) (out : Output) (s : Site) (op : Instr) → KeptItem B R S ends (Makes (At p) out) → IsSite S p s → s.head ≡ DoHead op
      → called B op ≡ Some g → R g out x → is_outer x ≡ true → KeptItem B R S ends (Place (At p) x)
  -- a location at a point: what writes it on the way there
  writer : {x : Loc} {d : ℕ} (a : Node) → KeptItem B R S ends (Place a x) → Writes (written_by B S) x (At d) → Path (written_by B S) S x (At d) a
      → KeptItem B R S ends (Makes (At d) (Final x))
  -- what has a kept node in its shadow
  deciding : {p : ℕ} (n : Node) → KeptItem B R S ends (Makes n Done) → InShadow S p n → KeptItem B R S ends (Makes (At p) Done)
  -- the makers of what a live branch carries to a kept join, and of what a live end leaves there
  carrying : {n : Node} (p l k : ℕ) (s : Site) → KeptItem B R S ends (Makes (join_of s.around l) Done) → IsSite S p s → Branches s.head l
      → k < carried (arities s.around) l → slice_get (carry_names s.head s.names) k ≡ Some n → KeptItem B R S ends (Makes n Ret)
  ending : {n : Node} (e : EndAt) (k : ℕ) → KeptItem B R S ends (Makes e.owner Done) → Among ends e → k < e.count → slice_get e.names k ≡ Some n
      → KeptItem B R S ends (Makes n Ret)
  -- what is around a kept node, and what a kept join is the end of
  holding_at : {b : ℕ} (q : ℕ) (s : Site) → KeptItem B R S ends (Makes (At q) Done) → IsSite S b s → b < q → q < s.stop
      → KeptItem B R S ends (Makes (At b) Done)
  holding_join : {b : ℕ} (q : ℕ) (s : Site) → KeptItem B R S ends (Makes (Join q) Done) → IsSite S b s → b < q → q < s.stop
      → KeptItem B R S ends (Makes (At b) Done)
  own_join : {b : ℕ} → KeptItem B R S ends (Makes (Join b) Done) → KeptItem B R S ends (Makes (At b) Done)

-- the kept nodes, and those of them whose value is needed
abbrev pub KeptNode : Bounds → CallRows → Sites → List EndAt → Node → Type 0
KeptNode B R S ends n = KeptItem B R S ends (Makes n Done)

abbrev pub KeptMaker : Bounds → CallRows → Sites → List EndAt → Node → Type 0
KeptMaker B R S ends n = KeptItem B R S ends (Makes n Ret)

-- a set of items that the rules do not leave
pub record IsClosed (B : Bounds) (R : CallRows) (S : Sites) (ends : List EndAt) (K : Item → Bool) : Type 0 where
  pub watched : (p : ℕ) (s : Site) → IsSite S p s → s.mark ≡ true → K (Makes (At p) Ret) ≡ true
  pub watched_operands : (n : Node) (p k : ℕ) (s : Site) → IsSite S p s → s.mark ≡ true → k < all_operands (callees B.m) s.around s.head
      → slice_get s.names k ≡ Some n → K (Makes n Ret) ≡ true
  pub completes : (n : Node) (out : Output) → K (Makes n out) ≡ true → K (Makes n Done) ≡ true
  pub whole : (p : ℕ) (s : Site) → K (Makes (At p) Done) ≡ true → IsSite S p s → called_at B s.head ≡ None → K (Makes (At p) Ret) ≡ true
  pub operands : (n : Node) (p k : ℕ) (s : Site) → K (Makes (At p) Done) ≡ true → IsSite S p s → called_at B s.head ≡ None
      → k < operand_count (callees B.m) s.head → slice_get s.names k ≡ Some n → K (Makes n Ret) ≡ true
  pub uses : (p : ℕ) (x : Loc) (s : Site) (op : Instr) → K (Makes (At p) Done) ≡ true → IsSite S p s → s.head ≡ DoHead op → called B op ≡ None
      → (reads B op x ≡ true) ⊎ (checks B op x ≡ true) → K (Place (At p) x) ≡ true
  pub arguments : (n : Node) (p k : ℕ) (g : Callee) (out : Output) (s : Site) (op : Instr) → K (Makes (At p) out) ≡ true → IsSite S p s
      → s.head ≡ DoHead op → called B op ≡ Some g → R g out (Local k) → slice_get (reverse (take (takes (callees B.m) op) s.names)) k ≡ Some n
      → K (Makes n Ret) ≡ true
  pub places : (p : ℕ) (x : Loc) (g : Callee) (out : Output) (s : Site) (op : Instr) → K (Makes (At p) out) ≡ true → IsSite S p s → s.head ≡ DoHead op
      → called B op ≡ Some g → R g out x → is_outer x ≡ true → K (Place (At p) x) ≡ true
  pub writers : (x : Loc) (d : ℕ) (a : Node) → K (Place a x) ≡ true → Writes (written_by B S) x (At d) → Path (written_by B S) S x (At d) a
      → K (Makes (At d) (Final x)) ≡ true
  pub shadows : (p : ℕ) (n : Node) → K (Makes n Done) ≡ true → InShadow S p n → K (Makes (At p) Done) ≡ true
  pub carries : (n : Node) (p l k : ℕ) (s : Site) → K (Makes (join_of s.around l) Done) ≡ true → IsSite S p s → Branches s.head l
      → k < carried (arities s.around) l → slice_get (carry_names s.head s.names) k ≡ Some n → K (Makes n Ret) ≡ true
  pub live_ends : (n : Node) (e : EndAt) (k : ℕ) → K (Makes e.owner Done) ≡ true → Among ends e → k < e.count → slice_get e.names k ≡ Some n
      → K (Makes n Ret) ≡ true
  pub around_at : (b q : ℕ) (s : Site) → K (Makes (At q) Done) ≡ true → IsSite S b s → b < q → q < s.stop → K (Makes (At b) Done) ≡ true
  pub around_join : (b q : ℕ) (s : Site) → K (Makes (Join q) Done) ≡ true → IsSite S b s → b < q → q < s.stop → K (Makes (At b) Done) ≡ true
  pub own_join : (b : ℕ) → K (Makes (Join b) Done) ≡ true → K (Makes (At b) Done) ≡ true

-- the first so many names, as far as there are any, are in the set
abbrev pub NamesIn : (Node → Bool) → ℕ → List Node → Type 0
NamesIn K n names = (k : ℕ) (d : Node) → k < n → slice_get names k ≡ Some d → K d ≡ true

-- a test that tells the kept set
abbrev pub Tells : (Node → Bool) → (Node → Type 0) → Type 0
Tells K Is = (n : Node) → (K n ≡ true → Is n) × (Is n → K n ≡ true)
