-- What is kept for a watched instruction, where a kept call uses only what its needed outputs and its completion depend on.
use Rattle.std.specs.Prelude.{◌≡◌, ℕ, ◌<◌, ◌⊎◌, List, Bool, true, Some, None, take, reverse, slice_get}
use Rattle.wasm_types.specs.declared.instr.Instr.{Instr}
use Rattle.wasm_types.specs.declared.place.Loc.{Loc}
use Rattle.wasm_types.specs.declared.place.Loc.TheVariants.{Local}
use Rattle.flow_domain.specs.Bounds.{written_by, Bounds, reads, checks, writes, called, writes_at}
use Rattle.wasm_types.specs.Locations.{is_outer}
use Rattle.wasm_types.specs.Actions.{callees, Callee, takes}
use Rattle.wasm_types.specs.Labels.{carried, arities, join_of}
use Rattle.wasm_types.specs.declared.place.Node.{Node}
use Rattle.wasm_types.specs.Nodes.{At, Join}
use Rattle.wasm_types.specs.Sites.{Head, DoHead, IfHead, BrIfHead, BrTableHead, Site, Sites, IsSite, Branches, EndAt, all_operands, carry_names, Leads, Among}
use Rattle.wasm_types.specs.Reaching.{Writes}
use Rattle.wasm_types.specs.Shadow.{InShadow}
use Rattle.flow_domain.specs.Kept.{NamesIn}
use Rattle.flow_domain.specs.Rows.{Ret, Final, Done, CallRows}

-- it has a condition or an index
abbrev pub IsTest : Head → Type 0
IsTest (IfHead kind) = Unit {0}
IsTest (BrIfHead l) = Unit {0}
IsTest (BrTableHead labels other) = Unit {0}
IsTest _ = ⊥

-- a location is needed at a point: it leads, with no write of it, to a kept use
pub data NeedK (B : Bounds) (R : CallRows) (S : Sites) (K M : Node → Bool) : Node → Loc → Type 0 where
  used : {p : ℕ} {x : Loc} (s : Site) (op : Instr) → IsSite S p s → s.head ≡ DoHead op → called B op ≡ None → K (At p) ≡ true
      → (reads B op x ≡ true) ⊎ (checks B op x ≡ true) → NeedK B R S K M (At p) x
  used_done : {p : ℕ} {x : Loc} (g : Callee) (s : Site) (op : Instr) → IsSite S p s → s.head ≡ DoHead op → called B op ≡ Some g → K (At p) ≡ true → R g Done x
      → is_outer x ≡ true → NeedK B R S K M (At p) x
  used_result : {p : ℕ} {x : Loc} (g : Callee) (s : Site) (op : Instr) → IsSite S p s → s.head ≡ DoHead op → called B op ≡ Some g → M (At p) ≡ true
      → R g Ret x → is_outer x ≡ true → NeedK B R S K M (At p) x
  used_final : {p : ℕ} {x : Loc} (g : Callee) (y : Loc) (s : Site) (op : Instr) → IsSite S p s → s.head ≡ DoHead op → called B op ≡ Some g
      → writes B op y ≡ true → NeedK B R S K M s.next y → R g (Final y) x → is_outer x ≡ true → NeedK B R S K M (At p) x
  later : {a : Node} {x : Loc} (b : Node) → Leads S a b → (Writes (written_by B S) x a → ⊥) → NeedK B R S K M b x → NeedK B R S K M a x

-- closed under the rules: K is kept, M is kept as a maker
pub record IsKept (B : Bounds) (R : CallRows) (S : Sites) (ends : List EndAt) (K M : Node → Bool) : Type 0 where
  pub makers : (d : Node) → M d ≡ true → K d ≡ true
  pub watched : (p : ℕ) (s : Site) → IsSite S p s → s.mark ≡ true → (M (At p) ≡ true) × NamesIn M (all_operands (callees B.m) s.around s.head) s.names
  pub operands : (p : ℕ) (s : Site) (op : Instr) → IsSite S p s → s.head ≡ DoHead op → called B op ≡ None → K (At p) ≡ true
      → (M (At p) ≡ true) × NamesIn M (takes (callees B.m) op) s.names
  pub tests : (p : ℕ) (s : Site) → IsSite S p s → K (At p) ≡ true → IsTest s.head → NamesIn M 1 s.names
  pub args_done : (p k : ℕ) (g : Callee) (d : Node) (s : Site) (op : Instr) → IsSite S p s → s.head ≡ DoHead op → called B op ≡ Some g → K (At p) ≡ true
      → R g Done (Local k) → slice_get (reverse (take (takes (callees B.m) op) s.names)) k ≡ Some d → M d ≡ true
  pub args_result : (p k : ℕ) (g : Callee) (d : Node) (s : Site) (op : Instr) → IsSite S p s → s.head ≡ DoHead op → called B op ≡ Some g → M (At p) ≡ true
      → R g Ret (Local k) → slice_get (reverse (take (takes (callees B.m) op) s.names)) k ≡ Some d → M d ≡ true
  pub args_final : (p k : ℕ) (g : Callee) (y : Loc) (d : Node) (s : Site) (op : Instr) → IsSite S p s → s.head ≡ DoHead op → called B op ≡ Some g
      → writes B op y ≡ true → NeedK B R S K M s.next y → R g (Final y) (Local k) → slice_get (reverse (take (takes (callees B.m) op) s.names)) k ≡ Some d
      → M d ≡ true
  pub reaches : (p : ℕ) (x : Loc) (s : Site) → IsSite S p s → writes_at B s.head x ≡ true → NeedK B R S K M s.next x → K (At p) ≡ true
  pub shadows : (p : ℕ) (n : Node) → InShadow S p n → K n ≡ true → K (At p) ≡ true
  pub carries : (p l : ℕ) (s : Site) → IsSite S p s → Branches s.head l → M (join_of s.around l) ≡ true
      → NamesIn M (carried (arities s.around) l) (carry_names s.head s.names)
  pub live_ends : (e : EndAt) → Among ends e → M e.owner ≡ true → NamesIn M e.count e.names
  pub around_at : (b q : ℕ) (s : Site) → IsSite S b s → b < q → q < s.stop → K (At q) ≡ true → K (At b) ≡ true
  pub around_join : (b q : ℕ) (s : Site) → IsSite S b s → b < q → q < s.stop → K (Join q) ≡ true → K (At b) ≡ true
  pub own_join : (b : ℕ) → K (Join b) ≡ true → K (At b) ≡ true
