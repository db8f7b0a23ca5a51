-- What an output of a function leads to, in rounds over the rows of the functions called (docs/ANALYSES.md, "Rows").
use Rattle.std.specs.Prelude.{◌≡◌, ℕ, zero, suc, ◌<◌, ◌⊎◌, List, reverse, Bool, true, false, Some, None, take, length, slice_get}
use Rattle.wasm_types.specs.declared.module.FuncType.{FuncType}
use Rattle.wasm_types.specs.declared.module.Module.{Module}
use Rattle.wasm_types.specs.declared.instr.Instr.{Instr}
use Rattle.wasm_types.specs.declared.place.Loc.{Loc}
use Rattle.wasm_types.specs.declared.place.Loc.TheVariants.{Local}
use Rattle.wasm_types.specs.declared.place.Node.{Node}
use Rattle.wasm_types.specs.declared.place.Node.TheVariants.{Exit}
use Rattle.wasm_types.specs.Spaces.{type_of_func}
use Rattle.wasm_types.specs.Actions.{callees, Callee, Own, Through, takes}
use Rattle.wasm_types.specs.Locations.{is_outer}
use Rattle.wasm_types.specs.Hosts.{MayStand, HostFunc, host_of, host_reads, host_writes}
use Rattle.wasm_types.specs.Funcs.{Func, func_of, text}
use Rattle.wasm_types.specs.Nodes.{At}
use Rattle.wasm_types.specs.Labels.{carried, arities, join_of, loop_of, first}
use Rattle.wasm_types.specs.Sites.{DoHead, UnreachableHead, Site, Sites, IsSite, Branches, EndAt, Among, body_sites, body_ends, operand_count, carry_names}
use Rattle.wasm_types.specs.Reaching.{Writes, Path, Enters}
use Rattle.wasm_types.specs.Shadow.{InShadow}
use Rattle.flow_domain.specs.Bounds.{Bounds, reads, checks, called, may_trap, traps_by, written_by}

-- what an activation may be asked for: its results, a location at its end, and that it returns at all
pub data Output : Type 0 where
  Ret : Output
  Final : (x : Loc) → Output
  Done : Output

-- an input is a location at the entry: a parameter is a local there
abbrev pub Rows : Type 1
Rows = ℕ → Output → Loc → Type 0

-- the rows of whom a call calls: operand k of the call is a local, the deepest being 0
abbrev pub CallRows : Type 1
CallRows = Callee → Output → Loc → Type 0

-- a function that a call through the table by type t may find
pub record Target (m : Module) (t f : ℕ) : Type 0 where
  pub kind : FuncType
  pub is : type_of_func m f ≡ Some kind
  pub named : slice_get m.types t ≡ Some kind
  pub stands : MayStand m f

-- one of the targets has it
abbrev pub TargetRow : Module → Rows → ℕ → Output → Loc → Type 0
TargetRow mo R t out x = (f : ℕ) × Target mo t f × R f out x

-- the index of a call through the table lies on its n arguments
abbrev pub IsIndex : ℕ → Loc → Type 0
IsIndex n (Local k) = k ≡ n
IsIndex n _ = ⊥

-- through the table the union over the targets, and the index
abbrev pub RowOf : Module → Rows → CallRows
RowOf mo R (Own f) out x = R f out x
RowOf mo R (Through t n) out x = IsIndex n x ⊎ TargetRow mo R t out x

-- a node as the maker of its value, as a writer of a location, or as what must complete; a location at a point; a decider
pub data Item : Type 0 where
  Makes : (n : Node) (out : Output) → Item
  Place : (a : Node) (x : Loc) → Item
  Decider : (p : ℕ) → Item

-- the operands, and the locations, that an output of an instruction depends on where it calls nothing
abbrev pub needs_operand : Bounds → Instr → Output → ℕ → Type 0
needs_operand B op Ret k = Unit {0}
needs_operand B op (Final x) k = Unit {0}
needs_operand B op Done k = traps_by B op k

abbrev pub needs_place : Bounds → Instr → Output → Loc → Type 0
needs_place B op Ret x = reads B op x ≡ true
needs_place B op (Final y) x = reads B op x ≡ true
needs_place B op Done x = checks B op x ≡ true

-- What output o of a body leads to, with these rows for the functions that are called.
pub data Led (B : Bounds) (R : CallRows) (S : Sites) (ends : List EndAt) (o : Output) : Item → Type 0 where
  -- where the output is the result or a location at the end: what makes it at the body's exit
  result : o ≡ Ret → Led B R S ends o (Makes Exit Ret)
  final : {x : Loc} → o ≡ Final x → Led B R S ends o (Place Exit x)
  -- where it is completion: each branch back to a loop, and each instruction that may trap, a call being one
  done_branch : {p : ℕ} (l : ℕ) (s : Site) → o ≡ Done → IsSite S p s → Branches s.head l → loop_of s.around l ≡ true → Led B R S ends o (Decider p)
  done_trap : {p : ℕ} (op : Instr) (s : Site) → o ≡ Done → IsSite S p s → s.head ≡ DoHead op → may_trap B op ≡ true → Led B R S ends o (Makes (At p) Done)
  done_unreachable : {p : ℕ} (s : Site) → o ≡ Done → IsSite S p s → s.head ≡ UnreachableHead → Led B R S ends o (Makes (At p) Done)
  -- a location at a point: what writes it on the way there
  writer : {x : Loc} {d : ℕ} (a : Node) → Led B R S ends o (Place a x) → Writes (written_by B S) x (At d) → Path (written_by B S) S x (At d) a
      → Led B R S ends o (Makes (At d) (Final x))
  -- what an instruction makes that calls nothing: the makers of its operands, and what it reads; for its completion what decides whether it traps
  operand : {n : Node} (p k : ℕ) (out : Output) (s : Site) (op : Instr) → Led B R S ends o (Makes (At p) out) → IsSite S p s → s.head ≡ DoHead op
      → called B op ≡ None → needs_operand B op out k → slice_get (take (takes (callees B.m) op) s.names) k ≡ Some n → Led B R S ends o (Makes n Ret)
  reading : {p : ℕ} {x : Loc} (out : Output) (s : Site) (op : Instr) → Led B R S ends o (Makes (At p) out) → IsSite S p s → s.head ≡ DoHead op
      → needs_place B op out x → Led B R S ends o (Place (At p) x)
  -- what a call makes: the inputs that the callee's row has for it, as operands of the call, and as locations at it
  argument : {n : Node} (p k : ℕ) (g : Callee) (out : Output) (s : Site) (op : Instr) → Led B R S ends o (Makes (At p) out) → IsSite S p s
      → s.head ≡ DoHead op → called B op ≡ Some g → R g out (Local k) → slice_get (reverse (take (takes (callees B.m) op) s.names)) k ≡ Some n
      → Led B R S ends o (Makes n Ret)
  place : {p : ℕ} {x : Loc} (g : Callee) (out : Output) (s : Site) (op : Instr) → Led B R S ends o (Makes (At p) out) → IsSite S p s → s.head ≡ DoHead op
      → called B op ≡ Some g → R g out x → is_outer x ≡ true → Led B R S ends o (Place (At p) x)
  -- the value of a block, loop or if, or of the body: what branches carry to its join, and what its live ends leave there
  carrying : {n : Node} (p l k : ℕ) (s : Site) → Led B R S ends o (Makes (join_of s.around l) Ret) → IsSite S p s → Branches s.head l
      → slice_get (take (carried (arities s.around) l) (carry_names s.head s.names)) k ≡ Some n → Led B R S ends o (Makes n Ret)
  ending : {n : Node} (e : EndAt) (k : ℕ) → Led B R S ends o (Makes e.owner Ret) → Among ends e → slice_get (take e.count e.names) k ≡ Some n
      → Led B R S ends o (Makes n Ret)
  -- what decides whether a node that is led to runs, and the operands of the deciders
  deciding : {p : ℕ} (n : Node) (out : Output) → Led B R S ends o (Makes n out) → InShadow S p n → Led B R S ends o (Decider p)
  deciding_again : {p : ℕ} (q : ℕ) → Led B R S ends o (Decider q) → InShadow S p (At q) → Led B R S ends o (Decider p)
  condition : {n : Node} (p k : ℕ) (s : Site) → Led B R S ends o (Decider p) → IsSite S p s
      → slice_get (take (operand_count (callees B.m) s.head) s.names) k ≡ Some n → Led B R S ends o (Makes n Ret)

-- a location is needed at a point: from there it comes unwritten to a point where it is led to
pub record Needed (B : Bounds) (R : CallRows) (S : Sites) (ends : List EndAt) (o : Output) (a : Node) (x : Loc) : Type 0 where
  pub at : Node
  pub enters : Enters (written_by B S) S x a at
  pub led : Led B R S ends o (Place at x)

-- the sites and the live ends of a function that is called
abbrev pub func_sites : Bounds → Func → Sites
func_sites B F = body_sites (callees B.m) F.results (text F)

abbrev pub func_ends : Bounds → Func → List EndAt
func_ends B F = body_ends (callees B.m) F.results (text F)

-- locals that are no parameters are no inputs
abbrev pub IsInput : ℕ → Loc → Type 0
IsInput n (Local k) = k < n
IsInput n _ = Unit {0}

-- an import uses all its parameters and all that it reads
abbrev pub HostUses : HostFunc → Loc → Type 0
HostUses H (Local k) = k < length H.kind.params
HostUses H x = host_reads H x ≡ true

-- of a location that it writes, or of another, which stays as it was
abbrev pub HostFinal : Bool → HostFunc → Loc → Loc → Type 0
HostFinal true H y x = HostUses H x
HostFinal false H y x = (is_outer y ≡ true) × (x ≡ y)

-- the rows of an import
abbrev pub HostRow : HostFunc → Output → Loc → Type 0
HostRow H Ret x = HostUses H x
HostRow H (Final y) x = HostFinal (host_writes H y) H y x
HostRow H Done x = HostUses H x

-- the rows of the imports, and none of own functions
abbrev pub ImportRows : Module → Rows
ImportRows m f o x = (H : HostFunc) × (host_of m f ≡ Some H) × HostRow H o x

-- with these rows for the functions called, output o of f leads to input x
pub data LedTo (R : Rows) (B : Bounds) (f : ℕ) (o : Output) (x : Loc) : Type 0 where
  by_code : (F : Func) → func_of B.m f ≡ Some F → Needed B (RowOf B.m R) (func_sites B F) (func_ends B F) o (first 0 (text F) Exit) x → IsInput F.params x
      → LedTo R B f o x
  by_host : ImportRows B.m f o x → LedTo R B f o x

-- round n: in round 0 the rows of the own functions called are empty
abbrev pub Dep : Bounds → ℕ → Rows
Dep B zero f o x = LedTo (ImportRows B.m) B f o x
Dep B (suc n) f o x = LedTo (Dep B n) B f o x

-- rows that hold whatever is led to by them
abbrev pub Holds : Bounds → Rows → Type 0
Holds B R = (f : ℕ) (o : Output) (x : Loc) → LedTo R B f o x → R f o x

-- the rows of any round
abbrev pub AnyRound : Bounds → Rows
AnyRound B f o x = (n : ℕ) × Dep B n f o x
