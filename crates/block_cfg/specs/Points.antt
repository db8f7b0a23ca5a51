-- The graph of a body: its points, and where they lead (docs/ANALYSES.md, "Points").
use Rattle.std.specs.Prelude.{◌≡◌, ◌≤◌, ◌↔◌, ◌⊎◌, ℕ, Bool, Some, slice_get}
use Rattle.std.specs.List.{Contains}
use Rattle.wasm_types.specs.declared.module.Body.{Body}
use Rattle.wasm_types.specs.declared.place.Node.{Node}
use Rattle.wasm_types.specs.declared.place.Node.TheVariants as node
use Rattle.wasm_types.specs.Code.{code_of, nest}
use Rattle.wasm_types.specs.declared.place.LimitKind.TheVariants as limit
use Rattle.wasm_types.specs.Sizes.{positions}
use Rattle.wasm_types.specs.Subset.{most_answered, most_nesting}
use Rattle.wasm_types.specs.Marked.{Marked, marked}
use Rattle.wasm_types.specs.Actions.{Callees}
use Rattle.wasm_types.specs.Nodes.{At}
use Rattle.wasm_types.specs.Labels.{first}
use Rattle.wasm_types.specs.Sites.{Site, Sites, IsSite, HasJoin, Leads, body_sites}
use Rattle.block_cfg.specs.Graph.{Graph, row_of, IsInside, EachOnce}
use Rattle.block_cfg.specs.Labels.{LabelsExist}

-- A body of which the points are told: each label of a branch exists, and the body nests no deeper and has no more positions than that of a module that
-- is answered.
pub record HasPoints (body : Body) : Type 0 where
  pub labels : LabelsExist 1 (code_of body.code)
  pub nesting : nest (code_of body.code) ≤ most_nesting
  pub positions : positions body.code ≤ most_answered limit.Positions

-- the live positions, the joins of live blocks, loops and ifs, and the end of the body
abbrev pub IsPoint : Sites → Node → Type 0
IsPoint S (node.At p) = (s : Site) × IsSite S p.0 s
IsPoint S (node.Join p) = (s : Site) × (IsSite S p.0 s × HasJoin s.head)
IsPoint S node.Exit = Unit {0}

-- g has the points, each once and the first one first, for each what it leads to and what leads to it, each once, and where contents end
pub record IsGraphOf (S : Sites) (start : Node) (g : Graph) : Type 0 where
  pub points : (n : Node) → Contains g.points n ↔ IsPoint S n
  pub points_once : EachOnce g.points
  pub first : slice_get g.points 0 ≡ Some start
  pub next : (a b : Node) → Contains (row_of g.next a) b ↔ Leads S a b
  pub next_once : (a : Node) → EachOnce (row_of g.next a)
  pub before : (a b : Node) → Contains (row_of g.before b) a ↔ Leads S a b
  pub before_once : (b : Node) → EachOnce (row_of g.before b)
  -- points lead to points
  pub stays : (a b : Node) → Leads S a b → IsPoint S a × IsPoint S b
  -- where the contents of each live position end
  pub stops : (p : ℕ) (s : Site) → IsSite S p s → slice_get g.stops p ≡ Some s.stop
  -- what stands inside a block, a loop or an if, its join too, is entered through its beginning alone
  pub entered : (p : ℕ) (s : Site) → IsSite S p s → (a n : Node) → Leads S a n → IsInside p s.stop n → IsInside p s.stop a ⊎ (a ≡ At p)

-- g is the graph of the body, whatever the functions called are, however many results it has, and whatever is watched
abbrev pub IsCfgOf : Body → Graph → Type 0
IsCfgOf body g =
    (cs : Callees) (t : ℕ) (w : ℕ → Bool) →
    let c : Marked = marked w 0 (code_of body.code) in IsGraphOf (body_sites cs t c) (first 0 c node.Exit) g
