-- Which writes reach which points (docs/ANALYSES.md, "Reaching"). It is asked over any table that tells what positions write.
use Rattle.std.specs.Prelude.{ℕ}
use Rattle.wasm_types.specs.declared.place.Loc.{Loc}
use Rattle.wasm_types.specs.declared.place.Def.{Def}
use Rattle.wasm_types.specs.declared.place.Def.TheVariants as def
use Rattle.wasm_types.specs.declared.place.Node.{Node}
use Rattle.wasm_types.specs.Nodes.{At}
use Rattle.wasm_types.specs.Actions.{Callees, task_of}
use Rattle.wasm_types.specs.Locations.{OfCalls, TaskReads, TaskChecks, TaskWrites}
use Rattle.wasm_types.specs.Sites.{DoHead, Head, Site, Sites, IsSite, Leads}

-- for each position locations
abbrev pub Table : Type 1
Table = ℕ → Loc → Type 0

-- ---- the tables of a body

-- what an instruction reads, checks or writes, where calls check and write these; a block, loop, if or branch does none of it
abbrev pub HeadReads : Callees → Head → Loc → Type 0
HeadReads cs (DoHead op) x = TaskReads (task_of cs op) x
HeadReads cs _ x = ⊥

abbrev pub HeadChecks : Callees → OfCalls → Head → Loc → Type 0
HeadChecks cs C (DoHead op) x = TaskChecks C (task_of cs op) x
HeadChecks cs C _ x = ⊥

abbrev pub HeadWrites : Callees → OfCalls → Head → Loc → Type 0
HeadWrites cs C (DoHead op) x = TaskWrites C (task_of cs op) x
HeadWrites cs C _ x = ⊥

-- what the live positions write
pub record WritesAt (cs : Callees) (C : OfCalls) (S : Sites) (p : ℕ) (x : Loc) : Type 0 where
  pub site : Site
  pub is : IsSite S p site
  pub writes : HeadWrites cs C site.head x

-- ---- paths

-- a point writes the location
pub data Writes (W : Table) (x : Loc) : Node → Type 0 where
  writes_it : {p : ℕ} → W p x → Writes W x (At p)

-- a path of at least one edge, between whose ends nothing writes x
pub data Path (W : Table) (S : Sites) (x : Loc) : Node → Node → Type 0 where
  edge : {a b : Node} → Leads S a b → Path W S x a b
  along : {a c : Node} → (b : Node) → Leads S a b → (Writes W x b → ⊥) → Path W S x b c → Path W S x a c

-- from a on to q nothing before q writes x
pub data Enters (W : Table) (S : Sites) (x : Loc) : Node → Node → Type 0 where
  stands : {a : Node} → Enters W S x a a
  steps : {a q : Node} → (b : Node) → Leads S a b → (Writes W x a → ⊥) → Enters W S x b q → Enters W S x a q

-- A write reaches a point, or the entry does, of a body that begins at the point start.
pub data Reaches (W : Table) (S : Sites) (start : Node) (x : Loc) (q : Node) : Def → Type 0 where
  from_entry : Enters W S x start q → Reaches W S start x q def.Entry
  from_write : {d : ℕ} → Writes W x (At d) → Path W S x (At d) q → Reaches W S start x q (def.At (record { 0 = d }))
