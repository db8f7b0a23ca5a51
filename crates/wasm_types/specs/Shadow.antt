-- What an if or a branch decides about (docs/ANALYSES.md, "Shadow").
use Rattle.std.specs.Prelude.{◌≡◌, ℕ, ◌+◌, ◌≤◌, ◌<◌, Option, true}
use Rattle.wasm_types.specs.declared.module.ValType.{ValType}
use Rattle.wasm_types.specs.declared.place.Node.{Node}
use Rattle.wasm_types.specs.Nodes.{At, Join}
use Rattle.wasm_types.specs.Labels.{join_of, loop_of, start_of, stop_of}
use Rattle.wasm_types.specs.Sites.{IfHead, HasJoin, Site, Sites, IsSite, Branches}

-- the nodes at the positions from a on that are below b: the live positions, and the joins of live blocks, loops and ifs
pub data Inside (S : Sites) (a b : ℕ) : Node → Type 0 where
  at_position : {q : ℕ} (t : Site) → IsSite S q t → a ≤ q → q < b → Inside S a b (At q)
  at_join : {q : ℕ} (t : Site) → IsSite S q t → HasJoin t.head → a ≤ q → q < b → Inside S a b (Join q)

-- The shadow of an if or a branch at p. Of an if: what is inside its arms, and its join. Of a branch, for each target: what stands after p inside it; the
-- joins around p, up to the target's; and all that is inside a loop around p, up to the target.
pub data InShadow (S : Sites) : ℕ → Node → Type 0 where
  arms : {p : ℕ} {n : Node} (kind : Option ValType) (s : Site) → IsSite S p s → s.head ≡ IfHead kind → Inside S (p + 1) s.stop n → InShadow S p n
  if_join : {p : ℕ} (kind : Option ValType) (s : Site) → IsSite S p s → s.head ≡ IfHead kind → InShadow S p (Join p)
  later : {p : ℕ} {n : Node} (l : ℕ) (s : Site) → IsSite S p s → Branches s.head l → Inside S (p + 1) (stop_of s.around l) n → InShadow S p n
  around : {p : ℕ} (l j : ℕ) (s : Site) → IsSite S p s → Branches s.head l → j ≤ l → InShadow S p (join_of s.around j)
  looping : {p : ℕ} {n : Node} (l j : ℕ) (s : Site) → IsSite S p s → Branches s.head l → j ≤ l → loop_of s.around j ≡ true → Inside S (start_of s.around j) (stop_of s.around j) n → InShadow S p n
