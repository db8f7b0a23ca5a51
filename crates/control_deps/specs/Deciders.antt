-- What is told of shadows, whatever the functions called are, however many results the body has, and whatever is watched.
use Rattle.std.specs.Prelude.{◌≡◌, ◌↔◌, ℕ, Bool, List, [], ◌∷◌, ◌++◌, IsTrue, if◌then◌else◌}
use Rattle.std.specs.List.{Contains}
use Rattle.wasm_types.specs.declared.module.Body.{Body}
use Rattle.wasm_types.specs.declared.module.Pos.{Pos}
use Rattle.wasm_types.specs.declared.place.Node.{Node}
use Rattle.wasm_types.specs.Actions.{Callees}
use Rattle.wasm_types.specs.Code.{code_of}
use Rattle.wasm_types.specs.Marked.{marked}
use Rattle.wasm_types.specs.Shadow.{InShadow}
use Rattle.wasm_types.specs.Sites.{body_sites}
use Rattle.control_deps.specs.declared.spot.Spot.{Spot}
use Rattle.control_deps.specs.Nest.{IsNestOf}
use Rattle.control_deps.specs.Spots.{place}

-- whether the shadow of p has the node, in each body that this is the nesting of
abbrev pub Tells : List Spot → ℕ → Node → Bool → Type 0
Tells nest p n shaded =
    (body : Body) → IsNestOf body nest → (cs : Callees) (t : ℕ) (w : ℕ → Bool) → IsTrue shaded ↔ InShadow (body_sites cs t (marked w 0 (code_of body.code))) p n

-- the positions whose shadow has the node
abbrev pub AreDeciders : List Spot → Node → List Pos → Type 0
AreDeciders nest n found =
    (body : Body) → IsNestOf body nest → (cs : Callees) (t : ℕ) (w : ℕ → Bool) (p : ℕ) → Contains found (place p) ↔ InShadow (body_sites cs t (marked w 0 (code_of body.code))) p n

-- one position is added where its shadow has the node
pub record AddsDecider (nest : List Spot) (branch : Pos) (n : Node) (old new : List Pos) : Type 0 where
  pub shaded : Bool
  pub tells : Tells nest branch.0 n shaded
  pub is : new ≡ (if shaded then old ++ branch ∷ [] else old)
