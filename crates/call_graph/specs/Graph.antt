-- What the graph of a module's calls tells, and which is the graph of a module.
use Rattle.std.specs.Prelude.{◌≡◌, ◌↔◌, ℕ, ◌+◌, ◌<◌, ◌≤◌, ◌⊎◌, [], ◌∷◌, Some, length, slice_get}
use Rattle.std.specs.List.{Contains}
use Rattle.wasm_types.specs.declared.instr.Instr.{Instr}
use Rattle.wasm_types.specs.declared.module.Module.{Module}
use Rattle.wasm_types.specs.declared.place.Loc.{Loc}
use Rattle.wasm_types.specs.Actions.{CallOf, form_of}
use Rattle.wasm_types.specs.Funcs.{Func, func_of, text}
use Rattle.wasm_types.specs.Hosts.{IsFunction}
use Rattle.wasm_types.specs.Spaces.{func_types}
use Rattle.flow_domain.specs.Reach.{CallsFunc, LiveIn, MayWrite, Reached}
use Rattle.flow_domain.specs.Touch.{MayTouch}
use Rattle.worklist.specs.Lists.{Has}
use Rattle.worklist.specs.Reached as graph
use Rattle.worklist.specs.Search.{IsMarked}
use Rattle.call_graph.specs.declared.pairs.Pairs.{Pairs}
use Rattle.call_graph.specs.declared.calls.CallGraph.{CallGraph}
use Rattle.call_graph.specs.declared.reached.Reached.{Reached as Found}
use Rattle.call_graph.specs.Edges.{functions}
use Rattle.call_graph.specs.Labels.{label_of}
use Rattle.call_graph.specs.Pairs.{HasPair}
use Rattle.call_graph.specs.Tells.{AreAlike, TellsTargets}

-- a function leads to a node
abbrev pub LeadsTo : CallGraph → ℕ → ℕ → Type 0
LeadsTo g f y = (f < functions g.classes) × Has g.callees.next.items f y

-- a function leads to another, or to the class of the other
abbrev pub TellsCall : CallGraph → ℕ → ℕ → Type 0
TellsCall g f h = LeadsTo g f h ⊎ ((c : ℕ) × ((slice_get g.classes.by_func.items h ≡ Some (Some c)) × LeadsTo g f (functions g.classes + c)))

-- nodes, one after another, lead from a function to another
abbrev pub TellsReached : CallGraph → ℕ → ℕ → Type 0
TellsReached g f h = graph.Reached (Contains (f ∷ [])) (Has g.callees.next.items) h

-- it has just the functions that calls lead to from function f
abbrev pub IsReachedFrom : Module → ℕ → Found → Type 0
IsReachedFrom m f found = (h : ℕ) → IsFunction m h → IsMarked found.met.items h ↔ Reached m f h

-- the lists of callers have a function among those of another: by number, or through the class of the other
abbrev pub TellsCaller : CallGraph → ℕ → ℕ → Type 0
TellsCaller g h f = (f < functions g.classes) × (Has g.callers.next.items h f
    ⊎ ((c : ℕ) × ((slice_get g.classes.by_func.items h ≡ Some (Some c)) × Has g.callers.next.items (functions g.classes + c) f)))

-- the list of callers of a function by its number has a function
abbrev pub TellsNumber : CallGraph → ℕ → ℕ → Type 0
TellsNumber g h f = (f < functions g.classes) × Has g.callers.next.items h f

-- a function calls another by its number at a live position
abbrev pub CallsNumber : Module → ℕ → ℕ → Type 0
CallsNumber m f h = (F : Func) × ((op : Instr) × ((func_of m f ≡ Some F) × (LiveIn op (text F) × (form_of op ≡ CallOf h))))

-- a function has the label of a location
abbrev pub TellsLoc : Pairs → ℕ → Loc → Type 0
TellsLoc pairs f x = (o : ℕ) × ((label_of x ≡ Some o) × HasPair pairs f o)

-- It tells just what the functions of the module call, reach, touch and write. It has the functions of each class, and each function in its order.
pub record IsCallGraph (m : Module) (g : CallGraph) : Type 0 where
  pub count : functions g.classes ≡ length (func_types m)
  pub targets : TellsTargets m g.classes
  pub calls : (f h : ℕ) → IsFunction m h → TellsCall g f h ↔ CallsFunc m f h
  pub callers : (h f : ℕ) → IsFunction m h → TellsCaller g h f ↔ CallsFunc m f h
  pub numbers : (h f : ℕ) → IsFunction m h → TellsNumber g h f ↔ CallsNumber m f h
  pub nodes : functions g.classes ≤ length g.callees.next.items
  pub reached : (f h : ℕ) → IsFunction m f → IsFunction m h → TellsReached g f h ↔ Reached m f h
  pub touches : (f : ℕ) (x : Loc) → TellsLoc g.touches f x ↔ MayTouch m f x
  pub writes : (f : ℕ) (x : Loc) → TellsLoc g.writes f x ↔ MayWrite m f x
  pub members : (c f : ℕ) → Has g.members.items c f ↔ (slice_get g.classes.by_func.items f ≡ Some (Some c))
  pub order : (f : ℕ) → Contains g.order.items f ↔ IsFunction m f
  pub alike : AreAlike m g.classes
