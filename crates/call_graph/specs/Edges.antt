-- The edges of a module's calls: the nodes are the functions, and then the classes.
use Rattle.std.specs.Prelude.{◌≡◌, ℕ, ◌+◌, ◌⊎◌, Option, Some, None, length, slice_get, nat_lt, if◌then◌else◌}
use Rattle.std.specs.Option.{option_map}
use Rattle.wasm_types.specs.declared.module.Module.{Module}
use Rattle.call_graph.specs.declared.deeds.Deed.{Deed}
use Rattle.call_graph.specs.declared.deeds.Deed.TheVariants.{Calls, CallsThrough}
use Rattle.call_graph.specs.declared.acts.Act.{Act}
use Rattle.call_graph.specs.declared.edges.Edge.{Edge}
use Rattle.call_graph.specs.declared.edges.Way.{Way}
use Rattle.call_graph.specs.declared.edges.Way.TheVariants.{Callees, Callers}
use Rattle.call_graph.specs.declared.classes.Classes.{Classes}
use Rattle.call_graph.specs.Deeds.{Does}

-- how many functions there are
abbrev pub functions : Classes → ℕ
functions classes = length classes.by_func.items

-- the class of a function or type, where it has one
abbrev pub class_in : Option (Option ℕ) → Option ℕ
class_in (Some class) = class
class_in None = None

-- the node of a class
abbrev pub class_node : Classes → Option (Option ℕ) → Option ℕ
class_node classes (Some (Some c)) = Some (functions classes + c)
class_node classes _ = None

-- the node that a function leads to which does this
abbrev pub target_of : Classes → Deed → Option ℕ
target_of classes (Calls g) = if nat_lt g (functions classes) then Some g else None
target_of classes (CallsThrough t) = class_node classes (slice_get classes.by_type.items t)
target_of classes _ = None

abbrev pub edge_of : Classes → Act → Option Edge
edge_of classes a = option_map (λ (to : ℕ). record { from = a.func; to = to }) (target_of classes a.deed)

-- as it is, or turned round
abbrev pub edge_along : Way → Edge → Edge
edge_along Callees e = e
edge_along Callers e = record { from = e.to; to = e.from }

-- it leads from a class to a function of the class
abbrev pub IsMember : Classes → Edge → Type 0
IsMember classes e = (c : ℕ) × ((slice_get classes.by_func.items e.to ≡ Some (Some c)) × (e.from ≡ functions classes + c))

-- a node leads to another
abbrev pub Leads : Module → Classes → ℕ → ℕ → Type 0
Leads m classes x y = ((d : _) × (Does m x d × (target_of classes d ≡ Some y))) ⊎ IsMember classes (record { from = x; to = y })
