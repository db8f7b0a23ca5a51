-- The graph of a body is a graph.
use Rattle.std.proofs.Common.{None}
use Rattle.wasm_types.specs.declared.module.Body.{Body}
use Rattle.wasm_types.specs.declared.place.Node.TheVariants.{Exit}
use Rattle.wasm_types.specs.Code.{code_of}
use Rattle.wasm_types.specs.Marked.{Marked, marked}
use Rattle.wasm_types.specs.Funcs.{unwatched}
use Rattle.wasm_types.specs.Actions.{Callees}
use Rattle.wasm_types.specs.Labels.{first}
use Rattle.wasm_types.specs.Sites.{body_sites}
use Rattle.block_cfg.specs.Graph.{Graph}
use Rattle.block_cfg.specs.Points.{IsCfgOf}
use Rattle.single_entry.specs.Entries.{IsGraph}

pub cfg_is_graph : (b : Body) (g : Graph) → IsCfgOf b g → IsGraph g
cfg_is_graph b g is =
    let cs : Callees = record { type_of = λ f. None; type_at = λ t. None } in
    let c : Marked = marked unwatched 0 (code_of b.code) in
    (body_sites cs 0 c, (first 0 c Exit, is cs 0 unwatched))
