-- The tables that are made of the body of a function.
use Rattle.std.specs.Prelude.{◌≡◌, ℕ, ◌+◌, ◌*◌, ◌≤◌, ◌<◌, Bool, length, slice_get}
use Rattle.std.specs.List.{All}
use Rattle.wasm_types.specs.declared.module.Module.{Module}
use Rattle.wasm_types.specs.Code.{code_of, count}
use Rattle.wasm_types.specs.Actions.{Callees}
use Rattle.wasm_types.specs.Funcs.{unwatched}
use Rattle.wasm_types.specs.Sites.{body_sites}
use Rattle.wasm_types.specs.Spaces.{globals_of}
use Rattle.wasm_types.specs.Subset.{IsSealed}
use Rattle.block_cfg.specs.Points.{IsCfgOf}
use Rattle.stack_names.specs.Ends.{HasValues}
use Rattle.stack_repair.specs.Law.{ValidHasHeights}
use Rattle.control_deps.specs.Nest.{IsNestOf}
use Rattle.control_deps.specs.Nearest.{AreNearest}
use Rattle.flow_domain.specs.declared.loc_table.LocUse.{LocUse}
use Rattle.flow_domain.specs.LocTables.{IsPlainTable, row_in}
use Rattle.flow_domain.specs.Sliced.{watched_code}
use Rattle.called_rows.specs.Right.{IsCalled}
use Rattle.func_flow.specs.declared.tables.Tables.{Tables}
use Rattle.func_flow.specs.Items.{index_of}
use Rattle.func_flow.specs.Steps.{steps}

pub record AreMade (m : Module) (f : ℕ) (t : Tables) : Type 0 where
  pub sealed : IsSealed m
  pub heights : ValidHasHeights
  pub names : HasValues m f unwatched t.names.now
  pub same : names.body ≡ t.body.now
  pub cfg : IsCfgOf t.body.now t.cfg.now
  pub plain : (cs : Callees) (results : ℕ) (w : ℕ → Bool) → IsPlainTable cs (body_sites cs results (watched_code w t.body.now)) t.locs.now
  pub nest : IsNestOf t.body.now t.nest.now
  pub near : AreNearest t.nest.now t.deciders.now
  pub steps : t.steps.now ≡ steps (code_of t.body.now.code)
  pub called : IsCalled m t.called
  pub globals : t.numbering.globals ≡ length (globals_of m)
  pub nodes : t.numbering.nodes ≡ 2 * count (code_of t.body.now.code) + 1
  pub locals : (p : ℕ) → All (λ (u : LocUse). index_of u.loc < t.numbering.locals) (row_in (slice_get t.locs.now p))
  pub params : length names.kind.params ≤ t.numbering.locals
