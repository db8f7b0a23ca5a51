-- The tables that are made of the body of a function, at whose live position `at` is watched.
use Rattle.std.specs.Prelude.{◌≡◌, ℕ, [], ◌∷◌, true, length, nat_eq}
use Rattle.wasm_types.specs.declared.module.Pos.{Pos}
use Rattle.wasm_types.specs.declared.module.Module.{Module}
use Rattle.wasm_types.specs.Code.{code_of}
use Rattle.wasm_types.specs.Actions.{callees}
use Rattle.stack_names.specs.Named.{is_live_in}
use Rattle.stack_names.specs.Ends.{HasValues}
use Rattle.stack_repair.specs.Law.{HasTypes, ValidHasHeights}
use Rattle.wasm_types.specs.Subset.{IsSealed}
use Rattle.called_rows.specs.Right.{IsCalled}
use Rattle.control_deps.specs.Nest.{IsNestOf}
use Rattle.control_deps.specs.Nearest.{AreNearest}
use Rattle.flow_domain.specs.Heights.{Shaped}
use Rattle.flow_domain.specs.Sliced.{context_of, watched_code}
use Rattle.slice_closure.specs.declared.tables.Tables.{Tables}
use Rattle.slice_closure.specs.declared.spot.Came.TheVariants.{First}
use Rattle.slice_closure.specs.Flow.{AreRows, spots_in, ways_of}

pub record AreMade (m : Module) (f : ℕ) (at : Pos) (t : Tables) : Type 0 where
  pub sealed : IsSealed m
  pub heights : ValidHasHeights
  pub called : IsCalled m t.called
  pub names : HasValues m f (nat_eq at.0) t.names.now
  pub same : names.body ≡ t.body.now
  pub shaped : Shaped (callees m) (HasTypes (context_of m names.kind t.body.now)) (length names.kind.results ∷ []) (length names.kind.results)
      (watched_code (nat_eq at.0) t.body.now) 0
  pub spots : t.flow.now.spots.items ≡ spots_in First (code_of t.body.now.code) 0
  pub ways : AreRows (ways_of (code_of t.body.now.code)) t.flow.now.before.items
  pub nest : IsNestOf t.body.now t.nest.now
  pub near : AreNearest t.nest.now t.deciders.now
  pub live : is_live_in t.names.now.positions at.0 ≡ true
