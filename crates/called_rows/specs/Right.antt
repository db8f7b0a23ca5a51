-- When the tables are those of a module, and when what they say of a callee is what its rows and a cover say.
use Rattle.std.specs.Prelude.{◌≡◌, ◌↔◌, ℕ, ◌^◌, ◌<◌, ◌⊎◌, true}
use Rattle.wasm_types.specs.declared.module.Module.{Module}
use Rattle.wasm_types.specs.declared.place.Loc.{Loc}
use Rattle.wasm_types.specs.declared.place.Loc.TheVariants.{Local}
use Rattle.wasm_types.specs.Actions.{Callee}
use Rattle.wasm_types.specs.Locations.{is_outer}
use Rattle.flow_domain.specs.Bounds.{Bounds}
use Rattle.flow_domain.specs.Rows.{Output, Done, CallRows}
use Rattle.flow_domain.specs.Summaries.{IsTableOf}
use Rattle.call_graph.specs.Graph.{IsCallGraph}
use Rattle.called_rows.specs.declared.callees.Called.{Called}
use Rattle.called_rows.specs.declared.instrs.Whom.{Whom}
use Rattle.called_rows.specs.Called.{globals_in, RowIn, WritesBy, ChecksBy}
use Rattle.called_rows.specs.Classes.{IsTargetTable}
use Rattle.called_rows.specs.Locs.{IsLoc}
use Rattle.called_rows.specs.Whom.{IsIndexOf}

-- they are a module's
pub record IsCalled (m : Module) (c : Called) : Type 0 where
  pub graph : IsCallGraph m c.graph.now
  pub table : IsTableOf m c.rows.now
  pub targets : IsTargetTable m c.graph.now c.rows.now c.targets.now

-- what they say of a callee is what the rows and the cover say
pub record CallRight (B : Bounds) (R : CallRows) (c : Called) (g : Callee) (w : Whom) : Type 0 where
  pub rows : (o : Output) (x : Loc) → R g o x ↔ (RowIn c w o x ⊎ IsIndexOf g x)
  pub writes : (x : Loc) → WritesBy c w x ↔ (B.cover.writes g x ≡ true)
  pub checks : (o : Output) (x : Loc) → ChecksBy c w o x ↔ ((o ≡ Done) × (B.cover.touch g x ≡ true))
  -- of outer locations there are no others than the module's
  pub known : (o : Output) (x : Loc) → RowIn c w o x → is_outer x ≡ true → IsLoc (globals_in c) 0 x
  pub written : (x : Loc) → B.cover.writes g x ≡ true → (is_outer x ≡ true) × IsLoc (globals_in c) 0 x
  pub touched : (x : Loc) → B.cover.touch g x ≡ true → (is_outer x ≡ true) × IsLoc (globals_in c) 0 x
  pub few : (o : Output) (k : ℕ) → RowIn c w o (Local k) → k < 2 ^ 32
