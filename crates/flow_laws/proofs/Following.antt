-- When a run of a body's cut follows that of the body.
use Rattle.flow_domain.specs.Presence.{HoldsNeeded}
use Rattle.std.proofs.Common.{◌≡◌, ℕ, zero, ◌≤◌, [], ◌∷◌, Bool, Option}
use Rattle.wasm_types.specs.declared.module.ValType.{ValType}
use Rattle.wasm_types.specs.declared.module.Module.{Module}
use Rattle.wasm_types.specs.Marked.{Marked}
use Rattle.wasm_meaning.specs.State.{State}
use Rattle.wasm_meaning.specs.Fits.{Fits}
use Rattle.flow_domain.specs.Bounds.{Cover, Bounds, bounds}
use Rattle.wasm_meaning.specs.Effects.{fixed}
use Rattle.wasm_types.specs.Actions.{callees}
use Rattle.wasm_meaning.specs.Run.{Here, Run, Outcome, Normal, Branch, run}
use Rattle.wasm_types.specs.Labels.{arity}
use Rattle.wasm_meaning.specs.Invoke.{nested}
use Rattle.wasm_types.specs.declared.place.Node.{Node}
use Rattle.wasm_types.specs.Sites.{body_sites, body_ends}
use Rattle.flow_domain.specs.Heights.{Shaped}
use Rattle.flow_domain.specs.Rows.{RowOf, AnyRound}
use Rattle.flow_laws.specs.Calls.{AnyInstr, ModuleOk}
use Rattle.flow_domain.specs.Cut.{cut_body}
use Rattle.flow_laws.specs.Cutting.{IsKept}

-- a body returns at its end, or by a branch to its own label
abbrev pub IsReturn : Outcome → Type 0
IsReturn Normal = Unit {0}
IsReturn (Branch zero) = Unit {0}
IsReturn _ = ⊥

-- the second run returns where the first does, with the same events and after no more turns
pub record Follows (r r' : Run) : Type 0 where
  pub returns : IsReturn r'.outcome
  pub events : r'.events ≡ r.events
  pub turns : r'.there.store.state.turns ≤ r.there.store.state.turns

-- a body, with its result and with one or more positions watched, and sets of nodes that are kept, kept as makers, and present
pub record Cuts (B : Bounds) (t : Option ValType) (c : Marked) (K M P : Node → Bool) : Type 0 where
  pub shaped : Shaped (callees B.m) AnyInstr (arity t ∷ []) (arity t) c 0
  pub kept : IsKept B (RowOf B.m (AnyRound B)) (body_sites (callees B.m) (arity t) c) (body_ends (callees B.m) (arity t) c) K M
  pub shown : HoldsNeeded (callees B.m) (body_sites (callees B.m) (arity t) c) (body_ends (callees B.m) (arity t) c) K P

-- Where a body returns, its cut returns from the same start, with the same events and after no more turns.
abbrev pub SliceFollows : Type 0
SliceFollows =
    (m : Module) (W : Cover) → ModuleOk (bounds m W) → (t : Option ValType) (c : Marked) (K M P : Node → Bool) (T : Node → ValType) → Cuts (bounds m W) t c K
    M P
    → (s : State) → Fits m s → (depth : ℕ) (h : Here) → h.stack ≡ []
    → (let Z = fixed m s in let b = nested Z depth in
    IsReturn (run Z b (arity t ∷ []) c h).outcome → Follows (run Z b (arity t ∷ []) c h) (run Z b (arity t ∷ []) (cut_body (callees m) K P T t c) h))
