-- Which operands decide whether an action traps.
use Rattle.std.proofs.Common.{◌≡◌, ℕ, zero, suc, Bool, true, false, refl}
use Rattle.std.specs.Prelude.{if◌then◌else◌}
use Rattle.wasm_types.specs.Actions.{Action, Nothing as Nought, Const, Number, Discard, Choose, Get, Set, Tee, GetGlobal, SetGlobal, Read, Write, Pages, Grow}
use Rattle.wasm_types.specs.Actions.{Copy, Fill}
use Rattle.wasm_types.specs.Locations.{number_traps, traps_in as traps_of_action}
use Rattle.func_flow.specs.declared.steps.Picks.TheVariants.{Nothing, All}
use Rattle.func_flow.specs.Steps.{IsPicked, traps_in}

picked_if : (b : Bool) (k : ℕ) → IsPicked (if b then All else Nothing) k → b ≡ true
picked_if true k h = refl
picked_if false k h = absurd h

if_picked : (b : Bool) (k : ℕ) → b ≡ true → IsPicked (if b then All else Nothing) k
if_picked true k e = tt
if_picked false k e = absurd cc

outer_to : (k : ℕ) → (k ≡ 1 → ⊥) → traps_of_action Fill k
outer_to zero h = tt
outer_to (suc zero) h = absurd (h refl)
outer_to (suc (suc k)) h = tt

to_outer : (k : ℕ) → traps_of_action Fill k → k ≡ 1 → ⊥
to_outer zero h e = absurd cc
to_outer (suc zero) h e = absurd h
to_outer (suc (suc k)) h e = absurd cc

pub picked_traps : (a : Action) (k : ℕ) → IsPicked (traps_in a) k → traps_of_action a k
picked_traps (Number op) k h = picked_if (number_traps op) k h
picked_traps (Read access signed) k h = h
picked_traps (Write access) k h = h
picked_traps Copy k h = tt
picked_traps Fill k h = outer_to k h
picked_traps Nought k h = absurd h
picked_traps (Const v) k h = absurd h
picked_traps Discard k h = absurd h
picked_traps Choose k h = absurd h
picked_traps (Get x) k h = absurd h
picked_traps (Set x) k h = absurd h
picked_traps (Tee x) k h = absurd h
picked_traps (GetGlobal x) k h = absurd h
picked_traps (SetGlobal x) k h = absurd h
picked_traps Pages k h = absurd h
picked_traps Grow k h = absurd h

pub traps_picked : (a : Action) (k : ℕ) → traps_of_action a k → IsPicked (traps_in a) k
traps_picked (Number op) k h = if_picked (number_traps op) k h
traps_picked (Read access signed) k h = h
traps_picked (Write access) k h = h
traps_picked Copy k h = tt
traps_picked Fill k h = to_outer k h
traps_picked Nought k h = absurd h
traps_picked (Const v) k h = absurd h
traps_picked Discard k h = absurd h
traps_picked Choose k h = absurd h
traps_picked (Get x) k h = absurd h
traps_picked (Set x) k h = absurd h
traps_picked (Tee x) k h = absurd h
traps_picked (GetGlobal x) k h = absurd h
traps_picked (SetGlobal x) k h = absurd h
traps_picked Pages k h = absurd h
traps_picked Grow k h = absurd h
