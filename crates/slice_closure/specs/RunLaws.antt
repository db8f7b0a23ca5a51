-- How far a search goes back.
use Rattle.std.specs.Prelude.{◌≡◌, ℕ, zero, suc, ◌+◌, ◌<◌, ◌≤◌, ◌&&◌, nat_lt, Bool, true, false, List, [], ◌∷◌, Option, Some, None, if◌then◌else◌}
use Rattle.std.proofs.Common.{refl, subst, arith}
use Rattle.wasm_types.specs.declared.module.Pos.{Pos}
use Rattle.wasm_types.specs.declared.place.Loc.{Loc}
use Rattle.wasm_types.specs.declared.place.Node.{Node}
use Rattle.wasm_types.specs.declared.place.Node.TheVariants as node
use Rattle.wasm_types.specs.Nodes.{At}
use Rattle.block_cfg.specs.Graph.{number}
use Rattle.slice_closure.specs.declared.spot.Came.{Came}
use Rattle.slice_closure.specs.declared.spot.Came.TheVariants.{Never, First, After}
use Rattle.slice_closure.specs.declared.tables.Tables.{Tables}
use Rattle.slice_closure.specs.Flow.{came_to, touch_at, ways_to}
use Rattle.slice_closure.specs.Next.{spot_in}
use Rattle.slice_closure.specs.Runs.{is_quiet, straight_at, back_by, back_at, on_from, settled, back_from, back}

pub both : (a b : Bool) → (a && b) ≡ true → (a ≡ true) × (b ≡ true)
both true b e = (refl, e)
both false b e = absurd cc

-- what is told of a step back
pub record IsBack (t : Tables) (x : Loc) (p : ℕ) (came : Came) (ways : List Node) (q : Pos) : Type 0 where
  pub from : came ≡ After (node.At q)
  pub lone : ways ≡ []
  pub less : q.0 < p
  pub quiet : is_quiet (touch_at (spot_in t q.0)) x ≡ true

if_some : (b : Bool) (r q : Pos) → (if b then Some r else None) ≡ Some q → (b ≡ true) × (r ≡ q)
if_some true r q e = let same : r ≡ q = cc in (refl, same)
if_some false r q e = absurd cc

is_less : (a b : ℕ) → nat_lt a b ≡ true → a < b
is_less a b e = grind arith

pub back_told : (t : Tables) (x : Loc) (p : ℕ) (b : Bool) (came : Came) (ways : List Node) (q : Pos) → back_by t x p b came ways ≡ Some q
    → IsBack t x p came ways q
back_told t x p true (After (node.At r)) [] q e =
    let h = if_some (nat_lt r.0 p && is_quiet (touch_at (spot_in t r.0)) x) r q e in
    let k = both (nat_lt r.0 p) (is_quiet (touch_at (spot_in t r.0)) x) h.0 in
    subst (λ (z : Pos). IsBack t x p (After (node.At r)) [] z) h.1
    (record { from = refl; lone = refl; less = is_less r.0 p k.0; quiet = k.1 })
back_told t x p true (After (node.At r)) (n ∷ ways) q e = absurd cc
back_told t x p true (After (node.Join b)) ways q e = absurd cc
back_told t x p true (After node.Exit) ways q e = absurd cc
back_told t x p true Never ways q e = absurd cc
back_told t x p true First ways q e = absurd cc
back_told t x p false came ways q e = absurd cc

-- of position p
pub back_is : (t : Tables) (x : Loc) (p : ℕ) (q : Pos) → back_at t x p ≡ Some q
    → IsBack t x p (came_to t.flow.now.spots.items (At p)) (ways_to t.flow.now.before.items (At p)) q
back_is t x p q e = back_told t x p (straight_at (spot_in t p)) (came_to t.flow.now.spots.items (At p)) (ways_to t.flow.now.before.items (At p)) q e

pub settled_below : (n : ℕ) (t : Tables) (x : Loc) (p : ℕ) → settled n t x p ≤ p
settled_below zero t x p = omega arith
settled_below (suc n) t x p = go (back_at t x p) refl (λ q. settled_below n t x q)
  where
    go : (o : Option Pos) → back_at t x p ≡ o → ((q : ℕ) → settled n t x q ≤ q) → on_from o (settled n t x) p ≤ p
    go None e more = omega arith
    go (Some q) e more =
        let less = (back_is t x p q e).less in
        let le = more q.0 in
        omega arith

from_below : (b : Bool) (t : Tables) (x : Loc) (p : ℕ) → back_from b t x p ≤ p
from_below true t x p = settled_below (p + 1) t x p
from_below false t x p = omega arith

pub back_below : (t : Tables) (x : Loc) (b : Node) → number (back t x b) ≤ number b
back_below t x (node.At p) = let le = from_below (is_quiet (touch_at (spot_in t p.0)) x) t x p.0 in omega arith
back_below t x (node.Join b) = omega arith
back_below t x node.Exit = omega arith
