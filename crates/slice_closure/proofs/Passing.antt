-- A search may pass over items from which there is just one way on.
use Rattle.std.proofs.Common.{◌≡◌, ◌↔◌, subst}
use Rattle.worklist.specs.Reached.{Reached, root, step}

-- from i only ways on that are forced lead to j
pub data Follows {I : Type 0} (Forced : I → I → Type 0) : I → I → Type 0 where
  here : {i : I} → Follows Forced i i
  onward : {i j : I} (k : I) → Forced i k → Follows Forced k j → Follows Forced i j

-- what is forced is an edge, and the only one; the short ways go along edges, and then where it is forced
pub record Passes {I : Type 0} (Edge Forced Short : I → I → Type 0) : Type 0 where
  pub edge : (i k : I) → Forced i k → Edge i k
  pub only : (i k j : I) → Forced i k → Edge i j → k ≡ j
  pub sound : (i j : I) → Short i j → (k : I) × (Edge i k × Follows Forced k j)
  pub complete : (i k : I) → Edge i k → (j : I) × (Short i j × Follows Forced k j)

module _ {I : Type 0} (Root : I → Type 0) (Edge Forced Short : I → I → Type 0) (p : Passes Edge Forced Short) where
  along : (i j : I) → Reached Root Edge i → Follows Forced i j → Reached Root Edge j
  along i _ h here = h
  along i j h (onward k f rest) = along k j (step i h (p.edge i k f)) rest

  to_edges : (i : I) → Reached Root Short i → Reached Root Edge i
  to_edges i (root r) = root r
  to_edges i (step w h s) = let e = p.sound w i s in along e.0 i (step w (to_edges w h) e.1.0) e.1.1

  -- one step on from where a way is forced to h
  next_met : (i k h : I) → Edge i k → Reached Root Short h → Follows Forced i h → (j : I) × (Reached Root Short j × Follows Forced k j)
  next_met i k _ e met here = let s = p.complete i k e in (s.0, (step i met s.1.0, s.1.1))
  next_met i k h e met (onward m f rest) = (h, (met, subst (λ z. Follows Forced z h) (p.only i m k f e) rest))

  -- from whatever is reached the way is forced to what is met
  met_from : (i : I) → Reached Root Edge i → (h : I) × (Reached Root Short h × Follows Forced i h)
  met_from i (root r) = (i, (root r, here))
  met_from i (step w h e) = let m = met_from w h in next_met w i m.0 e m.1.0 m.1.1

  stays_here : (i h : I) → ((k : I) → Forced i k → ⊥) → Reached Root Short h → Follows Forced i h → Reached Root Short i
  stays_here i _ free met here = met
  stays_here i h free met (onward k f rest) = absurd (free k f)

  -- what isn't passed over is met where it is reached
  pub short_reached : (i : I) → ((k : I) → Forced i k → ⊥) → Reached Root Short i ↔ Reached Root Edge i
  short_reached i free = (to_edges i, λ h. let m = met_from i h in stays_here i m.0 free m.1.0 m.1.1)
