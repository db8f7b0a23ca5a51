-- The list of places, one point after another.
use Rattle.std.proofs.Common.{◌≡◌, ◌≢◌, ℕ, ◌+◌, ◌<◌, List, length, set, sym, ◌∙◌, ap, inl, inr, arith, get_or-set_same, get_or-set_other}
use Rattle.std.proofs.lemmas.Bool.{cases_eq}
use Rattle.wasm_types.specs.declared.place.Node.{Node}
use Rattle.wasm_types.specs.declared.place.Node.TheVariants.{Exit}
use Rattle.block_cfg.specs.Graph.{number, EachOnce}
use Rattle.block_cfg.proofs.MemberLemmas.{number_injective}
use Rattle.def_use.specs.Places.{point_at, place_of}

module _ (points : List Node) (once : EachOnce points) (places : List ℕ) (i : ℕ) (p : Node) (lt : i < length points) (is : p ≡ point_at points i)
    (fits : number p < length places) where
  apart : (k : ℕ) → k < i → number (point_at points k) ≢ number p
  apart k less e = once k i Exit less lt (number_injective (point_at points k) p e ∙ is)

  pub placed_more : ((k : ℕ) → k < i → place_of places (point_at points k) ≡ k) → (k : ℕ) → k < i + 1
      → place_of (set places (number p) i) (point_at points k) ≡ k
  placed_more so_far k less = elim (cases_eq k i) [
    | inl e ↦
        let at : number (point_at points k) ≡ number p = ap number (ap (point_at points) e ∙ sym is) in
        rw at (get_or-set_same places (number p) i 0 fits ∙ sym e)
    | inr ne ↦ get_or-set_other places (number p) (number (point_at points k)) i 0 (apart k (omega arith)) ∙ so_far k (omega arith)
  ]
