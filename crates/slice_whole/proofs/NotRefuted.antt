-- Facts that aren't refuted (double negation).
use Rattle.std.proofs.Common.{◌⊎◌, inl, inr}

-- what follows from P to a contradiction is a contradiction
abbrev pub NotRefuted : Type 0 → Type 0
NotRefuted P = (P → ⊥) → ⊥

-- a fact holds or doesn't
pub either : (P : Type 0) → NotRefuted (P ⊎ (P → ⊥))
either P never = never (inr (λ p. never (inl p)))
