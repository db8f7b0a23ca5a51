-- Words ask for the module of a number, or for an answer about one that is read, and not for both.
use Rattle.std.proofs.Common.{◌≡◌, ℕ, Bool, true, false, List, [], ◌∷◌, None, Some, codes, refl, sym, subst}
use Rattle.std.specs.Prelude.{if◌then◌else◌}
use Rattle.std.specs.Str.{bytes_eq}
use Rattle.std.proofs.lemmas.Slice.Eq.{bytes_eq-Decides}
use Rattle.run_words.specs.Words.{number_of}
use Rattle.wassail_top.specs.Orders.{Order}
use Rattle.wassail_top.specs.Words.{mill_of, order_named, order_of}

of_mill : (rest : List (List ℕ)) → order_named (codes "mill") rest ≡ None
of_mill rest = refl

named_mill : (name number : List ℕ) (n : ℕ) (b : Bool) → bytes_eq name (codes "mill") ≡ b → (if b then number_of number else None) ≡ Some n
    → order_named name (number ∷ []) ≡ None
named_mill name number n true is e =
    let same : name ≡ codes "mill" = (bytes_eq-Decides name (codes "mill")).0 is in
    subst (λ (w : List ℕ). order_named w (number ∷ []) ≡ None) (sym same) (of_mill (number ∷ []))
named_mill name number n false is e = absurd cc

pub no_order : (words : List (List ℕ)) (n : ℕ) → mill_of words ≡ Some n → order_of words ≡ None
no_order [] n e = absurd cc
no_order (name ∷ []) n e = absurd cc
no_order (name ∷ number ∷ []) n e = named_mill name number n (bytes_eq name (codes "mill")) refl e
no_order (name ∷ a ∷ b ∷ rest) n e = absurd cc

-- so no words are both
pub not_both : (words : List (List ℕ)) (order : Order) (n : ℕ) → order_of words ≡ Some order → mill_of words ≡ Some n → ⊥
not_both words order n named milled = let none : order_of words ≡ None = no_order words n milled in cc
