-- The first limits, imported or own.
use Rattle.std.proofs.Common.{◌≡◌, ℕ, ◌≤◌, List, [], ◌∷◌, ◌++◌, All, Option, Some, None, IfSome, unwrap_or, refl, ap, arith}
use Rattle.std.specs.Prelude.{slice_get}
use Rattle.std.proofs.lemmas.List.Elements.{All-head}
use Rattle.wasm_types.specs.declared.module.Limits.{Limits}
use Rattle.typed_runs.specs.Start.{least}
use Rattle.wasm_meaning.proofs.Values.{some_same}
use Rattle.run_store.specs.Pages.{most_pages}
use Rattle.inst_make.specs.Instances.{declared_max}

-- what the first of a list of limits, if any, says
pub first_least : (ls : List Limits) (l : Limits) → slice_get ls 0 ≡ Some l → least ls ≡ l.min
first_least [] l h = absurd cc
first_least (k ∷ ls) l h = ap (λ (x : Limits). x.min) (some_same h)

pub first_max : (ls : List Limits) (l : Limits) → slice_get ls 0 ≡ Some l → declared_max ls ≡ l.max
first_max [] l h = absurd cc
first_max (k ∷ ls) l h = ap (λ (x : Limits). x.max) (some_same h)

pub first_front : (xs ys : List Limits) (l : Limits) → slice_get xs 0 ≡ Some l → slice_get (xs ++ ys) 0 ≡ Some l
first_front [] ys l h = absurd cc
first_front (x ∷ xs) ys l h = h

pub first_back : (xs ys : List Limits) → slice_get xs 0 ≡ None → slice_get (xs ++ ys) 0 ≡ slice_get ys 0
first_back [] ys h = refl
first_back (x ∷ xs) ys h = absurd cc

pub none_least : (ls : List Limits) → slice_get ls 0 ≡ None → least ls ≡ 0
none_least [] h = refl
none_least (l ∷ ls) h = absurd cc

pub none_max : (ls : List Limits) → slice_get ls 0 ≡ None → declared_max ls ≡ Some 0
none_max [] h = refl
none_max (l ∷ ls) h = absurd cc

below_max : (o : Option ℕ) (n : ℕ) → n ≤ 65536 → IfSome o (λ most. n ≤ most) → n ≤ unwrap_or o 65536
below_max None n le h = le
below_max (Some x) n le h = h

-- the least number of pages is one that there may be
pub least_allowed : (ls : List Limits) (cap : ℕ) → least ls ≤ 65536 → least ls ≤ cap → All (λ (l : Limits). IfSome l.max (λ most. least ls ≤ most)) ls
    → least ls ≤ most_pages (declared_max ls) cap
least_allowed [] cap within below max = omega arith
least_allowed (l ∷ ls) cap within below max =
    let h = below_max l.max l.min within (All-head (λ (x : Limits). IfSome x.max (λ most. l.min ≤ most)) l ls max) in omega arith
