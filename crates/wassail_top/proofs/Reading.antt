-- What is due from a command, and what reading a source takes from it.
use Rattle.std.proofs.Common.{◌≡◌, ◌+◌, ◌≤◌, ℕ, List, ◌++◌, length, sym, ap, ◌∙◌, inl, inr, arith, append-nil, length-append, None, Some}
use Rattle.std.specs.declared.option.Option.{Option}
use Rattle.std.specs.Io.KnownBytes.{Consumes}
use Rattle.outside_io.specs.Whole.{Took, TookAll}
use Rattle.wassail_top.specs.Answers.{IsDue, IsDueTo, most_bytes}
use Rattle.wassail_top.specs.Orders.{Order}
use Rattle.wassail_top.specs.Refusals.{Answer}
use Rattle.wassail_top.specs.Words.{order_of}

pub as_due : (words : List (List ℕ)) (order : Order) (old new : Option (List ℕ)) (before now : ℕ) (answer : Answer)
    → order_of words ≡ Some order → IsDueTo order old new before now answer → IsDue words old new before now answer
as_due words order old new before now answer named (inl h) = inl (inr (inl (order, named, h)))
as_due words order old new before now answer named (inr failed) = inr (order, named, failed.0, failed.1)

-- no more is taken than there is
not_more : (bytes : List ℕ) (new : Option (List ℕ)) (taken : List ℕ) → Consumes (Some bytes) new taken → length taken ≤ length bytes
not_more bytes None taken h = absurd h
not_more bytes (Some rest) taken h = omega (arith, ap length h, length-append taken rest)

-- what is taken to the end is all
pub all_taken : (bytes : List ℕ) (new : Option (List ℕ)) (taken : List ℕ) → TookAll (Some bytes) new taken → taken ≡ bytes
all_taken bytes None taken h = absurd h.taken
all_taken bytes (Some rest) taken h = sym (h.taken ∙ ap (λ l. taken ++ l) h.ended ∙ append-nil taken)

-- more than the limit isn't taken of what is within it
pub not_long : (bytes : List ℕ) (new : Option (List ℕ)) → Took (Some bytes) new (most_bytes + 1) → length bytes ≤ most_bytes → ⊥
not_long bytes new long short =
    let few : length long.bytes ≤ length bytes = not_more bytes new long.bytes long.taken in
    let many : length long.bytes ≡ most_bytes + 1 = long.many in
    omega arith
