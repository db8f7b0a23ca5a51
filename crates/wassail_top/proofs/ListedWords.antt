-- Words that are read one after another.
use Rattle.std.proofs.Common.{◌++◌, List, Option, Some}
use Rattle.std.specs.Prelude.{option_and_then}

-- what was read, and then what the other words are
abbrev pub and_others : {A : Type 0} → List A → Option (List A) → Option (List A)
and_others xs o = option_and_then (λ others. Some (xs ++ others)) o
