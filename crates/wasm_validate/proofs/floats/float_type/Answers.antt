use Rattle.std.proofs.Common.{rules}
use borrow.Author.Tests.{tests}
use Rattle.std.proofs.lemmas.Iterator.{IsFirst-from_position, YieldsList-from_slice}
use Rattle.wasm_types.specs.Subset.{IsIntegerFunc}
use Rattle.wasm_validate.proofs.EntryLemmas.{first_entry}
use Rattle.wasm_validate.proofs.floats.float_type.Goals as goal

pub returns : goal.returns
returns c =
    first_entry IsIntegerFunc c.args.m.now.types c.in_ok-at.at
    (IsFirst-from_position _ _ _ (λ x. IsIntegerFunc x → ⊥) IsIntegerFunc c.in_ok-at.ensures.ran (YieldsList-from_slice c.args.m.now.types cc) (λ x q k. search (rules, tests)) (λ x q k. search (rules, tests)))
