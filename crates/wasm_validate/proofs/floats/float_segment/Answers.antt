use Rattle.std.proofs.Common.{rules}
use borrow.Author.Tests.{tests}
use Rattle.std.proofs.lemmas.Iterator.{IsFirst-from_position, YieldsList-from_slice}
use Rattle.wasm_types.specs.Subset.{IsIntegerSegment}
use Rattle.wasm_validate.proofs.EntryLemmas.{first_entry}
use Rattle.wasm_validate.proofs.floats.float_segment.Goals as goal

pub returns : goal.returns
returns c =
    first_entry IsIntegerSegment c.args.m.now.segments c.in_ok-at.at
    (IsFirst-from_position _ _ _ (λ x. IsIntegerSegment x → ⊥) IsIntegerSegment c.in_ok-at.ensures.ran (YieldsList-from_slice c.args.m.now.segments cc) (λ x q k. search (rules, tests)) (λ x q k. search (rules, tests)))
