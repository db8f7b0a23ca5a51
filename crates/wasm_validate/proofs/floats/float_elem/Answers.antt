use Rattle.std.proofs.Common.{rules}
use borrow.Author.Tests.{tests}
use Rattle.std.proofs.lemmas.Iterator.{IsFirst-from_position, YieldsList-from_slice}
use Rattle.wasm_types.specs.Subset.{IsIntegerElem}
use Rattle.wasm_validate.proofs.EntryLemmas.{first_entry}
use Rattle.wasm_validate.proofs.floats.float_elem.Goals as goal

pub returns : goal.returns
returns c =
    first_entry IsIntegerElem c.args.m.now.elems c.in_ok-at.at
    (IsFirst-from_position _ _ _ (λ x. IsIntegerElem x → ⊥) IsIntegerElem c.in_ok-at.ensures.ran (YieldsList-from_slice c.args.m.now.elems cc) (λ x q k. search (rules, tests)) (λ x q k. search (rules, tests)))
