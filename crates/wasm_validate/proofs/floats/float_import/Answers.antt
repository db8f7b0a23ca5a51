use Rattle.std.proofs.Common.{rules}
use borrow.Author.Tests.{tests}
use Rattle.std.proofs.lemmas.Iterator.{IsFirst-from_position, YieldsList-from_slice}
use Rattle.wasm_types.specs.declared.module.Import.{Import}
use Rattle.wasm_types.specs.Subset.{IsIntegerImport}
use Rattle.wasm_validate.proofs.EntryLemmas.{first_entry}
use Rattle.wasm_validate.proofs.floats.float_import.Goals as goal

pub returns : goal.returns
returns c =
    first_entry (λ (i : Import). IsIntegerImport i.kind) c.args.m.now.imports c.in_ok-at.at
    (IsFirst-from_position _ _ _ (λ (i : Import). IsIntegerImport i.kind → ⊥) (λ (i : Import). IsIntegerImport i.kind) c.in_ok-at.ensures.ran (YieldsList-from_slice c.args.m.now.imports cc) (λ x q k. search (rules, tests)) (λ x q k. search (rules, tests)))
