use Rattle.std.proofs.Common.{ℕ, Option, arith, subst}
use Rattle.wasm_types.specs.declared.place.Part.TheVariants as part
use Rattle.wasm_types.specs.Validity.{Holds}
use Rattle.wasm_validate.specs.First.{valid_order, FindsNumber}
use Rattle.wasm_validate.proofs.PartLemmas.{few_results, first_numbered, past_numbered, funcs, exports}
use Rattle.wasm_validate.proofs.parts.first_body_or_export.Goals as goal

pub first_func-requires-clause-results : goal.first_func-requires-clause-results
first_func-requires-clause-results c = few_results c.args.m.now 6 (omega arith) c.requires.earlier

pub returns-in-Some : goal.returns-in-Some
returns-in-Some c =
    let P = Holds c.args.m.now in
    first_numbered P valid_order 6 part.FuncAt c.in-Some.func funcs c.requires.earlier (subst (λ (r : Option ℕ). FindsNumber (λ f. P (part.FuncAt f)) r) c.in-Some.is c.in_ok-func.ensures)

pub returns-in-Some-2 : goal.returns-in-Some-2
returns-in-Some-2 c =
    let P = Holds c.args.m.now in
    let after_funcs = past_numbered P valid_order 6 part.FuncAt funcs c.requires.earlier (subst (λ (r : Option ℕ). FindsNumber (λ f. P (part.FuncAt f)) r) c.in_default.is c.in_ok-func.ensures) in
    first_numbered P valid_order 7 part.ExportAt c.in-Some-2.k exports after_funcs (subst (λ (r : Option ℕ). FindsNumber (λ k. P (part.ExportAt k)) r) c.in-Some-2.is c.in_ok-k.ensures)

pub returns-in-None : goal.returns-in-None
returns-in-None c =
    let P = Holds c.args.m.now in
    let after_funcs = past_numbered P valid_order 6 part.FuncAt funcs c.requires.earlier (subst (λ (r : Option ℕ). FindsNumber (λ f. P (part.FuncAt f)) r) c.in_default.is c.in_ok-func.ensures) in
    past_numbered P valid_order 7 part.ExportAt exports after_funcs (subst (λ (r : Option ℕ). FindsNumber (λ k. P (part.ExportAt k)) r) c.in-None.is c.in_ok-k.ensures)
