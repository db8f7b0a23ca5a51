use Rattle.std.proofs.Common.{◌≡◌, ◌++◌, ◌<◌, ◌+◌, ◌^◌, ◌∙◌, ap, sym, subst, codes, Some, List, arith}
use Rattle.wasm_types.specs.declared.module.Module.{Module}
use Rattle.wasm_types.specs.declared.instr.Instr.{Instr}
use Rattle.wasm_types.specs.declared.place.Node.TheVariants.{Exit}
use Rattle.wasm_types.specs.Code.{code_of, count}
use Rattle.wasm_types.specs.Spaces.{body_of}
use Rattle.report_text.specs.Listing.{closing_line, ended_by, lines}
use Rattle.report_text.specs.ListingOf.{told_by}
use Rattle.report_text.specs.Gaps.{shown}
use Rattle.report_text.proofs.NamedLemmas.{few_positions, listed_lines}
use Rattle.report_text.proofs.listing.list_text.Goals as goal

pub push_sequence-requires-clause-short : goal.push_sequence-requires-clause-short
push_sequence-requires-clause-short c =
    let own : body_of c.args.m.now c.args.func ≡ Some c.in-Some.body.now = ap (λ (n : Module). body_of n c.args.func) (sym c.module-m.ensures.same) ∙ sym c.in-Some.ensures in
    let few = few_positions c.args.m.now c.args.func c.in-Some.body.now c.module-m.ensures.sealed own in
    subst (λ (is : List Instr). 0 + count (code_of is) < 2 ^ 32) (sym c.as_slice-code.ensures) (omega (arith, few))

pub returns : goal.returns
returns c =
    let own : body_of c.args.m.now c.args.func ≡ Some c.in-Some.body.now = ap (λ (n : Module). body_of n c.args.func) (sym c.module-m.ensures.same) ∙ sym c.in-Some.ensures in
    let K = told_by c.args.names.now in
    c.into_text.ensures
    ∙ c.in_ok-push_closing.ensures.line
    ∙ ap (λ ns. shown c.push_sequence.new.page ++ closing_line 0 (codes "end") ns) (c.as_slice.ensures.value ∙ c.in_ok-ended.ensures.makers)
    ∙ ap (λ l. l ++ closing_line 0 (codes "end") (ended_by K Exit (code_of c.as_slice-code.result.now) 0)) (c.in_ok-ended.ensures.lines ∙ ap (λ l. l ++ lines K 0 (code_of c.as_slice-code.result.now) 0) c.in_ok-page.ensures.shown)
    ∙ ap (λ (is : List Instr). lines K 0 (code_of is) 0 ++ closing_line 0 (codes "end") (ended_by K Exit (code_of is) 0)) c.as_slice-code.ensures
    ∙ listed_lines c.args.m.now c.args.func c.args.names.now c.in-Some.body.now c.requires own
