use Rattle.std.proofs.Common.{◌≡◌, ◌∙◌, Some, true, false, ap, sym}
use Rattle.wasm_types.specs.declared.module.Module.{Module}
use Rattle.wasm_types.specs.Code.{code_of, count}
use Rattle.wasm_types.specs.Funcs.{unwatched}
use Rattle.wasm_types.specs.Spaces.{body_of}
use Rattle.wasm_types.proofs.CodeLemmas.{length-flatten}
use Rattle.wassail_top.proofs.SightLemmas.{past_end, seen_by_names}
use Rattle.wassail_top.proofs.refusals.sight_refusal.Goals as goal

pub returns-then-at-count : goal.returns-then-at-count
returns-then-at-count c =
    let b = c.in-Some.body.now in
    let own : body_of c.args.m.now c.args.func ≡ Some b = ap (λ (n : Module). body_of n c.args.func) (sym c.module.ensures.same) ∙ sym c.in-Some.ensures in
    let many : c.count-count.result ≡ count (code_of b.code) = c.count-count.ensures ∙ length-flatten (code_of b.code) in
    past_end c.args.m.now c.args.func c.args.at c.count-count.result b own many c.if-at-count.true

pub returns-then-live : goal.returns-then-live
returns-then-live c =
    let b = c.in-Some.body.now in
    let own : body_of c.args.m.now c.args.func ≡ Some b = ap (λ (n : Module). body_of n c.args.func) (sym c.module.ensures.same) ∙ sym c.in-Some.ensures in
    let many : c.count-count.result ≡ count (code_of b.code) = c.count-count.ensures ∙ length-flatten (code_of b.code) in
    seen_by_names c.args.m.now c.args.func c.args.at c.count-count.result c.args.names.now b true (c.requires.names unwatched) own many
    c.if-at-count.false (sym c.if-live.true ∙ c.live.ensures)

pub returns-else-live : goal.returns-else-live
returns-else-live c =
    let b = c.in-Some.body.now in
    let own : body_of c.args.m.now c.args.func ≡ Some b = ap (λ (n : Module). body_of n c.args.func) (sym c.module.ensures.same) ∙ sym c.in-Some.ensures in
    let many : c.count-count.result ≡ count (code_of b.code) = c.count-count.ensures ∙ length-flatten (code_of b.code) in
    seen_by_names c.args.m.now c.args.func c.args.at c.count-count.result c.args.names.now b false (c.requires.names unwatched) own many
    c.if-at-count.false (sym c.if-live.false ∙ c.live.ensures)
