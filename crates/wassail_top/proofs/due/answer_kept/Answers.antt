use Rattle.std.proofs.Common.{◌≡◌, ◌∙◌, ℕ, List, Option, Some, None, ap, ap₂, sym}
use Rattle.std.specs.Option.{option_or}
use Rattle.report_text.specs.KeptTexts.{kept_lines}
use Rattle.report_text.specs.declared.refusal.QueryRefusal.{QueryRefusal}
use Rattle.report_text.proofs.NamedLemmas.{own_body}
use Rattle.wasm_types.specs.declared.module.Module.{Module}
use Rattle.wasm_types.specs.Code.{code_of, count}
use Rattle.wasm_types.specs.Spaces.{body_of, HasBody}
use Rattle.wasm_types.proofs.CodeLemmas.{length-flatten}
use Rattle.flow_domain.specs.KeptSets.{holds}
use Rattle.wassail_top.specs.Answers.{IsKeptAs}
use Rattle.wassail_top.specs.Queries.{why_not_kept, why_not_seen}
use Rattle.wassail_top.specs.Refusals.{Answer, why_no_code}
use Rattle.wassail_top.proofs.NoCode.{has_code, has_type}
use Rattle.wassail_top.proofs.Unless.{taken}
use Rattle.wassail_top.proofs.due.answer_kept.Goals as goal

-- an answer with these bytes on out and on err
abbrev both : List ℕ → List ℕ → Answer
both out err = record { status = 0; out = out; err = err }

pub returns : goal.returns
returns c =
    let m = c.args.valid.now in
    let f = c.args.func in
    let b = c.in-Some-body.body.now in
    let own : body_of m f ≡ Some b = ap (λ (n : Module). body_of n f) (sym c.module.ensures.same) ∙ sym c.in-Some-body.ensures in
    let code : why_no_code m f ≡ None = sym c.in_default.ensures in
    let seen : why_not_seen m f c.args.at ≡ None = sym c.sight_refusal.ensures ∙ c.in_default-sight_refusal.is in
    let none : why_not_kept m f c.args.at ≡ None = ap (λ (w : Option QueryRefusal). option_or w (why_not_seen m f c.args.at)) code ∙ seen in
    let kind = has_type m f c.requires.admitted.valid code in
    let has : HasBody m f b = ((has_code m f code).0, own_body m f b own) in
    let many : c.count-count.result ≡ count (code_of b.code) = c.count-count.ensures ∙ length-flatten (code_of b.code) in
    taken (why_not_kept m f c.args.at) (IsKeptAs m f c.args.at) _ none (record {
      kind = kind.0;
      kind_is = kind.1;
      body = b;
      has_body = own;
      cover = c.in_ok-kept.ensures.cover;
      cover_is = c.in_ok-kept.ensures.cover_is;
      nodes = holds c.in_ok-kept.kept;
      exact = (c.in_ok-kept.ensures.keeps kind.0 b kind.1 has).exact;
      is = ap₂ {A = List ℕ} {B = List ℕ} both (c.of.ensures ∙ c.in_ok-kept_text.ensures ∙ ap (kept_lines (holds c.in_ok-kept.kept)) many) c.new.ensures.items;
    })
