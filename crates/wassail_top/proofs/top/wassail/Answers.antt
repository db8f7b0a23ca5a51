use Rattle.std.proofs.Common.{inl, ◌∙◌, map, sym, subst}
use Rattle.std.specs.String.{string_bytes}
use Rattle.wasm_validate.specs.Admission.{IsAdmitted}
use Rattle.wassail_top.specs.Answers.{HasStatus}
use Rattle.wassail_top.specs.Reply.{reply_answer}
use Rattle.wassail_top.proofs.Calm.{not_memory, not_write_fault, read_failed, refused_words, only_refused_words}
use Rattle.wassail_top.proofs.Complete.{milled, succeeds}
use Rattle.wassail_top.proofs.HeadlineLemmas.{slice_headline, summary_headline}
use Rattle.wassail_top.proofs.top.wassail.Goals as goal

pub returns-in-Ok-deliver-clause-read_fault : goal.returns-in-Ok-deliver-clause-read_fault
returns-in-Ok-deliver-clause-read_fault g c =
    λ three. read_failed (map string_bytes c.args.words.now) _ _ _ _ _ _ _ _ (reply_answer c.in-Ok.reply) c.in-Ok.ensures.due c.in-Ok-deliver.ensures.all
    (sym c.code-in-Ok-deliver.ensures ∙ three)

pub returns-in-Ok-deliver-clause-write_fault : goal.returns-in-Ok-deliver-clause-write_fault
returns-in-Ok-deliver-clause-write_fault g c =
    λ four. absurd (not_write_fault (map string_bytes c.args.words.now) _ _ _ _ (reply_answer c.in-Ok.reply) c.in-Ok.ensures.due
    (sym c.code-in-Ok-deliver.ensures ∙ four))

pub returns-in-Ok-deliver-clause-memory : goal.returns-in-Ok-deliver-clause-memory
returns-in-Ok-deliver-clause-memory g c =
    λ five. absurd (not_memory (map string_bytes c.args.words.now) _ _ _ _ (reply_answer c.in-Ok.reply) c.in-Ok.ensures.due
    (sym c.code-in-Ok-deliver.ensures ∙ five))

pub returns-in-Ok-deliver-clause-words : goal.returns-in-Ok-deliver-clause-words
returns-in-Ok-deliver-clause-words g c =
    λ none. inl (c.code-in-Ok-deliver.ensures ∙ refused_words (map string_bytes c.args.words.now) _ _ _ _ (reply_answer c.in-Ok.reply) c.in-Ok.ensures.due none)

pub returns-in-Ok-deliver-clause-words_only : goal.returns-in-Ok-deliver-clause-words_only
returns-in-Ok-deliver-clause-words_only g c =
    λ two. only_refused_words (map string_bytes c.args.words.now) _ _ _ _ (reply_answer c.in-Ok.reply) c.in-Ok.ensures.due
    (sym c.code-in-Ok-deliver.ensures ∙ two)

pub returns-in-Ok-deliver-clause-succeeds : goal.returns-in-Ok-deliver-clause-succeeds
returns-in-Ok-deliver-clause-succeeds g c =
    λ order bytes m named left short spells valid subset taken quiet _ _.
    let admitted : IsAdmitted m = record { valid = valid; no_float = subset.no_float; limits = subset.limits } in
    inl (subst (HasStatus order m) (sym c.code-in-Ok-deliver.ensures)
    (succeeds (map string_bytes c.args.words.now) order bytes m _ _ _ _ (reply_answer c.in-Ok.reply) named left short
    (spells, subset.nesting) admitted taken quiet c.in-Ok.ensures.due))

pub returns-in-Ok-deliver-clause-slices : goal.returns-in-Ok-deliver-clause-slices
returns-in-Ok-deliver-clause-slices g c =
    λ zero f i name order. slice_headline (map string_bytes c.args.words.now) f i name _ _ _ _ _ _ _ _ (reply_answer c.in-Ok.reply) order c.in-Ok.ensures.due
    (sym c.code-in-Ok-deliver.ensures ∙ zero) c.in-Ok-deliver.ensures.all

pub returns-in-Ok-deliver-clause-summaries : goal.returns-in-Ok-deliver-clause-summaries
returns-in-Ok-deliver-clause-summaries g c =
    λ zero only order. summary_headline (map string_bytes c.args.words.now) only _ _ _ _ _ _ _ _ (reply_answer c.in-Ok.reply) order c.in-Ok.ensures.due
    (sym c.code-in-Ok-deliver.ensures ∙ zero) c.in-Ok-deliver.ensures.all

pub returns-in-Ok-deliver-clause-reports : goal.returns-in-Ok-deliver-clause-reports
returns-in-Ok-deliver-clause-reports g c =
    λ n named taken _ _. inl (c.code-in-Ok-deliver.ensures
    ∙ milled (map string_bytes c.args.words.now) n _ _ _ _ (reply_answer c.in-Ok.reply) named taken c.in-Ok.ensures.due)
