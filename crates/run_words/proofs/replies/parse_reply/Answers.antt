use Rattle.std.proofs.Common.{◌∙◌, Option, sym, subst}
use Rattle.wasm_types.specs.declared.run.Reply.{Reply}
use Rattle.run_words.specs.Words.{Reads}
use Rattle.run_words.proofs.Joined.{reply_with, reply_without}
use Rattle.run_words.proofs.replies.parse_reply.Goals as goal

pub returns-in-None : goal.returns-in-None
returns-in-None c =
    subst (λ (o : Option Reply). Reads o c.parse_items.result)
    (reply_without c.args.word.now _ _ c.empty_reply-in-None.result (sym c.is_dash.ensures ∙ c.if-is_dash.false) c.cut_at.ensures
    (sym c.parse_value.ensures ∙ c.in-None.is) c.empty_reply-in-None.ensures) c.parse_items.ensures

pub returns-in_default : goal.returns-in_default
returns-in_default c =
    subst (λ (o : Option Reply). Reads o c.parse_items-in_default.result)
    (reply_with c.args.word.now _ _ c.parse_value.result c.empty_reply-in_default.result (sym c.is_dash.ensures ∙ c.if-is_dash.false) c.cut_at.ensures
    c.parse_value.ensures c.in_default.not-None c.empty_reply-in_default.ensures) c.parse_items-in_default.ensures
