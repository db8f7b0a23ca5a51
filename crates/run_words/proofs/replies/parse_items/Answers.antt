use Rattle.std.proofs.Common.{rules, ◌≡◌, ◌<◌, ◌∙◌, sym, ap, subst, Some, Err}
use Rattle.std.specs.Option.{option_copied}
use Rattle.wasm_types.specs.declared.run.Reply.{Reply}
use Rattle.run_words.specs.Words.{items_of, joined_to, pieces_left, with_item, Reads}
use Rattle.run_words.proofs.Joined.{fewer_left, more_left, refused_left, size_left}
use Rattle.run_words.proofs.replies.parse_items.Goals as goal

pub returns-in_err-item : goal.returns-in_err-item
returns-in_err-item c =
    let left : option_copied c.loop-left.left ≡ Some c.in-Some.word.now = ap option_copied c.in-Some.is in
    let given : c.from_residual.result ≡ Err c.in_err-item.field-0.0 = search rules in
    subst (Reads (joined_to c.args.begun (items_of (pieces_left (option_copied c.args.rest))))) (sym given)
    (refused_left _ c.loop-left.reply c.in-Some.word.now _ _ c.parse_item.result c.in_err-item.field-0.0 c.cut_at.ensures c.parse_item.ensures (search rules)
    (subst (λ o. joined_to c.loop-left.reply (items_of (pieces_left o)) ≡ joined_to c.args.begun (items_of (pieces_left (option_copied c.args.rest)))) left c.loop-left.invariant))

pub loop-left-smaller : goal.loop-left-smaller
loop-left-smaller c =
    let left : option_copied c.loop-left.left ≡ Some c.in-Some.word.now = ap option_copied c.in-Some.is in
    subst (λ o. size_left (option_copied c.cut_at.result.1) < size_left o) (sym left) (fewer_left c.in-Some.word.now _ _ c.cut_at.ensures)

pub loop-left-preserved : goal.loop-left-preserved
loop-left-preserved c =
    let left : option_copied c.loop-left.left ≡ Some c.in-Some.word.now = ap option_copied c.in-Some.is in
    let added : c.add_item.new.reply ≡ with_item c.loop-left.reply c.in_ok-item.item = search rules in
    ap (λ (r : Reply). joined_to r (items_of (pieces_left (option_copied c.cut_at.result.1)))) added
    ∙ more_left c.loop-left.reply c.in-Some.word.now _ _ c.in_ok-item.item c.cut_at.ensures (search rules)
    ∙ ap (λ o. joined_to c.loop-left.reply (items_of (pieces_left o))) (sym left)
    ∙ c.loop-left.invariant
