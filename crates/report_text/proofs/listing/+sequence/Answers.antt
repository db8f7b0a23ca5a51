use Rattle.std.proofs.Common.{rules, ◌≡◌, ◌<◌, ◌+◌, ◌++◌, length, drop, ap, ◌∙◌, sym, true, arith, List, ℕ, ◌∷◌, []}
use Rattle.wasm_types.specs.Code.{Code, done, onto, code_of, count, is_plain}
use Rattle.wasm_types.proofs.CodeLemmas.{count-next, code-next, plain_is}
use Rattle.report_text.specs.Listing.{end_makers, ended_by, lines, maker_at}
use Rattle.report_text.specs.ListingOf.{told_by}
use Rattle.report_text.specs.Gaps.{shown}
use Rattle.report_text.proofs.ListingLemmas.{arms_made, counted_next, counts_block, counts_if, counts_loop, counts_plain, in_block, in_if, in_loop, in_plain, lines-onto, makers-onto, piece, two}
use Rattle.report_text.proofs.listing.+sequence.Goals as goal

pub push_arms-returns-clause-lines : goal.push_arms-returns-clause-lines
push_arms-returns-clause-lines t c =
    arms_made (told_by c.args.names.now) c.args.depth c.args.at (code_of c.args.first.now) c.args.second.now (shown c.args.page.now) (shown c.push_sequence.new.page)
    (shown c.push_closing-2.new.page) (shown c.push_sequence-2.new.page) (shown c.push_closing-3.new.page) c.as_slice-2.result.now c.as_slice-3.result.now
    c.in_ok-ended.ended.next (c.if-is_empty.ensures) c.in_ok-ended.ensures.lines (c.as_slice-2.ensures.value ∙ c.in_ok-ended.ensures.makers) c.in_ok-ended.ensures.next
    c.in_ok-push_closing-2.ensures.line c.in_ok-ended-2.ensures.lines (c.as_slice-3.ensures.value ∙ c.in_ok-ended-2.ensures.makers) c.in_ok-push_closing-3.ensures.line

pub push_instr-push_contents-requires : goal.push_instr-push_contents-requires
push_instr-push_contents-requires t c =
    let counted = counts_block c.args.instr.now _ _ _ c.in-Block.is c.as_slice.ensures in
    let short = c.requires.short in
    (omega arith, (c.in_ok-push_opening-in-Block.ensures.laid, (c.requires.within, omega arith)))

pub push_instr-push_contents-requires-in-Loop : goal.push_instr-push_contents-requires-in-Loop
push_instr-push_contents-requires-in-Loop t c =
    let counted = counts_loop c.args.instr.now _ _ _ c.in-Loop.is c.as_slice-in-Loop.ensures in
    let short = c.requires.short in
    (omega arith, (c.in_ok-push_opening-in-Loop.ensures.laid, (c.requires.within, omega arith)))

pub push_instr-push_arms-requires : goal.push_instr-push_arms-requires
push_instr-push_arms-requires t c =
    let counted = counts_if c.args.instr.now _ _ _ _ _ c.in-If.is c.as_slice-in-If.ensures c.as_slice-in-If-2.ensures in
    let short = c.requires.short in
    (omega arith, (c.in_ok-push_opening-in-If.ensures.laid, (c.requires.within, omega arith)))

pub push_instr-overflow_add-result : goal.push_instr-overflow_add-result
push_instr-overflow_add-result t c =
    let plain : is_plain c.args.instr.now ≡ true = plain_is _ c.in_default.not-Block c.in_default.not-Loop c.in_default.not-If in
    let counted = counts_plain c.args.instr.now plain in
    let short = c.requires.short in
    search rules

pub push_instr-returns-in_ok-push_opening-in-Block-clause-lines : goal.push_instr-returns-in_ok-push_opening-in-Block-clause-lines
push_instr-returns-in_ok-push_opening-in-Block-clause-lines t c =
    two c.push_contents.result (shown c.args.page.now) (shown c.push_opening.new.page) _ _ _ _ c.in_ok-push_opening-in-Block.ensures.line
    (in_block (told_by c.args.names.now) c.args.depth c.args.at c.args.instr.now _ _ _ c.in-Block.is c.as_slice.ensures) c.push_contents.ensures.lines

pub push_instr-returns-in_ok-push_opening-in-Block-clause-next : goal.push_instr-returns-in_ok-push_opening-in-Block-clause-next
push_instr-returns-in_ok-push_opening-in-Block-clause-next t c =
    counted_next c.push_contents.result _ _ (let counted = counts_block c.args.instr.now _ _ _ c.in-Block.is c.as_slice.ensures in omega arith) c.push_contents.ensures.next

pub push_instr-returns-in_ok-push_opening-in-Loop-clause-lines : goal.push_instr-returns-in_ok-push_opening-in-Loop-clause-lines
push_instr-returns-in_ok-push_opening-in-Loop-clause-lines t c =
    two c.push_contents-in-Loop.result (shown c.args.page.now) (shown c.push_opening-in-Loop.new.page) _ _ _ _ c.in_ok-push_opening-in-Loop.ensures.line
    (in_loop (told_by c.args.names.now) c.args.depth c.args.at c.args.instr.now _ _ _ c.in-Loop.is c.as_slice-in-Loop.ensures) c.push_contents-in-Loop.ensures.lines

pub push_instr-returns-in_ok-push_opening-in-Loop-clause-next : goal.push_instr-returns-in_ok-push_opening-in-Loop-clause-next
push_instr-returns-in_ok-push_opening-in-Loop-clause-next t c =
    counted_next c.push_contents-in-Loop.result _ _ (let counted = counts_loop c.args.instr.now _ _ _ c.in-Loop.is c.as_slice-in-Loop.ensures in omega arith)
    c.push_contents-in-Loop.ensures.next

pub push_instr-returns-in_ok-push_opening-in-If-clause-lines : goal.push_instr-returns-in_ok-push_opening-in-If-clause-lines
push_instr-returns-in_ok-push_opening-in-If-clause-lines t c =
    two c.push_arms.result (shown c.args.page.now) (shown c.push_opening-in-If.new.page) _ _ _ _ c.in_ok-push_opening-in-If.ensures.line
    (in_if (told_by c.args.names.now) c.args.depth c.args.at c.args.instr.now _ _ _ _ _ c.in-If.is c.as_slice-in-If.ensures c.as_slice-in-If-2.ensures) c.push_arms.ensures.lines

pub push_instr-returns-in_ok-push_opening-in-If-clause-next : goal.push_instr-returns-in_ok-push_opening-in-If-clause-next
push_instr-returns-in_ok-push_opening-in-If-clause-next t c =
    counted_next c.push_arms.result _ _
    (let counted = counts_if c.args.instr.now _ _ _ _ _ c.in-If.is c.as_slice-in-If.ensures c.as_slice-in-If-2.ensures in omega arith) c.push_arms.ensures.next

pub push_instr-returns-in_ok-push_plain-in_default : goal.push_instr-returns-in_ok-push_plain-in_default
push_instr-returns-in_ok-push_plain-in_default t c =
    let plain : is_plain c.args.instr.now ≡ true = plain_is _ c.in_default.not-Block c.in_default.not-Loop c.in_default.not-If in
    let counted = counts_plain c.args.instr.now plain in
    record {
      lines = c.in_ok-push_plain-in_default.ensures.line ∙ ap (λ (l : List ℕ). (shown c.args.page.now) ++ l) (in_plain (told_by c.args.names.now) c.args.depth c.args.at c.args.instr.now plain);
      next = omega arith;
      laid = c.in_ok-push_plain-in_default.ensures.laid;
    }

pub push_sequence-push_instr-requires : goal.push_sequence-push_instr-requires
push_sequence-push_instr-requires t c =
    let lt : c.loop-instr.instr-index < length c.args.code.now = omega arith in
    let step = count-next c.args.code.now c.loop-instr.instr-index c.instr-item.result lt c.instr-item.is in
    let next = c.loop-instr.invariant.next in
    let smaller = c.loop-instr.invariant.smaller in
    let short = c.requires.short in
    (omega arith, (c.loop-instr.invariant.laid, (c.loop-instr.invariant.within, omega arith)))

pub push_sequence-loop-instr-preserved : goal.push_sequence-loop-instr-preserved
push_sequence-loop-instr-preserved t c =
    let lt : c.loop-instr.instr-index < length c.args.code.now = omega arith in
    let step = count-next c.args.code.now c.loop-instr.instr-index c.instr-item.result lt c.instr-item.is in
    let is = code-next c.args.code.now c.loop-instr.instr-index c.instr-item.result lt c.instr-item.is in
    let rest : Code = code_of (drop (c.loop-instr.instr-index + 1) c.args.code.now) in
    let K = told_by c.args.names.now in
    let same : c.in_ok-next.next ≡ c.loop-instr.next + count (onto c.instr-item.result done) = c.in_ok-next.ensures.next in
    let next = c.loop-instr.invariant.next in
    let smaller = c.loop-instr.invariant.smaller in
    let within = c.loop-instr.invariant.within in
    record {
      so_far = piece _ (shown c.loop-instr.page) _ (lines K c.args.depth (onto c.instr-item.result done) c.loop-instr.next) (lines K c.args.depth rest c.in_ok-next.next) _
          c.loop-instr.invariant.so_far
          (ap (λ (code : Code). lines K c.args.depth code c.loop-instr.next) is ∙ lines-onto K c.args.depth c.instr-item.result rest c.loop-instr.next
          ∙ ap (λ n. lines K c.args.depth (onto c.instr-item.result done) c.loop-instr.next ++ lines K c.args.depth rest n) (sym same))
          c.in_ok-next.ensures.lines;
      makers = piece _ c.loop-instr.makers.items _ (end_makers K.takers c.args.end (maker_at c.instr-item.result c.loop-instr.next ∷ [])) (ended_by K c.args.end rest c.in_ok-next.next) _
          c.loop-instr.invariant.makers
          (ap (λ (code : Code). ended_by K c.args.end code c.loop-instr.next) is ∙ makers-onto K.takers c.args.end c.instr-item.result rest c.loop-instr.next
          ∙ ap (λ n. end_makers K.takers c.args.end (maker_at c.instr-item.result c.loop-instr.next ∷ []) ++ ended_by K c.args.end rest n) (sym same))
          (c.in_ok-push_maker.ensures ∙ ap (λ n. c.loop-instr.makers.items ++ end_makers K.takers c.args.end (n ∷ [])) c.maker_at.ensures);
      next = omega arith;
      within = omega arith;
      laid = c.in_ok-next.ensures.laid;
      smaller = omega arith;
    }
