use Rattle.std.proofs.Common.{◌≡◌, ◌<◌, ◌+◌, ◌&&◌, ◌∙◌, ◌++◌, List, length, drop, true, false, Option, arith, sym, subst}
use Rattle.std.proofs.Math.ListN.{drop_of_length-le}
use Rattle.std.proofs.lemmas.List.{append-nil}
use Rattle.wasm_types.specs.declared.instr.Instr.{Instr}
use Rattle.wasm_types.specs.Code.{Code, code_of, is_plain}
use Rattle.wasm_types.proofs.CodeLemmas.{plain_is, count-next, code-next}
use Rattle.flow_domain.specs.LocRows.{goes_on, shown, rows_of}
use Rattle.flow_domain.proofs.LocLemmas.{block_rows, loop_rows, if_rows, one_rows, rows-next}
use Rattle.flow_domain.specs.declared.loc_table.LocUse.{LocUse}
use Rattle.flow_domain.proofs.plain_walk.+rows.Goals as goal
use Rattle.flow_domain.proofs.plain_walk.+rows.Goals.{add_code-then-goes_on, add_code-else-goes_on}

pub add_instr-returns-in_ok-add_code-in-Block : goal.add_instr-returns-in_ok-add_code-in-Block
add_instr-returns-in_ok-add_code-in-Block t c =
    block_rows c.args.live c.args.instr.now (shown c.args.rows.now.items) (shown c.add_row.new.rows.items) c.in_ok-add_row.ensures _ c.in-Block.inner
    (shown c.add_code.new.rows.items) c.in-Block.is
    (rw c.as_slice.ensures at c.in_ok-add_code-in-Block.ensures)

pub add_instr-returns-in_ok-add_code-in-Loop : goal.add_instr-returns-in_ok-add_code-in-Loop
add_instr-returns-in_ok-add_code-in-Loop t c =
    loop_rows c.args.live c.args.instr.now (shown c.args.rows.now.items) (shown c.add_row.new.rows.items) c.in_ok-add_row.ensures _ c.in-Loop.inner
    (shown c.add_code-in-Loop.new.rows.items) c.in-Loop.is
    (rw c.as_slice-in-Loop.ensures at c.in_ok-add_code-in-Loop.ensures)

pub add_instr-returns-in_ok-add_code-in-If-2 : goal.add_instr-returns-in_ok-add_code-in-If-2
add_instr-returns-in_ok-add_code-in-If-2 t c =
    if_rows c.args.live c.args.instr.now (shown c.args.rows.now.items) (shown c.add_row.new.rows.items) c.in_ok-add_row.ensures _ c.in-If.first c.in-If.second
    (shown c.add_code-in-If.new.rows.items) (shown c.add_code-in-If-2.new.rows.items) c.in-If.is
    (rw c.as_slice-in-If.ensures at c.in_ok-add_code-in-If.ensures) (rw c.as_slice-in-If-2.ensures at c.in_ok-add_code-in-If-2.ensures)

pub add_instr-returns-in_default : goal.add_instr-returns-in_default
add_instr-returns-in_default t c =
    let plain : is_plain c.args.instr.now ≡ true = plain_is _ c.in_default.not-Block c.in_default.not-Loop c.in_default.not-If in
    one_rows c.args.live c.args.instr.now (shown c.args.rows.now.items) (shown c.add_row.new.rows.items) c.in_ok-add_row.ensures plain

pub add_code-add_instr-requires : goal.add_code-add_instr-requires
add_code-add_instr-requires t c =
    let lt : c.loop-instr.instr-index < length c.args.code.now = omega arith in
    let step = count-next c.args.code.now c.loop-instr.instr-index c.instr-item.result lt c.instr-item.is in
    (omega arith, tt)

pub add_code-loop-instr-preserved : goal.add_code-loop-instr-preserved
add_code-loop-instr-preserved t c =
    let lt : c.loop-instr.instr-index < length c.args.code.now = omega arith in
    let step = count-next c.args.code.now c.loop-instr.instr-index c.instr-item.result lt c.instr-item.is in
    let next = code-next c.args.code.now c.loop-instr.instr-index c.instr-item.result lt c.instr-item.is in
    let goes : c.if-goes_on.still_live ≡ (goes_on c.instr-item.result && c.loop-instr.still_live) = elim c.if-goes_on.branch [
      | add_code-then-goes_on w ↦ let on : goes_on c.instr-item.result ≡ true = sym c.goes_on.ensures ∙ w.if-goes_on.true in rw on w.still_live-is
      | add_code-else-goes_on w ↦ let off : goes_on c.instr-item.result ≡ false = sym c.goes_on.ensures ∙ w.if-goes_on.false in rw off
          (w.still_live-is ∙ w.if-goes_on.false)
    ] in
    let all : List (Option (List LocUse)) = shown c.args.rows.now.items ++ rows_of c.args.live (code_of c.args.code.now) in
    record {
      whole =
          rows-next c.loop-instr.still_live c.if-goes_on.still_live c.instr-item.result (code_of (drop (c.loop-instr.instr-index + 1) c.args.code.now))
          (shown c.loop-instr.rows.items) (shown c.add_instr.new.rows.items) all
          c.in_ok-add_instr.ensures goes (subst (λ (z : Code). shown c.loop-instr.rows.items ++ rows_of c.loop-instr.still_live z ≡ all) next
          c.loop-instr.invariant.whole);
      smaller = omega arith;
    }

pub add_code-returns : goal.add_code-returns
add_code-returns t c =
    let none = drop_of_length-le c.args.code.now c.loop-instr-test.false in
    sym (append-nil (shown c.loop-instr.rows.items)) ∙ subst (λ (z : List Instr). shown c.loop-instr.rows.items ++ rows_of c.loop-instr.still_live (code_of z)
    ≡ shown c.args.rows.now.items ++ rows_of c.args.live (code_of c.args.code.now)) none c.loop-instr.invariant.whole
