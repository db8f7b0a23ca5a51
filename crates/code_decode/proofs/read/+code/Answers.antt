use Rattle.std.proofs.Common.{◌+◌, arith, sym}
use Rattle.std.proofs.Common.{List, subst}
use Rattle.wasm_types.specs.Standing.{Stands}
use Rattle.wasm_types.specs.declared.instr.Instr.{Instr}
use Rattle.wasm_types.specs.declared.instr.Instr.TheVariants.{If}
use Rattle.wasm_types.specs.Code.{code_of, onto, done}
use Rattle.code_decode.specs.Reading.{SpellsWithin}
use Rattle.code_decode.proofs.Steps.{plain_instr, block_instr, loop_instr, block_stops, loop_stops, plain_stops, enclosed_stands, no_enclosed, stands_on, stands_more, none_back, none_past_end, no_if_room, no_if_kind, if_stops_first, if_stops_second, no_if_end, if_stands, if_else_stands, ender_else}
use Rattle.std.proofs.Common.{inl, inr}
use Rattle.code_decode.proofs.read.+code.Goals.{read_if-then-room-eq0-via-then-room-eq0, read_if-then-room-eq0-via-else-room-eq0+then-at-bytes}
use Rattle.code_decode.proofs.read.+code.Goals as goal

pub read_code-loop-place-smaller : goal.read_code-loop-place-smaller
read_code-loop-place-smaller t c =
    let on = stands_on c.args.room c.args.bytes.now c.loop-place.place c.in_ok-instr.next c.in_ok-instr.instr c.loop-place-test.true c.in_ok-instr.ensures in
    omega (arith, c.loop-place-test.true)

pub read_code-loop-place-preserved : goal.read_code-loop-place-preserved
read_code-loop-place-preserved t c =
    record {
      so_far = rw c.in-Ok.ensures.items (stands_more c.args.room c.args.bytes.now c.args.at c.loop-place.place c.in_ok-instr.next c.loop-place.code.items c.in_ok-instr.instr c.loop-place.invariant.so_far c.in_ok-instr.ensures);
      back = λ h. c.loop-place.invariant.back (none_back c.args.room c.args.bytes.now c.loop-place.place c.in_ok-instr.next c.in_ok-instr.instr c.loop-place-test.true c.if-bytes-place-ne11.true c.if-bytes-place-ne5.true c.in_ok-instr.ensures h);
    }

pub read_code-returns-then-place-bytes : goal.read_code-returns-then-place-bytes
read_code-returns-then-place-bytes t c = c.loop-place.invariant.back (none_past_end _ _ _ c.if-place-bytes.true)

pub read_enclosed-returns-then-bytes-end-ne11 : goal.read_enclosed-returns-then-bytes-end-ne11
read_enclosed-returns-then-bytes-end-ne11 t c =
    no_enclosed _ c.args.room c.args.bytes.now c.args.at c.in_ok-inner.end (code_of c.in_ok-inner.inner) (omega arith) c.in_ok-inner.ensures.0 c.in_ok-inner.ensures.1 c.in_ok-inner.ensures.2 c.if-bytes-end-ne11.true

pub read_enclosed-returns : goal.read_enclosed-returns
read_enclosed-returns t c =
    enclosed_stands c.args.room c.args.bytes.now c.args.at c.in_ok-inner.end c.in-Some.kind (code_of c.in_ok-inner.inner) (omega arith) (omega arith) c.in-Some.ensures c.in_ok-inner.ensures.0 c.in_ok-inner.ensures.1 c.if-bytes-end-ne11.false

pub read_instr-returns-in-Ok-read_plain : goal.read_instr-returns-in-Ok-read_plain
read_instr-returns-in-Ok-read_plain t c = plain_instr _ _ _ _ _ c.in-Ok-read_plain.ensures

pub read_instr-returns-in-Err-read_plain : goal.read_instr-returns-in-Err-read_plain
read_instr-returns-in-Err-read_plain t c = plain_stops _ _ _ _ c.requires (omega arith) (omega arith) (omega arith) c.in-Err-read_plain.ensures

pub read_instr-returns-in-Ok : goal.read_instr-returns-in-Ok
read_instr-returns-in-Ok t c = block_instr _ _ _ _ _ _ (rw c.in-2.is at c.in-Ok.ensures)

pub read_instr-returns-in-Err : goal.read_instr-returns-in-Err
read_instr-returns-in-Err t c = block_stops _ _ _ _ c.requires c.in-2.is c.in-Err.ensures

pub read_instr-returns-in-Ok-read_enclosed : goal.read_instr-returns-in-Ok-read_enclosed
read_instr-returns-in-Ok-read_enclosed t c = loop_instr _ _ _ _ _ _ (rw c.in-3.is at c.in-Ok-read_enclosed.ensures)

pub read_instr-returns-in-Err-read_enclosed : goal.read_instr-returns-in-Err-read_enclosed
read_instr-returns-in-Err-read_enclosed t c = loop_stops _ _ _ _ c.requires c.in-3.is c.in-Err-read_enclosed.ensures

pub read_if-returns-then-room-eq0 : goal.read_if-returns-then-room-eq0
read_if-returns-then-room-eq0 t c = no_if_room _ _ _ c.requires.within c.requires.opened
    (elim c.then-room-eq0.branch [ read_if-then-room-eq0-via-then-room-eq0 w ↦ inl w.if-room-eq0.true | read_if-then-room-eq0-via-else-room-eq0+then-at-bytes w ↦ inr w.if-at-bytes.true ])

pub read_if-returns-in-None : goal.read_if-returns-in-None
read_if-returns-in-None t c = no_if_kind _ _ _ c.requires.within c.requires.opened c.in-None.ensures

pub read_if-returns-in-Err : goal.read_if-returns-in-Err
read_if-returns-in-Err t c = if_stops_first _ _ _ _ c.requires.within c.requires.opened c.in-Err.ensures

pub read_if-returns-then-bytes-middle-eq11 : goal.read_if-returns-then-bytes-middle-eq11
read_if-returns-then-bytes-middle-eq11 t c =
    subst (λ (ys : List Instr). Stands (SpellsWithin c.args.room) c.args.bytes.now c.args.at (c.in-Ok.found.1 + 1) (onto (If c.in-Some.kind c.in-Ok.found.0 ys) done)) (sym c.new.ensures)
    (if_stands c.args.room c.args.bytes.now c.args.at c.in-Ok.found.1 c.in-Some.kind c.in-Ok.found.0 (omega arith) (omega arith) c.requires.opened c.in-Some.ensures c.in-Ok.ensures.0 c.in-Ok.ensures.1 c.if-bytes-middle-eq11.true)

pub read_if-returns-in-Err-read_code : goal.read_if-returns-in-Err-read_code
read_if-returns-in-Err-read_code t c = if_stops_second _ _ _ c.in-Ok.found.1 _ _ c.requires.within c.requires.opened c.in-Ok.ensures.0 c.in-Ok.ensures.1 c.in-Ok.ensures.2 c.if-bytes-middle-eq11.false c.in-Err-read_code.ensures

pub read_if-returns-then-bytes-end-ne11 : goal.read_if-returns-then-bytes-end-ne11
read_if-returns-then-bytes-end-ne11 t c =
    no_if_end _ _ _ c.in-Ok.found.1 c.in-Ok-read_code.found.1 _ _ c.requires.within c.requires.opened c.in-Ok.ensures.0 c.in-Ok.ensures.1 c.in-Ok.ensures.2 c.if-bytes-middle-eq11.false
    c.in-Ok-read_code.ensures.0 c.in-Ok-read_code.ensures.1 c.in-Ok-read_code.ensures.2 c.if-bytes-end-ne11.true

pub read_if-returns : goal.read_if-returns
read_if-returns t c =
    if_else_stands c.args.room c.args.bytes.now c.args.at c.in-Ok.found.1 c.in-Ok-read_code.found.1 c.in-Some.kind c.in-Ok.found.0 c.in-Ok-read_code.found.0 (omega arith) (omega arith) c.requires.opened c.in-Some.ensures
    c.in-Ok.ensures.0 c.in-Ok.ensures.1 (ender_else _ c.in-Ok.ensures.2 c.if-bytes-middle-eq11.false) c.in-Ok-read_code.ensures.0 c.in-Ok-read_code.ensures.1 c.if-bytes-end-ne11.false
