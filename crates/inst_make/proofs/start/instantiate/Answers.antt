use Rattle.std.proofs.Common.{◌≡◌, length, refl, sym, ◌∙◌, arith}
use Rattle.std.proofs.lemmas.List.{with_items_is}
use Rattle.inst_make.proofs.Begun.{reads, elems_fit, segments_fit, segment_out, below, can_start, allowed, store_is, table_is, begun}
use Rattle.inst_make.proofs.start.instantiate.Goals as goal

pub returns-in-Some-first_segment_out : goal.returns-in-Some-first_segment_out
returns-in-Some-first_segment_out c =
    let read = reads c.args.globals.now c.module-m.ensures.same c.as_slice.ensures c.memory_limits-memory.ensures.min c.memory_limits-memory.ensures.max
    c.table_size-size.ensures c.in_ok-globals.ensures c.as_slice-values.ensures.value in (
      below read c.args.cap c.args.script c.if-memory-cap.false,
      elems_fit read c.args.cap c.args.script _ c.as_slice-2.ensures c.in_default.ensures,
      segment_out read c.args.cap c.args.script _ _ _ c.from-long.ensures c.as_slice-3.ensures c.in-Some-first_segment_out.ensures,
    )

pub make-requires : goal.make-requires
make-requires c =
    let read = reads c.args.globals.now c.module-m.ensures.same c.as_slice.ensures c.memory_limits-memory.ensures.min c.memory_limits-memory.ensures.max
    c.table_size-size.ensures c.in_ok-globals.ensures c.as_slice-values.ensures.value in
    let can = can_start read c.args.cap c.args.script c.requires c.if-memory-cap.false
    (elems_fit read c.args.cap c.args.script _ c.as_slice-2.ensures c.in_default.ensures)
    (segments_fit read c.args.cap c.args.script _ _ c.from-long.ensures c.as_slice-3.ensures c.in_default-first_segment_out.ensures) in
    allowed read c.args.cap c.args.script c.module-m.ensures.sealed.valid can

pub returns : goal.returns
returns c =
    let read = reads c.args.globals.now c.module-m.ensures.same c.as_slice.ensures c.memory_limits-memory.ensures.min c.memory_limits-memory.ensures.max
    c.table_size-size.ensures c.in_ok-globals.ensures c.as_slice-values.ensures.value in
    let can = can_start read c.args.cap c.args.script c.requires c.if-memory-cap.false
    (elems_fit read c.args.cap c.args.script _ c.as_slice-2.ensures c.in_default.ensures)
    (segments_fit read c.args.cap c.args.script _ _ c.from-long.ensures c.as_slice-3.ensures c.in_default-first_segment_out.ensures) in
    let store = store_is read c.args.cap c.args.script _ _ _ c.as_slice-5.ensures c.in_ok-store.ensures c.write_segments.ensures in
    let empty = c.as_mut_slice.ensures.value ∙ c.in_ok-entries.ensures in
    let table = table_is read c.args.cap c.args.script _ _ _ c.as_slice-4.ensures empty c.write_elems.ensures in
    let long : length c.write_elems.new.entries ≡ c.in_ok-entries.entries.len = omega arith in (
      can,
      begun read c.args.cap c.args.script _ c.module-m.ensures.sealed.valid can (sym c.as_slice-values.ensures.value) store
          (with_items_is c.in_ok-entries.entries c.write_elems.new.entries long ∙ table) refl refl,
    )
