use Rattle.std.proofs.Common.{ap, sym, ◌∙◌, length, arith, true≢false, below_more}
use Rattle.std.specs.Prelude.{map, slice_get, vec_items}
use Rattle.std.proofs.lemmas.Option.{slice_get_within}
use Rattle.wasm_types.specs.declared.place.Part.TheVariants as part
use Rattle.wasm_types.specs.Validity.{ExportHolds, Holds}
use Rattle.wasm_validate.proofs.EntryLemmas.{at_some, from_some, if_some, entry}
use Rattle.wasm_validate.proofs.NameLemmas.{was_absent, was_there, no_earlier, some_earlier, one_name_more}
use Rattle.wasm_validate.proofs.exports.first_export.Goals as goal

pub loop-k-init : goal.loop-k-init
loop-k-init c = record { so_far = ap (map vec_items) c.new-seen.ensures.empty; before = λ j lt. absurd (omega (arith, lt)) }

pub loop-k-preserved : goal.loop-k-preserved
loop-k-preserved c =
    let m = c.args.m.now in
    let k = c.loop-k.k in
    let here = entry c.as_slice-export-items.result.now m.exports k c.export-item.result c.as_slice-export-items.ensures c.loop-k-test.true c.export-item.is in
    let name = c.in_ok-name.ensures.items ∙ c.as_slice.ensures in
    let none = was_absent _ _ c.in-Ok.ensures.added c.if-not-is_new.false in
    let fresh = no_earlier vec_items c.loop-k.seen.keys m.exports k c.export-item.result (vec_items c.in_ok-name.name) c.loop-k.invariant.so_far here name none in
    let known = c.is_known.ensures.0 c.if-not-is_known.false in
    record {
      so_far = one_name_more vec_items c.loop-k.seen.keys c.insert.new.self.keys c.in_ok-name.name m.exports k c.export-item.result c.loop-k.invariant.so_far here name none c.in-Ok.ensures.keys;
      before = below_more (λ j. Holds m (part.ExportAt j)) k c.loop-k.invariant.before (from_some (ExportHolds m k) (slice_get m.exports k) c.export-item.result here (known, fresh));
    }

pub returns-then-not-is_known : goal.returns-then-not-is_known
returns-then-not-is_known c =
    let m = c.args.m.now in
    let k = c.loop-k.k in
    let here = entry c.as_slice-export-items.result.now m.exports k c.export-item.result c.as_slice-export-items.ensures c.loop-k-test.true c.export-item.is in
    (λ h. true≢false (sym (c.is_known.ensures.1 (at_some (ExportHolds m k) (slice_get m.exports k) c.export-item.result here h).0) ∙ c.if-not-is_known.true), c.loop-k.invariant.before)

pub returns-then-not-is_new : goal.returns-then-not-is_new
returns-then-not-is_new c =
    let m = c.args.m.now in
    let k = c.loop-k.k in
    let here = entry c.as_slice-export-items.result.now m.exports k c.export-item.result c.as_slice-export-items.ensures c.loop-k-test.true c.export-item.is in
    let name = c.in_ok-name.ensures.items ∙ c.as_slice.ensures in
    let some = was_there _ _ c.in-Ok.ensures.added c.if-not-is_new.true in
    (λ h. some_earlier vec_items c.loop-k.seen.keys m.exports k c.export-item.result (vec_items c.in_ok-name.name) c.loop-k.invariant.so_far here name some (at_some (ExportHolds m k) (slice_get m.exports k) c.export-item.result here h).1, c.loop-k.invariant.before)

pub returns : goal.returns
returns c = λ j.
    let m = c.args.m.now in
    let same = ap length c.as_slice-export-items.ensures in
    if_some (ExportHolds m j) (slice_get m.exports j) (λ e is. at_some (ExportHolds m j) (slice_get m.exports j) e is (c.loop-k.invariant.before j (let lt = slice_get_within m.exports j e is in omega arith)))
