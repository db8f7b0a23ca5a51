use Rattle.std.proofs.Common.{◌≡◌, ◌<◌, ◌+◌, ◌∙◌, ◌∷◌, ◌++◌, [], ℕ, true, Some, List, length, drop, ap, ap₂, sym, arith}
use Rattle.std.proofs.lemmas.Grind.{common_steps}
use Rattle.std.proofs.lemmas.List.{append_assoc}
use Rattle.wasm_types.specs.declared.instr.Instr.{Instr}
use Rattle.wasm_types.specs.declared.instr.Instr.TheVariants as v
use Rattle.wasm_types.specs.Code.{done, onto, code_of, count, is_plain}
use Rattle.wasm_types.proofs.CodeLemmas.{plain_is, count-next, code-next}
use Rattle.block_cfg.proofs.WalkLemmas.{block_count, loop_count, if_count, plain_count}
use Rattle.control_deps.specs.declared.spot.Spot.{Spot}
use Rattle.control_deps.specs.declared.spot.Form.TheVariants as form
use Rattle.control_deps.specs.Spots.{place, spots_in}
use Rattle.control_deps.proofs.SpotLemmas.{spots_then, place_set, block_spots, loop_spots, if_spots, plain_spots}
use Rattle.control_deps.proofs.walk.+walk.Goals as goal

pub walk_block-returns-clause-spots : goal.walk_block-returns-clause-spots
walk_block-returns-clause-spots t c =
    let old = c.args.spots.now.items in
    let inner = spots_in c.args.live (Some (place c.args.at)) (c.args.depth + 1) (code_of c.args.inner.now) (c.args.at + 1) in
    let at : c.len-here.result ≡ length c.args.spots.now.items = grind (arith, common_steps) in
    c.set_spot.ensures ∙ place_set old inner c.walk_code.new.spots.items _ _ c.len-here.result at (c.in_ok-end.ensures.spots ∙ ap (λ (z : List Spot). z ++ inner) c.in_ok-push_spot.ensures)

pub walk_if-returns-clause-spots : goal.walk_if-returns-clause-spots
walk_if-returns-clause-spots t c =
    let old = c.args.spots.now.items in
    let X = spots_in c.args.live (Some (place c.args.at)) (c.args.depth + 1) (code_of c.args.first.now) (c.args.at + 1) in
    let Y = λ (z : ℕ). spots_in c.args.live (Some (place c.args.at)) (c.args.depth + 1) (code_of c.args.second.now) z in
    let f = c.args.at + 1 + count (code_of c.args.first.now) in
    let at : c.len-here.result ≡ length c.args.spots.now.items = grind (arith, common_steps) in
    c.set_spot.ensures ∙ place_set old (X ++ Y f) c.walk_code-2.new.spots.items _ _ c.len-here.result at
    (c.in_ok-end.ensures.spots ∙ ap₂ (λ (a b : List Spot). a ++ b) (c.in_ok-middle.ensures.spots ∙ ap (λ (z : List Spot). z ++ X) c.in_ok-push_spot.ensures) (ap Y c.in_ok-middle.ensures.end)
    ∙ append_assoc (old ++ record { around = c.args.around; stop = c.args.at; live = c.args.live; form = form.If } ∷ []) X (Y f))

pub walk_code-walk_instr-requires : goal.walk_code-walk_instr-requires
walk_code-walk_instr-requires t c =
    let lt : c.loop-instr.instr-index < length c.args.code.now = omega arith in
    let step = count-next c.args.code.now c.loop-instr.instr-index c.instr-item.result lt c.instr-item.is in
    (omega arith, (omega arith, omega arith))

pub walk_code-loop-instr-preserved : goal.walk_code-loop-instr-preserved
walk_code-loop-instr-preserved t c =
    let inv = c.loop-instr.invariant in
    let lt : c.loop-instr.instr-index < length c.args.code.now = omega arith in
    let step = count-next c.args.code.now c.loop-instr.instr-index c.instr-item.result lt c.instr-item.is in
    let next = code-next c.args.code.now c.loop-instr.instr-index c.instr-item.result lt c.instr-item.is in
    let rest = code_of (drop (c.loop-instr.instr-index + 1) c.args.code.now) in
    let end : c.in_ok-here.here ≡ c.loop-instr.here + count (onto c.instr-item.result done) = c.in_ok-here.ensures.end in
    record {
      later = omega arith;
      place = omega arith;
      spots = spots_then c.loop-instr.spots.items c.walk_instr.new.spots.items _ c.loop-instr.reached c.stays_live-reached.result c.args.around c.args.depth c.instr-item.result rest (code_of (drop c.loop-instr.instr-index c.args.code.now)) c.loop-instr.here c.in_ok-here.here next end c.stays_live-reached.ensures c.in_ok-here.ensures.spots inv.spots;
      smaller = omega arith;
    }

pub walk_instr-walk_block-requires : goal.walk_instr-walk_block-requires
walk_instr-walk_block-requires t c =
    let is : c.args.instr.now ≡ v.Block c.in-Block.field-0 c.as_slice-inner.result.now = c.in-Block.is ∙ ap (λ z. v.Block c.in-Block.field-0 z) (sym c.as_slice-inner.ensures) in
    let n = block_count c.args.instr.now c.in-Block.field-0 c.as_slice-inner.result.now is in
    (omega arith, (omega arith, omega arith))

pub walk_instr-walk_block-requires-in-Loop : goal.walk_instr-walk_block-requires-in-Loop
walk_instr-walk_block-requires-in-Loop t c =
    let is : c.args.instr.now ≡ v.Loop c.in-Loop.field-0 c.as_slice-inner-in-Loop.result.now = c.in-Loop.is ∙ ap (λ z. v.Loop c.in-Loop.field-0 z) (sym c.as_slice-inner-in-Loop.ensures) in
    let n = loop_count c.args.instr.now c.in-Loop.field-0 c.as_slice-inner-in-Loop.result.now is in
    (omega arith, (omega arith, omega arith))

pub walk_instr-walk_if-requires : goal.walk_instr-walk_if-requires
walk_instr-walk_if-requires t c =
    let xs = c.as_slice-first.result.now in
    let ys = c.as_slice-second.result.now in
    let is : c.args.instr.now ≡ v.If c.in-If.field-0 xs ys = c.in-If.is ∙ ap₂ (λ (a b : List Instr). v.If c.in-If.field-0 a b) (sym c.as_slice-first.ensures) (sym c.as_slice-second.ensures) in
    let n = if_count c.args.instr.now c.in-If.field-0 xs ys is in
    (omega arith, (omega arith, omega arith))

pub walk_instr-overflow_add-stop : goal.walk_instr-overflow_add-stop
walk_instr-overflow_add-stop t c =
    let plain : is_plain c.args.instr.now ≡ true = plain_is _ c.in_default.not-Block c.in_default.not-Loop c.in_default.not-If in
    let n = plain_count c.args.instr.now plain in
    omega arith

pub walk_instr-returns-in_ok-end-in-Block-clause-end : goal.walk_instr-returns-in_ok-end-in-Block-clause-end
walk_instr-returns-in_ok-end-in-Block-clause-end t c =
    let is : c.args.instr.now ≡ v.Block c.in-Block.field-0 c.as_slice-inner.result.now = c.in-Block.is ∙ ap (λ z. v.Block c.in-Block.field-0 z) (sym c.as_slice-inner.ensures) in
    let n = block_count c.args.instr.now c.in-Block.field-0 c.as_slice-inner.result.now is in
    omega (arith, c.in_ok-end-in-Block.ensures.end)

pub walk_instr-returns-in_ok-end-in-Block-clause-spots : goal.walk_instr-returns-in_ok-end-in-Block-clause-spots
walk_instr-returns-in_ok-end-in-Block-clause-spots t c =
    let is : c.args.instr.now ≡ v.Block c.in-Block.field-0 c.as_slice-inner.result.now = c.in-Block.is ∙ ap (λ z. v.Block c.in-Block.field-0 z) (sym c.as_slice-inner.ensures) in
    block_spots c.args.spots.now.items c.walk_block.new.spots.items c.args.live c.args.around c.args.depth c.args.instr.now c.in-Block.field-0 c.as_slice-inner.result.now c.args.at c.in_ok-end-in-Block.end is c.in_ok-end-in-Block.ensures.end c.in_ok-end-in-Block.ensures.spots

pub walk_instr-returns-in_ok-end-in-Loop-clause-end : goal.walk_instr-returns-in_ok-end-in-Loop-clause-end
walk_instr-returns-in_ok-end-in-Loop-clause-end t c =
    let is : c.args.instr.now ≡ v.Loop c.in-Loop.field-0 c.as_slice-inner-in-Loop.result.now = c.in-Loop.is ∙ ap (λ z. v.Loop c.in-Loop.field-0 z) (sym c.as_slice-inner-in-Loop.ensures) in
    let n = loop_count c.args.instr.now c.in-Loop.field-0 c.as_slice-inner-in-Loop.result.now is in
    omega (arith, c.in_ok-end-in-Loop.ensures.end)

pub walk_instr-returns-in_ok-end-in-Loop-clause-spots : goal.walk_instr-returns-in_ok-end-in-Loop-clause-spots
walk_instr-returns-in_ok-end-in-Loop-clause-spots t c =
    let is : c.args.instr.now ≡ v.Loop c.in-Loop.field-0 c.as_slice-inner-in-Loop.result.now = c.in-Loop.is ∙ ap (λ z. v.Loop c.in-Loop.field-0 z) (sym c.as_slice-inner-in-Loop.ensures) in
    loop_spots c.args.spots.now.items c.walk_block-in-Loop.new.spots.items c.args.live c.args.around c.args.depth c.args.instr.now c.in-Loop.field-0 c.as_slice-inner-in-Loop.result.now c.args.at c.in_ok-end-in-Loop.end is c.in_ok-end-in-Loop.ensures.end c.in_ok-end-in-Loop.ensures.spots

pub walk_instr-returns-in_ok-end-in-If-clause-end : goal.walk_instr-returns-in_ok-end-in-If-clause-end
walk_instr-returns-in_ok-end-in-If-clause-end t c =
    let xs = c.as_slice-first.result.now in
    let ys = c.as_slice-second.result.now in
    let is : c.args.instr.now ≡ v.If c.in-If.field-0 xs ys = c.in-If.is ∙ ap₂ (λ (a b : List Instr). v.If c.in-If.field-0 a b) (sym c.as_slice-first.ensures) (sym c.as_slice-second.ensures) in
    let n = if_count c.args.instr.now c.in-If.field-0 xs ys is in
    omega (arith, c.in_ok-end-in-If.ensures.end)

pub walk_instr-returns-in_ok-end-in-If-clause-spots : goal.walk_instr-returns-in_ok-end-in-If-clause-spots
walk_instr-returns-in_ok-end-in-If-clause-spots t c =
    let xs = c.as_slice-first.result.now in
    let ys = c.as_slice-second.result.now in
    let is : c.args.instr.now ≡ v.If c.in-If.field-0 xs ys = c.in-If.is ∙ ap₂ (λ (a b : List Instr). v.If c.in-If.field-0 a b) (sym c.as_slice-first.ensures) (sym c.as_slice-second.ensures) in
    if_spots c.args.spots.now.items c.walk_if.new.spots.items c.args.live c.args.around c.args.depth c.args.instr.now c.in-If.field-0 xs ys c.args.at c.in_ok-end-in-If.end is c.in_ok-end-in-If.ensures.end c.in_ok-end-in-If.ensures.spots

pub walk_instr-returns-in_ok-push_spot-in_default : goal.walk_instr-returns-in_ok-push_spot-in_default
walk_instr-returns-in_ok-push_spot-in_default t c =
    let plain : is_plain c.args.instr.now ≡ true = plain_is _ c.in_default.not-Block c.in_default.not-Loop c.in_default.not-If in
    let n = plain_count c.args.instr.now plain in
    record {
      end = omega arith;
      spots = plain_spots c.args.spots.now.items c.push_spot.new.spots.items c.args.live c.args.around c.args.depth c.args.instr.now c.args.at plain
          (c.in_ok-push_spot-in_default.ensures ∙ ap (λ f. c.args.spots.now.items ++ record { around = c.args.around; stop = c.args.at + 1; live = c.args.live; form = f } ∷ []) c.plain_form-form.ensures);
    }
