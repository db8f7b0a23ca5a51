use Rattle.std.proofs.Common.{◌≡◌, ◌<◌, ◌+◌, ◌∙◌, ◌++◌, ℕ, [], ◌∷◌, Vec, Global, length, set, drop, arith, refl, sym, ap, ap₂}
use Rattle.std.proofs.lemmas.Grind.{common_steps}
use Rattle.wasm_types.specs.Code.{code_of, onto, done}
use Rattle.wasm_types.proofs.CodeLemmas.{plain_is, count-next, code-next}
use Rattle.block_cfg.specs.Stops.{stops_in}
use Rattle.block_cfg.proofs.StopLemmas.{block_stops, loop_stops, if_stops, plain_stops, block_less, loop_less, if_less, stops_next}
use Rattle.block_cfg.proofs.stops.+stops.Goals.{add_instr-in-Block+in_ok-add_code-in-Block, add_instr-in-Loop+in_ok-add_code-in-Loop}
use Rattle.block_cfg.proofs.stops.+stops.Goals.{add_instr-in-If+in_ok-add_code-in-If+in_ok-add_code-in-If-2, add_instr-in_default}
use Rattle.block_cfg.proofs.stops.+stops.Goals as goal

pub add_instr-add_code-requires : goal.add_instr-add_code-requires
add_instr-add_code-requires t c =
    let less = block_less c.args.instr.now _ c.in-Block.inner c.as_slice.result.now c.in-Block.is c.as_slice.ensures in
    omega (arith, less)

pub add_instr-add_code-requires-in-Loop : goal.add_instr-add_code-requires-in-Loop
add_instr-add_code-requires-in-Loop t c =
    let less = loop_less c.args.instr.now _ c.in-Loop.inner c.as_slice-in-Loop.result.now c.in-Loop.is c.as_slice-in-Loop.ensures in
    omega (arith, less)

pub add_instr-add_code-requires-in-If : goal.add_instr-add_code-requires-in-If
add_instr-add_code-requires-in-If t c =
    let less = if_less c.args.instr.now _ c.in-If.first c.in-If.second c.as_slice-in-If.result.now c.in-If.second c.in-If.is c.as_slice-in-If.ensures refl in
    omega (arith, less)

pub add_instr-add_code-requires-in-If-2 : goal.add_instr-add_code-requires-in-If-2
add_instr-add_code-requires-in-If-2 t c =
    let less =
    if_less c.args.instr.now _ c.in-If.first c.in-If.second c.as_slice-in-If.result.now c.as_slice-in-If-2.result.now c.in-If.is
    c.as_slice-in-If.ensures c.as_slice-in-If-2.ensures in
    omega (arith, less)

pub add_code-add_instr-requires : goal.add_code-add_instr-requires
add_code-add_instr-requires t c =
    let lt : c.loop-instr.instr-index < length c.args.code.now = omega arith in
    let step = count-next c.args.code.now c.loop-instr.instr-index c.instr-item.result lt c.instr-item.is in
    omega (arith, step, c.loop-instr.invariant.smaller)

pub add_code-loop-instr-preserved : goal.add_code-loop-instr-preserved
add_code-loop-instr-preserved t c =
    let inv = c.loop-instr.invariant in
    let lt : c.loop-instr.instr-index < length c.args.code.now = omega arith in
    let step = count-next c.args.code.now c.loop-instr.instr-index c.instr-item.result lt c.instr-item.is in
    let next = code-next c.args.code.now c.loop-instr.instr-index c.instr-item.result lt c.instr-item.is in
    let rest = code_of (drop (c.loop-instr.instr-index + 1) c.args.code.now) in
    record {
      whole = stops_next c.instr-item.result rest c.loop-instr.stops.items c.add_instr.new.stops.items _ c.in_ok-add_instr.ensures (rw next at inv.whole);
      smaller = omega (arith, step, inv.smaller);
    }

pub add_instr-returns : goal.add_instr-returns
add_instr-returns t c =
    let made : c.push.new.self.items ≡ c.args.stops.now.items ++ 0 ∷ [] = grind (arith, common_steps) in
    let i = c.args.instr.now in
    let a = c.args.stops.now.items in
    let held = c.push.new.self.items in
    let m = c.match-instr.stops.items in
    let whole : set m (length a) (length m) ≡ a ++ stops_in (onto i done) (length a) = elim c.match-instr.branch [
      | add_instr-in-Block+in_ok-add_code-in-Block w ↦ block_stops i a held made m _ w.in-Block.inner w.in-Block.is
          (rw w.as_slice.ensures at rw (sym w.stops-is) at w.in_ok-add_code-in-Block.ensures)
      | add_instr-in-Loop+in_ok-add_code-in-Loop w ↦ loop_stops i a held made m _ w.in-Loop.inner w.in-Loop.is
          (rw w.as_slice-in-Loop.ensures at rw (sym w.stops-is) at w.in_ok-add_code-in-Loop.ensures)
      | add_instr-in-If+in_ok-add_code-in-If+in_ok-add_code-in-If-2 w ↦
          if_stops i a held made w.add_code-in-If.new.stops.items m _ w.in-If.first w.in-If.second w.in-If.is
          (rw w.as_slice-in-If.ensures at w.in_ok-add_code-in-If.ensures)
          (rw w.as_slice-in-If-2.ensures at rw (sym w.stops-is) at w.in_ok-add_code-in-If-2.ensures)
      | add_instr-in_default w ↦ plain_stops i a held made m (plain_is _ w.in_default.not-Block w.in_default.not-Loop w.in_default.not-If)
          (ap (λ (z : Vec ℕ Global). z.items) w.stops-is)
    ] in
    let place : c.len-place.result ≡ length a = c.len-place.ensures ∙ c.args.stops.now.ok.0 in
    let end : c.len.result ≡ length m = c.len.ensures ∙ c.match-instr.stops.ok.0 in
    ap₂ (λ (k n : ℕ). set m k n) place end ∙ whole
