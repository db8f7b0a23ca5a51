use Rattle.std.proofs.Common.{◌≡◌, ◌-◌, ℕ, List, [], ◌∷◌, ◌++◌, ap, ◌∙◌, arith, length-set}
use Rattle.leb_codec.proofs.Writing.{signed_goes, signed_byte_put, one_positive, one_negative, signed_last_put}
use Rattle.wasm_types.specs.Numbers.{shortest_signed, half_of}
use Rattle.leb_codec.proofs.write.write_signed.Goals.{then-rest-half, else-rest-half}
use Rattle.leb_codec.proofs.write.write_signed.Goals as goal

pub loop-buf-preserved : goal.loop-buf-preserved
loop-buf-preserved g c =
    let on = c.needs_more.ensures.0 c.loop-buf-test.true in
    let goes = signed_goes g.form.0 (g.form.1 - c.loop-buf.len) c.loop-buf.half c.loop-buf.rest c.requires.0 c.requires.1.0 c.loop-buf.invariant.width on.0 on.1 in
    record {
      size = simp length-set c.loop-buf.invariant.size;
      few = omega (arith, goes.0);
      width = goes.1 ∙ ap (half_of g.form.0) (omega arith);
      fits = goes.2;
      so_far = signed_byte_put _ _ _ _ _ _ (omega (arith, c.requires.1.1.0, goes.0)) (omega (arith, goes.0)) on.0 on.1 c.loop-buf.invariant.so_far;
    }

pub returns-clause-ok : goal.returns-clause-ok
returns-clause-ok g c =
    let last : shortest_signed (g.form.1 - c.loop-buf.len) c.loop-buf.half c.loop-buf.rest ≡ c.if-rest-half.buf ∷ [] = elim c.if-rest-half.branch [
      | then-rest-half w ↦ one_positive _ _ _ c.loop-buf-test.ensures.1 w.if-rest-half.true ∙ ap (λ (b : ℕ). b ∷ []) (omega (arith, w.buf-is))
      | else-rest-half w ↦ one_negative _ _ _ _ c.loop-buf-test.ensures.1 w.if-rest-half.false c.loop-buf.invariant.fits (omega (arith, w.buf-is))
    ] in
    c.in_ok-extend_from_slice.ensures.items ∙ ap (λ (l : List ℕ). c.args.out.now.items ++ l) (signed_last_put _ _ _ g.form.1 _ _ _ (omega (arith, c.requires.1.1.0)) last c.loop-buf.invariant.so_far)
