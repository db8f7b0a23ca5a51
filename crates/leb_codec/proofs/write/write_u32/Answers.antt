use Rattle.std.proofs.Common.{ℕ, List, ◌++◌, ap, ◌∙◌, arith, length-set}
use Rattle.leb_codec.proofs.Writing.{room_after, byte_put, last_put}
use Rattle.leb_codec.proofs.write.write_u32.Goals as goal

pub loop-rest-preserved : goal.loop-rest-preserved
loop-rest-preserved c =
    let after = room_after c.loop-rest.len c.loop-rest.rest c.loop-rest.invariant.few c.loop-rest.invariant.fits c.loop-rest-test.true in
    record {
      size = simp length-set c.loop-rest.invariant.size;
      few = after.0;
      fits = after.1;
      so_far = byte_put _ _ _ _ (omega arith) c.loop-rest.invariant.size after.0 c.loop-rest-test.true c.loop-rest.invariant.so_far;
    }

pub returns-clause-ok : goal.returns-clause-ok
returns-clause-ok c = c.in_ok-extend_from_slice.ensures.items ∙ ap (λ (l : List ℕ). c.args.out.now.items ++ l) (last_put _ _ _ _ (omega arith) c.loop-rest.invariant.size c.loop-rest-test.false c.loop-rest.invariant.so_far)
