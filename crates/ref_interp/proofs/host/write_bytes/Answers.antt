use Rattle.std.proofs.Common.{◌≡◌, ℕ, ◌+◌, List, true, if◌then◌else◌, length, sym, ap, ◌∙◌, subst, refl}
use Rattle.std.proofs.lemmas.Option.{slice_get_read}
use Rattle.wasm_types.specs.Hosts.{is_within}
use Rattle.wasm_meaning.specs.Memory.{written}
use Rattle.run_store.specs.Pages.{Paged, after_write}
use Rattle.ref_interp.proofs.HostWrites.{Fills, filled_next}
use Rattle.ref_interp.proofs.host.write_bytes.Goals as goal

after_is : (p : Paged) (at : ℕ) (these : List ℕ) → is_within at (length these) (length p.bytes) ≡ true
    → after_write p at these ≡ record p { bytes = written at these p.bytes }
after_is p at these e = ap (λ b. if b then record p { bytes = written at these p.bytes } else p) e

pub loop-write-preserved : goal.loop-write-preserved
loop-write-preserved c =
    let ws = c.args.writes.now in
    let i = c.loop-write.write-index in
    let w = c.write-item.result in
    let store = c.loop-write.store in
    let next = filled_next c.args.store.now.bytes ws store.bytes i w (slice_get_read ws (length ws) i w refl c.loop-write-test.true c.write-item.is)
    c.loop-write.invariant.fills in
    let these : c.as_slice.result.now ≡ w.1 = c.as_slice.ensures in
    let e : c.write-within.new.self ≡ record store { bytes = written w.0 w.1 store.bytes } =
    c.write-within.ensures.after ∙ ap (λ a. after_write store a c.as_slice.result.now) c.from.ensures ∙ ap (after_write store w.0) these
    ∙ after_is store w.0 w.1 next.0 in
    record {
      pages = ap (λ (p : Paged). p.pages) e ∙ c.loop-write.invariant.pages;
      max = ap (λ (p : Paged). p.max) e ∙ c.loop-write.invariant.max;
      cap = ap (λ (p : Paged). p.cap) e ∙ c.loop-write.invariant.cap;
      fills = subst (λ bs. Fills c.args.store.now.bytes ws bs (i + 1)) (sym (ap (λ (p : Paged). p.bytes) e)) next.1;
    }
