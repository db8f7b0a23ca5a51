use Rattle.std.proofs.Common.{◌≡◌, Option, ℕ, List, length, sym, ◌∙◌, subst}
use Rattle.std.specs.Prelude.{map}
use Rattle.wasm_decode.specs.declared.frames.Frame.{Frame}
use Rattle.wasm_decode.specs.Frames.{IsFramed, frame_at}
use Rattle.wasm_decode.specs.Decode.{IsRead}
use Rattle.wasm_decode.proofs.StepLemmas.{nothing_deep, spells_of}
use Rattle.wasm_decode.proofs.decoding.decode.Goals as goal

pub returns-in-Some : goal.returns-in-Some
returns-in-Some c = record {
  frames = map (frame_at c.args.bytes.now) c.as_slice.result.now;
  framed = subst (λ (xs : List Frame). IsFramed c.args.bytes.now (map (frame_at c.args.bytes.now) xs)) (sym c.as_slice.ensures) c.in_ok-frames.ensures.0;
  spelled = c.in_ok-module.ensures.0;
  first = subst (λ (d : Option (ℕ × ℕ)). IsRead (map (frame_at c.args.bytes.now) c.as_slice.result.now) d c.in_ok-module.module) c.in-Some.is
      c.in_ok-module.ensures.1;
}

pub returns : goal.returns
returns c =
    let framed = subst (λ (xs : List Frame). IsFramed c.args.bytes.now (map (frame_at c.args.bytes.now) xs)) (sym c.as_slice.ensures) c.in_ok-frames.ensures.0
    in
    let r = nothing_deep (map (frame_at c.args.bytes.now) c.as_slice.result.now) c.in_ok-module.deep c.in_ok-module.module c.in_default.not-Some
    c.in_ok-module.ensures.1 in
    let same : length c.in_ok-module.module.funcs ≡ length c.in_ok-module.module.bodies = sym c.len.ensures ∙ c.if-len.false ∙ c.len-2.ensures in
    (spells_of c.args.bytes.now (map (frame_at c.args.bytes.now) c.as_slice.result.now) c.in_ok-module.module framed r.0 same, r.1)
