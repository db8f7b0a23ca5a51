use Rattle.std.proofs.Common.{◌≡◌, ℕ, ◌<◌, ◌≤◌, List, [], ◌∷◌, ◌++◌, length, take, ap, sym, subst, ◌∙◌, max, arith, length-append}
use Rattle.std.specs.Prelude.{map, All}
use Rattle.std.proofs.lemmas.List.{length-take, length-map, map-append}
use Rattle.std.proofs.lemmas.List.Elements.{All-nil, All-push}
use Rattle.wasm_types.specs.Standing.{Stands}
use Rattle.wasm_decode.specs.declared.frames.Frame.{Frame}
use Rattle.wasm_decode.specs.Frames.{Section, frame_at, IsWithin}
use Rattle.wasm_types.specs.Modules.{Sections, header}
use Rattle.wasm_decode.proofs.FrameLemmas.{no_sections, sections_more, frame_moves}
use Rattle.wasm_decode.proofs.frames.read_frames.Goals as goal

long_enough : (bytes : List ℕ) → take 8 bytes ≡ header → 8 ≤ length bytes
long_enough bytes h = omega (arith, ap length h, length-take 8 bytes)

within : {bytes : List ℕ} {final at end : ℕ} {fs : List Section} → Stands (Sections final) bytes at end fs → end ≤ length bytes
within s = s.within

pub loop-place-init : goal.loop-place-init
loop-place-init c =
    let begun : take 8 c.args.bytes.now ≡ header = c.has_header.ensures.0 c.if-not-has_header.false in
    record {
      so_far = subst (λ (fs : List Frame). Stands (Sections 0) c.args.bytes.now 8 8 (map (frame_at c.args.bytes.now) fs)) (sym c.new-frames.ensures)
          (no_sections c.args.bytes.now (long_enough c.args.bytes.now begun));
      few = omega (arith, ap length c.new-frames.ensures);
      all_within = subst (All (IsWithin c.args.bytes.now)) (sym c.new-frames.ensures) (All-nil (IsWithin c.args.bytes.now));
      begun = begun;
    }

pub loop-place-preserved : goal.loop-place-preserved
loop-place-preserved c =
    let moves = frame_moves c.args.bytes.now c.loop-place.last c.loop-place.place c.in-Some.frame.end (frame_at c.args.bytes.now c.in-Some.frame)
    c.in-Some.ensures.0 in
    let s = sections_more c.args.bytes.now c.loop-place.last c.loop-place.place c.in-Some.frame.end (map (frame_at c.args.bytes.now) c.loop-place.frames)
    (frame_at c.args.bytes.now c.in-Some.frame) c.loop-place.invariant.so_far c.in-Some.ensures.0 in
    let list : map (frame_at c.args.bytes.now) c.push.new.self ≡ map (frame_at c.args.bytes.now) c.loop-place.frames ++ frame_at c.args.bytes.now
    c.in-Some.frame ∷ [] = ap (map (frame_at c.args.bytes.now)) c.in-Ok.ensures.ok ∙ map-append (frame_at c.args.bytes.now) c.loop-place.frames
    (c.in-Some.frame ∷ []) in
    record {
      so_far = subst (λ (n : ℕ). Stands (Sections n) c.args.bytes.now 8 c.in-Some.frame.end (map (frame_at c.args.bytes.now) c.push.new.self))
          (sym c.max-last.ensures) (subst (λ (fs : List Section). Stands (Sections (max c.loop-place.last c.in-Some.frame.id)) c.args.bytes.now 8
          c.in-Some.frame.end fs) (sym list) s);
      few = omega (arith, ap length c.in-Ok.ensures.ok, length-append c.loop-place.frames (c.in-Some.frame ∷ []), moves, c.loop-place.invariant.few);
      all_within = subst (All (IsWithin c.args.bytes.now)) (sym c.in-Ok.ensures.ok) (All-push (IsWithin c.args.bytes.now) c.loop-place.frames c.in-Some.frame
          c.loop-place.invariant.all_within c.in-Some.ensures.1);
      begun = c.loop-place.invariant.begun;
    }

pub loop-place-smaller : goal.loop-place-smaller
loop-place-smaller c =
    let moves : c.loop-place.place < c.in-Some.frame.end = frame_moves c.args.bytes.now c.loop-place.last c.loop-place.place c.in-Some.frame.end
    (frame_at c.args.bytes.now c.in-Some.frame) c.in-Some.ensures.0 in
    omega (arith, c.loop-place-test.true)

pub returns : goal.returns
returns c =
    let end : c.loop-place.place ≡ length c.args.bytes.now = omega (arith, within c.loop-place.invariant.so_far, c.loop-place-test.false) in (
      record {
        begun = c.loop-place.invariant.begun;
        final = c.loop-place.last;
        framed = subst (λ (n : ℕ). Stands (Sections c.loop-place.last) c.args.bytes.now 8 n (map (frame_at c.args.bytes.now) c.loop-place.frames)) end
            c.loop-place.invariant.so_far;
      },
      c.loop-place.invariant.all_within,
      omega (arith, c.loop-place.invariant.few, end, c.requires),
    )

pub returns-in_default : goal.returns-in_default
returns-in_default c = record {
  begun = c.loop-place.invariant.begun;
  frames = map (frame_at c.args.bytes.now) c.loop-place.frames;
  count = length-map c.loop-place.frames (frame_at c.args.bytes.now) ∙ sym c.len.ensures;
  place = c.loop-place.place;
  final = c.loop-place.last;
  framed = c.loop-place.invariant.so_far;
  within = c.loop-place-test.true;
  none = c.in_default.ensures;
}
