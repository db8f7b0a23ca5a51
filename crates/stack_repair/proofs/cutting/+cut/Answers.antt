use Rattle.std.proofs.Common.{◌≡◌, ◌≤◌, ◌<◌, ◌+◌, ◌^◌, ◌∷◌, [], ◌++◌, ◌∙◌, List, length, drop, nat_eq, refl, sym, ap, ap₂, arith, true}
use Rattle.wasm_types.specs.declared.instr.Instr.{Instr}
use Rattle.wasm_types.specs.declared.instr.Instr.TheVariants as v
use Rattle.wasm_types.specs.Code.{code_of, count, done, onto, is_plain}
use Rattle.wasm_types.proofs.CodeLemmas.{plain_is, count-next, code-next}
use Rattle.stack_names.proofs.SkipLemmas.{count-block, count-loop, count-if, count-one}
use Rattle.stack_repair.specs.Told.{put_in, told}
use Rattle.stack_repair.proofs.Steps.{count_some, puts_next, kept_plain, kept_block, kept_loop, kept_if}
use Rattle.stack_repair.proofs.cutting.+cut.Goals as goal

pub cut_code-cut_next-requires : goal.cut_code-cut_next-requires
cut_code-cut_next-requires t c =
    let lt : c.loop-instr.instr-index < length c.args.code.now = omega arith in
    let step = count-next c.args.code.now c.loop-instr.instr-index c.instr-item.result lt c.instr-item.is in
    let whole : c.args.tally.now.pos + count (code_of c.args.code.now) < 2 ^ 32 = c.requires in
    let room : c.loop-instr.tally.pos + count (code_of (drop c.loop-instr.instr-index c.args.code.now)) ≡ c.args.tally.now.pos + count (code_of c.args.code.now) = c.loop-instr.invariant.room in
    let smaller : count (code_of (drop c.loop-instr.instr-index c.args.code.now)) ≤ count (code_of c.args.code.now) = c.loop-instr.invariant.smaller in
    (omega arith, omega arith)

pub cut_code-loop-instr-preserved : goal.cut_code-loop-instr-preserved
cut_code-loop-instr-preserved t c =
    let lt : c.loop-instr.instr-index < length c.args.code.now = omega arith in
    let step = count-next c.args.code.now c.loop-instr.instr-index c.instr-item.result lt c.instr-item.is in
    let next = code-next c.args.code.now c.loop-instr.instr-index c.instr-item.result lt c.instr-item.is in
    let room : c.loop-instr.tally.pos + count (code_of (drop c.loop-instr.instr-index c.args.code.now)) ≡ c.args.tally.now.pos + count (code_of c.args.code.now) = c.loop-instr.invariant.room in
    let smaller : count (code_of (drop c.loop-instr.instr-index c.args.code.now)) ≤ count (code_of c.args.code.now) = c.loop-instr.invariant.smaller in
    let moved : c.cut_next.new.tally.pos ≡ c.loop-instr.tally.pos + count (onto c.instr-item.result done) = c.in_ok-live.ensures.pos in
    let D = told c.args.plan.now in
    let rest = code_of (drop (c.loop-instr.instr-index + 1) c.args.code.now) in
    record {
      puts = puts_next D c.args.left c.instr-item.result rest (code_of (drop c.loop-instr.instr-index c.args.code.now)) c.loop-instr.tally.pos c.cut_next.new.tally.pos c.loop-instr.live c.in_ok-live.live
          [] c.loop-instr.made c.cut_next.new.made c.args.tally.now c.loop-instr.tally c.cut_next.new.tally (put_in D c.args.left (code_of c.args.code.now) c.args.tally.now.pos)
          next c.loop-instr.invariant.puts (c.in_ok-live.ensures.puts rest);
      smaller = omega arith;
      room = omega arith;
    }

pub keep-overflow_add-tally : goal.keep-overflow_add-tally
keep-overflow_add-tally t c = omega (arith, c.put.ensures.pos, c.requires.room, count_some c.args.instr.now)

pub keep-cut_code-requires : goal.keep-cut_code-requires
keep-cut_code-requires t c =
    let cnt = count-block c.args.instr.now c.in-Block.kind c.in-Block.inner c.in-Block.is in
    let same : count (code_of c.as_slice.result.now) ≡ count (code_of c.in-Block.inner) = ap (λ (z : List Instr). count (code_of z)) c.as_slice.ensures in
    let at = c.put.ensures.pos in
    let room = c.requires.room in
    (omega arith, omega arith)

pub keep-cut_code-requires-in-Loop : goal.keep-cut_code-requires-in-Loop
keep-cut_code-requires-in-Loop t c =
    let cnt = count-loop c.args.instr.now c.in-Loop.kind c.in-Loop.inner c.in-Loop.is in
    let same : count (code_of c.as_slice-in-Loop.result.now) ≡ count (code_of c.in-Loop.inner) = ap (λ (z : List Instr). count (code_of z)) c.as_slice-in-Loop.ensures in
    let at = c.put.ensures.pos in
    let room = c.requires.room in
    (omega arith, omega arith)

pub keep-cut_code-requires-in-If : goal.keep-cut_code-requires-in-If
keep-cut_code-requires-in-If t c =
    let cnt = count-if c.args.instr.now c.in-If.kind c.in-If.first c.in-If.second c.in-If.is in
    let same : count (code_of c.as_slice-in-If.result.now) ≡ count (code_of c.in-If.first) = ap (λ (z : List Instr). count (code_of z)) c.as_slice-in-If.ensures in
    let at = c.put.ensures.pos in
    let room = c.requires.room in
    (omega arith, omega arith)

pub keep-cut_code-requires-in-If-2 : goal.keep-cut_code-requires-in-If-2
keep-cut_code-requires-in-If-2 t c =
    let cnt = count-if c.args.instr.now c.in-If.kind c.in-If.first c.in-If.second c.in-If.is in
    let same1 : count (code_of c.as_slice-in-If.result.now) ≡ count (code_of c.in-If.first) = ap (λ (z : List Instr). count (code_of z)) c.as_slice-in-If.ensures in
    let same2 : count (code_of c.as_slice-in-If-2.result.now) ≡ count (code_of c.in-If.second) = ap (λ (z : List Instr). count (code_of z)) c.as_slice-in-If-2.ensures in
    let at = c.put.ensures.pos in
    let room = c.requires.room in
    let moved = c.in_ok-first-in-If.ensures.pos in
    (omega arith, omega arith)

pub keep-returns-in_ok-push-in-Block-clause-pos : goal.keep-returns-in_ok-push-in-Block-clause-pos
keep-returns-in_ok-push-in-Block-clause-pos t c =
    let cnt = count-block c.args.instr.now c.in-Block.kind c.in-Block.inner c.in-Block.is in
    let same : count (code_of c.as_slice.result.now) ≡ count (code_of c.in-Block.inner) = ap (λ (z : List Instr). count (code_of z)) c.as_slice.ensures in
    let at = c.put.ensures.pos in
    let moved = c.in_ok-inner-in-Block.ensures.pos in
    omega arith

pub keep-returns-in_ok-push-in-Block-clause-puts : goal.keep-returns-in_ok-push-in-Block-clause-puts
keep-returns-in_ok-push-in-Block-clause-puts t c = λ rest.
    let at = c.put.ensures.pos in
    let moved = c.in_ok-inner-in-Block.ensures.pos in
    kept_block (told c.args.plan.now) c.args.left c.in-Block.kind c.args.instr.now c.as_slice.result.now c.in_ok-inner-in-Block.inner rest c.args.tally.now.pos (c.put.new.self.pos + 1) c.cut_code.new.tally.pos
    c.args.made.now c.push.new.self c.args.tally.now c.put.new.self c.cut_code.new.tally (nat_eq c.args.plan.now.watched.0 c.args.tally.now.pos)
    (c.in-Block.is ∙ ap (λ (z : List Instr). v.Block c.in-Block.kind z) (sym c.as_slice.ensures)) c.requires.kept (omega arith) (omega arith) refl
    c.in_ok-inner-in-Block.ensures.code c.in_ok-push-in-Block.ensures.ok c.put.ensures.place c.in_ok-inner-in-Block.ensures.place

pub keep-returns-in_ok-push-in-Loop-clause-pos : goal.keep-returns-in_ok-push-in-Loop-clause-pos
keep-returns-in_ok-push-in-Loop-clause-pos t c =
    let cnt = count-loop c.args.instr.now c.in-Loop.kind c.in-Loop.inner c.in-Loop.is in
    let same : count (code_of c.as_slice-in-Loop.result.now) ≡ count (code_of c.in-Loop.inner) = ap (λ (z : List Instr). count (code_of z)) c.as_slice-in-Loop.ensures in
    let at = c.put.ensures.pos in
    let moved = c.in_ok-inner-in-Loop.ensures.pos in
    omega arith

pub keep-returns-in_ok-push-in-Loop-clause-puts : goal.keep-returns-in_ok-push-in-Loop-clause-puts
keep-returns-in_ok-push-in-Loop-clause-puts t c = λ rest.
    let at = c.put.ensures.pos in
    let moved = c.in_ok-inner-in-Loop.ensures.pos in
    kept_loop (told c.args.plan.now) c.args.left c.in-Loop.kind c.args.instr.now c.as_slice-in-Loop.result.now c.in_ok-inner-in-Loop.inner rest c.args.tally.now.pos (c.put.new.self.pos + 1) c.cut_code-in-Loop.new.tally.pos
    c.args.made.now c.push-in-Loop.new.self c.args.tally.now c.put.new.self c.cut_code-in-Loop.new.tally (nat_eq c.args.plan.now.watched.0 c.args.tally.now.pos)
    (c.in-Loop.is ∙ ap (λ (z : List Instr). v.Loop c.in-Loop.kind z) (sym c.as_slice-in-Loop.ensures)) c.requires.kept (omega arith) (omega arith) refl
    c.in_ok-inner-in-Loop.ensures.code c.in_ok-push-in-Loop.ensures.ok c.put.ensures.place c.in_ok-inner-in-Loop.ensures.place

pub keep-returns-in_ok-push-in-If-clause-pos : goal.keep-returns-in_ok-push-in-If-clause-pos
keep-returns-in_ok-push-in-If-clause-pos t c =
    let cnt = count-if c.args.instr.now c.in-If.kind c.in-If.first c.in-If.second c.in-If.is in
    let same1 : count (code_of c.as_slice-in-If.result.now) ≡ count (code_of c.in-If.first) = ap (λ (z : List Instr). count (code_of z)) c.as_slice-in-If.ensures in
    let same2 : count (code_of c.as_slice-in-If-2.result.now) ≡ count (code_of c.in-If.second) = ap (λ (z : List Instr). count (code_of z)) c.as_slice-in-If-2.ensures in
    let at = c.put.ensures.pos in
    let moved1 = c.in_ok-first-in-If.ensures.pos in
    let moved2 = c.in_ok-second-in-If.ensures.pos in
    omega arith

pub keep-returns-in_ok-push-in-If-clause-puts : goal.keep-returns-in_ok-push-in-If-clause-puts
keep-returns-in_ok-push-in-If-clause-puts t c = λ rest.
    let at = c.put.ensures.pos in
    let moved1 = c.in_ok-first-in-If.ensures.pos in
    let moved2 = c.in_ok-second-in-If.ensures.pos in
    kept_if (told c.args.plan.now) c.args.left c.in-If.kind c.args.instr.now c.as_slice-in-If.result.now c.as_slice-in-If-2.result.now c.in_ok-first-in-If.first c.in_ok-second-in-If.second rest
    c.args.tally.now.pos (c.put.new.self.pos + 1) c.cut_code-in-If-2.new.tally.pos c.cut_code-in-If.new.tally.pos
    c.args.made.now c.push-in-If.new.self c.args.tally.now c.put.new.self c.cut_code-in-If.new.tally c.cut_code-in-If-2.new.tally (nat_eq c.args.plan.now.watched.0 c.args.tally.now.pos)
    (c.in-If.is ∙ ap₂ {A = List Instr} {B = List Instr} (λ x y. v.If c.in-If.kind x y) (sym c.as_slice-in-If.ensures) (sym c.as_slice-in-If-2.ensures)) c.requires.kept (omega arith) (omega arith) (omega arith) refl
    c.in_ok-first-in-If.ensures.code c.in_ok-second-in-If.ensures.code c.in_ok-push-in-If.ensures.ok c.put.ensures.place c.in_ok-first-in-If.ensures.place c.in_ok-second-in-If.ensures.place

pub keep-returns-in_ok-push-in_default : goal.keep-returns-in_ok-push-in_default
keep-returns-in_ok-push-in_default t c =
    let plain : is_plain c.args.instr.now ≡ true = plain_is _ c.in_default.not-Block c.in_default.not-Loop c.in_default.not-If in
    let one = count-one c.args.instr.now plain in
    let at = c.put.ensures.pos in
    record {
      pos = omega arith;
      puts = λ rest.
          kept_plain (told c.args.plan.now) c.args.left c.args.instr.now rest c.args.tally.now.pos (c.put.new.self.pos + 1) c.args.made.now c.push-in_default.new.self c.args.tally.now c.put.new.self
          (nat_eq c.args.plan.now.watched.0 c.args.tally.now.pos) c.goes_on.result plain c.requires.kept (omega arith) refl c.goes_on.ensures
          (c.in_ok-push-in_default.ensures.ok ∙ ap (λ (z : Instr). c.args.made.now ++ z ∷ []) c.in_ok-copy-in_default.ensures) c.put.ensures.place;
    }
