use Rattle.std.proofs.Common.{◌≡◌, ◌<◌, ◌+◌, ◌∙◌, ◌++◌, ◌∷◌, true, List, length, drop, reverse, refl, ap, ap₂, sym, subst, arith}
use Rattle.std.proofs.Math.ListN.{drop_of_length-le}
use Rattle.wasm_types.specs.declared.instr.Instr.{Instr}
use Rattle.wasm_types.specs.declared.instr.Instr.TheVariants as v
use Rattle.wasm_types.specs.declared.place.Node.{Node}
use Rattle.wasm_types.specs.Code.{done, onto, code_of, is_plain}
use Rattle.wasm_types.specs.Nodes.{At, Join}
use Rattle.wasm_types.proofs.CodeLemmas.{plain_is, count-next, code-next}
use Rattle.block_cfg.proofs.WalkLemmas.{block_count, loop_count, if_count, plain_count}
use Rattle.slice_closure.specs.declared.spot.Came.{Came}
use Rattle.slice_closure.specs.Flow.{holder, fork, leaves, where_came, Walks, WalksInner}
use Rattle.slice_closure.proofs.Walking.{block_walks, loop_walks, if_walks, plain_walks, inner_longer, passed_longer, walks_longer, walks_none, leaves_next}
use Rattle.slice_closure.proofs.walk.+walk.Goals as goal

pub walk_code-loop-instr-init : goal.walk_code-loop-instr-init
walk_code-loop-instr-init t c = record { labels_are = refl; room = c.requires; found = λ new end w. w; smaller = omega arith }

pub walk_code-walk_instr-requires : goal.walk_code-walk_instr-requires
walk_code-walk_instr-requires t c =
    let lt : c.loop-instr.instr-index < length c.args.code.now = omega arith in
    let step = count-next c.args.code.now c.loop-instr.instr-index c.instr-item.result lt c.instr-item.is in
    (omega arith, omega (arith, c.loop-instr.invariant.room))

pub walk_code-loop-instr-preserved : goal.walk_code-loop-instr-preserved
walk_code-loop-instr-preserved t c =
    let inv = c.loop-instr.invariant in
    let i = c.instr-item.result in
    let lt : c.loop-instr.instr-index < length c.args.code.now = omega arith in
    let step = count-next c.args.code.now c.loop-instr.instr-index i lt c.instr-item.is in
    let next = code-next c.args.code.now c.loop-instr.instr-index i lt c.instr-item.is in
    let rest = code_of (drop (c.loop-instr.instr-index + 1) c.args.code.now) in
    let longer = walks_longer (reverse c.loop-instr.labels.items) c.loop-instr.end (onto i done) c.loop-instr.trail c.walk_instr.new.trail c.in_ok-end.end
    c.in_ok-end.ensures.found in
    let walked = subst (λ (ls : List Node). Walks (reverse ls) c.loop-instr.end (onto i done) c.loop-instr.trail c.walk_instr.new.trail c.in_ok-end.end)
    inv.labels_are c.in_ok-end.ensures.found in
    record {
      labels_are = c.in_ok-end.ensures.labels ∙ inv.labels_are;
      room = omega (arith, inv.room);
      found =
          leaves_next (reverse c.args.labels.now.items) c.args.came c.loop-instr.end c.in_ok-end.end i rest
          (code_of (drop c.loop-instr.instr-index c.args.code.now)) (code_of c.args.code.now) c.args.trail.now c.loop-instr.trail c.walk_instr.new.trail next
          inv.found walked;
      smaller = omega arith;
    }

pub walk_code-returns-clause-found : goal.walk_code-returns-clause-found
walk_code-returns-clause-found t c =
    let none = drop_of_length-le c.args.code.now c.loop-instr-test.false in
    c.loop-instr.invariant.found c.loop-instr.trail c.loop-instr.end
    (walks_none (reverse c.args.labels.now.items) c.loop-instr.end (code_of (drop c.loop-instr.instr-index c.args.code.now)) c.loop-instr.trail
    (ap code_of none))

pub walk_instr-pass_plain-requires : goal.walk_instr-pass_plain-requires
walk_instr-pass_plain-requires t c =
    let plain : is_plain c.args.instr.now ≡ true = plain_is _ c.in_default.not-Block c.in_default.not-Loop c.in_default.not-If in
    let n = plain_count c.args.instr.now plain in
    omega (arith, c.requires)

pub walk_instr-returns-in_ok-end-in_default : goal.walk_instr-returns-in_ok-end-in_default
walk_instr-returns-in_ok-end-in_default t c =
    let plain : is_plain c.args.instr.now ≡ true = plain_is _ c.in_default.not-Block c.in_default.not-Loop c.in_default.not-If in
    let old = c.args.trail.now in
    let new = c.pass_plain.new.self in
    record {
      labels = refl;
      found =
          plain_walks (reverse c.args.labels.now.items) c.args.came c.in_ok-end-in_default.end c.args.instr.now old new plain
          c.in_ok-end-in_default.ensures.spots
          (subst (λ (ls : List Node). new.ways.items ≡ old.ways.items ++ where_came c.args.came (leaves (reverse ls) c.args.instr.now (length old.spots.items)))
          c.deref.ensures.value c.in_ok-end-in_default.ensures.ways)
          c.in_ok-end-in_default.ensures.came;
    }

pub walk_instr-here-pos-requires : goal.walk_instr-here-pos-requires
walk_instr-here-pos-requires t c =
    let n = block_count c.args.instr.now c.in-Block.field-0 c.in-Block.inner c.in-Block.is in
    omega (arith, c.requires)

pub walk_instr-walk_inner-requires : goal.walk_instr-walk_inner-requires
walk_instr-walk_inner-requires t c =
    let is : c.args.instr.now ≡ v.Block c.in-Block.field-0 c.as_slice.result.now = c.in-Block.is ∙ ap (λ z. v.Block c.in-Block.field-0 z) (sym c.as_slice.ensures) in
    let n = block_count c.args.instr.now c.in-Block.field-0 c.as_slice.result.now is in
    let longer = passed_longer (holder c.args.came) c.args.trail.now.spots.items c.pass.new.self.spots.items c.in_ok-pass-in-Block.ensures.spots in
    (omega arith, omega (arith, c.requires))

pub walk_instr-returns-in_ok-walk_inner-in-Block-clause-found : goal.walk_instr-returns-in_ok-walk_inner-in-Block-clause-found
walk_instr-returns-in_ok-walk_inner-in-Block-clause-found t c =
    let xs = c.as_slice.result.now in
    let is : c.args.instr.now ≡ v.Block c.in-Block.field-0 xs = c.in-Block.is ∙ ap (λ z. v.Block c.in-Block.field-0 z) (sym c.as_slice.ensures) in
    let labels = reverse c.args.labels.now.items in
    let p = c.here-pos.result.0 in
    let walked = subst (λ (z : Came). WalksInner (Join p ∷ labels) z (code_of xs) (Join p) c.pass.new.self c.walk_inner.new.trail) c.through-inside.ensures
    c.in_ok-walk_inner-in-Block.ensures.found in
    subst (λ (z : Came). Walks labels c.args.came (onto c.args.instr.now done) c.args.trail.now c.walk_inner.new.trail z) (sym c.through.ensures)
    (block_walks labels c.args.came (holder c.args.came) c.args.trail.now c.pass.new.self p c.here-pos.ensures c.in_ok-pass-in-Block.ensures.spots
    c.in_ok-pass-in-Block.ensures.ways refl c.args.instr.now c.in-Block.field-0 xs is c.walk_inner.new.trail walked)

pub walk_instr-here-pos-requires-in-Loop : goal.walk_instr-here-pos-requires-in-Loop
walk_instr-here-pos-requires-in-Loop t c =
    let n = loop_count c.args.instr.now c.in-Loop.field-0 c.in-Loop.inner c.in-Loop.is in
    omega (arith, c.requires)

pub walk_instr-walk_inner-requires-in-Loop : goal.walk_instr-walk_inner-requires-in-Loop
walk_instr-walk_inner-requires-in-Loop t c =
    let is : c.args.instr.now ≡ v.Loop c.in-Loop.field-0 c.as_slice-in-Loop.result.now = c.in-Loop.is ∙ ap (λ z. v.Loop c.in-Loop.field-0 z) (sym c.as_slice-in-Loop.ensures) in
    let n = loop_count c.args.instr.now c.in-Loop.field-0 c.as_slice-in-Loop.result.now is in
    let longer = passed_longer (holder c.args.came) c.args.trail.now.spots.items c.pass-in-Loop.new.self.spots.items c.in_ok-pass-in-Loop.ensures.spots in
    (omega arith, omega (arith, c.requires))

pub walk_instr-returns-in_ok-walk_inner-in-Loop-clause-found : goal.walk_instr-returns-in_ok-walk_inner-in-Loop-clause-found
walk_instr-returns-in_ok-walk_inner-in-Loop-clause-found t c =
    let xs = c.as_slice-in-Loop.result.now in
    let is : c.args.instr.now ≡ v.Loop c.in-Loop.field-0 xs = c.in-Loop.is ∙ ap (λ z. v.Loop c.in-Loop.field-0 z) (sym c.as_slice-in-Loop.ensures) in
    let labels = reverse c.args.labels.now.items in
    let p = c.here-pos-in-Loop.result.0 in
    let walked = subst (λ (z : Came). WalksInner (At p ∷ labels) z (code_of xs) (Join p) c.pass-in-Loop.new.self c.walk_inner-in-Loop.new.trail) c.through-inside-in-Loop.ensures
    c.in_ok-walk_inner-in-Loop.ensures.found in
    subst (λ (z : Came). Walks labels c.args.came (onto c.args.instr.now done) c.args.trail.now c.walk_inner-in-Loop.new.trail z) (sym c.through-in-Loop.ensures)
    (loop_walks labels c.args.came (holder c.args.came) c.args.trail.now c.pass-in-Loop.new.self p c.here-pos-in-Loop.ensures
    c.in_ok-pass-in-Loop.ensures.spots c.in_ok-pass-in-Loop.ensures.ways refl c.args.instr.now c.in-Loop.field-0 xs is c.walk_inner-in-Loop.new.trail walked)

pub walk_instr-here-pos-requires-in-If : goal.walk_instr-here-pos-requires-in-If
walk_instr-here-pos-requires-in-If t c =
    let n = if_count c.args.instr.now c.in-If.field-0 c.in-If.first c.in-If.second c.in-If.is in
    omega (arith, c.requires)

pub walk_instr-walk_inner-requires-in-If : goal.walk_instr-walk_inner-requires-in-If
walk_instr-walk_inner-requires-in-If t c =
    let xs = c.as_slice-in-If.result.now in
    let is : c.args.instr.now ≡ v.If c.in-If.field-0 xs c.in-If.second =
    c.in-If.is ∙ ap (λ (a : List Instr). v.If c.in-If.field-0 a c.in-If.second) (sym c.as_slice-in-If.ensures) in
    let n = if_count c.args.instr.now c.in-If.field-0 xs c.in-If.second is in
    let longer = passed_longer (fork c.args.came) c.args.trail.now.spots.items c.pass-in-If.new.self.spots.items c.in_ok-pass-in-If.ensures.spots in
    (omega arith, omega (arith, c.requires))

pub walk_instr-walk_inner-requires-in-If-2 : goal.walk_instr-walk_inner-requires-in-If-2
walk_instr-walk_inner-requires-in-If-2 t c =
    let xs = c.as_slice-in-If.result.now in
    let ys = c.as_slice-in-If-2.result.now in
    let is : c.args.instr.now ≡ v.If c.in-If.field-0 xs ys =
    c.in-If.is ∙ ap₂ (λ (a b : List Instr). v.If c.in-If.field-0 a b) (sym c.as_slice-in-If.ensures) (sym c.as_slice-in-If-2.ensures) in
    let n = if_count c.args.instr.now c.in-If.field-0 xs ys is in
    let longer = passed_longer (fork c.args.came) c.args.trail.now.spots.items c.pass-in-If.new.self.spots.items c.in_ok-pass-in-If.ensures.spots in
    let more = inner_longer _ c.through-inside-in-If.result (code_of xs) _ c.pass-in-If.new.self c.walk_inner-in-If.new.trail
    c.in_ok-walk_inner-in-If.ensures.found in
    (omega arith, omega (arith, c.requires))

pub walk_instr-returns-in_ok-walk_inner-in-If-2-clause-found : goal.walk_instr-returns-in_ok-walk_inner-in-If-2-clause-found
walk_instr-returns-in_ok-walk_inner-in-If-2-clause-found t c =
    let xs = c.as_slice-in-If.result.now in
    let ys = c.as_slice-in-If-2.result.now in
    let is : c.args.instr.now ≡ v.If c.in-If.field-0 xs ys =
    c.in-If.is ∙ ap₂ (λ (a b : List Instr). v.If c.in-If.field-0 a b) (sym c.as_slice-in-If.ensures) (sym c.as_slice-in-If-2.ensures) in
    let labels = reverse c.args.labels.now.items in
    let p = c.here-pos-in-If.result.0 in
    let mid = c.pass-in-If.new.self in
    let half = c.walk_inner-in-If.new.trail in
    let new = c.walk_inner-in-If-2.new.trail in
    let first = subst (λ (z : Came). WalksInner (Join p ∷ labels) z (code_of xs) (Join p) mid half) c.through-inside-in-If.ensures
    c.in_ok-walk_inner-in-If.ensures.found in
    let second = subst (λ (z : Came). WalksInner (Join p ∷ labels) z (code_of ys) (Join p) half new) c.through-inside-in-If.ensures
    (subst (λ (ls : List Node). WalksInner (Join p ∷ reverse ls) c.through-inside-in-If.result (code_of ys) (Join p) half new)
    c.in_ok-walk_inner-in-If.ensures.labels c.in_ok-walk_inner-in-If-2.ensures.found) in
    subst (λ (z : Came). Walks labels c.args.came (onto c.args.instr.now done) c.args.trail.now new z) (sym c.through-in-If.ensures)
    (if_walks labels c.args.came (fork c.args.came) c.args.trail.now mid p c.here-pos-in-If.ensures c.in_ok-pass-in-If.ensures.spots
    c.in_ok-pass-in-If.ensures.ways refl c.args.instr.now c.in-If.field-0 xs ys is half new first second)
