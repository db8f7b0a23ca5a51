use Rattle.std.proofs.Common.{rules, arith, ◌≡◌, ◌++◌, ◌∷◌, [], ◌∙◌, sym, ap, get_or, take}
use Rattle.std.proofs.Math.Seq.{take_all}
use Rattle.std.proofs.lemmas.List.Elements.{All-contains_itself}
use Rattle.wasm_types.specs.declared.place.Node.{Node}
use Rattle.wasm_types.specs.declared.place.Node.TheVariants as node
use Rattle.worklist.proofs.Pushing.{gains_each}
use Rattle.single_entry.specs.Climbs.{Tops}
use Rattle.single_entry.proofs.Climbing.{tops_once}
use Rattle.def_use.specs.Places.{place_of}
use Rattle.def_use.proofs.Backwards.{point_same, top_fits, gains_earlier}
use Rattle.def_use.proofs.back.Back.push_earlier.Goals as goal

pub before-earlier-items-requires : goal.before-earlier-items-requires
before-earlier-items-requires c = rw c.points.ensures (All-contains_itself c.args.self.now.cfg.now.points c.args.place _ c.requires)

pub climb-top-requires : goal.climb-top-requires
climb-top-requires c = c.args.self.now.rising

pub place_of-top_place-requires : goal.place_of-top_place-requires
place_of-top_place-requires c =
    let back = c.args.self.now in
    let g = back.cfg.now in
    let d : Node = node.At (record { 0 = 0 }) in
    top_fits g back.skips.now back.places.now back.writers.now back.placed back.tops c.before-earlier-items.result.now (get_or g.points c.args.place d)
    c.climb-top.result c.loop-earlier.earlier-index d
    (rw c.points.ensures at c.before-earlier-items.ensures) c.loop-earlier-test.true c.climb-top.ensures

pub loop-earlier-preserved : goal.loop-earlier-preserved
loop-earlier-preserved c =
    let back = c.args.self.now in
    let d : Node = node.At (record { 0 = 0 }) in
    let list = c.before-earlier-items.result.now in
    let pushed : c.push.new.self.items ≡ c.loop-earlier.next.items ++ c.place_of-top_place.result ∷ [] = search rules in
    gains_each list c.loop-earlier.earlier-index d
    (λ a y. (b : Node) × (Tops back.skips.now back.writers.now a b × (y ≡ place_of back.places.now b)))
    c.place_of-top_place.result c.args.next.now.items c.loop-earlier.next.items c.push.new.self.items
    c.loop-earlier-test.true (c.climb-top.result, (c.climb-top.ensures, c.place_of-top_place.ensures))
    (λ y (b, (top, e)). e ∙ (ap (place_of back.places.now) (tops_once back.skips.now back.writers.now _ b c.climb-top.result top c.climb-top.ensures) ∙
    sym c.place_of-top_place.ensures))
    c.loop-earlier.invariant pushed

pub returns : goal.returns
returns c =
    let back = c.args.self.now in
    let g = back.cfg.now in
    let d : Node = node.At (record { 0 = 0 }) in
    let list = c.before-earlier-items.result.now in
    gains_earlier g back.skips.now back.places.now back.writers.now c.args.place list (take c.loop-earlier.earlier-index list) (get_or g.points c.args.place d)
    c.args.next.now.items c.loop-earlier.next.items
    (rw c.points.ensures at c.before-earlier-items.ensures) (point_same g.points c.args.place d c.requires)
    (take_all c.loop-earlier.earlier-index list (omega arith)) c.loop-earlier.invariant
