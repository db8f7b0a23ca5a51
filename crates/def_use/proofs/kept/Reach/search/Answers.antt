use Rattle.std.proofs.Common.{◌≡◌, ap, ◌∙◌}
use Rattle.def_use.specs.Places.{place_of, point_at}
use Rattle.def_use.proofs.Backwards.{place_is}
use Rattle.def_use.proofs.Keeping.{keeps_one}
use Rattle.def_use.proofs.kept.Reach.search.Goals as goal

pub returns-clause-keeps : goal.returns-clause-keeps
returns-clause-keeps c =
    let graph = c.requires.graph in
    let g = c.args.cfg.now in
    let old = c.args.self.now in
    let at = place_is graph.0 graph.1.0 g graph.1.1 old.tables.places.items c.requires.made.places c.args.point c.requires.point in
    let place : c.place_of-place.result ≡ place_of old.tables.places.items c.args.point = rw c.deref.ensures.value at c.place_of-place.ensures in
    keeps_one g c.args.locs.now old c.keep.new.self c.place_of-place.result c.args.loc c.args.point c.in_ok-defs.defs c.requires.made c.requires.right
    (ap (point_at g.points) place ∙ at.1) c.in_ok-defs.ensures.answer c.keep.ensures.tables (c.keep.ensures.size ∙ c.find.ensures.size) c.keep.ensures.others
