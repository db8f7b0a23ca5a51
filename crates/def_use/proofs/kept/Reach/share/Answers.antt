use Rattle.std.proofs.Common.{rules, ◌≡◌, ◌∙◌, ap}
use Rattle.def_use.specs.Answers.{IsAnswer}
use Rattle.def_use.specs.Kept.{Keeps}
use Rattle.def_use.specs.Places.{place_of, point_at}
use Rattle.def_use.proofs.Backwards.{place_is}
use Rattle.def_use.proofs.Keeping.{keeps_one, keeps_same, keeps_then}
use Rattle.def_use.proofs.kept.Reach.share.Goals.{then-is_none+in_ok-search, else-is_none}
use Rattle.def_use.proofs.kept.Reach.share.Goals as goal

pub returns-clause-keeps : goal.returns-clause-keeps
returns-clause-keeps c =
    let graph = c.requires.graph in
    let g = c.args.cfg.now in
    let T = c.args.locs.now in
    let old = c.args.self.now in
    let mid = c.if-is_none.self in
    let before : Keeps g T old mid = elim c.if-is_none.branch [
      | then-is_none+in_ok-search w ↦ rw w.self-is w.search.ensures.keeps
      | else-is_none w ↦ rw w.self-is (keeps_same g T old c.requires.made c.requires.right)
    ] in
    let at = place_is graph.0 graph.1.0 g graph.1.1 mid.tables.places.items before.made.places c.args.point c.requires.point in
    let place : c.place_of-place.result ≡ place_of mid.tables.places.items c.args.point = rw c.deref.ensures.value at c.place_of-place.ensures in
    let same : c.in_ok-copy.copy.items ≡ c.in-Some.defs.now = search rules in
    let right : IsAnswer g T c.args.loc c.args.top c.in-Some.defs.now = c.in-Some.ensures.answer T before.right in
    keeps_then g T old mid c.keep.new.self before
    (keeps_one g T mid c.keep.new.self c.place_of-place.result c.args.loc c.args.point c.in_ok-copy.copy before.made before.right
    (ap (point_at g.points) place ∙ at.1) (rw same (c.requires.serves c.in-Some.defs.now right)) c.keep.ensures.tables
    c.keep.ensures.size c.keep.ensures.others)
