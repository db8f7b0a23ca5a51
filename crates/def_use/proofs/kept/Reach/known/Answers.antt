use Rattle.std.proofs.Common.{rules, ◌≡◌, ◌∙◌, Some, None, true≢false, is_some, subst, sym, ap}
use Rattle.def_use.specs.Answers.{IsAnswer}
use Rattle.def_use.specs.Places.{place_of, point_at}
use Rattle.def_use.specs.Kept.{answer_at}
use Rattle.def_use.proofs.Backwards.{place_is, point_fits}
use Rattle.def_use.proofs.kept.Reach.known.Goals as goal

pub place_of-place-requires : goal.place_of-place-requires
place_of-place-requires c =
    let graph = c.requires.graph in
    rw c.deref.ensures.value (point_fits graph.0 graph.1.0 c.args.cfg.now graph.1.1 c.args.self.now.tables.places.items c.requires.made.places c.args.point
    c.requires.point)

pub returns-in-Some-clause-answer : goal.returns-in-Some-clause-answer
returns-in-Some-clause-answer c = λ T right.
    let graph = c.requires.graph in
    let g = c.args.cfg.now in
    let self = c.args.self.now in
    let at = place_is graph.0 graph.1.0 g graph.1.1 self.tables.places.items c.requires.made.places c.args.point c.requires.point in
    let place : c.place_of-place.result ≡ place_of self.tables.places.items c.args.point = rw c.deref.ensures.value at c.place_of-place.ensures in
    let there : answer_at self c.place_of-place.result c.args.loc ≡ Some c.in-Some.defs.now = search rules in
    let answer = right.answers c.place_of-place.result c.args.loc c.in-Some.defs.now there in
    rw c.as_slice.ensures.value (subst (λ n. IsAnswer g T c.args.loc n c.in-Some.defs.now.items) (ap (point_at g.points) place ∙ at.1) answer)

pub returns-in-None-clause-there : goal.returns-in-None-clause-there
returns-in-None-clause-there c =
    let self = c.args.self.now in
    let place : c.place_of-place.result ≡ place_of self.tables.places.items c.args.point = rw c.deref.ensures.value at c.place_of-place.ensures in
    let none : answer_at self c.place_of-place.result c.args.loc ≡ None = search rules in
    let here : answer_at self (place_of self.tables.places.items c.args.point) c.args.loc ≡ None = rw place at none in
    (λ e. absurd (true≢false (sym e)), λ k. ap is_some (sym here) ∙ k)
