use Rattle.std.proofs.Common.{◌≡◌, ◌≤◌, ◌∙◌, List, Bool, length, refl, subst, sym, arith, ⊎_elim}
use Rattle.std.proofs.lemmas.Option.{slice_get_within}
use Rattle.wasm_types.specs.declared.place.LimitKind.TheVariants as limit
use Rattle.wasm_types.specs.Spaces.{func_types}
use Rattle.worklist.specs.Search.{IsMarked}
use Rattle.summary_fix.proofs.Covers.{cover_of, cover_exact}
use Rattle.summary_fix.proofs.Stepping.{least_from}
use Rattle.summary_fix.proofs.least.summarise_from.Goals as goal

pub reached_from-requires-clause-count : goal.reached_from-requires-clause-count
reached_from-requires-clause-count c = c.count.ensures ∙ (c.in_ok-table.table.rows.ok.0 ∙ c.in_ok-table.ensures.sound.table.long)

pub reached_from-requires-clause-few : goal.reached_from-requires-clause-few
reached_from-requires-clause-few c =
    let m = c.args.m.now in
    let few : length (func_types m) ≤ 10001 = c.in_ok-table.ensures.sound.sealed.limits limit.Functions 0 (length (func_types m)) (refl, refl) in
    let same : c.count.result ≡ length (func_types m) = c.count.ensures ∙ (c.in_ok-table.table.rows.ok.0 ∙ c.in_ok-table.ensures.sound.table.long) in
    omega arith

pub returns-clause-cover : goal.returns-clause-cover
returns-clause-cover c = (cover_of c.args.graph.now, cover_exact c.args.m.now c.args.graph.now c.requires.graph)

pub returns-clause-exact : goal.returns-clause-exact
returns-clause-exact c =
    let sound = c.in_ok-settle.ensures.sound in
    least_from c.args.m.now sound.sealed.valid sound.sealed.no_float c.settle.new.table sound c.args.root c.in_ok-wanted.wanted.items
    c.in_ok-wanted.ensures.exact
    (λ f fn on. c.in_ok-settle.ensures.full f fn (subst (λ (marks : List Bool). IsMarked marks f) (sym c.deref.ensures.value) on))

pub returns-clause-led : goal.returns-clause-led
returns-clause-led c = λ f o x own row.
    let long = c.in_ok-settle.ensures.sound.table.long in
    let within = slice_get_within c.settle.new.table.rows.items f row.0 row.1.0 in
    ⊎_elim
    (λ was. absurd (c.in_ok-table.ensures.own f o x own was))
    (λ want. (c.in_ok-wanted.ensures.exact f (omega (arith, long, within))).0 (subst (λ (marks : List Bool). IsMarked marks f) c.deref.ensures.value want))
    (c.in_ok-settle.ensures.only f o x row)
