use Rattle.std.proofs.Common.{◌≡◌, ◌↔◌, ◌∙◌, ◌<◌, ℕ, List, Bool, Some, length, subst, sym, ap}
use Rattle.wasm_types.specs.declared.place.Loc.TheVariants.{Global}
use Rattle.wasm_types.specs.Spaces.{globals_of, type_of_func, type_numbered}
use Rattle.worklist.specs.Search.{IsMarked}
use Rattle.flow_domain.specs.Reach.{MayWrite}
use Rattle.flow_domain.specs.Summaries.{IsKnown}
use Rattle.summary_fix.proofs.Imported.{import_row, host_of_type}
use Rattle.summary_fix.proofs.start.first_rows.Goals as goal

pub returns-clause-imports : goal.returns-clause-imports
returns-clause-imports c = λ lt o x known.
    let m = c.args.m.now in
    let func = c.args.func in
    let kind = c.in-Some.kind.now in
    let seen = c.deref.result.now in
    let same : seen ≡ c.in_ok-seen.seen.items = c.deref.ensures.value in
    let long : length seen ≡ c.args.globals = ap length same ∙ c.in_ok-seen.ensures.length in
    let typed : type_of_func m func ≡ Some kind = ap (type_numbered m.types) c.requires.kind ∙ sym c.in-Some.ensures.kind in
    let globals : (k : ℕ) → k < length (globals_of m) → IsMarked seen k ↔ MayWrite m func (Global k) =
    λ k below. subst (λ (xs : List Bool). IsMarked xs k ↔ MayWrite m func (Global k)) (sym same)
    (c.in_ok-seen.ensures.exact k (subst (λ n. k < n) (sym c.requires.globals) below)) in
    let row = import_row m func _ (host_of_type m func kind lt typed) seen c.writes.result c.len-params.result (long ∙ c.requires.globals) c.len-params.ensures
    globals (c.writes.ensures.writes m c.requires.graph) o x (subst (λ n. IsKnown n o) c.requires.globals known) in
    let made = c.in_ok-rows-3.ensures.rows o x (subst (λ n. IsKnown n o) (sym long) known) in
    (λ h. row.0 (made.0 h), λ h. made.1 (row.1 h))
