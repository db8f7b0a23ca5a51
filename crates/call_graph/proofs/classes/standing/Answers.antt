use Rattle.std.proofs.Common.{rules, ◌≡◌, ◌↔◌, ◌⊎◌, ◌<◌, ◌++◌, ℕ, Bool, List, length, take, drop, replicate, ap, subst, ◌∙◌, arith}
use Rattle.std.specs.Prelude.{Any}
use Rattle.std.specs.List.{Contains}
use Rattle.std.proofs.lemmas.List.{length-replicate}
use Rattle.wasm_types.specs.declared.module.Elem.{Elem}
use Rattle.worklist.specs.Search.{IsMarked}
use Rattle.call_graph.proofs.ClassLemmas.{lent_whole, standing_is}
use Rattle.call_graph.proofs.classes.standing.Goals as goal

pub returns-clause-exact : goal.returns-clause-exact
returns-clause-exact c =
    let m = c.args.m.now in
    let n = c.args.count in
    let seen = c.is_table_seen-seen.result in
    let now = c.mark_named.new.marks in
    let items = c.in_ok-marks.marks.items in
    let made : items ≡ replicate n seen = search rules in
    let first : c.deref_mut.result.now ≡ replicate n seen = c.deref_mut.ensures.value ∙ made in
    let many = ap length first in
    let all = ap length made in
    let size = length-replicate n seen in
    let long : length now ≡ n = omega (arith, many, size) in
    let exact : (f : ℕ) → f < length now → IsMarked now f ↔ (IsMarked (replicate n seen) f ⊎ Any (λ (e : Elem). Contains e.funcs f) m.elems) =
    subst (λ (es : List Elem). (f : ℕ) → f < length now → IsMarked now f ↔ (IsMarked (replicate n seen) f ⊎ Any (λ (e : Elem). Contains e.funcs f) es))
    c.as_slice.ensures
    (subst (λ (ms : List Bool). (f : ℕ) → f < length now
    → IsMarked now f ↔ (IsMarked ms f ⊎ Any (λ (e : Elem). Contains e.funcs f) c.as_slice.result.now)) first c.mark_named.ensures) in
    let whole : take c.in_ok-marks.marks.len (now ++ drop (length now) items) ≡ now =
    lent_whole now items c.in_ok-marks.marks.len (omega (arith, long, all, size)) c.in_ok-marks.marks.ok.0 in
    rw whole (standing_is m seen now n c.requires long c.is_table_seen-seen.ensures exact)
