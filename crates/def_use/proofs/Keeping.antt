-- Answers that are kept, one more among them.
use Rattle.std.proofs.Common.{◌≡◌, ℕ, Vec, Global, Some, Bool, cond, refl, sym, ◌∙◌, ap, subst, inl, inr, ◌⊎◌, ⊎_elim, nat_eq}
use Rattle.std.specs.Prelude.{IsSome}
use Rattle.std.proofs.lemmas.Bool.{and_parts, cases_Bool}
use Rattle.std.proofs.lemmas.Bool.Decides.{Decides-eqb}
use Rattle.indexmap.specs.IndexMap.{get}
use Rattle.wasm_types.specs.declared.place.Loc.{Loc}
use Rattle.wasm_types.specs.declared.place.Def.{Def}
use Rattle.wasm_types.specs.declared.place.Node.{Node}
use Rattle.block_cfg.specs.Graph.{Graph}
use Rattle.flow_domain.specs.LocTables.{Rows}
use Rattle.def_use.specs.declared.kept.Reach.{Reach}
use Rattle.def_use.specs.Answers.{IsAnswer}
use Rattle.def_use.specs.Kept.{AreRight, IsMadeFor, Keeps, Puts, answer_at, same_question}
use Rattle.def_use.specs.Places.{IsPlaces, point_at}
use Rattle.def_use.specs.Tables.{AreTables}
use Rattle.def_use.specs.Writers.{loc_number}
use Rattle.def_use.proofs.Indexing.{loc_injective}

same_row : (a b : Vec Def Global) → Some a ≡ Some b → a ≡ b
same_row a b e = cc

-- the question that was put in, or what was there
pub one_more : (old new : Reach) (k0 : ℕ) (x0 : Loc) (row : Vec Def Global)
    → ((q : ℕ × ℕ) → get same_question new.found q ≡ cond (same_question (k0, loc_number x0) q) (Some row) (get same_question old.found q))
    → Puts old new k0 x0 row
one_more old new k0 x0 row puts k x =
    let asked : ℕ × ℕ = (k, loc_number x) in
    let test : Bool = same_question (k0, loc_number x0) asked in
    ⊎_elim
    (λ on.
    let parts = and_parts (nat_eq k0 k) (nat_eq (loc_number x0) (loc_number x)) on in
    inl (
      sym ((Decides-eqb k0 k).0 parts.0),
      sym (loc_injective x0 x ((Decides-eqb (loc_number x0) (loc_number x)).0 parts.1)),
      puts asked ∙ ap (λ b. cond b (Some row) (get same_question old.found asked)) on,
    ))
    (λ off. inr (puts asked ∙ ap (λ b. cond b (Some row) (get same_question old.found asked)) off))
    (cases_Bool test)

-- the answer to one question more
pub keeps_one : (g : Graph) (T : Rows) (old new : Reach) (k0 : ℕ) (x0 : Loc) (q : Node) (row : Vec Def Global) → IsMadeFor g old → AreRight g T old
    → point_at g.points k0 ≡ q → IsAnswer g T x0 q row.items → new.tables ≡ old.tables → new.searcher ≡ old.searcher
    → Puts old new k0 x0 row → Keeps g T old new
keeps_one g T old new k0 x0 q row made right at answer tables size others = record {
  made = record {
    places = subst (λ t. IsPlaces g t.places.items) (sym tables) made.places;
    size = size ∙ made.size;
  };
  right = record {
    tables = subst (λ t. AreTables g T t) (sym tables) right.tables;
    answers = λ k x found there. ⊎_elim
        (λ (place, loc, is).
        let same : row ≡ found = same_row row found (sym is ∙ there) in
        subst (λ (r : Vec Def Global). IsAnswer g T x (point_at g.points k) r.items) same
        (subst (λ y. IsAnswer g T y (point_at g.points k) row.items) (sym loc)
        (subst (λ n. IsAnswer g T x0 n row.items) (sym (ap (point_at g.points) place ∙ at)) answer)))
        (λ is. right.answers k x found (sym is ∙ there))
        (others k x);
  };
  tables = tables;
  kept = λ k x was. ⊎_elim (λ (place, loc, is). subst (λ o. IsSome o) (sym is) refl) (λ is. subst (λ o. IsSome o) (sym is) was) (others k x);
}

pub keeps_same : (g : Graph) (T : Rows) (r : Reach) → IsMadeFor g r → AreRight g T r → Keeps g T r r
keeps_same g T r made right = record { made = made; right = right; tables = refl; kept = λ k x h. h }

pub keeps_then : (g : Graph) (T : Rows) (a b c : Reach) → Keeps g T a b → Keeps g T b c → Keeps g T a c
keeps_then g T a b c ab bc = record { made = bc.made; right = bc.right; tables = bc.tables ∙ ab.tables; kept = λ k x h. bc.kept k x (ab.kept k x h) }
