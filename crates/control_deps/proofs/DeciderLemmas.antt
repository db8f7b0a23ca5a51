-- The deciders of a node, a position at a time.
use Rattle.std.proofs.Common.{◌≡◌, ◌≢◌, ℕ, ◌+◌, ◌≤◌, ◌<◌, ◌↔◌, ⊎_elim, Bool, true, false, true≢false, List, [], ◌∷◌, ◌++◌, length, if◌then◌else◌, refl, sym, ap, subst, arith}
use Rattle.std.specs.List.{All, AllPairs, Contains}
use Rattle.std.proofs.lemmas.Bool.{cases_eq, cases_lt}
use Rattle.std.proofs.lemmas.List.Elements.{All-nil, All-push, All-weaker, All-get_or, Contains-append_left, Contains-push, Contains-push_cases}
use Rattle.std.proofs.lemmas.List.Quantifiers.{all_pairs_push}
use Rattle.std.proofs.lemmas.Option.{slice_get_past}
use Rattle.wasm_types.specs.declared.module.Body.{Body}
use Rattle.wasm_types.specs.declared.module.Pos.{Pos}
use Rattle.wasm_types.specs.declared.place.Node.{Node}
use Rattle.wasm_types.specs.Actions.{Callees}
use Rattle.wasm_types.specs.Code.{code_of}
use Rattle.wasm_types.specs.Marked.{marked}
use Rattle.wasm_types.specs.Shadow.{InShadow}
use Rattle.wasm_types.specs.Sites.{Sites, body_sites}
use Rattle.control_deps.specs.declared.spot.Spot.{Spot}
use Rattle.control_deps.specs.Nest.{IsNestOf}
use Rattle.control_deps.specs.Spots.{place}
use Rattle.control_deps.specs.Deciders.{Tells, AddsDecider, AreDeciders}
use Rattle.control_deps.proofs.ShadowLemmas.{fit_of, no_spot}

-- those below k
pub record DecidersBelow (nest : List Spot) (n : Node) (k : ℕ) (found : List Pos) : Type 0 where
  pub rising : AllPairs (λ (a b : Pos). a.0 < b.0) found
  pub below : All (λ (a : Pos). a.0 < k) found
  pub exact : (body : Body) → IsNestOf body nest → (cs : Callees) (t : ℕ) (w : ℕ → Bool) (p : ℕ)
      → Contains found (place p) ↔ ((p < k) × InShadow (body_sites cs t (marked w 0 (code_of body.code))) p n)

pub deciders_none : (nest : List Spot) (n : Node) → DecidersBelow nest n 0 []
deciders_none nest n = record {
  rising = λ i j d lt in_nil. absurd (omega arith);
  below = All-nil (λ (a : Pos). a.0 < 0);
  exact = λ body is cs t w p. ((λ c. absurd (omega (arith, c.1))), (λ (lt, s). absurd (omega arith)));
}

added : (nest : List Spot) (n : Node) (k : ℕ) (old : List Pos) → DecidersBelow nest n k old → Tells nest k n true → DecidersBelow nest n (k + 1) (old ++ place k ∷ [])
added nest n k old d told = record {
  rising = all_pairs_push (λ (a b : Pos). a.0 < b.0) old (place k) d.rising (λ i e lt. All-get_or (λ (a : Pos). a.0 < k) old i e lt d.below);
  below = All-push (λ (a : Pos). a.0 < k + 1) old (place k) (All-weaker (λ (a : Pos). a.0 < k) (λ (a : Pos). a.0 < k + 1) (λ x h. omega (arith, h)) old d.below) (omega arith);
  exact = λ body is cs t w p.
      let S : Sites = body_sites cs t (marked w 0 (code_of body.code)) in (
        (λ c. ⊎_elim
            (λ o. let h = (d.exact body is cs t w p).0 o in (omega (arith, h.0), h.1))
            (λ (e : place k ≡ place p).
            let same : k ≡ p = ap (λ (z : Pos). z.0) e in
            (omega (arith, same), subst (λ z. InShadow S z n) same ((told body is cs t w).0 refl)))
            (Contains-push_cases old (place k) (place p) c)),
        (λ (lt, s). ⊎_elim
            (λ (e : p ≡ k). subst (λ z. Contains (old ++ place k ∷ []) (place z)) (sym e) (Contains-push old (place k)))
            (λ (ne : p ≢ k). Contains-append_left old (place k ∷ []) (place p) ((d.exact body is cs t w p).1 (omega (arith, lt, ne), s)))
            (cases_eq p k)),
      );
}

passed : (nest : List Spot) (n : Node) (k : ℕ) (old : List Pos) → DecidersBelow nest n k old → Tells nest k n false → DecidersBelow nest n (k + 1) old
passed nest n k old d told = record {
  rising = d.rising;
  below = All-weaker (λ (a : Pos). a.0 < k) (λ (a : Pos). a.0 < k + 1) (λ x h. omega (arith, h)) old d.below;
  exact = λ body is cs t w p.
      let S : Sites = body_sites cs t (marked w 0 (code_of body.code)) in (
        (λ c. let h = (d.exact body is cs t w p).0 c in (omega (arith, h.0), h.1)),
        (λ (lt, s). ⊎_elim
            (λ (e : p ≡ k). absurd (true≢false (sym ((told body is cs t w).1 (subst (λ z. InShadow S z n) e s)))))
            (λ (ne : p ≢ k). (d.exact body is cs t w p).1 (omega (arith, lt, ne), s))
            (cases_eq p k)),
      );
}

pub deciders_more : (nest : List Spot) (n : Node) (k : ℕ) (old new : List Pos) → DecidersBelow nest n k old → AddsDecider nest (place k) n old new → DecidersBelow nest n (k + 1) new
deciders_more nest n k old new d a = go a.shaded a.tells a.is
  where
    go : (b : Bool) → Tells nest k n b → new ≡ (if b then old ++ place k ∷ [] else old) → DecidersBelow nest n (k + 1) new
    go true told e = subst (DecidersBelow nest n (k + 1)) (sym e) (added nest n k old d told)
    go false told e = subst (DecidersBelow nest n (k + 1)) (sym e) (passed nest n k old d told)

pub deciders_all : (nest : List Spot) (n : Node) (k : ℕ) (found : List Pos) → length nest ≤ k → DecidersBelow nest n k found → AreDeciders nest n found
deciders_all nest n k found le d body is cs t w p = (
  (λ c. ((d.exact body is cs t w p).0 c).1),
  (λ s. (d.exact body is cs t w p).1 (
    ⊎_elim
        (λ lt. omega (arith, lt, le))
        (λ past. absurd (no_spot nest _ (fit_of nest body cs t w is) p n (slice_get_past nest p past) s))
        (cases_lt p (length nest)),
    s,
  )),
)
