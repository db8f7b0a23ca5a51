-- The sets of locations that functions write and touch, as tests of a graph of calls.
use Rattle.std.proofs.Common.{◌≡◌, ◌↔◌, ℕ, zero, suc, ◌+◌, ◌*◌, ◌/◌, ◌%◌, ◌<◌, ◌&&◌, ◌||◌, ◌⊎◌, inl, inr, ⊎_elim, Bool, true, false, Option, Some, None, nat_eq, nat_lt, get_or, slice_get, refl, sym, ap, ◌∙◌, subst, arith}
use Rattle.std.specs.Int.{bit_at}
use Rattle.std.proofs.lemmas.Bool.Decides.{nat_tests}
use Rattle.std.proofs.lemmas.Option.{slice_get_within}
use Rattle.wasm_types.specs.declared.module.Module.{Module}
use Rattle.wasm_types.specs.declared.place.Loc.{Loc}
use Rattle.wasm_types.specs.Actions.{Callee, Own, Through}
use Rattle.flow_domain.specs.Bounds.{Cover}
use Rattle.flow_domain.specs.Reach.{CalleeWrites}
use Rattle.flow_domain.specs.Rows.{Target}
use Rattle.flow_domain.specs.Touch.{CalleeTouches, IsExact}
use Rattle.call_graph.specs.declared.calls.CallGraph.{CallGraph}
use Rattle.call_graph.specs.declared.classes.Classes.{Classes}
use Rattle.call_graph.specs.declared.pairs.Pairs.{Pairs}
use Rattle.call_graph.specs.Edges.{functions}
use Rattle.call_graph.specs.Graph.{IsCallGraph, TellsLoc}
use Rattle.call_graph.specs.Labels.{label_of}
use Rattle.call_graph.specs.Pairs.{HasPair}
use Rattle.call_graph.specs.Tells.{ShareClass}

-- ---- tests

both : (a b : Bool) → (a && b) ≡ true → (a ≡ true) × (b ≡ true)
both true b e = (refl, e)
both false b e = absurd cc

and_on : (a b : Bool) → a ≡ true → b ≡ true → (a && b) ≡ true
and_on a b e f = rw (e, f)

either : (a b : Bool) → (a || b) ≡ true → (a ≡ true) ⊎ (b ≡ true)
either true b e = inl refl
either false b e = inr e

or_right : (a b : Bool) → b ≡ true → (a || b) ≡ true
or_right true b e = refl
or_right false b e = e

less : (k n : ℕ) → nat_lt k n ≡ true → k < n
less k n e = grind (arith, nat_tests)

less_on : (k n : ℕ) → k < n → nat_lt k n ≡ true
less_on k n lt = grind (arith, nat_tests)

same : (k n : ℕ) → nat_eq k n ≡ true → k ≡ n
same k n e = grind arith

same_on : (k n : ℕ) → k ≡ n → nat_eq k n ≡ true
same_on k n e = grind arith

any_below : ℕ → (ℕ → Bool) → Bool
any_below zero p = false
any_below (suc n) p = p n || any_below n p

any_some : (n : ℕ) (p : ℕ → Bool) → any_below n p ≡ true → (k : ℕ) × (p k ≡ true)
unfolding any_below
any_some zero p e = absurd cc
any_some (suc n) p e = ⊎_elim (λ h. (n, h)) (λ h. any_some n p h) (either (p n) (any_below n p) e)

differ : (k n : ℕ) → nat_eq k n ≡ false → k < suc n → k < n
differ k n off lt = grind (arith, nat_tests)

here_or : (k n : ℕ) (p : ℕ → Bool) (b : Bool) → nat_eq k n ≡ b → p k ≡ true → (nat_eq k n ≡ false → any_below n p ≡ true) → (p n || any_below n p) ≡ true
here_or k n p true at e later = let here : p n ≡ true = subst (λ j. p j ≡ true) (same k n at) e in rw here
here_or k n p false at e later = or_right (p n) (any_below n p) (later at)

some_any : (n : ℕ) (p : ℕ → Bool) (k : ℕ) → k < n → p k ≡ true → any_below n p ≡ true
unfolding any_below
some_any zero p k lt e = absurd (omega arith)
some_any (suc n) p k lt e = here_or k n p (nat_eq k n) refl e (λ off. some_any n p k (differ k n off lt) e)

-- ---- what a graph tells

has_pair : Pairs → ℕ → ℕ → Bool
has_pair pairs f o =
    nat_lt f pairs.rows && (nat_lt o pairs.columns && nat_eq (bit_at (get_or pairs.bits.bits.items (f * pairs.bits.words + o / 64) 0) (o % 64)) 1)

pair_has : (pairs : Pairs) (f o : ℕ) → has_pair pairs f o ≡ true → HasPair pairs f o
unfolding has_pair
pair_has pairs f o e =
    let h = both (nat_lt f pairs.rows) _ e in
    let k = both (nat_lt o pairs.columns) _ h.1 in
    (less f pairs.rows h.0, (less o pairs.columns k.0, same _ 1 k.1))

has_of : (pairs : Pairs) (f o : ℕ) → HasPair pairs f o → has_pair pairs f o ≡ true
unfolding has_pair
has_of pairs f o h = and_on _ _ (less_on f pairs.rows h.0) (and_on _ _ (less_on o pairs.columns h.1.0) (same_on _ 1 h.1.1))

told_at : Pairs → ℕ → Option ℕ → Bool
told_at pairs f None = false
told_at pairs f (Some o) = has_pair pairs f o

told : Pairs → ℕ → Loc → Bool
told pairs f x = told_at pairs f (label_of x)

tells : (pairs : Pairs) (f : ℕ) (x : Loc) → told pairs f x ≡ true → TellsLoc pairs f x
unfolding told told_at
tells pairs f x e = go (label_of x) refl e
  where
    go : (o : Option ℕ) → label_of x ≡ o → told_at pairs f o ≡ true → TellsLoc pairs f x
    go None at h = absurd cc
    go (Some o) at h = (o, (at, pair_has pairs f o h))

told_of : (pairs : Pairs) (f : ℕ) (x : Loc) → TellsLoc pairs f x → told pairs f x ≡ true
unfolding told told_at
told_of pairs f x (o, (at, h)) = subst (λ l. told_at pairs f l ≡ true) (sym at) (has_of pairs f o h)

same_class : Option (Option ℕ) → Option (Option ℕ) → Bool
same_class (Some (Some a)) (Some (Some b)) = nat_eq a b
same_class _ _ = false

shares : Classes → ℕ → ℕ → Bool
shares classes t f = same_class (slice_get classes.by_type.items t) (slice_get classes.by_func.items f)

class_shared : (classes : Classes) (t f : ℕ) → shares classes t f ≡ true → ShareClass classes t f
unfolding shares same_class
class_shared classes t f e = go (slice_get classes.by_type.items t) (slice_get classes.by_func.items f) refl refl e
  where
    go : (a b : Option (Option ℕ)) → slice_get classes.by_type.items t ≡ a → slice_get classes.by_func.items f ≡ b → same_class a b ≡ true
        → ShareClass classes t f
    go (Some (Some a)) (Some (Some b)) p q h = (a, (p, q ∙ ap (λ c. Some (Some c)) (sym (same a b h))))
    go (Some (Some a)) (Some None) p q h = absurd cc
    go (Some (Some a)) None p q h = absurd cc
    go (Some None) b p q h = absurd cc
    go None b p q h = absurd cc

shared_class : (classes : Classes) (t f : ℕ) → ShareClass classes t f → shares classes t f ≡ true
unfolding shares same_class
shared_class classes t f (c, (p, q)) =
    ap (λ a. same_class a (slice_get classes.by_func.items f)) p ∙ (ap (same_class (Some (Some c))) q ∙ same_on c c refl)

-- ---- the cover

-- what is told of a function, or of one of the targets
by_callee : CallGraph → Pairs → Callee → Loc → Bool
by_callee g pairs (Own f) x = told pairs f x
by_callee g pairs (Through t n) x = any_below (functions g.classes) (λ f. shares g.classes t f && told pairs f x)

through_only : CallGraph → Pairs → Callee → Loc → Bool
through_only g pairs (Own f) x = false
through_only g pairs (Through t n) x = by_callee g pairs (Through t n) x

pub cover_of : CallGraph → Cover
cover_of g = record { writes = by_callee g g.writes; touch = through_only g g.touches }

module _ (m : Module) (g : CallGraph) (is : IsCallGraph m g) where
  module _ (pairs : Pairs) (Does : ℕ → Loc → Type 0) (exact : (f : ℕ) (x : Loc) → TellsLoc pairs f x ↔ Does f x) where
    target_does : (t n : ℕ) (x : Loc) → by_callee g pairs (Through t n) x ≡ true → (f : ℕ) × Target m t f × Does f x
    unfolding by_callee
    target_does t n x e =
        let k = any_some (functions g.classes) _ e in
        let h = both (shares g.classes t k.0) (told pairs k.0 x) k.1 in
        (k.0, (is.targets t k.0).0 (class_shared g.classes t k.0 h.0), (exact k.0 x).0 (tells pairs k.0 x h.1))

    does_target : (t n : ℕ) (x : Loc) → (f : ℕ) × Target m t f × Does f x → by_callee g pairs (Through t n) x ≡ true
    unfolding by_callee
    does_target t n x (f, target, does) =
        let shared = (is.targets t f).1 target in
        some_any (functions g.classes) _ f (slice_get_within g.classes.by_func.items f _ shared.1.1)
        (and_on _ _ (shared_class g.classes t f shared) (told_of pairs f x ((exact f x).1 does)))

  writes_by : (c : Callee) (x : Loc) → (by_callee g g.writes c x ≡ true → CalleeWrites m c x) × (CalleeWrites m c x → by_callee g g.writes c x ≡ true)
  unfolding by_callee
  writes_by (Own f) x = (λ e. (is.writes f x).0 (tells g.writes f x e), λ h. told_of g.writes f x ((is.writes f x).1 h))
  writes_by (Through t n) x = (target_does g.writes _ is.writes t n x, does_target g.writes _ is.writes t n x)

  touch_by : (c : Callee) (x : Loc) → (through_only g g.touches c x ≡ true → CalleeTouches m c x) × (CalleeTouches m c x → through_only g g.touches c x ≡ true)
  unfolding through_only
  touch_by (Own f) x = (λ e. absurd cc, λ h. absurd h)
  touch_by (Through t n) x = (target_does g.touches _ is.touches t n x, does_target g.touches _ is.touches t n x)

  pub cover_exact : IsExact m (cover_of g)
  unfolding cover_of
  cover_exact = record { writes = writes_by; touch = touch_by }
