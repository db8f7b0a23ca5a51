-- Kept sets and sets of present places have tests: that none has is impossible. A body has finitely many nodes, and of each number it holds, or it doesn't,
-- that it is the number of a node in the set.
use Rattle.std.proofs.Common.{◌≡◌, ℕ, zero, suc, ◌+◌, ◌*◌, ◌<◌, ◌⊎◌, ◌&&◌, inl, inr, List, [], ◌∷◌, length, Bool, true, false, Option, Some, None, nat_lt, slice_get, take, refl, sym, ap, ◌∙◌, subst, arith, true≢false}
use Rattle.std.specs.Prelude.{if◌then◌else◌}
use Rattle.std.proofs.lemmas.Bool.{ltb-true, ltb-false, lt-ltb}
use Rattle.std.proofs.lemmas.Option.{slice_get_within}
use Rattle.wasm_types.specs.declared.place.Node.{Node}
use Rattle.wasm_types.specs.declared.place.Node.TheVariants as node
use Rattle.wasm_types.specs.declared.place.Node.TheVariants.{Exit}
use Rattle.wasm_types.specs.Actions.{Callees}
use Rattle.wasm_types.specs.Marked.{Marked}
use Rattle.wasm_types.specs.Nodes.{At, Join}
use Rattle.wasm_types.specs.Reaching.{writes_it}
use Rattle.wasm_types.specs.Sites.{Head, BlockHead, LoopHead, IfHead, Site, Sites, IsSite, EndAt, HasJoin, body_sites, body_ends, carry_names}
use Rattle.flow_domain.specs.Bounds.{Bounds}
use Rattle.flow_domain.specs.Kept.{Tells, KeptItem, KeptMaker, KeptNode, argument, carrying, completes, criterion, criterion_operand, deciding, ending, holding_at, holding_join, operand, own_join, place, using, whole, writer}
use Rattle.flow_domain.specs.Presence.{IsNeeded, IsNeeded as needed}
use Rattle.flow_domain.specs.Rows.{CallRows, Done, Item, Makes, Ret}
use Rattle.flow_laws.proofs.Fine.{MadeOk, AllMade, made_get, none_node, some_node, site_fine, end_fine, carry_made, shadow_stands}
use Rattle.flow_laws.proofs.Live.{live, is_site, is_end, has_join}
use Rattle.flow_laws.proofs.Order.{get_reverse}
use Rattle.slice_whole.proofs.NotRefuted.{NotRefuted, either}

-- ---- tests of numbers

-- a test tells, of the numbers below n, which have the property
abbrev TellsBelow : (ℕ → Type 0) → ℕ → (ℕ → Bool) → Type 0
TellsBelow P n f = (k : ℕ) → k < n → (f k ≡ true → P k) × (P k → f k ≡ true)

-- the test with one number more
abbrev and_at : ℕ → Bool → (ℕ → Bool) → ℕ → Bool
and_at n b f k = if nat_lt k n then f k else b

below_more : (P : ℕ → Type 0) (n : ℕ) (f : ℕ → Bool) (b : Bool) → TellsBelow P n f → (b ≡ true → P n) → (P n → b ≡ true) → TellsBelow P (suc n) (and_at n b f)
below_more P n f b tells so back k lt = go (nat_lt k n) refl
  where
    go : (q : Bool) → nat_lt k n ≡ q → (and_at n b f k ≡ true → P k) × (P k → and_at n b f k ≡ true)
    go true e =
        let same : and_at n b f k ≡ f k = ap (λ z. if z then f k else b) e in
        let t = tells k (ltb-true k n e) in (λ on. t.0 (sym same ∙ on), λ p. same ∙ t.1 p)
    go false e =
        let same : and_at n b f k ≡ b = ap (λ z. if z then f k else b) e in
        let here : k ≡ n = (let le = ltb-false k n e in omega (arith, le, lt)) in
        (λ on. subst P (sym here) (so (sym same ∙ on)), λ p. same ∙ back (subst P here p))

pub some_below : (P : ℕ → Type 0) (n : ℕ) → NotRefuted ((f : ℕ → Bool) × TellsBelow P n f)
some_below P zero never = never (λ k. false, λ k lt. absurd (omega (arith, lt)))
some_below P (suc n) never = some_below P n (λ found. either (P n) (λ here. never (more found here)))
  where
    more : (f : ℕ → Bool) × TellsBelow P n f → (P n) ⊎ (P n → ⊥) → (f : ℕ → Bool) × TellsBelow P (suc n) f
    more found (inl p) = (and_at n true found.0, below_more P n found.0 true found.1 (λ on. p) (λ q. refl))
    more found (inr bad) = (and_at n false found.0, below_more P n found.0 false found.1 (λ on. absurd (true≢false (sym on))) (λ q. absurd (bad q)))

-- ---- tests of nodes

abbrev pub number : Node → ℕ
number Exit = 0
number (node.At p) = 2 * p.0 + 1
number (node.Join b) = 2 * b.0 + 2

one : (x y : Node) → number x ≡ number y → x ≡ y
one Exit Exit e = refl
one Exit (node.At q) e = absurd (omega (arith, e))
one Exit (node.Join b) e = absurd (omega (arith, e))
one (node.At p) Exit e = absurd (omega (arith, e))
one (node.At p) (node.At q) e = let same : p.0 ≡ q.0 = omega (arith, e) in ap At same
one (node.At p) (node.Join b) e = absurd (omega (arith, e))
one (node.Join b) Exit e = absurd (omega (arith, e))
one (node.Join b) (node.At q) e = absurd (omega (arith, e))
one (node.Join b) (node.Join c) e = let same : b.0 ≡ c.0 = omega (arith, e) in ap Join same

both_on : (a b : Bool) → (a && b) ≡ true → (a ≡ true) × (b ≡ true)
both_on true true e = (refl, refl)
both_on true false e = absurd (true≢false (sym e))
both_on false b e = absurd (true≢false (sym e))

and_on : (a b : Bool) → a ≡ true → b ≡ true → (a && b) ≡ true
and_on a b e f = rw (e, f)

-- of a set whose nodes have numbers below n
pub some_test : (Is : Node → Type 0) (n : ℕ) → ((x : Node) → Is x → number x < n) → NotRefuted ((K : Node → Bool) × Tells K Is)
some_test Is n small never = some_below (λ k. (x : Node) × (number x ≡ k) × Is x) n (λ found. never (made found))
  where
    made : (f : ℕ → Bool) × TellsBelow (λ k. (x : Node) × (number x ≡ k) × Is x) n f → (K : Node → Bool) × Tells K Is
    made (f, tells) = (
      λ x. nat_lt (number x) n && f (number x),
      λ x. (
        λ on.
            let both = both_on (nat_lt (number x) n) (f (number x)) on in
            let found = (tells (number x) (ltb-true (number x) n both.0)).0 both.1 in subst Is (one found.0 x found.1) found.2,
        λ is. and_on (nat_lt (number x) n) (f (number x)) (lt-ltb (number x) n (small x is)) ((tells (number x) (small x is)).1 (x, refl, is)),
      ),
    )

-- ---- kept sets

joining : (h : Head) → HasJoin h → has_join h ≡ true
joining (BlockHead kind) e = refl
joining (LoopHead kind) e = refl
joining (IfHead kind) e = refl
joining _ e = absurd e

live_made : (S : Sites) (n : Node) → MadeOk S n → live S n ≡ true
live_made S (node.At p) m = ap is_site m.1
live_made S (node.Join b) m = ap is_end m.1 ∙ joining m.0.head m.2
live_made S Exit m = refl

live_name : (S : Sites) (names : List Node) (k : ℕ) (d : Node) → AllMade S names → slice_get names k ≡ Some d → live S d ≡ true
live_name S [] k d a e = none_node d e
live_name S (n ∷ names) zero d a e = ap (live S) (sym (some_node n d e)) ∙ live_made S n a.0
live_name S (n ∷ names) (suc k) d a e = live_name S names k d a.1 e

end_of : (o : Option (Option Site)) → is_end o ≡ true → (s : Site) × (o ≡ Some (Some s))
end_of (Some (Some s)) e = (s, refl)
end_of (Some None) e = absurd (true≢false (sym e))
end_of None e = absurd (true≢false (sym e))

module _ (cs : Callees) (t : ℕ) (c : Marked) where
  abbrev S : Sites
  S = body_sites cs t c

  abbrev E : List EndAt
  E = body_ends cs t c

  at_live : (p : ℕ) (s : Site) → IsSite S p s → live S (At p) ≡ true
  at_live p s is = ap is_site is

  -- where a node is kept, or its value is needed, it is live
  abbrev LiveItem : Item → Type 0
  LiveItem (Makes n out) = live S n ≡ true
  LiveItem _ = Unit {0}

  live_item : (B : Bounds) (R : CallRows) (x : Item) → KeptItem B R S E x → LiveItem x
  live_item B R x (criterion {p = p} s is on) = at_live p s is
  live_item B R x (criterion_operand {n = n} p k s is on lt e) = live_name S s.names k n (site_fine cs t c p s is).names e
  live_item B R x (completes out kept) = live_item B R _ kept
  live_item B R x (whole s kept is plain) = live_item B R _ kept
  live_item B R x (operand {n = n} p k s kept is plain lt e) = live_name S s.names k n (site_fine cs t c p s is).names e
  live_item B R x (using s op kept is head plain uses) = tt
  live_item B R x (argument {n = n} p k g out s op kept is head calls row e) =
      let stands = get_reverse (take _ s.names) k n e in live_made S n (made_get S _ stands.place s.names n (site_fine cs t c p s is).names stands.is)
  live_item B R x (place g out s op kept is head calls row outer) = tt
  live_item B R x (writer {d = d} a kept (writes_it w) path) = at_live d w.0 w.1
  live_item B R x (deciding {p = p} n kept sh) = let st = shadow_stands S p n sh in at_live p st.site st.is
  live_item B R x (carrying {n = n} p l k s kept is br lt e) =
      live_name S (carry_names s.head s.names) k n (carry_made S s.head s.names (site_fine cs t c p s is).names) e
  live_item B R x (ending {n = n} e k kept among lt is) = live_name S e.names k n (end_fine cs t c e among).names is
  live_item B R x (holding_at {b = b} q s kept is lt gt) = at_live b s is
  live_item B R x (holding_join {b = b} q s kept is lt gt) = at_live b s is
  live_item B R x (own_join {b = b} kept) =
      let on : live S (Join b) ≡ true = live_item B R _ kept in let found = end_of (slice_get S b) on in at_live b found.0 found.1

  -- and has a number below this
  abbrev pub most : ℕ
  most = 2 * length S + 1

  site_small : (p : ℕ) (s : Site) → IsSite S p s → p < length S
  site_small p s is = slice_get_within S p (Some s) is

  some_within : (o : Option (Option Site)) (p : ℕ) → slice_get S p ≡ o → is_site o ≡ true → p < length S
  some_within (Some (Some s)) p is on = site_small p s is
  some_within (Some None) p is on = absurd (true≢false (sym on))
  some_within None p is on = absurd (true≢false (sym on))

  live_small : (n : Node) → live S n ≡ true → number n < most
  live_small (node.At p) on = let lt = some_within (slice_get S p.0) p.0 refl on in omega (arith, lt)
  live_small (node.Join b) on = let x = end_of (slice_get S b.0) on in let lt = site_small b.0 x.0 x.1 in omega (arith, lt)
  live_small Exit on = omega arith

  -- so some test tells what is kept, and one what is kept for its value
  module _ (B : Bounds) (R : CallRows) where
    pub kept_small : (n : Node) → KeptNode B R S E n → number n < most
    kept_small n kept = live_small n (live_item B R (Makes n Done) kept)

    pub some_kept : NotRefuted ((K : Node → Bool) × Tells K (KeptNode B R S E))
    some_kept = some_test (KeptNode B R S E) most kept_small

    pub some_makers : NotRefuted ((M : Node → Bool) × Tells M (KeptMaker B R S E))
    some_makers = some_test (KeptMaker B R S E) most (λ n kept. live_small n (live_item B R (Makes n Ret) kept))

  -- what the cut needs, where live nodes are kept
  needed_small : (K : Node → Bool) → ((n : Node) → K n ≡ true → live S n ≡ true) → (n : Node) → IsNeeded cs S E K n → number n < most
  needed_small K all n (needed.maker on) = live_small n (all n on)
  needed_small K all n (needed.result {b = b} on) = let lt = some_within (slice_get S b) b refl (all (At b) on) in omega (arith, lt)
  needed_small K all n (needed.operand p s is on among) = live_small n (live_name S s.names among.0 n (site_fine cs t c p s is).names among.2)
  needed_small K all n (needed.left b e a o on among) = live_small n (live_name S e.names among.0 n (end_fine cs t c e a).names among.2)
  needed_small K all n (needed.at_exit e a o among) = live_small n (live_name S e.names among.0 n (end_fine cs t c e a).names among.2)

  pub some_needed : (K : Node → Bool) → ((n : Node) → K n ≡ true → live S n ≡ true) → NotRefuted ((P : Node → Bool) × Tells P (IsNeeded cs S E K))
  some_needed K all = some_test (IsNeeded cs S E K) most (needed_small K all)
