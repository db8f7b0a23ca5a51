-- Regions that are entered through one point, and the ways inside.
use Rattle.std.proofs.Common.{◌≡◌, ℕ, ◌+◌, ◌*◌, ◌-◌, ◌/◌, ◌<◌, ◌≤◌, ◌⊎◌, inl, inr, ⊎_elim, List, Bool, false}
use Rattle.std.proofs.Common.{Option, Some, None, IfSome, is_some, length, get_or, take, refl, sym, ap, ◌∙◌, subst, arith}
use Rattle.std.specs.List.{Contains, slice_get}
use Rattle.std.proofs.lemmas.Bool.{cases_eq}
use Rattle.std.proofs.lemmas.Option.{get_or_from_slice_get, same_Some, none-some}
use Rattle.std.proofs.lemmas.List.{take_more, take_all}
use Rattle.std.proofs.lemmas.List.Elements.{Contains-push_cases}
use Rattle.wasm_types.specs.declared.place.Node.{Node}
use Rattle.wasm_types.specs.Nodes.{At, Join}
use Rattle.worklist.specs.Reached.{root, step}
use Rattle.block_cfg.specs.Graph.{Graph, number, row_of}
use Rattle.block_cfg.proofs.MemberLemmas.{number_injective}
use Rattle.single_entry.specs.declared.entry.Entry.{Entry}
use Rattle.single_entry.specs.Entries.{IsGraph, IsIn, Inner, enters, goes, IsEntry}
use Rattle.single_entry.specs.Paths.{Comes}
use Rattle.single_entry.specs.Regions.{LeadsThrough, AllInBut, NoneIn, EndsAt}

-- ---- what leads into regions

pub begins_join : (g : Graph) → IsGraph g → (b : ℕ) → Contains g.points (Join b) → Contains g.points (At b)
begins_join g (S, (start, of)) b here = let (s, (site, join)) = (of.points (Join b)).0 here in (of.points (At b)).1 (s, site)

-- the inside of what stands at b, its join too
pub through_join : (g : Graph) → IsGraph g → (b first last : ℕ) → first ≡ number (Join b) → Contains g.points (Join b) → EndsAt g b last
    → LeadsThrough g first last (At b)
through_join g (S, (start, of)) b first last is here ends n a inside has =
    let (s, (site, join)) = (of.points (Join b)).0 here in
    let end : last ≡ 2 * s.stop = ends s.stop (of.stops b s site) in
    let low = inside.0 in
    let high = inside.1 in
    ⊎_elim
    (λ there. let low' = there.0 in let high' = there.1 in inl (omega arith, omega arith))
    (λ begins. inr begins)
    (of.entered b s site a n ((of.before a n).0 has) (omega arith, omega arith))

-- what stands at q, where but for one point all that leads to q stands there
pub through_loop : (g : Graph) → IsGraph g → (q first last : ℕ) (row : List Node) (from : Node) → first ≡ number (At q) → Contains g.points (At q)
    → EndsAt g q last → row ≡ row_of g.before (At q) → AllInBut first last row from → LeadsThrough g first last from
through_loop g (S, (start, of)) q first last row from is here ends row_is but n a inside has =
    let (s, site) = (of.points (At q)).0 here in
    let end : last ≡ 2 * s.stop = ends s.stop (of.stops q s site) in
    let low = inside.0 in
    let high = inside.1 in
    ⊎_elim
    (λ (same : number n ≡ first).
    let one : n ≡ At q = number_injective n (At q) (same ∙ is) in
    but a (subst (λ z. Contains z a) (sym row_is) (subst (λ z. Contains (row_of g.before z) a) one has)))
    (λ (other : number n ≡ first → ⊥). ⊎_elim
    (λ there. let low' = there.0 in let high' = there.1 in inl (omega arith, omega arith))
    (λ (begins : a ≡ At q). let at : number a ≡ number (At q) = ap number begins in inl (omega arith, omega arith))
    (of.entered q s site a n ((of.before a n).0 has) (omega arith, omega arith)))
    (cases_eq (number n) first)

-- q alone, where one point alone leads there
pub through_lone : (g : Graph) (q first last : ℕ) (row : List Node) (from : Node) → first ≡ number (At q) → row ≡ row_of g.before (At q)
    → AllInBut first last row from → NoneIn first last row → LeadsThrough g first first from
through_lone g q first last row from is row_is but none n a inside has =
    let low = inside.0 in
    let high = inside.1 in
    let one : n ≡ At q = number_injective n (At q) (omega arith) in
    let in_row : Contains row a = subst (λ z. Contains z a) (sym row_is) (subst (λ z. Contains (row_of g.before z) a) one has) in
    ⊎_elim (λ there. absurd (none a in_row there)) (λ same. inr same) (but a in_row)

-- ---- ways inside

module _ (g : Graph) (graph : IsGraph g) (first last : ℕ) (from : Node) (through : LeadsThrough g first last from)
    (begins : (m : Node) → slice_get g.points 0 ≡ Some m → IsIn first last m → ⊥) where
  turned : (graph' : IsGraph g) (a b : Node) → Contains (row_of g.next a) b → Contains (row_of g.before b) a
  turned (S, (start, of)) a b has = (of.before a b).1 ((of.next a b).0 has)

  -- a path from where the body begins comes in through that point
  way_in : (n : Node) → Comes g n → IsIn first last n → Inner g first last from n
  way_in n (root is) inside = absurd (begins n is inside)
  way_in n (step m way e) inside =
      let back = turned graph m n e in
      ⊎_elim
      (λ there. goes m (way_in m way there) inside back)
      (λ (is : m ≡ from). enters inside (subst (λ z. Contains (row_of g.before n) z) is back))
      (through n m inside back)

  pub entry_made : (n : Node) (e : Entry) → number from ≡ e.through → number from < first → IsIn first last n → 2 * e.low ≤ first
      → ((p : ℕ) → from ≡ At p → e.low ≤ p) → e.high ≡ (last - 1) / 2 → Comes g n → IsEntry g n e
  entry_made n e is falls stands low low_from high comes =
      let least = stands.0 in
      let most = stands.1 in
      record {
        from = from;
        first = first;
        last = last;
        is = is;
        falls = omega arith;
        stands = stands;
        entered = record { begins = begins; through = through };
        inner = way_in n comes stands;
        covers = λ p inside. let above = inside.0 in let below = inside.1 in (omega arith, omega arith);
        covers_from = λ p at. let same : number from ≡ number (At p) = ap number at in (low_from p at, omega arith);
      }

-- the body begins at a point outside
pub outside : (g : Graph) (points : List Node) (d : Node) (first last : ℕ) → points ≡ g.points → (IsIn first last (get_or points 0 d) → ⊥)
    → (m : Node) → slice_get g.points 0 ≡ Some m → IsIn first last m → ⊥
outside g points d first last is out m first_is inside =
    out (subst (IsIn first last) (sym (ap (λ z. get_or z 0 d) is ∙ get_or_from_slice_get g.points 0 m d first_is)) inside)

-- ---- the entry of a number

module _ (g : Graph) (p : Node) (index : ℕ) (is : number p ≡ index) (comes : Comes g p) where
  pub entry_of_number : (o : Option Entry) → IfSome o (λ e. Comes g p → IsEntry g p e) → IfSome o (λ e. (n : Node) → number n ≡ index → IsEntry g n e)
  entry_of_number None all = tt
  entry_of_number (Some e) entry = λ n at. subst (λ z. IsEntry g z e) (sym (number_injective n p (at ∙ sym is))) (entry comes)

  pub entry_falls : (o : Option Entry) → IfSome o (λ e. Comes g p → IsEntry g p e) → IfSome o (λ e. e.through < index)
  entry_falls None all = tt
  entry_falls (Some e) entry = let falls = (entry comes).falls in omega arith

-- ---- the one outside

-- of some points all stand in a region but for the one that is kept
abbrev pub AllInOr : ℕ → ℕ → List Node → Option Node → Type 0
AllInOr first last points lone = (a : Node) → Contains points a → IsIn first last a ⊎ (lone ≡ Some a)

pub lone_more : (first last : ℕ) (points : List Node) (j : ℕ) (d : Node) (old new : Option Node) → j < length points → AllInOr first last (take j points) old
    → (IsIn first last (get_or points j d) × (new ≡ old)) ⊎ ((old ≡ None) × (new ≡ Some (get_or points j d))) → AllInOr first last (take (j + 1) points) new
lone_more first last points j d old new lt all turn a has = ⊎_elim
    (λ earlier. ⊎_elim
    (λ there. inl there)
    (λ kept. ⊎_elim (λ (in_it, same). inr (same ∙ kept)) (λ (none, is). absurd (none-some a (sym none ∙ kept))) turn)
    (all a earlier))
    (λ last_is. ⊎_elim (λ (in_it, same). inl (subst (IsIn first last) last_is in_it)) (λ (none, is). inr (is ∙ ap Some last_is)) turn)
    (Contains-push_cases (take j points) (get_or points j d) a (subst (λ z. Contains z a) (take_more points j d lt) has))

pub lone_all : (first last : ℕ) (points : List Node) (j : ℕ) (lone : Option Node) → length points ≤ j → AllInOr first last (take j points) lone
    → IfSome lone (λ from. AllInBut first last points from)
lone_all first last points j None le all = tt
lone_all first last points j (Some from) le all = λ a has. ⊎_elim
    (λ there. inl there)
    (λ kept. inr (sym (same_Some from a kept)))
    (all a (subst (λ z. Contains z a) (sym (take_all j points le)) has))

pub none_kept : (lone : Option Node) (r : Bool) → r ≡ is_some lone → r ≡ false → lone ≡ None
none_kept None r is not = refl
none_kept (Some n) r is not = absurd cc
