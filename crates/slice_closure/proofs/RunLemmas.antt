-- What a search that goes back at once meets is what the search meets.
use Rattle.std.proofs.Common.{◌≡◌, ◌↔◌, ℕ, zero, suc, ◌+◌, ◌<◌, inl, inr, ◌&&◌, not, nat_eq, nat_lt, Bool, true, false, List, [], ◌∷◌, Option}
use Rattle.std.proofs.Common.{Some, None, if◌then◌else◌, refl, sym, ap, ◌∙◌, subst, arith}
use Rattle.std.specs.List.{Contains}
use Rattle.wasm_types.specs.declared.module.Pos.{Pos}
use Rattle.wasm_types.specs.declared.place.Loc.{Loc}
use Rattle.wasm_types.specs.declared.place.Loc.TheVariants.{Mem}
use Rattle.wasm_types.specs.declared.place.Node.{Node}
use Rattle.wasm_types.specs.declared.place.Node.TheVariants as node
use Rattle.wasm_types.specs.Nodes.{At}
use Rattle.worklist.specs.Reached.{Reached}
use Rattle.called_rows.specs.declared.instrs.Whom.{Whom}
use Rattle.slice_closure.specs.declared.spot.Came.{Came}
use Rattle.slice_closure.specs.declared.spot.Came.TheVariants.{Never, First, After}
use Rattle.slice_closure.specs.declared.spot.Touch.{Touch}
use Rattle.slice_closure.specs.declared.spot.Touch.TheVariants as touch
use Rattle.slice_closure.specs.declared.tables.Tables.{Tables}
use Rattle.slice_closure.specs.declared.items.Item.{Item}
use Rattle.slice_closure.specs.declared.items.Item.TheVariants.{Keeps, Value, Written, Needs}
use Rattle.slice_closure.specs.Flow.{came_to, touch_at, ways_to, whom_in_touch, written_by}
use Rattle.slice_closure.specs.Items.{loc_number}
use Rattle.slice_closure.specs.Next.{spot_in, whom_in, value_by, value_item, WritesAs, Touched, Passes, Next}
use Rattle.slice_closure.specs.Runs.{is_quiet, back_by, back_at, on_from, settled, back_from, back, Lands, Short}
use Rattle.slice_closure.specs.RunLaws.{back_is}
use Rattle.slice_closure.proofs.Passing.{Follows, here, onward, Passes as MayPass, short_reached}
use Rattle.slice_closure.proofs.Pushes.{written_there}

-- ---- what leaves a location alone doesn't write it

differ : (a b : ℕ) → not (nat_eq a b) ≡ true → a ≡ b → ⊥
differ a b e same = grind arith

above : (n : ℕ) → nat_lt 1 n ≡ true → 0 ≡ n → ⊥
above n e none = grind arith

same_loc : (y x : Loc) → Some y ≡ Some x → loc_number y ≡ loc_number x
same_loc y x e = let same : y ≡ x = cc in ap loc_number same

record IsSilent (t : Touch) (x : Loc) : Type 0 where
  none : whom_in_touch t ≡ None
  free : written_by t ≡ Some x → ⊥

silent : (t : Touch) (x : Loc) → is_quiet t x ≡ true → IsSilent t x
silent touch.Nothing x e = record { none = refl; free = λ w. cc }
silent (touch.Reads y) x e = record { none = refl; free = λ w. cc }
silent (touch.Writes y) x e = record { none = refl; free = λ w. differ (loc_number y) (loc_number x) e (same_loc y x w) }
silent (touch.Changes y) x e = record { none = refl; free = λ w. differ (loc_number y) (loc_number x) e (same_loc y x w) }
silent touch.Loads x e = record { none = refl; free = λ w. cc }
silent touch.Stores x e = record { none = refl; free = λ w. above (loc_number x) e (same_loc Mem x w) }
silent (touch.Calls w) x e = absurd cc

-- ---- a step back

-- there is none where another point comes after the position, too, where something else leads there, and where the walk didn't come from a position
pub back_off : (t : Tables) (x : Loc) (p : ℕ) (b : Bool) (came : Came) (ways : List Node) → b ≡ false → back_by t x p b came ways ≡ None
back_off t x p true came ways off = absurd cc
back_off t x p false came ways off = refl

pub back_ways : (t : Tables) (x : Loc) (p : ℕ) (b : Bool) (came : Came) (ways : List Node) → (ways ≡ [] → ⊥) → back_by t x p b came ways ≡ None
back_ways t x p b came [] some = absurd (some refl)
back_ways t x p true (After (node.At r)) (n ∷ ways) some = refl
back_ways t x p true (After (node.Join b)) (n ∷ ways) some = refl
back_ways t x p true (After node.Exit) (n ∷ ways) some = refl
back_ways t x p true Never (n ∷ ways) some = refl
back_ways t x p true First (n ∷ ways) some = refl
back_ways t x p false came (n ∷ ways) some = refl

pub back_came : (t : Tables) (x : Loc) (p : ℕ) (b : Bool) (came : Came) (ways : List Node) → ((q : Pos) → came ≡ After (node.At q) → ⊥)
    → back_by t x p b came ways ≡ None
back_came t x p true (After (node.At r)) ways none = absurd (none r refl)
back_came t x p true (After (node.Join b)) ways none = refl
back_came t x p true (After node.Exit) ways none = refl
back_came t x p true Never ways none = refl
back_came t x p true First ways none = refl
back_came t x p false came ways none = refl

-- and else there is one, where this is told
pub back_on : (t : Tables) (x : Loc) (p : ℕ) (b : Bool) (came : Came) (ways : List Node) (q : Pos) (c : Bool) → b ≡ true → came ≡ After (node.At q) → ways ≡ []
    → c ≡ (nat_lt q.0 p && is_quiet (touch_at (spot_in t q.0)) x) → (if c then Some q else None) ≡ back_by t x p b came ways
back_on t x p true (After (node.At r)) [] q c on from lone is =
    let same : r ≡ q = cc in
    ap (λ (z : Bool). if z then Some q else None) is
    ∙ ap (λ (z : Pos). if nat_lt z.0 p && is_quiet (touch_at (spot_in t z.0)) x then Some z else None) (sym same)
back_on t x p true (After (node.At r)) (n ∷ ways) q c on from lone is = absurd cc
back_on t x p true (After (node.Join b)) ways q c on from lone is = absurd cc
back_on t x p true (After node.Exit) ways q c on from lone is = absurd cc
back_on t x p true Never ways q c on from lone is = absurd cc
back_on t x p true First ways q c on from lone is = absurd cc
back_on t x p false came ways q c on from lone is = absurd cc

-- ---- how far it goes

-- as far as a search has gone with n steps left
pub record Goes (t : Tables) (x : Loc) (first p : ℕ) : Type 0 where
  pub left : ℕ
  pub enough : p < left
  pub same : settled (first + 1) t x first ≡ settled left t x p

pub goes_start : (t : Tables) (x : Loc) (p : ℕ) → Goes t x p p
goes_start t x p = record { left = p + 1; enough = omega arith; same = refl }

pub goes_on : (t : Tables) (x : Loc) (first p : ℕ) (q : Pos) → back_at t x p ≡ Some q → Goes t x first p → (q.0 < p) × Goes t x first q.0
goes_on t x first p q e g = go g.left g.enough g.same
  where
    go : (n : ℕ) → p < n → settled (first + 1) t x first ≡ settled n t x p → (q.0 < p) × Goes t x first q.0
    go zero lt same = absurd (omega arith)
    go (suc n) lt same =
        let less = (back_is t x p q e).less in
        (less, record { left = n; enough = omega arith; same = same ∙ ap (λ (o : Option Pos). on_from o (settled n t x) p) e })

pub goes_end : (t : Tables) (x : Loc) (first p : ℕ) → back_at t x p ≡ None → Goes t x first p → p ≡ settled (first + 1) t x first
goes_end t x first p e g = go g.left g.enough g.same
  where
    go : (n : ℕ) → p < n → settled (first + 1) t x first ≡ settled n t x p → p ≡ settled (first + 1) t x first
    go zero lt same = absurd (omega arith)
    go (suc n) lt same = sym (same ∙ ap (λ (o : Option Pos). on_from o (settled n t x) p) e)

-- ---- what is forced

-- from a location that is needed where one point alone leads
pub record Forced (t : Tables) (i j : Item) : Type 0 where
  pub place : Loc
  pub pos : ℕ
  pub from : Node
  pub is : i ≡ Needs place (At pos)
  pub comes : came_to t.flow.now.spots.items (At pos) ≡ After from
  pub lone : ways_to t.flow.now.before.items (At pos) ≡ []
  pub passes : Passes t place from j

passes_once : (t : Tables) (x : Loc) (b : Node) (i j : Item) → Passes t x b i → Passes t x b j → i ≡ j
passes_once t x b i j (inl (w, e)) (inl (w', e')) = e ∙ sym e'
passes_once t x b i j (inl (w, e)) (inr (free, e')) = absurd (free w)
passes_once t x b i j (inr (free, e)) (inl (w, e')) = absurd (free w)
passes_once t x b i j (inr (free, e)) (inr (free', e')) = e ∙ sym e'

same_after : (a b : Node) → After a ≡ After b → a ≡ b
same_after a b e = cc

forced_edge : (t : Tables) (i k : Item) → Forced t i k → Next t i k
forced_edge t i k f = subst (λ z. Next t z k) (sym f.is) (f.from, (inl f.comes, f.passes))

forced_only : (t : Tables) (i k j : Item) → Forced t i k → Next t i j → k ≡ j
forced_only t i k j f e = go (subst (λ z. Next t z j) f.is e)
  where
    go : Next t (Needs f.place (At f.pos)) j → k ≡ j
    go (b, (inl came, on)) =
        let same : f.from ≡ b = same_after f.from b (sym f.comes ∙ came) in
        passes_once t f.place b k j (subst (λ z. Passes t f.place z k) same f.passes) on
    go (b, (inr way, on)) = absurd (let has : Contains [] b = subst (λ (ws : List Node). Contains ws b) f.lone way in omega (arith, has.1))

module _ (t : Tables) where
  step_back : (x : Loc) (p : ℕ) (q : Pos) → back_at t x p ≡ Some q → Forced t (Needs x (At p)) (Needs x (At q.0))
  step_back x p q e =
      let told = back_is t x p q e in
      let quiet = silent (touch_at (spot_in t q.0)) x told.quiet in
      record {
        place = x;
        pos = p;
        from = At q.0;
        is = refl;
        comes = told.from;
        lone = told.lone;
        passes = inr (λ w. quiet.free (subst (λ (o : Option Whom). WritesAs t q.0 o x) quiet.none (written_there (Touched t) x q.0 w)), refl);
      }

  follows : (n : ℕ) (x : Loc) (p : ℕ) → Follows (Forced t) (Needs x (At p)) (Needs x (At (settled n t x p)))
  follows zero x p = here
  follows (suc n) x p = go (back_at t x p) refl (λ q. follows n x q)
    where
      go : (o : Option Pos) → back_at t x p ≡ o → ((q : ℕ) → Follows (Forced t) (Needs x (At q)) (Needs x (At (settled n t x q))))
          → Follows (Forced t) (Needs x (At p)) (Needs x (At (on_from o (settled n t x) p)))
      go None e more = here
      go (Some q) e more = onward (Needs x (At q.0)) (step_back x p q e) (more q.0)

  back_follows : (x : Loc) (b : Node) → Follows (Forced t) (Needs x b) (Needs x (back t x b))
  back_follows x (node.At p) = go (is_quiet (touch_at (spot_in t p.0)) x)
    where
      go : (b : Bool) → Follows (Forced t) (Needs x (At p.0)) (Needs x (At (back_from b t x p.0)))
      go true = follows (p.0 + 1) x p.0
      go false = here
  back_follows x (node.Join b) = here
  back_follows x node.Exit = here

  lands_sound : (x : Loc) (b : Node) (j : Item) → Lands t x b j → (k : Item) × (Passes t x b k × Follows (Forced t) k j)
  lands_sound x b j (inl (w, e)) = (j, (inl (w, e), here))
  lands_sound x b j (inr (free, e)) = (Needs x b, (inr (free, refl), subst (λ z. Follows (Forced t) (Needs x b) z) (sym e) (back_follows x b)))

  lands_complete : (x : Loc) (b : Node) (k : Item) → Passes t x b k → (j : Item) × (Lands t x b j × Follows (Forced t) k j)
  lands_complete x b k (inl (w, e)) = (k, (inl (w, e), here))
  lands_complete x b k (inr (free, e)) =
      (Needs x (back t x b), (inr (free, refl), subst (λ z. Follows (Forced t) z (Needs x (back t x b))) (sym e) (back_follows x b)))

  sound : (i j : Item) → Short t i j → (k : Item) × (Next t i k × Follows (Forced t) k j)
  sound (Keeps n) j h = (j, (h, here))
  sound (Value n) j h = (j, (h, here))
  sound (Written x n) j h = (j, (h, here))
  sound (Needs x a) j (b, (before, lands)) = let s = lands_sound x b j lands in (s.0, ((b, (before, s.1.0)), s.1.1))

  complete : (i k : Item) → Next t i k → (j : Item) × (Short t i j × Follows (Forced t) k j)
  complete (Keeps n) k h = (k, (h, here))
  complete (Value n) k h = (k, (h, here))
  complete (Written x n) k h = (k, (h, here))
  complete (Needs x a) k (b, (before, passes)) = let c = lands_complete x b k passes in (c.0, ((b, (before, c.1.0)), c.1.1))

  pass : MayPass (Next t) (Forced t) (Short t)
  pass = record { edge = forced_edge t; only = forced_only t; sound = sound; complete = complete }

  -- kept nodes are met by both, and so are values
  pub keeps_met : (Root : Item → Type 0) (n : Node) → Reached Root (Short t) (Keeps n) ↔ Reached Root (Next t) (Keeps n)
  keeps_met Root n = short_reached Root (Next t) (Forced t) (Short t) pass (Keeps n) (λ k f. let clash : Keeps n ≡ Needs f.place (At f.pos) = f.is in cc)

  value_met : (Root : Item → Type 0) (w : Option Whom) (n : Node) → Reached Root (Short t) (value_by w n) ↔ Reached Root (Next t) (value_by w n)
  value_met Root None n = keeps_met Root n
  value_met Root (Some w) n = short_reached Root (Next t) (Forced t) (Short t) pass (Value n)
      (λ k f. let clash : Value n ≡ Needs f.place (At f.pos) = f.is in cc)

  pub values_met : (Root : Item → Type 0) (n : Node) → Reached Root (Short t) (value_item t n) ↔ Reached Root (Next t) (value_item t n)
  values_met Root n = value_met Root (whom_in t n) n
