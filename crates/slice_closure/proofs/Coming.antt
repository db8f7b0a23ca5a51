-- What the walk finds leads to a point is what leads there.
use Rattle.std.proofs.Common.{◌≡◌, ℕ, zero, suc, ◌+◌, ◌*◌, ◌&&◌, ◌⊎◌, inl, inr, ⊎_elim, Bool, true, false, List, [], ◌∷◌, ◌++◌, Vec, Global, Some, length, map, get_or, refl, sym, ap, ◌∙◌, subst, arith, length-append, append_assoc}
use Rattle.std.specs.Prelude.{slice_get}
use Rattle.std.specs.List.{Contains}
use Rattle.wasm_types.specs.declared.instr.Instr.{Instr}
use Rattle.wasm_types.specs.declared.instr.Instr as instr
use Rattle.wasm_types.specs.declared.place.Node.{Node}
use Rattle.wasm_types.specs.declared.place.Node.TheVariants as node
use Rattle.wasm_types.specs.declared.place.Node.TheVariants.{Exit}
use Rattle.wasm_types.specs.Code.{Code, done, one, block, repeat, branch, count}
use Rattle.wasm_types.specs.Nodes.{At, Join}
use Rattle.wasm_types.specs.Sites.{Among}
use Rattle.block_cfg.specs.Graph.{number}
use Rattle.block_cfg.specs.Walk.{goes_on, goes_of, target_of, first_of, where_live, lists}
use Rattle.block_cfg.proofs.MemberLemmas.{among_of, contains_of, among_left, among_right, among_cases}
use Rattle.block_cfg.proofs.PointLemmas.{length_lists}
use Rattle.slice_closure.specs.declared.spot.Came.{Came}
use Rattle.slice_closure.specs.declared.spot.Came.TheVariants.{Never, First, After}
use Rattle.slice_closure.specs.declared.spot.Spot.{Spot}
use Rattle.slice_closure.specs.Flow.{through, onward, came_at, spots_in, Way, lead, leaves, where_came, ways_in, ways_of, came_of, came_to, ways_to, AreRows}
use Rattle.slice_closure.proofs.Walking.{length_spots}

abbrev pub way : Node → Node → Way
way b a = (b, a)

abbrev pub came_live : Came → Bool
came_live Never = false
came_live First = true
came_live (After n) = true

pub through_live : (came : Came) (n : Node) → came_live (through came n) ≡ came_live came
through_live Never n = refl
through_live First n = refl
through_live (After m) n = refl

through_after : (came : Came) (n a : Node) → through came n ≡ After a → (n ≡ a) × (came_live came ≡ true)
through_after Never n a e = absurd cc
through_after First n a e = (cc, refl)
through_after (After m) n a e = (cc, refl)

live_through : (came : Came) (n : Node) → came_live came ≡ true → through came n ≡ After n
live_through Never n e = absurd cc
live_through First n e = refl
live_through (After m) n e = refl

pub onward_live : (came : Came) (i : Instr) (p : ℕ) → came_live (onward came i p) ≡ (goes_on i && came_live came)
onward_live came i p = go (goes_on i) refl
  where
    go : (b : Bool) → goes_on i ≡ b → came_live (onward came i p) ≡ (goes_on i && came_live came)
    go true e = rw e (through_live came (At p))
    go false e = rw e refl

onward_after : (came : Came) (i : Instr) (p : ℕ) (a : Node) → onward came i p ≡ After a → (At p ≡ a) × ((goes_on i ≡ true) × (came_live came ≡ true))
onward_after came i p a = go (goes_on i) refl
  where
    go : (b : Bool) → goes_on i ≡ b → onward came i p ≡ After a → (At p ≡ a) × ((goes_on i ≡ true) × (came_live came ≡ true))
    go true e is = let h = through_after came (At p) a (rw e at is) in (h.0, (e, h.1))
    go false e is = let none : Never ≡ After a = rw e at is in absurd cc

lead_has : (came : Came) (k b a : Node) → Among (lead came k) (way b a) → (k ≡ b) × (came ≡ After a)
lead_has Never k b a h = absurd h
lead_has First k b a h = absurd h
lead_has (After n) k b a (inl e) = (ap (λ (x : Way). x.0) e, ap (λ (x : Way). After x.1) e)
lead_has (After n) k b a (inr h) = absurd h

where_came_has : (came : Came) (ways : List Way) (x : Way) → Among (where_came came ways) x → (came_live came ≡ true) × Among ways x
where_came_has Never ways x h = absurd h
where_came_has First ways x h = (refl, h)
where_came_has (After n) ways x h = (refl, h)

has_where_came : (came : Came) (ways : List Way) (x : Way) → came_live came ≡ true → Among ways x → Among (where_came came ways) x
has_where_came Never ways x e h = absurd cc
has_where_came First ways x e h = h
has_where_came (After n) ways x e h = h

where_live_has : (live : Bool) (row : List Node) (b : Node) → Among (where_live live row) b → (live ≡ true) × Among row b
where_live_has true row b h = (refl, h)
where_live_has false row b h = absurd h

has_where_live : (live : Bool) (row : List Node) (b : Node) → live ≡ true → Among row b → Among (where_live live row) b
has_where_live true row b e h = h
has_where_live false row b e h = absurd cc

-- ---- branches

each_target : (labels : List Node) (some : List ℕ) (p : ℕ) (b a : Node) → Among (map (λ l. way (target_of labels l) (At p)) some) (way b a)
    → (At p ≡ a) × Among (map (target_of labels) some) b
each_target labels [] p b a h = absurd h
each_target labels (l ∷ some) p b a (inl e) = (ap (λ (x : Way). x.1) e, inl (ap (λ (x : Way). x.0) e))
each_target labels (l ∷ some) p b a (inr h) = let r = each_target labels some p b a h in (r.0, inr r.1)

target_each : (labels : List Node) (some : List ℕ) (p : ℕ) (b : Node) → Among (map (target_of labels) some) b
    → Among (map (λ l. way (target_of labels l) (At p)) some) (way b (At p))
target_each labels [] p b h = absurd h
target_each labels (l ∷ some) p b (inl e) = inl (ap (λ (n : Node). way n (At p)) e)
target_each labels (l ∷ some) p b (inr h) = inr (target_each labels some p b h)

way_parts : (x y b a : Node) → way x y ≡ way b a → (x ≡ b) × (y ≡ a)
way_parts x y b a e = (ap (λ (w : Way). w.0) e, ap (λ (w : Way). w.1) e)

-- what a branch leaves to is among what it leads to
leaves_goes : (labels : List Node) (i : Instr) (p : ℕ) (next b a : Node) → Among (leaves labels i p) (way b a) → (At p ≡ a) × Among (goes_of labels i next) b
leaves_goes labels (instr.Br l) p next b a (inl e) = let w = way_parts (target_of labels l) (At p) b a e in (w.1, inl w.0)
leaves_goes labels (instr.Br l) p next b a (inr h) = absurd h
leaves_goes labels (instr.BrIf l) p next b a (inl e) = let w = way_parts (target_of labels l) (At p) b a e in (w.1, inr (inl w.0))
leaves_goes labels (instr.BrIf l) p next b a (inr h) = absurd h
leaves_goes labels (instr.BrTable some other) p next b a (inl e) = let w = way_parts (target_of labels other) (At p) b a e in (w.1, inl w.0)
leaves_goes labels (instr.BrTable some other) p next b a (inr h) = let r = each_target labels some p b a h in (r.0, inr r.1)
leaves_goes labels instr.Return p next b a (inl e) = let w = way_parts Exit (At p) b a e in (w.1, inl w.0)
leaves_goes labels instr.Return p next b a (inr h) = absurd h
leaves_goes labels i p next b a h = absurd h

-- and all else is what comes next
goes_leaves : (labels : List Node) (i : Instr) (p : ℕ) (next b : Node) → Among (goes_of labels i next) b
    → ((goes_on i ≡ true) × (next ≡ b)) ⊎ Among (leaves labels i p) (way b (At p))
goes_leaves labels (instr.Br l) p next b (inl e) = inr (inl (ap (λ (n : Node). way n (At p)) e))
goes_leaves labels (instr.Br l) p next b (inr h) = absurd h
goes_leaves labels (instr.BrIf l) p next b (inl e) = inl (refl, e)
goes_leaves labels (instr.BrIf l) p next b (inr (inl e)) = inr (inl (ap (λ (n : Node). way n (At p)) e))
goes_leaves labels (instr.BrIf l) p next b (inr (inr h)) = absurd h
goes_leaves labels (instr.BrTable some other) p next b (inl e) = inr (inl (ap (λ (n : Node). way n (At p)) e))
goes_leaves labels (instr.BrTable some other) p next b (inr h) = inr (inr (target_each labels some p b h))
goes_leaves labels instr.Return p next b (inl e) = inr (inl (ap (λ (n : Node). way n (At p)) e))
goes_leaves labels instr.Return p next b (inr h) = absurd h
goes_leaves labels instr.Unreachable p next b h = absurd h
goes_leaves labels i p next b (inl e) = inl (refl, e)
goes_leaves labels i p next b (inr h) = absurd h

goes_next : (labels : List Node) (i : Instr) (next : Node) → goes_on i ≡ true → Among (goes_of labels i next) next
goes_next labels (instr.Br l) next e = absurd cc
goes_next labels (instr.BrIf l) next e = inl refl
goes_next labels (instr.BrTable some other) next e = absurd cc
goes_next labels instr.Return next e = absurd cc
goes_next labels instr.Unreachable next e = absurd cc
goes_next labels i next e = inl refl

-- ---- what is found leads there

module _ (G : List (List Node)) where
  -- by the rows that points lead to
  abbrev pub Led : Node → Node → Type 0
  Led a b = Among (get_or G (number a) []) b

  abbrev pub HasRows : ℕ → List (List Node) → Type 0
  HasRows n [] = Unit {0}
  HasRows n (r ∷ rows) = (get_or G n [] ≡ r) × HasRows (n + 1) rows

  rows_front : (n : ℕ) (A B : List (List Node)) → HasRows n (A ++ B) → HasRows n A
  rows_front n [] B h = tt
  rows_front n (r ∷ A) B h = (h.0, rows_front (n + 1) A B h.1)

  rows_back : (n m : ℕ) (A B : List (List Node)) → m ≡ n + length A → HasRows n (A ++ B) → HasRows m B
  rows_back n m [] B e h = let f : n ≡ m = omega arith in subst (λ z. HasRows z B) f h
  rows_back n m (r ∷ A) B e h = rows_back (n + 1) m A B (omega arith) h.1

  abbrev pub EachSpot : ℕ → List Spot → Type 0
  EachSpot p [] = Unit {0}
  EachSpot p (s ∷ ss) = ((a : Node) → s.came ≡ After a → Led a (At p)) × EachSpot (p + 1) ss

  spots_append : (p q : ℕ) (A B : List Spot) → q ≡ p + length A → EachSpot p A → EachSpot q B → EachSpot p (A ++ B)
  spots_append p q [] B e f g = let same : q ≡ p = omega arith in subst (λ z. EachSpot z B) same g
  spots_append p q (s ∷ A) B e f g = (f.0, spots_append (p + 1) q A B (omega arith) f.1 g)

  pub record Sound (labels : List Node) (k : Node) (came : Came) (c : Code) (p : ℕ) : Type 0 where
    pub ways : (b a : Node) → Among (ways_in labels came c p) (way b a) → Led a b
    pub spots : EachSpot p (spots_in came c p)
    pub end : (a : Node) → came_at came c p ≡ After a → Led a k

  -- from here on, in the rows of a position
  led_through : (came : Came) (n : Node) (row : List Node) (b : Node) → get_or G (number n) [] ≡ where_live (came_live came) row → Among row b
      → (a : Node) → through came n ≡ After a → Led a b
  led_through came n row b is has a e =
      let h = through_after came n a e in
      subst (λ z. Led z b) h.0 (subst (λ (r : List Node). Among r b) (sym is) (has_where_live (came_live came) row b h.1 has))

  inner_ways : (labels : List Node) (k : Node) (came : Came) (c : Code) (p : ℕ) → Sound labels k came c p
      → (b a : Node) → Among (ways_in labels came c p ++ lead (came_at came c p) k) (way b a) → Led a b
  inner_ways labels k came c p s b a h = ⊎_elim
      (λ w. s.ways b a w)
      (λ l. let e = lead_has (came_at came c p) k b a l in subst (λ z. Led a z) e.0 (s.end a e.1))
      (among_cases (ways_in labels came c p) (lead (came_at came c p) k) (way b a) h)

  pub sound : (labels : List Node) (k : Node) (came : Came) (c : Code) (p : ℕ) → HasRows (2 * p + 1) (lists (came_live came) labels k c p)
      → ((a : Node) → came ≡ After a → Led a (first_of p c k)) → Sound labels k came c p
  sound labels k came done p h first = record { ways = λ b a w. absurd w; spots = tt; end = first }
  sound labels k came (one i rest) p h first =
      let next = first_of (p + 1) rest k in
      let came' = onward came i p in
      let at : 2 * p + 1 + 1 + 1 ≡ 2 * (p + 1) + 1 = omega arith in
      let rows : HasRows (2 * (p + 1) + 1) (lists (came_live came') labels k rest (p + 1)) =
      subst (λ b. HasRows (2 * (p + 1) + 1) (lists b labels k rest (p + 1))) (sym (onward_live came i p))
      (subst (λ n. HasRows n (lists (goes_on i && came_live came) labels k rest (p + 1))) at h.1.1) in
      let on : (a : Node) → came' ≡ After a → Led a next = λ a e.
      let o = onward_after came i p a e in
      subst (λ z. Led z next) o.0 (subst (λ (r : List Node). Among r next) (sym h.0) (has_where_live (came_live came) (goes_of labels i next) next o.1.1
      (goes_next labels i next o.1.0))) in
      let r = sound labels k came' rest (p + 1) rows on in
      record {
        ways = λ b a w. ⊎_elim
            (λ l.
            let x = where_came_has came (leaves labels i p) (way b a) l in
            let g = leaves_goes labels i p next b a x.1 in
            subst (λ z. Led z b) g.0 (subst (λ (row : List Node). Among row b) (sym h.0) (has_where_live (came_live came) (goes_of labels i next) b x.0 g.1)))
            (λ l. r.ways b a l)
            (among_cases (where_came came (leaves labels i p)) (ways_in labels came' rest (p + 1)) (way b a) w);
        spots = (first, r.spots);
        end = r.end;
      }
  sound labels k came (block kind inner rest) p h first =
      let e = p + 1 + count inner in
      let I = lists (came_live came) (Join p ∷ labels) (Join p) inner (p + 1) in
      let R = lists (came_live came) labels k rest e in
      let long : length I ≡ 2 * count inner = length_lists (came_live came) (Join p ∷ labels) (Join p) inner (p + 1) in
      let at : 2 * p + 1 + 1 + 1 ≡ 2 * (p + 1) + 1 = omega arith in
      let here = subst (λ n. HasRows n (I ++ R)) at h.1.1 in
      let in_rows = subst (λ b. HasRows (2 * (p + 1) + 1) (lists b (Join p ∷ labels) (Join p) inner (p + 1))) (sym (through_live came (At p)))
      (rows_front (2 * (p + 1) + 1) I R here) in
      let on_rows = subst (λ b. HasRows (2 * e + 1) (lists b labels k rest e)) (sym (through_live came (Join p)))
      (rows_back (2 * (p + 1) + 1) (2 * e + 1) I R (omega arith) here) in
      let s = sound (Join p ∷ labels) (Join p) (through came (At p)) inner (p + 1) in_rows
      (led_through came (At p) (first_of (p + 1) inner (Join p) ∷ []) (first_of (p + 1) inner (Join p)) h.0 (inl refl)) in
      let r = sound labels k (through came (Join p)) rest e on_rows
      (led_through came (Join p) (first_of e rest k ∷ []) (first_of e rest k) (subst (λ n. get_or G n [] ≡ where_live (came_live came) (first_of e rest k ∷ []))
      (let j : 2 * p + 1 + 1 ≡ 2 * p + 2 = omega arith in j) h.1.0) (inl refl)) in
      record {
        ways = λ b a w. ⊎_elim (inner_ways (Join p ∷ labels) (Join p) (through came (At p)) inner (p + 1) s b a) (r.ways b a)
            (among_cases _ (ways_in labels (through came (Join p)) rest e) (way b a) w);
        spots = (
          first,
          spots_append (p + 1) e (spots_in (through came (At p)) inner (p + 1)) (spots_in (through came (Join p)) rest e)
              (omega (arith, length_spots (through came (At p)) inner (p + 1))) s.spots r.spots,
        );
        end = r.end;
      }
  sound labels k came (repeat kind inner rest) p h first =
      let e = p + 1 + count inner in
      let I = lists (came_live came) (At p ∷ labels) (Join p) inner (p + 1) in
      let R = lists (came_live came) labels k rest e in
      let long : length I ≡ 2 * count inner = length_lists (came_live came) (At p ∷ labels) (Join p) inner (p + 1) in
      let at : 2 * p + 1 + 1 + 1 ≡ 2 * (p + 1) + 1 = omega arith in
      let here = subst (λ n. HasRows n (I ++ R)) at h.1.1 in
      let in_rows = subst (λ b. HasRows (2 * (p + 1) + 1) (lists b (At p ∷ labels) (Join p) inner (p + 1))) (sym (through_live came (At p)))
      (rows_front (2 * (p + 1) + 1) I R here) in
      let on_rows = subst (λ b. HasRows (2 * e + 1) (lists b labels k rest e)) (sym (through_live came (Join p)))
      (rows_back (2 * (p + 1) + 1) (2 * e + 1) I R (omega arith) here) in
      let s = sound (At p ∷ labels) (Join p) (through came (At p)) inner (p + 1) in_rows
      (led_through came (At p) (first_of (p + 1) inner (Join p) ∷ []) (first_of (p + 1) inner (Join p)) h.0 (inl refl)) in
      let r = sound labels k (through came (Join p)) rest e on_rows
      (led_through came (Join p) (first_of e rest k ∷ []) (first_of e rest k) (subst (λ n. get_or G n [] ≡ where_live (came_live came) (first_of e rest k ∷ []))
      (let j : 2 * p + 1 + 1 ≡ 2 * p + 2 = omega arith in j) h.1.0) (inl refl)) in
      record {
        ways = λ b a w. ⊎_elim (inner_ways (At p ∷ labels) (Join p) (through came (At p)) inner (p + 1) s b a) (r.ways b a)
            (among_cases _ (ways_in labels (through came (Join p)) rest e) (way b a) w);
        spots = (
          first,
          spots_append (p + 1) e (spots_in (through came (At p)) inner (p + 1)) (spots_in (through came (Join p)) rest e)
              (omega (arith, length_spots (through came (At p)) inner (p + 1))) s.spots r.spots,
        );
        end = r.end;
      }
  sound labels k came (branch kind x y rest) p h first =
      let f = p + 1 + count x in
      let e = p + 1 + count x + count y in
      let X = lists (came_live came) (Join p ∷ labels) (Join p) x (p + 1) in
      let Y = lists (came_live came) (Join p ∷ labels) (Join p) y f in
      let R = lists (came_live came) labels k rest e in
      let row = first_of (p + 1) x (Join p) ∷ first_of f y (Join p) ∷ [] in
      let long_x : length X ≡ 2 * count x = length_lists (came_live came) (Join p ∷ labels) (Join p) x (p + 1) in
      let long_y : length Y ≡ 2 * count y = length_lists (came_live came) (Join p ∷ labels) (Join p) y f in
      let at : 2 * p + 1 + 1 + 1 ≡ 2 * (p + 1) + 1 = omega arith in
      let here = subst (λ n. HasRows n (X ++ (Y ++ R))) at h.1.1 in
      let later = rows_back (2 * (p + 1) + 1) (2 * f + 1) X (Y ++ R) (omega arith) here in
      let x_rows = subst (λ b. HasRows (2 * (p + 1) + 1) (lists b (Join p ∷ labels) (Join p) x (p + 1))) (sym (through_live came (At p)))
      (rows_front (2 * (p + 1) + 1) X (Y ++ R) here) in
      let y_rows = subst (λ b. HasRows (2 * f + 1) (lists b (Join p ∷ labels) (Join p) y f)) (sym (through_live came (At p)))
      (rows_front (2 * f + 1) Y R later) in
      let on_rows = subst (λ b. HasRows (2 * e + 1) (lists b labels k rest e)) (sym (through_live came (Join p)))
      (rows_back (2 * f + 1) (2 * e + 1) Y R (omega arith) later) in
      let s = sound (Join p ∷ labels) (Join p) (through came (At p)) x (p + 1) x_rows (led_through came (At p) row (first_of (p + 1) x (Join p)) h.0 (inl refl)) in
      let u = sound (Join p ∷ labels) (Join p) (through came (At p)) y f y_rows (led_through came (At p) row (first_of f y (Join p)) h.0 (inr (inl refl))) in
      let r = sound labels k (through came (Join p)) rest e on_rows
      (led_through came (Join p) (first_of e rest k ∷ []) (first_of e rest k) (subst (λ n. get_or G n [] ≡ where_live (came_live came) (first_of e rest k ∷ []))
      (let j : 2 * p + 1 + 1 ≡ 2 * p + 2 = omega arith in j) h.1.0) (inl refl)) in
      record {
        ways = λ b a w. ⊎_elim (inner_ways (Join p ∷ labels) (Join p) (through came (At p)) x (p + 1) s b a)
            (λ v. ⊎_elim (inner_ways (Join p ∷ labels) (Join p) (through came (At p)) y f u b a) (r.ways b a)
            (among_cases _ (ways_in labels (through came (Join p)) rest e) (way b a) v)) (among_cases _ _ (way b a) w);
        spots = (
          first,
          spots_append (p + 1) f (spots_in (through came (At p)) x (p + 1)) _ (omega (arith, length_spots (through came (At p)) x (p + 1))) s.spots
              (spots_append f e (spots_in (through came (At p)) y f) (spots_in (through came (Join p)) rest e)
              (omega (arith, length_spots (through came (At p)) y f)) u.spots r.spots),
        );
        end = r.end;
      }

  pub spot_led : (p : ℕ) (ss : List Spot) → EachSpot p ss → (q : ℕ) (a : Node) → came_of (slice_get ss q) ≡ After a → Led a (At (p + q))
  spot_led p [] h q a e = let none : Never ≡ After a = e in absurd cc
  spot_led p (s ∷ ss) h zero a e = let same : p ≡ p + 0 = omega arith in subst (λ z. Led a (At z)) same (h.0 a e)
  spot_led p (s ∷ ss) h (suc q) a e = let same : p + 1 + q ≡ p + suc q = omega arith in subst (λ z. Led a (At z)) same (spot_led (p + 1) ss h.1 q a e)

-- ---- and all that leads there is found

module _ (E : List Way) (T : List Spot) where
  -- point a is found to lead to point b
  abbrev pub Found : Node → Node → Type 0
  Found b a = Among E (way b a) ⊎ ((p : ℕ) × ((b ≡ At p) × (came_of (slice_get T p) ≡ After a)))

  abbrev pub HasSpots : ℕ → List Spot → Type 0
  HasSpots n [] = Unit {0}
  HasSpots n (s ∷ ss) = (slice_get T n ≡ Some s) × HasSpots (n + 1) ss

  spots_front : (n : ℕ) (A B : List Spot) → HasSpots n (A ++ B) → HasSpots n A
  spots_front n [] B h = tt
  spots_front n (s ∷ A) B h = (h.0, spots_front (n + 1) A B h.1)

  spots_back : (n m : ℕ) (A B : List Spot) → m ≡ n + length A → HasSpots n (A ++ B) → HasSpots m B
  spots_back n m [] B e h = let f : n ≡ m = omega arith in subst (λ z. HasSpots z B) f h
  spots_back n m (s ∷ A) B e h = spots_back (n + 1) m A B (omega arith) h.1

  abbrev pub Within : List Way → Type 0
  Within ways = (x : Way) → Among ways x → Among E x

  -- two rows for each position
  abbrev pub Covers : ℕ → List (List Node) → Type 0
  Covers p [] = Unit {0}
  Covers p (r ∷ []) = ⊥
  Covers p (r ∷ j ∷ rows) = ((b : Node) → Among r b → Found b (At p)) × (((b : Node) → Among j b → Found b (Join p)) × Covers (p + 1) rows)

  covers_append : (p q : ℕ) (A B : List (List Node)) → 2 * p + length A ≡ 2 * q → Covers p A → Covers q B → Covers p (A ++ B)
  covers_append p q [] B e f g = let same : q ≡ p = omega arith in subst (λ z. Covers z B) same g
  covers_append p q (r ∷ []) B e f g = absurd f
  covers_append p q (r ∷ j ∷ A) B e f g = (f.0, (f.1.0, covers_append (p + 1) q A B (omega arith) f.1.1 g))

  arrives : (k a : Node) (came : Came) (c : Code) (p : ℕ) → came ≡ After a → HasSpots p (spots_in came c p) → Within (lead (came_at came c p) k)
      → Found (first_of p c k) a
  arrives k a came done p e h w = inl (w (way k a) (subst (λ z. Among (lead z k) (way k a)) (sym e) (inl refl)))
  arrives k a came (one i rest) p e h w = inr (p, (refl, ap came_of h.0 ∙ e))
  arrives k a came (block kind inner rest) p e h w = inr (p, (refl, ap came_of h.0 ∙ e))
  arrives k a came (repeat kind inner rest) p e h w = inr (p, (refl, ap came_of h.0 ∙ e))
  arrives k a came (branch kind x y rest) p e h w = inr (p, (refl, ap came_of h.0 ∙ e))

  -- a row of one point, at which the code that is next begins
  row_one : (came : Came) (n k : Node) (c : Code) (q : ℕ) → HasSpots q (spots_in (through came n) c q) → Within (lead (came_at (through came n) c q) k)
      → (b : Node) → Among (where_live (came_live came) (first_of q c k ∷ [])) b → Found b n
  row_one came n k c q h w b has =
      let r = where_live_has (came_live came) (first_of q c k ∷ []) b has in
      ⊎_elim (λ e. subst (λ z. Found z n) e (arrives k n (through came n) c q (live_through came n r.0) h w)) (λ none. absurd none) r.1

  pub covers : (labels : List Node) (k : Node) (came : Came) (c : Code) (p : ℕ) → Within (ways_in labels came c p) → Within (lead (came_at came c p) k)
      → HasSpots p (spots_in came c p) → Covers p (lists (came_live came) labels k c p)
  covers labels k came done p w l h = tt
  covers labels k came (one i rest) p w l h =
      let next = first_of (p + 1) rest k in
      let came' = onward came i p in
      let on = covers labels k came' rest (p + 1) (λ x has. w x (among_right (where_came came (leaves labels i p)) (ways_in labels came' rest (p + 1)) x has)) l
      h.1 in (
        λ b has.
            let r = where_live_has (came_live came) (goes_of labels i next) b has in
            ⊎_elim
            (λ (go, e).
            let is : came' ≡ After (At p) = rw go (live_through came (At p) r.0) in
            subst (λ z. Found z (At p)) e (arrives k (At p) came' rest (p + 1) is h.1 l))
            (λ x. inl (w (way b (At p)) (among_left (where_came came (leaves labels i p)) (ways_in labels came' rest (p + 1)) (way b (At p))
            (has_where_came came (leaves labels i p) (way b (At p)) r.0 x))))
            (goes_leaves labels i p next b r.1),
        (λ b none. absurd none, subst (λ z. Covers (p + 1) (lists z labels k rest (p + 1))) (onward_live came i p) on),
      )
  covers labels k came (block kind inner rest) p w l h =
      let e = p + 1 + count inner in
      let in' = through came (At p) in
      let on' = through came (Join p) in
      let W = ways_in (Join p ∷ labels) in' inner (p + 1) in
      let L = lead (came_at in' inner (p + 1)) (Join p) in
      let V = ways_in labels on' rest e in
      let long : length (lists (came_live came) (Join p ∷ labels) (Join p) inner (p + 1)) ≡ 2 * count inner =
      length_lists (came_live came) (Join p ∷ labels) (Join p) inner (p + 1) in
      let in_spots = spots_front (p + 1) (spots_in in' inner (p + 1)) (spots_in on' rest e) h.1 in
      let on_spots = spots_back (p + 1) e (spots_in in' inner (p + 1)) (spots_in on' rest e) (omega (arith, length_spots in' inner (p + 1))) h.1 in
      let in_lead : Within L = λ x has. w x (among_left (W ++ L) V x (among_right W L x has)) in
      let a = covers (Join p ∷ labels) (Join p) in' inner (p + 1) (λ x has. w x (among_left (W ++ L) V x (among_left W L x has))) in_lead in_spots in
      let b = covers labels k on' rest e (λ x has. w x (among_right (W ++ L) V x has)) l on_spots in (
        row_one came (At p) (Join p) inner (p + 1) in_spots in_lead,
        (
          row_one came (Join p) k rest e on_spots l,
          covers_append (p + 1) e (lists (came_live came) (Join p ∷ labels) (Join p) inner (p + 1)) (lists (came_live came) labels k rest e) (omega arith)
              (subst (λ z. Covers (p + 1) (lists z (Join p ∷ labels) (Join p) inner (p + 1))) (through_live came (At p)) a)
              (subst (λ z. Covers e (lists z labels k rest e)) (through_live came (Join p)) b),
        ),
      )
  covers labels k came (repeat kind inner rest) p w l h =
      let e = p + 1 + count inner in
      let in' = through came (At p) in
      let on' = through came (Join p) in
      let W = ways_in (At p ∷ labels) in' inner (p + 1) in
      let L = lead (came_at in' inner (p + 1)) (Join p) in
      let V = ways_in labels on' rest e in
      let long : length (lists (came_live came) (At p ∷ labels) (Join p) inner (p + 1)) ≡ 2 * count inner =
      length_lists (came_live came) (At p ∷ labels) (Join p) inner (p + 1) in
      let in_spots = spots_front (p + 1) (spots_in in' inner (p + 1)) (spots_in on' rest e) h.1 in
      let on_spots = spots_back (p + 1) e (spots_in in' inner (p + 1)) (spots_in on' rest e) (omega (arith, length_spots in' inner (p + 1))) h.1 in
      let in_lead : Within L = λ x has. w x (among_left (W ++ L) V x (among_right W L x has)) in
      let a = covers (At p ∷ labels) (Join p) in' inner (p + 1) (λ x has. w x (among_left (W ++ L) V x (among_left W L x has))) in_lead in_spots in
      let b = covers labels k on' rest e (λ x has. w x (among_right (W ++ L) V x has)) l on_spots in (
        row_one came (At p) (Join p) inner (p + 1) in_spots in_lead,
        (
          row_one came (Join p) k rest e on_spots l,
          covers_append (p + 1) e (lists (came_live came) (At p ∷ labels) (Join p) inner (p + 1)) (lists (came_live came) labels k rest e) (omega arith)
              (subst (λ z. Covers (p + 1) (lists z (At p ∷ labels) (Join p) inner (p + 1))) (through_live came (At p)) a)
              (subst (λ z. Covers e (lists z labels k rest e)) (through_live came (Join p)) b),
        ),
      )
  covers labels k came (branch kind x y rest) p w l h =
      let f = p + 1 + count x in
      let e = p + 1 + count x + count y in
      let in' = through came (At p) in
      let on' = through came (Join p) in
      let W = ways_in (Join p ∷ labels) in' x (p + 1) in
      let L = lead (came_at in' x (p + 1)) (Join p) in
      let U = ways_in (Join p ∷ labels) in' y f in
      let M = lead (came_at in' y f) (Join p) in
      let V = ways_in labels on' rest e in
      let X = lists (came_live came) (Join p ∷ labels) (Join p) x (p + 1) in
      let Y = lists (came_live came) (Join p ∷ labels) (Join p) y f in
      let R = lists (came_live came) labels k rest e in
      let long_x : length X ≡ 2 * count x = length_lists (came_live came) (Join p ∷ labels) (Join p) x (p + 1) in
      let long_y : length Y ≡ 2 * count y = length_lists (came_live came) (Join p ∷ labels) (Join p) y f in
      let P = spots_in in' x (p + 1) in
      let Q = spots_in in' y f in
      let Z = spots_in on' rest e in
      let later = spots_back (p + 1) f P (Q ++ Z) (omega (arith, length_spots in' x (p + 1))) h.1 in
      let x_spots = spots_front (p + 1) P (Q ++ Z) h.1 in
      let y_spots = spots_front f Q Z later in
      let on_spots = spots_back f e Q Z (omega (arith, length_spots in' y f)) later in
      let x_lead : Within L = λ z has. w z (among_left (W ++ L) ((U ++ M) ++ V) z (among_right W L z has)) in
      let y_lead : Within M = λ z has. w z (among_right (W ++ L) ((U ++ M) ++ V) z (among_left (U ++ M) V z (among_right U M z has))) in
      let a = covers (Join p ∷ labels) (Join p) in' x (p + 1) (λ z has. w z (among_left (W ++ L) ((U ++ M) ++ V) z (among_left W L z has))) x_lead x_spots in
      let b = covers (Join p ∷ labels) (Join p) in' y f (λ z has. w z (among_right (W ++ L) ((U ++ M) ++ V) z (among_left (U ++ M) V z (among_left U M z has))))
      y_lead y_spots in
      let c = covers labels k on' rest e (λ z has. w z (among_right (W ++ L) ((U ++ M) ++ V) z (among_right (U ++ M) V z has))) l on_spots in (
        λ n has.
            let r = where_live_has (came_live came) (first_of (p + 1) x (Join p) ∷ first_of f y (Join p) ∷ []) n has in
            ⊎_elim
            (λ s. subst (λ z. Found z (At p)) s (arrives (Join p) (At p) in' x (p + 1) (live_through came (At p) r.0) x_spots x_lead))
            (λ t. ⊎_elim
            (λ s. subst (λ z. Found z (At p)) s (arrives (Join p) (At p) in' y f (live_through came (At p) r.0) y_spots y_lead)) (λ none. absurd none) t)
            r.1,
        (
          row_one came (Join p) k rest e on_spots l,
          covers_append (p + 1) f X (Y ++ R) (omega arith)
              (subst (λ z. Covers (p + 1) (lists z (Join p ∷ labels) (Join p) x (p + 1))) (through_live came (At p)) a)
              (covers_append f e Y R (omega arith)
              (subst (λ z. Covers f (lists z (Join p ∷ labels) (Join p) y f)) (through_live came (At p)) b)
              (subst (λ z. Covers e (lists z labels k rest e)) (through_live came (Join p)) c)),
        ),
      )

  pub covered : (p : ℕ) (rows : List (List Node)) → Covers p rows → (q : ℕ) (b : Node)
      → (Among (get_or rows (2 * q) []) b → Found b (At (p + q))) × (Among (get_or rows (2 * q + 1) []) b → Found b (Join (p + q)))
  covered p [] h q b = (λ none. absurd none, λ none. absurd none)
  covered p (r ∷ []) h q b = absurd h
  covered p (r ∷ j ∷ rows) h zero b =
      let same : p ≡ p + 0 = omega arith in (
        λ has. subst (λ z. Found b (At z)) same (h.0 b has),
        λ has. subst (λ z. Found b (Join z)) same (h.1.0 b has),
      )
  covered p (r ∷ j ∷ rows) h (suc q) b =
      let same : p + 1 + q ≡ p + suc q = omega arith in
      let even : 2 * suc q ≡ suc (suc (2 * q)) = omega arith in
      let odd : 2 * suc q + 1 ≡ suc (suc (2 * q + 1)) = omega arith in
      let c = covered (p + 1) rows h.1.1 q b in (
        λ has. subst (λ z. Found b (At z)) same (c.0 (subst (λ n. Among (get_or (r ∷ j ∷ rows) n []) b) even has)),
        λ has. subst (λ z. Found b (Join z)) same (c.1 (subst (λ n. Among (get_or (r ∷ j ∷ rows) n []) b) odd has)),
      )

-- ---- the whole

row_here : (xs rows : List (List Node)) (r : List Node) → get_or (xs ++ r ∷ rows) (length xs) [] ≡ r
row_here [] rows r = refl
row_here (x ∷ xs) rows r = row_here xs rows r

rows_all : (pre rows : List (List Node)) (n : ℕ) → n ≡ length pre → HasRows (pre ++ rows) n rows
rows_all pre [] n e = tt
rows_all pre (r ∷ rows) n e = (
  ap (λ k. get_or (pre ++ r ∷ rows) k []) e ∙ row_here pre rows r,
  subst (λ (G : List (List Node)). HasRows G (n + 1) rows) (append_assoc pre (r ∷ []) rows) (rows_all (pre ++ r ∷ []) rows (n + 1) (omega
      (arith, length-append pre (r ∷ [])))),
)

spot_here : (xs ss : List Spot) (s : Spot) → slice_get (xs ++ s ∷ ss) (length xs) ≡ Some s
spot_here [] ss s = refl
spot_here (x ∷ xs) ss s = spot_here xs ss s

spots_all : (pre ss : List Spot) (n : ℕ) (E : List Way) → n ≡ length pre → HasSpots E (pre ++ ss) n ss
spots_all pre [] n E e = tt
spots_all pre (s ∷ ss) n E e = (
  ap (λ k. slice_get (pre ++ s ∷ ss) k) e ∙ spot_here pre ss s,
  subst (λ (T : List Spot). HasSpots E T (n + 1) ss) (append_assoc pre (s ∷ []) ss) (spots_all (pre ++ s ∷ []) ss (n + 1) E (omega
      (arith, length-append pre (s ∷ [])))),
)

-- of a body with this code
module _ (c : Code) (rows : List (Vec Node Global)) (made : AreRows (ways_of c) rows) where
  abbrev G : List (List Node)
  G = [] ∷ lists true (Exit ∷ []) Exit c 0

  abbrev T : List Spot
  T = spots_in First c 0

  abbrev E : List Way
  E = ways_of c

  all_sound : Sound G (Exit ∷ []) Exit First c 0
  all_sound = sound G (Exit ∷ []) Exit First c 0 (rows_all ([] ∷ []) (lists true (Exit ∷ []) Exit c 0) 1 (omega arith)) (λ a e. absurd cc)

  all_covered : Covers E T 0 (lists true (Exit ∷ []) Exit c 0)
  all_covered = covers E T (Exit ∷ []) Exit First c 0
      (λ x has. among_left (ways_in (Exit ∷ []) First c 0) (lead (came_at First c 0) Exit) x has)
      (λ x has. among_right (ways_in (Exit ∷ []) First c 0) (lead (came_at First c 0) Exit) x has)
      (spots_all [] (spots_in First c 0) 0 E (omega arith))

  -- the point after which the walk came to b, or one that a way leads from
  abbrev pub Told : Node → Node → Type 0
  Told b a = (came_to T b ≡ After a) ⊎ Contains (ways_to rows b) a

  came_led : (b a : Node) → came_to T b ≡ After a → Led G a b
  came_led node.Exit a h = let none : Never ≡ After a = h in absurd cc
  came_led (node.At p) a h = let same : 0 + p.0 ≡ p.0 = omega arith in subst (λ z. Led G a (At z)) same (spot_led G 0 T all_sound.spots p.0 a h)
  came_led (node.Join p) a h = let none : Never ≡ After a = h in absurd cc

  pub told_led : (b a : Node) → Told b a → Led G a b
  told_led b a (inl e) = came_led b a e
  told_led b a (inr has) = inner_ways G (Exit ∷ []) Exit First c 0 all_sound b a (among_of E (way b a) ((made b a).0 has))

  found_told : (b a : Node) → Found E T b a → Told b a
  found_told b a (inl has) = inr ((made b a).1 (contains_of E (way b a) has))
  found_told b a (inr (p, (e, came))) = inl (subst (λ z. came_to T z ≡ After a) (sym e) came)

  pub led_told : (b a : Node) → Led G a b → Told b a
  led_told b node.Exit h = absurd h
  led_told b (node.At p) h =
      let same : 0 + p.0 ≡ p.0 = omega arith in
      let at : 2 * p.0 + 1 ≡ suc (2 * p.0) = omega arith in
      let has : Among (get_or (lists true (Exit ∷ []) Exit c 0) (2 * p.0) []) b = subst (λ n. Among (get_or G n []) b) at h in
      found_told b (node.At p) (subst (λ z. Found E T b (At z)) same ((covered E T 0 (lists true (Exit ∷ []) Exit c 0) all_covered p.0 b).0 has))
  led_told b (node.Join p) h =
      let same : 0 + p.0 ≡ p.0 = omega arith in
      let at : 2 * p.0 + 2 ≡ suc (2 * p.0 + 1) = omega arith in
      let has : Among (get_or (lists true (Exit ∷ []) Exit c 0) (2 * p.0 + 1) []) b = subst (λ n. Among (get_or G n []) b) at h in
      found_told b (node.Join p) (subst (λ z. Found E T b (Join z)) same ((covered E T 0 (lists true (Exit ∷ []) Exit c 0) all_covered p.0 b).1 has))
