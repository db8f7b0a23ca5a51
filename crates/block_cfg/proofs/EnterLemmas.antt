-- What leads into the contents of a position stands there, or is that position.
use Rattle.std.proofs.Common.{◌≡◌, ℕ, zero, suc, ◌+◌, ◌*◌, ◌<◌, ◌≤◌, ◌&&◌, ◌⊎◌, inl, inr, Bool, true, false, List, [], ◌∷◌, ◌++◌, Some, length, get_or}
use Rattle.std.proofs.Common.{refl, subst, arith, length-append}
use Rattle.std.specs.List.{slice_get, Contains}
use Rattle.std.proofs.lemmas.Bool.{cases_lt}
use Rattle.std.proofs.lemmas.List.{append_assoc}
use Rattle.wasm_types.specs.declared.instr.Instr.{Instr}
use Rattle.wasm_types.specs.declared.instr.Instr as instr
use Rattle.wasm_types.specs.declared.place.Node.{Node}
use Rattle.wasm_types.specs.declared.place.Node.TheVariants.{Exit}
use Rattle.wasm_types.specs.Code.{Code, done, one, block, repeat, branch, count}
use Rattle.wasm_types.specs.Nodes.{At, Join}
use Rattle.wasm_types.specs.Sites.{Among}
use Rattle.block_cfg.specs.Graph.{number, row_of, IsInside}
use Rattle.block_cfg.specs.Walk.{goes_of, goes_on, first_of, where_live, lists}
use Rattle.block_cfg.specs.Stops.{stops_in}
use Rattle.block_cfg.proofs.MemberLemmas.{among_of, number_injective}
use Rattle.block_cfg.proofs.LeadLemmas.{EachNode, EachRow, each_among, rows_append, target_each, targets_each}

-- ---- rows

each_map : (P Q : Node → Type 0) → ((n : Node) → P n → Q n) → (row : List Node) → EachNode P row → EachNode Q row
each_map P Q f [] h = tt
each_map P Q f (n ∷ row) h = (f n h.0, each_map P Q f row h.1)

rows_map : (P Q : Node → Type 0) → ((n : Node) → P n → Q n) → (rows : List (List Node)) → EachRow P rows → EachRow Q rows
rows_map P Q f [] h = tt
rows_map P Q f (row ∷ rows) h = (each_map P Q f row h.0, rows_map P Q f rows h.1)

live_each : (P : Node → Type 0) (live : Bool) (row : List Node) → EachNode P row → EachNode P (where_live live row)
live_each P true row h = h
live_each P false row h = tt

goes_each : (P : Node → Type 0) (labels : List Node) (i : Instr) (next : Node) → P Exit → EachNode P labels → P next → EachNode P (goes_of labels i next)
goes_each P labels (instr.Br l) next x ls h = (target_each P labels l x ls, tt)
goes_each P labels (instr.BrIf l) next x ls h = (h, (target_each P labels l x ls, tt))
goes_each P labels (instr.BrTable some other) next x ls h = targets_each P labels (other ∷ some) x ls
goes_each P labels instr.Return next x ls h = (x, tt)
goes_each P labels instr.Unreachable next x ls h = tt
goes_each P labels i next x ls h = (h, tt)

-- Of rows of the points from number `base` on: what leads to a number above `lo`, and not above `hi`, has such a number itself, or `lo`.
abbrev Closed : ℕ → ℕ → ℕ → List (List Node) → Type 0
Closed lo hi base [] = Unit {0}
Closed lo hi base (row ∷ rows) = ((n : Node) → Among row n → lo < number n → number n ≤ hi → (lo ≤ base) × (base ≤ hi)) × Closed lo hi (base + 1) rows

closed_append : (lo hi base mid : ℕ) (xs ys : List (List Node)) → base + length xs ≡ mid → Closed lo hi base xs → Closed lo hi mid ys
    → Closed lo hi base (xs ++ ys)
closed_append lo hi base mid [] ys e f g = let same : mid ≡ base = omega arith in subst (λ z. Closed lo hi z ys) same g
closed_append lo hi base mid (x ∷ xs) ys e f g = (f.0, closed_append lo hi (base + 1) mid xs ys (omega arith) f.1 g)

closed_within : (lo hi base : ℕ) (rows : List (List Node)) → lo ≤ base → base + length rows ≤ hi + 1 → Closed lo hi base rows
closed_within lo hi base [] above below = tt
closed_within lo hi base (row ∷ rows) above below = ((λ n a l h. (above, omega arith)), closed_within lo hi (base + 1) rows (omega arith) (omega arith))

abbrev Outside : ℕ → ℕ → Node → Type 0
Outside lo hi n = (number n ≤ lo) ⊎ (hi < number n)

outside_not : (lo hi : ℕ) (n : Node) → Outside lo hi n → lo < number n → number n ≤ hi → ⊥
outside_not lo hi n (inl a) l h = omega arith
outside_not lo hi n (inr a) l h = omega arith

closed_outside : (lo hi base : ℕ) (rows : List (List Node)) → EachRow (Outside lo hi) rows → Closed lo hi base rows
closed_outside lo hi base [] e = tt
closed_outside lo hi base (row ∷ rows) e = (
  (λ n a l h. absurd (outside_not lo hi n (each_among (Outside lo hi) row n e.0 a) l h)),
  closed_outside lo hi (base + 1) rows e.1,
)

closed_at : (lo hi base : ℕ) (rows : List (List Node)) (k : ℕ) (n : Node) → Closed lo hi base rows → Among (get_or rows k []) n → lo < number n → number n ≤ hi
    → (lo ≤ base + k) × (base + k ≤ hi)
closed_at lo hi base [] k n c a l h = absurd a
closed_at lo hi base (row ∷ rows) zero n c a l h = let r = c.0 n a l h in (omega (arith, r.0), omega (arith, r.1))
closed_at lo hi base (row ∷ rows) (suc k) n c a l h = let r = closed_at lo hi (base + 1) rows k n c.1 a l h in (omega (arith, r.0), omega (arith, r.1))

-- ---- where contents end

abbrev EachStop : (ℕ → ℕ → Type 0) → ℕ → List ℕ → Type 0
EachStop P p [] = Unit {0}
EachStop P p (e ∷ stops) = P p e × EachStop P (p + 1) stops

stop_append : (P : ℕ → ℕ → Type 0) (p m : ℕ) (xs ys : List ℕ) → p + length xs ≡ m → EachStop P p xs → EachStop P m ys → EachStop P p (xs ++ ys)
stop_append P p m [] ys e f g = let same : m ≡ p = omega arith in subst (λ z. EachStop P z ys) same g
stop_append P p m (x ∷ xs) ys e f g = (f.0, stop_append P (p + 1) m xs ys (omega arith) f.1 g)

stop_map : (P Q : ℕ → ℕ → Type 0) → ((q f : ℕ) → P q f → Q q f) → (p : ℕ) (xs : List ℕ) → EachStop P p xs → EachStop Q p xs
stop_map P Q g p [] h = tt
stop_map P Q g p (x ∷ xs) h = (g p x h.0, stop_map P Q g (p + 1) xs h.1)

stop_both : (P Q : ℕ → ℕ → Type 0) (p : ℕ) (xs : List ℕ) → EachStop P p xs → EachStop Q p xs → EachStop (λ q f. P q f × Q q f) p xs
stop_both P Q p [] g h = tt
stop_both P Q p (x ∷ xs) g h = ((g.0, h.0), stop_both P Q (p + 1) xs g.1 h.1)

stop_at : (P : ℕ → ℕ → Type 0) (p : ℕ) (xs : List ℕ) (k e : ℕ) → EachStop P p xs → slice_get xs k ≡ Some e → P (p + k) e
stop_at P p [] k e h is = absurd (grind (arith, is))
stop_at P p (x ∷ xs) zero e h is = let same : x ≡ e = cc in let here : p ≡ p + 0 = omega arith in subst (λ z. P z e) here (subst (P p) same h.0)
stop_at P p (x ∷ xs) (suc k) e h is = let here : p + 1 + k ≡ p + suc k = omega arith in subst (λ z. P z e) here (stop_at P (p + 1) xs k e h.1 is)

-- ---- the rows and ends of some positions that follow each other

-- outside, where it is so, or from position p to the one after the last
abbrev Near : (Node → Type 0) → ℕ → ℕ → Node → Type 0
Near P p e n = P n ⊎ ((2 * p + 1 ≤ number n) × (number n ≤ 2 * e + 1))

-- the contents of a position among these end there, and are led into from there
abbrev Shut : ℕ → ℕ → List (List Node) → ℕ → ℕ → Type 0
Shut p e rows q f = (p ≤ q) × ((q < f) × ((f ≤ e) × Closed (2 * q + 1) (2 * f) (2 * p + 1) rows))

record Part (P : Node → Type 0) (p e : ℕ) (rows : List (List Node)) (stops : List ℕ) : Type 0 where
  stops_long : p + length stops ≡ e
  rows_long : 2 * p + length rows ≡ 2 * e
  near : EachRow (Near P p e) rows
  shut : EachStop (Shut p e rows) p stops

-- what is so before p
abbrev IsBefore : (Node → Type 0) → ℕ → Type 0
IsBefore P p = (n : Node) → P n → number n < 2 * p + 1

part_none : (P : Node → Type 0) (p e : ℕ) → p ≡ e → Part P p e [] []
part_none P p e same = record { stops_long = omega arith; rows_long = omega arith; near = tt; shut = tt }

near_first : (P : Node → Type 0) (p m e : ℕ) → m ≤ e → (n : Node) → Near P p m n → Near P p e n
near_first P p m e le n (inl h) = inl h
near_first P p m e le n (inr h) = inr (h.0, omega (arith, h.1))

near_second : (P : Node → Type 0) (p m e : ℕ) → p ≤ m → (n : Node) → Near P m e n → Near P p e n
near_second P p m e le n (inl h) = inl h
near_second P p m e le n (inr h) = inr (omega (arith, h.0), h.1)

-- no contents in the one part are led into from the other
before_outside : (P : Node → Type 0) (p m e q f : ℕ) → IsBefore P p → p ≤ q → f ≤ m → (n : Node) → Near P m e n → Outside (2 * q + 1) (2 * f) n
before_outside P p m e q f low a b n (inl h) = let l = low n h in inl (omega (arith, l))
before_outside P p m e q f low a b n (inr h) = inr (omega (arith, h.0))

after_outside : (P : Node → Type 0) (p m q f : ℕ) → IsBefore P p → p ≤ q → m ≤ q → (n : Node) → Near P p m n → Outside (2 * q + 1) (2 * f) n
after_outside P p m q f low a b n (inl h) = let l = low n h in inl (omega (arith, l))
after_outside P p m q f low a b n (inr h) = inl (omega (arith, h.1))

part_both : (P : Node → Type 0) (p m e : ℕ) (X Y : List (List Node)) (x y : List ℕ) → IsBefore P p → Part P p m X x → Part P m e Y y
    → Part P p e (X ++ Y) (x ++ y)
part_both P p m e X Y x y low a b =
    let up : p ≤ m = omega (arith, a.stops_long) in
    let on : m ≤ e = omega (arith, b.stops_long) in
    let place : 2 * p + 1 + length X ≡ 2 * m + 1 = omega (arith, a.rows_long) in
    record {
      stops_long = omega (arith, a.stops_long, b.stops_long, length-append x y);
      rows_long = omega (arith, a.rows_long, b.rows_long, length-append X Y);
      near = rows_append (Near P p e) X Y (rows_map (Near P p m) (Near P p e) (near_first P p m e on) X a.near)
          (rows_map (Near P m e) (Near P p e) (near_second P p m e up) Y b.near);
      shut = stop_append (Shut p e (X ++ Y)) p m x y a.stops_long
          (stop_map (Shut p m X) (Shut p e (X ++ Y))
          (λ q f (above, (goes, (below, c))). let far : f ≤ e = omega arith in (
            above,
            (
              goes,
              (
                far,
                closed_append (2 * q + 1) (2 * f) (2 * p + 1) (2 * m + 1) X Y place c
                    (closed_outside (2 * q + 1) (2 * f) (2 * m + 1) Y
                    (rows_map (Near P m e) (Outside (2 * q + 1) (2 * f)) (before_outside P p m e q f low above below) Y b.near)),
              ),
            ),
          )) p x a.shut)
          (stop_map (Shut m e Y) (Shut p e (X ++ Y))
          (λ q f (above, (goes, (below, c))). let far : p ≤ q = omega arith in (
            far,
            (
              goes,
              (
                below,
                closed_append (2 * q + 1) (2 * f) (2 * p + 1) (2 * m + 1) X Y place
                    (closed_outside (2 * q + 1) (2 * f) (2 * p + 1) X
                    (rows_map (Near P p m) (Outside (2 * q + 1) (2 * f)) (after_outside P p m q f low far above) X a.near)) c,
              ),
            ),
          )) m y b.shut);
    }

-- a position that holds no others
part_plain : (P : Node → Type 0) (p : ℕ) (row : List Node) → EachNode (Near P p (p + 1)) row → Part P p (p + 1) (row ∷ [] ∷ []) ((p + 1) ∷ [])
part_plain P p row near = record {
  stops_long = omega arith;
  rows_long = omega arith;
  near = (near, (tt, tt));
  shut = ((omega arith, (omega arith, (omega arith, closed_within (2 * p + 1) (2 * (p + 1)) (2 * p + 1) (row ∷ [] ∷ []) (omega arith) (omega arith)))), tt);
}

-- what is so in the contents of p: their labels and what stands after them are those outside, p, or its join
abbrev In : (Node → Type 0) → ℕ → Node → Type 0
In P p n = P n ⊎ ((2 * p + 1 ≤ number n) × (number n ≤ 2 * p + 2))

in_before : (P : Node → Type 0) (p : ℕ) → IsBefore P p → IsBefore (In P p) (p + 1)
in_before P p low n (inl h) = let l = low n h in omega (arith, l)
in_before P p low n (inr h) = omega (arith, h.1)

near_out : (P : Node → Type 0) (p e : ℕ) → p + 1 ≤ e → (n : Node) → Near (In P p) (p + 1) e n → Near P p e n
near_out P p e le n (inl (inl h)) = inl h
near_out P p e le n (inl (inr h)) = inr (h.0, omega (arith, h.1))
near_out P p e le n (inr h) = inr (omega (arith, h.0), h.1)

-- what stands after a sequence, or after an instruction that ends at e
abbrev After : (Node → Type 0) → ℕ → Node → Type 0
After P e n = P n ⊎ (number n ≡ 2 * e + 1)

after_near : (P : Node → Type 0) (p e : ℕ) → p ≤ e → (n : Node) → After P e n → Near P p e n
after_near P p e le n (inl h) = inl h
after_near P p e le n (inr h) = inr (omega (arith, h), omega (arith, h))

next_outside : (P : Node → Type 0) (p e q f : ℕ) → IsBefore P p → p ≤ q → f ≤ e → (n : Node) → After P e n → Outside (2 * q + 1) (2 * f) n
next_outside P p e q f low a b n (inl h) = let l = low n h in inl (omega (arith, l))
next_outside P p e q f low a b n (inr h) = inr (omega (arith, h))

-- a block, loop or if at p, whose beginning leads into none of its contents but through their beginnings
part_holds : (P : Node → Type 0) (p e : ℕ) (row next : List Node) (X : List (List Node)) (x : List ℕ) → IsBefore P p → Part (In P p) (p + 1) e X x
    → EachNode (Near P p e) row → EachStop (λ q f. EachNode (Outside (2 * q + 1) (2 * f)) row) (p + 1) x → EachNode (After P e) next
    → Part P p e (row ∷ next ∷ X) (e ∷ x)
part_holds P p e row next X x low a near out after =
    let up : p + 1 ≤ e = omega (arith, a.stops_long) in
    let le : p ≤ e = omega arith in
    record {
      stops_long = omega (arith, a.stops_long);
      rows_long = omega (arith, a.rows_long);
      near = (
        near,
        (
          each_map (After P e) (Near P p e) (after_near P p e le) next after,
          rows_map (Near (In P p) (p + 1) e) (Near P p e) (near_out P p e up) X a.near,
        ),
      );
      shut = (
        (
          omega arith,
          (
            omega (arith, up),
            (
              omega arith,
              closed_within (2 * p + 1) (2 * e) (2 * p + 1) (row ∷ next ∷ X) (omega arith) (omega (arith, a.rows_long)),
            ),
          ),
        ),
        stop_map (λ q f. EachNode (Outside (2 * q + 1) (2 * f)) row × Shut (p + 1) e X q f) (Shut p e (row ∷ next ∷ X))
            (λ q f (o, (above, (goes, (below, c)))). let far : p ≤ q = omega arith in (
              far,
              (
                goes,
                (
                  below,
                  closed_append (2 * q + 1) (2 * f) (2 * p + 1) (2 * (p + 1) + 1) (row ∷ next ∷ []) X (omega arith)
                      (closed_outside (2 * q + 1) (2 * f) (2 * p + 1) (row ∷ next ∷ [])
                      (o, (each_map (After P e) (Outside (2 * q + 1) (2 * f)) (next_outside P p e q f low far below) next after, tt))) c,
                ),
              ),
            ))
            (p + 1) x (stop_both (λ q f. EachNode (Outside (2 * q + 1) (2 * f)) row) (Shut (p + 1) e X) (p + 1) x out a.shut),
      );
    }

-- the beginning of contents at p + 1, or the join of p
abbrev Begins : ℕ → Node → Type 0
Begins p n = (2 * p + 1 < number n) × (number n ≤ 2 * p + 3)

begins_outside : (p q f : ℕ) → p + 1 ≤ q → (n : Node) → Begins p n → Outside (2 * q + 1) (2 * f) n
begins_outside p q f le n h = inl (omega (arith, h.1))

begins_near : (P : Node → Type 0) (p e : ℕ) → p + 1 ≤ e → (n : Node) → Begins p n → Near P p e n
begins_near P p e le n h = inr (omega (arith, h.0), omega (arith, h.1))

part_block : (P : Node → Type 0) (p e : ℕ) (row next : List Node) (X : List (List Node)) (x : List ℕ) → IsBefore P p → Part (In P p) (p + 1) e X x
    → EachNode (Begins p) row → EachNode (After P e) next → Part P p e (row ∷ next ∷ X) (e ∷ x)
part_block P p e row next X x low a begins after =
    let up : p + 1 ≤ e = omega (arith, a.stops_long) in
    part_holds P p e row next X x low a (each_map (Begins p) (Near P p e) (begins_near P p e up) row begins)
    (stop_map (Shut (p + 1) e X) (λ q f. EachNode (Outside (2 * q + 1) (2 * f)) row)
    (λ q f (above, r). each_map (Begins p) (Outside (2 * q + 1) (2 * f)) (begins_outside p q f above) row begins) (p + 1) x a.shut)
    after

-- the beginning of either arm, or the join
abbrev Either : ℕ → ℕ → Node → Type 0
Either p m n = Begins p n ⊎ (number n ≡ 2 * m + 1)

either_first : (p m q f : ℕ) → p + 1 ≤ q → f ≤ m → (n : Node) → Either p m n → Outside (2 * q + 1) (2 * f) n
either_first p m q f above below n (inl h) = inl (omega (arith, h.1))
either_first p m q f above below n (inr h) = inr (omega (arith, h))

either_second : (p m q f : ℕ) → p + 1 ≤ m → m ≤ q → (n : Node) → Either p m n → Outside (2 * q + 1) (2 * f) n
either_second p m q f le above n (inl h) = inl (omega (arith, h.1))
either_second p m q f le above n (inr h) = inl (omega (arith, h))

either_near : (P : Node → Type 0) (p m e : ℕ) → p + 1 ≤ m → m ≤ e → (n : Node) → Either p m n → Near P p e n
either_near P p m e up on n (inl h) = inr (omega (arith, h.0), omega (arith, h.1))
either_near P p m e up on n (inr h) = inr (omega (arith, h), omega (arith, h))

part_if : (P : Node → Type 0) (p m e : ℕ) (row next : List Node) (X Y : List (List Node)) (x y : List ℕ) → IsBefore P p → Part (In P p) (p + 1) m X x
    → Part (In P p) m e Y y → EachNode (Either p m) row → EachNode (After P e) next → Part P p e (row ∷ next ∷ (X ++ Y)) (e ∷ (x ++ y))
part_if P p m e row next X Y x y low a b either after =
    let up : p + 1 ≤ m = omega (arith, a.stops_long) in
    let on : m ≤ e = omega (arith, b.stops_long) in
    part_holds P p e row next (X ++ Y) (x ++ y) low (part_both (In P p) (p + 1) m e X Y x y (in_before P p low) a b)
    (each_map (Either p m) (Near P p e) (either_near P p m e up on) row either)
    (stop_append (λ q f. EachNode (Outside (2 * q + 1) (2 * f)) row) (p + 1) m x y a.stops_long
    (stop_map (Shut (p + 1) m X) (λ q f. EachNode (Outside (2 * q + 1) (2 * f)) row)
    (λ q f (above, (goes, (below, c))). each_map (Either p m) (Outside (2 * q + 1) (2 * f)) (either_first p m q f above below) row either) (p + 1) x a.shut)
    (stop_map (Shut m e Y) (λ q f. EachNode (Outside (2 * q + 1) (2 * f)) row)
    (λ q f (above, r). each_map (Either p m) (Outside (2 * q + 1) (2 * f)) (either_second p m q f up above) row either) m y b.shut))
    after

-- ---- code

first_after : (P : Node → Type 0) (e : ℕ) (c : Code) (k : Node) → P k → After P e (first_of e c k)
first_after P e done k h = inl h
first_after P e (one i rest) k h = inr refl
first_after P e (block kind inner rest) k h = inr refl
first_after P e (repeat kind inner rest) k h = inr refl
first_after P e (branch kind x y rest) k h = inr refl

first_begins : (p : ℕ) (c : Code) → Begins p (first_of (p + 1) c (Join p))
first_begins p done = (omega arith, omega arith)
first_begins p (one i rest) = (omega arith, omega arith)
first_begins p (block kind inner rest) = (omega arith, omega arith)
first_begins p (repeat kind inner rest) = (omega arith, omega arith)
first_begins p (branch kind x y rest) = (omega arith, omega arith)

second_begins : (p m : ℕ) (c : Code) → Either p m (first_of m c (Join p))
second_begins p m done = inl (omega arith, omega arith)
second_begins p m (one i rest) = inr refl
second_begins p m (block kind inner rest) = inr refl
second_begins p m (repeat kind inner rest) = inr refl
second_begins p m (branch kind x y rest) = inr refl

-- what is so outside is so of the end of the body, of the labels and of what stands after the sequence
abbrev IsAround : (Node → Type 0) → List Node → Node → Type 0
IsAround P labels k = P Exit × (EachNode P labels × P k)

around_in : (P : Node → Type 0) (p : ℕ) (labels : List Node) (k label : Node) → IsAround P labels k → In P p label → IsAround (In P p) (label ∷ labels) (Join p)
around_in P p labels k label a at_label = (inl a.0, ((at_label, each_map P (In P p) (λ n h. inl h) labels a.1.0), inr (omega arith, omega arith)))

before_later : (P : Node → Type 0) (p m : ℕ) → p ≤ m → IsBefore P p → IsBefore P m
before_later P p m le low n h = let l = low n h in omega (arith, l)

-- a block or a loop whose label leads to `label`
part_inner : (P : Node → Type 0) (live : Bool) (labels : List Node) (k label : Node) (inner rest : Code) (p e : ℕ) → IsBefore P p → IsAround P labels k
    → Part (In P p) (p + 1) e (lists live (label ∷ labels) (Join p) inner (p + 1)) (stops_in inner (p + 1))
    → Part P p e
    (where_live live (first_of (p + 1) inner (Join p) ∷ []) ∷ where_live live (first_of e rest k ∷ []) ∷ lists live (label ∷ labels) (Join p) inner (p + 1))
    (e ∷ stops_in inner (p + 1))
part_inner P live labels k label inner rest p e low around a =
    part_block P p e _ _ (lists live (label ∷ labels) (Join p) inner (p + 1)) (stops_in inner (p + 1)) low a
    (live_each (Begins p) live (first_of (p + 1) inner (Join p) ∷ []) (first_begins p inner, tt))
    (live_each (After P e) live (first_of e rest k ∷ []) (first_after P e rest k around.1.1, tt))

part_arms : (P : Node → Type 0) (live : Bool) (labels : List Node) (k : Node) (x y rest : Code) (p m e : ℕ) → IsBefore P p → IsAround P labels k
    → Part (In P p) (p + 1) m (lists live (Join p ∷ labels) (Join p) x (p + 1)) (stops_in x (p + 1))
    → Part (In P p) m e (lists live (Join p ∷ labels) (Join p) y m) (stops_in y m)
    → Part P p e
    (where_live live (first_of (p + 1) x (Join p) ∷ first_of m y (Join p) ∷ []) ∷ where_live live (first_of e rest k ∷ [])
    ∷ (lists live (Join p ∷ labels) (Join p) x (p + 1) ++ lists live (Join p ∷ labels) (Join p) y m))
    (e ∷ (stops_in x (p + 1) ++ stops_in y m))
part_arms P live labels k x y rest p m e low around a b =
    part_if P p m e _ _ (lists live (Join p ∷ labels) (Join p) x (p + 1)) (lists live (Join p ∷ labels) (Join p) y m)
    (stops_in x (p + 1)) (stops_in y m) low a b
    (live_each (Either p m) live (first_of (p + 1) x (Join p) ∷ first_of m y (Join p) ∷ []) (inl (first_begins p x), (second_begins p m y, tt)))
    (live_each (After P e) live (first_of e rest k ∷ []) (first_after P e rest k around.1.1, tt))

part_code : (P : Node → Type 0) (live : Bool) (labels : List Node) (k : Node) (c : Code) (p e : ℕ) → IsBefore P p → IsAround P labels k → p + count c ≡ e
    → Part P p e (lists live labels k c p) (stops_in c p)
part_code P live labels k done p e low around end = part_none P p e (omega arith)
part_code P live labels k (one i rest) p e low around end =
    let next = first_of (p + 1) rest k in
    let row = where_live live (goes_of labels i next) in
    let le : p ≤ p + 1 = omega arith in
    part_both P p (p + 1) e (row ∷ [] ∷ []) (lists (goes_on i && live) labels k rest (p + 1)) ((p + 1) ∷ []) (stops_in rest (p + 1)) low
    (part_plain P p row (live_each (Near P p (p + 1)) live (goes_of labels i next)
    (goes_each (Near P p (p + 1)) labels i next (inl around.0) (each_map P (Near P p (p + 1)) (λ n h. inl h) labels around.1.0)
    (after_near P p (p + 1) le next (first_after P (p + 1) rest k around.1.1)))))
    (part_code P (goes_on i && live) labels k rest (p + 1) e (before_later P p (p + 1) le low) around (omega arith))
part_code P live labels k (block kind inner rest) p e low around end =
    let m = p + 1 + count inner in
    let le : p ≤ m = omega arith in
    part_both P p m e _ (lists live labels k rest m) _ (stops_in rest m) low
    (part_inner P live labels k (Join p) inner rest p m low around
    (part_code (In P p) live (Join p ∷ labels) (Join p) inner (p + 1) m (in_before P p low)
    (around_in P p labels k (Join p) around (inr (omega arith, omega arith))) refl))
    (part_code P live labels k rest m e (before_later P p m le low) around (omega arith))
part_code P live labels k (repeat kind inner rest) p e low around end =
    let m = p + 1 + count inner in
    let le : p ≤ m = omega arith in
    part_both P p m e _ (lists live labels k rest m) _ (stops_in rest m) low
    (part_inner P live labels k (At p) inner rest p m low around
    (part_code (In P p) live (At p ∷ labels) (Join p) inner (p + 1) m (in_before P p low)
    (around_in P p labels k (At p) around (inr (omega arith, omega arith))) refl))
    (part_code P live labels k rest m e (before_later P p m le low) around (omega arith))
part_code P live labels k (branch kind x y rest) p e low around end =
    let f = p + 1 + count x in
    let m = p + 1 + count x + count y in
    let le : p ≤ m = omega arith in
    let up : p + 1 ≤ f = omega arith in
    let inner = around_in P p labels k (Join p) around (inr (omega arith, omega arith)) in
    let X = lists live (Join p ∷ labels) (Join p) x (p + 1) in
    let Y = lists live (Join p ∷ labels) (Join p) y f in
    let R = lists live labels k rest m in
    let row = where_live live (first_of (p + 1) x (Join p) ∷ first_of f y (Join p) ∷ []) in
    let next = where_live live (first_of m rest k ∷ []) in
    let whole = part_both P p m e (row ∷ next ∷ (X ++ Y)) R (m ∷ (stops_in x (p + 1) ++ stops_in y f)) (stops_in rest m) low
    (part_arms P live labels k x y rest p f m low around
    (part_code (In P p) live (Join p ∷ labels) (Join p) x (p + 1) f (in_before P p low) inner refl)
    (part_code (In P p) live (Join p ∷ labels) (Join p) y f m (before_later (In P p) (p + 1) f up (in_before P p low)) inner refl))
    (part_code P live labels k rest m e (before_later P p m le low) around (omega arith)) in
    subst (λ (z : List (List Node)). Part P p e (row ∷ next ∷ z) (m ∷ (stops_in x (p + 1) ++ (stops_in y f ++ stops_in rest m)))) (append_assoc X Y R)
    (subst (λ (z : List ℕ). Part P p e (row ∷ next ∷ ((X ++ Y) ++ R)) (m ∷ z)) (append_assoc (stops_in x (p + 1)) (stops_in y f) (stops_in rest m)) whole)

-- ---- a body

abbrev IsExit : Node → Type 0
IsExit n = number n ≡ 0

body_part : (c : Code) → Part IsExit 0 (count c) (lists true (Exit ∷ []) Exit c 0) (stops_in c 0)
body_part c = part_code IsExit true (Exit ∷ []) Exit c 0 (count c) (λ n h. omega (arith, h)) (refl, ((refl, tt), refl)) (omega arith)

is_inside : (p e : ℕ) (a : Node) → 2 * p + 1 ≤ number a → number a ≤ 2 * e → IsInside p e a ⊎ (a ≡ At p)
is_inside p e a low high =
    let same : number a ≡ 2 * p + 1 → a ≡ At p = λ h. number_injective a (At p) h in
    elim (cases_lt (2 * p + 1) (number a)) [ inl lt ↦ inl (lt, high) | inr not ↦ inr (same (omega (arith, not))) ]

pub enters : (c : Code) (p e : ℕ) → slice_get (stops_in c 0) p ≡ Some e → (a n : Node)
    → Contains (row_of ([] ∷ lists true (Exit ∷ []) Exit c 0) a) n → IsInside p e n → IsInside p e a ⊎ (a ≡ At p)
enters c p e is a n leads inside =
    let rows = lists true (Exit ∷ []) Exit c 0 in
    let part = body_part c in
    let same : 0 + p ≡ p = omega arith in
    let shut = subst (λ z. Shut 0 (count c) rows z e) same (stop_at (Shut 0 (count c) rows) 0 (stops_in c 0) p e part.shut is) in
    let all : Closed (2 * p + 1) (2 * e) 0 ([] ∷ rows) = ((λ m b. absurd b), shut.1.1.1) in
    let r = closed_at (2 * p + 1) (2 * e) 0 ([] ∷ rows) (number a) n all (among_of (row_of ([] ∷ rows) a) n leads) inside.0 inside.1 in
    is_inside p e a (omega (arith, r.0)) (omega (arith, r.1))
