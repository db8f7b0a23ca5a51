-- What was met is an answer.
use Rattle.std.proofs.Common.{◌≡◌, ◌↔◌, ℕ, zero, suc, ◌+◌, ◌<◌, List, [], ◌∷◌, map, Bool, true, false, length, refl, ap, subst, ⊎_elim, arith}
use Rattle.std.specs.List.{All, AllPairs, Contains}
use Rattle.std.proofs.lemmas.List.Kept.{AllPairs-cons}
use Rattle.wasm_types.specs.declared.module.Pos.{Pos}
use Rattle.wasm_types.specs.declared.place.Loc.{Loc}
use Rattle.wasm_types.specs.declared.place.Def.{Def}
use Rattle.wasm_types.specs.declared.place.Def.TheVariants as def
use Rattle.wasm_types.specs.declared.place.Node.{Node}
use Rattle.wasm_types.specs.Nodes.{At}
use Rattle.wasm_types.specs.Sites.{Sites}
use Rattle.wasm_types.specs.Reaching.{writes_it, Path, Reaches, from_entry, from_write}
use Rattle.block_cfg.specs.Graph.{Graph}
use Rattle.block_cfg.specs.Points.{IsGraphOf}
use Rattle.flow_domain.specs.LocTables.{Rows, WritesIn}
use Rattle.worklist.specs.Gains.{Gains}
use Rattle.worklist.specs.Reached.{Reached}
use Rattle.worklist.proofs.Reaching.{reached_more}
use Rattle.def_use.specs.Answers.{rank, IsSorted, IsAnswer, defs_of}
use Rattle.single_entry.specs.declared.skips.Skips.{Skips}
use Rattle.single_entry.specs.Climbs.{AreEntries}
use Rattle.def_use.specs.Places.{place_of, IsPlaces, Steps, GoesBack, IsWriter, AreWriters}
use Rattle.def_use.proofs.Backwards.{first_edge, written_there, earlier_is}
use Rattle.def_use.proofs.Upwards.{means, path_met, entry_met}

-- ---- the list

at_def : ℕ → Def
at_def p = def.At (record { 0 = p })

no_entry : (ps : List ℕ) → Contains (map (λ p. def.At (record { 0 = p })) ps) def.Entry → ⊥
no_entry [] (k, lt, is) = omega arith
no_entry (p ∷ ps) (zero, lt, is) = absurd cc
no_entry (p ∷ ps) (suc k, lt, is) = no_entry ps (k, omega arith, is)

entry_of : (b : Bool) (ps : List ℕ) → Contains (defs_of b ps) def.Entry → b ≡ true
entry_of true ps h = refl
entry_of false ps h = absurd (no_entry ps h)

has_entry : (b : Bool) (ps : List ℕ) → b ≡ true → Contains (defs_of b ps) def.Entry
has_entry true ps e = (0, omega arith, refl)
has_entry false ps e = absurd cc

at_in : (ps : List ℕ) (p : Pos) → Contains (map (λ p. def.At (record { 0 = p })) ps) (def.At p) → Contains ps p.0
at_in [] p (k, lt, is) = absurd (omega arith)
at_in (r ∷ ps) p (zero, lt, is) = (0, omega arith, cc)
at_in (r ∷ ps) p (suc k, lt, is) = let (j, less, there) = at_in ps p (k, omega arith, is) in (suc j, omega arith, there)

in_at : (ps : List ℕ) (p : Pos) → Contains ps p.0 → Contains (map (λ p. def.At (record { 0 = p })) ps) (def.At p)
in_at [] p (k, lt, is) = absurd (omega arith)
in_at (r ∷ ps) p (zero, lt, is) = (0, omega arith, ap (λ (n : ℕ). def.At (record { 0 = n })) is)
in_at (r ∷ ps) p (suc k, lt, is) = let (j, less, there) = in_at ps p (k, omega arith, is) in (suc j, omega arith, there)

at_of : (b : Bool) (ps : List ℕ) (p : Pos) → Contains (defs_of b ps) (def.At p) → Contains ps p.0
at_of true ps p (zero, lt, is) = absurd cc
at_of true ps p (suc k, lt, is) = at_in ps p (k, omega arith, is)
at_of false ps p h = at_in ps p h

has_at : (b : Bool) (ps : List ℕ) (p : Pos) → Contains ps p.0 → Contains (defs_of b ps) (def.At p)
has_at true ps p h = let (j, less, there) = in_at ps p h in (suc j, omega arith, there)
has_at false ps p h = in_at ps p h

rises : List ℕ → Type 0
rises ps = AllPairs (λ a b. a < b) ps

above : (p : ℕ) (ps : List ℕ) → All (λ r. p < r) ps → All (λ d. p + 1 < rank d) (map (λ p. def.At (record { 0 = p })) ps)
above p [] all k d lt = absurd (omega arith)
above p (r ∷ ps) all zero d lt = let less : p < r = all 0 r (omega arith) in omega arith
above p (r ∷ ps) all (suc k) d lt = above p ps (λ j e within. all (suc j) e (omega arith)) k d (omega arith)

above_entry : (ps : List ℕ) → All (λ d. 0 < rank d) (map (λ p. def.At (record { 0 = p })) ps)
above_entry [] k d lt = absurd (omega arith)
above_entry (r ∷ ps) zero d lt = omega arith
above_entry (r ∷ ps) (suc k) d lt = above_entry ps k d (omega arith)

sorted_positions : (ps : List ℕ) → AllPairs (λ a b. a < b) ps → IsSorted (map (λ p. def.At (record { 0 = p })) ps)
sorted_positions [] up = λ i j d less within. absurd (omega arith)
sorted_positions (p ∷ ps) up =
    AllPairs-cons (λ (a b : Def). rank a < rank b) (def.At (record { 0 = p })) (map (λ p. def.At (record { 0 = p })) ps)
    (above p ps (λ k d lt. up 0 (suc k) d (omega arith) (omega arith)))
    (sorted_positions ps (λ i j d less within. up (suc i) (suc j) d (omega arith) (omega arith)))

sorted_defs : (b : Bool) (ps : List ℕ) → AllPairs (λ a b. a < b) ps → IsSorted (defs_of b ps)
sorted_defs true ps up =
    AllPairs-cons (λ (a b : Def). rank a < rank b) def.Entry (map (λ p. def.At (record { 0 = p })) ps) (above_entry ps) (sorted_positions ps up)
sorted_defs false ps up = sorted_positions ps up

-- ---- the answer

none_there : (x : ℕ) → Contains [] x → ⊥
none_there x (k, lt, is) = omega arith

module _ (g : Graph) (T : Rows) (x : Loc) (places : List ℕ) (placed : IsPlaces g places) (s : Skips) (entries : AreEntries g s) (writers : List ℕ)
    (write : AreWriters T x writers) (q : Node) (there : Contains g.points q) (none roots met : List ℕ) (empty : none ≡ [])
    (gains : Gains (Steps g s places writers (place_of places q)) none roots)
    (exact : (y : ℕ) → Contains met y ↔ Reached (Contains roots) (GoesBack g T s places writers x) y) where
  met_is : (y : ℕ) → Contains met y → Reached (Steps g s places writers (place_of places q)) (GoesBack g T s places writers x) y
  met_is y h =
      reached_more (Contains roots) (Steps g s places writers (place_of places q)) (GoesBack g T s places writers x)
      (GoesBack g T s places writers x)
      (λ z r. ⊎_elim (λ k. absurd (none_there z (rw empty at k))) (λ b. b) (gains.only z r)) (λ y z e. e) y ((exact y).0 h)

  is_met : (y : ℕ) → Reached (Steps g s places writers (place_of places q)) (GoesBack g T s places writers x) y → Contains met y
  is_met y r =
      (exact y).1 (reached_more (Steps g s places writers (place_of places q)) (Contains roots) (GoesBack g T s places writers x)
      (GoesBack g T s places writers x) (λ z b. gains.all z b) (λ y z e. e) y r)

  module _ (entry : Bool) (entry_is : (entry ≡ true) ↔ Contains met (length g.points)) (positions : List ℕ) (up : AllPairs (λ a b. a < b) positions)
      (gathered : (p : ℕ) → Contains positions p ↔ ((k : ℕ) × (Contains met k × IsWriter g T x k p))) where
    module _ (S : Sites) (start : Node) (graph : IsGraphOf S start g) where
      reaches_of : (d : Def) → Contains (defs_of entry positions) d → Reaches (WritesIn T) S start x q d
      reaches_of def.Entry h =
          let m : Contains met (length g.points) = entry_is.0 (entry_of entry positions h) in
          ⊎_elim (λ (is, e). from_entry e) (λ (lt, p). absurd (omega arith))
          (means S start g graph places placed s entries T x writers write q there (length g.points) (met_is (length g.points) m))
      reaches_of (def.At p) h =
          let w = (gathered p.0).0 (at_of entry positions p h) in
          ⊎_elim
          (λ (is, e). absurd (omega (arith, w.1.1.0)))
          (λ (lt, path). from_write (writes_it w.1.1.1.1) (subst (λ z. Path (WritesIn T) S x z q) w.1.1.1.0 path))
          (means S start g graph places placed s entries T x writers write q there w.0 (met_is w.0 w.1.0))

      of_reaches : (d : Def) → Reaches (WritesIn T) S start x q d → Contains (defs_of entry positions) d
      of_reaches _ (from_entry e) =
          has_entry entry positions (entry_is.1 (is_met (length g.points)
          (entry_met S start g graph places placed s entries T x writers write q there e)))
      of_reaches _ (from_write {d} w path) =
          let first = first_edge (WritesIn T) S x (At d) q path in
          let at = earlier_is S start g graph places placed (At d) first.0 first.1 in
          let writes = written_there (WritesIn T) x d w in
          has_at entry positions (record { 0 = d })
          ((gathered d).1 (
            place_of places (At d),
            (
              is_met (place_of places (At d))
                  (path_met S start g graph places placed s entries T x writers write q there d writes path at.1),
              (at.0, (at.1, writes)),
            ),
          ))

    pub is_answer : (defs : List Def) → defs ≡ defs_of entry positions → IsAnswer g T x q defs
    is_answer defs e = record {
      sorted = rw e (sorted_defs entry positions up);
      exact = λ S start graph d. (λ h. reaches_of S start graph d (rw e at h), λ r. rw e (of_reaches S start graph d r));
    }
