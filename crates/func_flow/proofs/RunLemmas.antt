-- Where runs lead to the ways are forced.
use Rattle.std.proofs.Common.{◌≡◌, ◌↔◌, ℕ, zero, suc, ◌+◌, ◌-◌, ◌<◌, ◌≤◌, List, [], ◌∷◌, ◌++◌, Bool, true, false, Option, Some, None, length, get_or}
use Rattle.std.proofs.Common.{refl, sym, ap, ◌∙◌}
use Rattle.std.proofs.Common.{is_some, slice_get, IfSome, length-append, subst, inl, inr, ◌⊎◌, ⊎_elim, arith}
use Rattle.std.specs.List.{Contains}
use Rattle.std.proofs.lemmas.Bool.{cases_eq, cases_lt}
use Rattle.std.proofs.lemmas.Option.{slice_get_past, slice_get-get_or}
use Rattle.std.proofs.lemmas.List.{get_or_append_left, get_or_push, get_or_past}
use Rattle.wasm_types.specs.declared.module.Pos.{Pos}
use Rattle.wasm_types.specs.declared.place.Loc.{Loc}
use Rattle.wasm_types.specs.declared.place.Loc.TheVariants.{Local}
use Rattle.wasm_types.specs.declared.place.Loc.TheVariants as loc
use Rattle.wasm_types.specs.declared.place.Node.{Node}
use Rattle.wasm_types.specs.declared.place.Node.TheVariants as node
use Rattle.wasm_types.specs.Nodes.{At}
use Rattle.wasm_types.specs.Reaching.{Table, Writes, writes_it}
use Rattle.wasm_types.specs.Takers.{is_among}
use Rattle.block_cfg.specs.Graph.{Graph, number, row_of}
use Rattle.block_cfg.proofs.MemberLemmas.{contains_of}
use Rattle.slice_closure.proofs.Joined.{among_is}
use Rattle.flow_domain.specs.LocTables.{WritesIn}
use Rattle.single_entry.specs.declared.skips.Skips.{Skips}
use Rattle.single_entry.specs.Climbs.{Climbs, stays, climbs, AreEntries}
use Rattle.single_entry.proofs.Climbing.{tops_once}
use Rattle.single_entry.specs.Last.{IsLastOf, HasNoneOf}
use Rattle.func_flow.specs.declared.items.Item.{Item}
use Rattle.func_flow.specs.declared.items.Item.TheVariants.{Written, Needed}
use Rattle.func_flow.specs.declared.runs.Runs.{Runs}
use Rattle.called_rows.specs.declared.instrs.Whom.{Whom}
use Rattle.func_flow.specs.declared.steps.Step.{Step}
use Rattle.func_flow.specs.declared.tables.Tables.{Tables}
use Rattle.func_flow.specs.Items.{node_of}
use Rattle.func_flow.specs.Next.{AreMarked, whom_at, WritesAs, WrittenAt, Passes, Next}
use Rattle.func_flow.specs.Runs.{IsLone, GoesOn, IsRun, start_of, AreStarts, is_inner, starts_for, writers_in, IsInOrder, AreRuns, AreQuiet, join_only}
use Rattle.func_flow.specs.Runs.{entry_at, SettledFrom}
use Rattle.func_flow.specs.Steps.{whom_of}
use Rattle.func_flow.specs.Runs.{IsCalm, Settled, Lands, may_rise, IsTopBy, IsTopFor, Raises}
use Rattle.slice_closure.proofs.Passing.{Follows, here, onward}
use Rattle.func_flow.proofs.Pushes.{writes_is, written_there, join_apart, on_point}

-- ---- runs in order

-- the run of a position, as far as a location goes
run_for : (t : Tables) (r : Runs) → AreRuns t r → (x : Loc) (p : ℕ) → IsRun t (is_inner x) (start_of (starts_for r x) p) p
run_for t r runs (Local k) p = runs.inner p
run_for t r runs (loc.Global k) p = runs.outer p
run_for t r runs loc.Mem p = runs.outer p
run_for t r runs loc.Size p = runs.outer p
run_for t r runs loc.Host p = runs.outer p

-- what is further up has no larger number
climbs_low : (g : Graph) (s : Skips) → AreEntries g s → (writers : List ℕ) (n a : Node) → Climbs s writers n a → number a ≤ number n
climbs_low g s entries writers n a stays = omega arith
climbs_low g s entries writers n a (climbs e from has is quiet more) =
    let low = climbs_low g s entries writers from a more in
    let falls = (entries n e has).falls in
    omega arith

pub order_of : (t : Tables) (r : Runs) → AreRuns t r → IsInOrder r
order_of t r runs = record {
  upward = λ x p. (run_for t r runs x p).up;
  rising = λ x. (runs.writers x).rising;
  falls = λ writers n a up. climbs_low t.cfg.now r.skips runs.skips writers n a up;
}

-- ---- lists of one element

pub one_only : (row : List Node) (d n : Node) → length row ≡ 1 → get_or row 0 d ≡ n → row ≡ n ∷ []
one_only [] d n one e = absurd (omega arith)
one_only (x ∷ []) d n one e = ap (λ z. z ∷ []) e
one_only (x ∷ y ∷ row) d n one e = absurd (omega arith)

has_one : (row : List Node) (b n : Node) → row ≡ b ∷ [] → Contains row n → n ≡ b
has_one row b n is has = go (subst (λ z. Contains z n) is has)
  where
    go : Contains (b ∷ []) n → n ≡ b
    go (zero, lt, e) = sym e
    go (suc k, lt, e) = absurd (omega arith)

one_has : (row : List Node) (b : Node) → row ≡ b ∷ [] → Contains row b
one_has row b is = subst (λ z. Contains z b) (sym is) (0, omega arith, refl)

-- ---- starts

pub run_itself : (t : Tables) (past : Bool) (p : ℕ) → IsRun t past p p
run_itself t past p = record { up = omega arith; goes = λ q from below. absurd (omega arith) }

pub run_longer : (t : Tables) (past : Bool) (h p q : ℕ) → p ≡ suc q → IsRun t past h q → GoesOn t past q → IsRun t past h p
run_longer t past h p q e run on =
    let up = run.up in
    record {
      up = omega arith;
      goes = λ k from below. elim (cases_lt k q) [
        | inl less ↦ run.goes k from less
        | inr ge ↦ let same : q ≡ k = omega arith in subst (λ z. GoesOn t past z) same on
      ];
    }

-- a position that is told no beginning is one
start_past : (xs : List ℕ) (p : ℕ) → length xs ≤ p → start_of xs p ≡ p
start_past xs p le = get_or_past xs p p le

pub starts_none : (t : Tables) (past : Bool) → AreStarts t past []
starts_none t past p = rw (start_past [] p (omega arith)) (run_itself t past p)

pub starts_push : (t : Tables) (past : Bool) (xs : List ℕ) (h n : ℕ) → length xs ≡ n → AreStarts t past xs → IsRun t past h n → AreStarts t past (xs ++ h ∷ [])
starts_push t past xs h n size all new p = elim (cases_lt p n) [
  | inl less ↦
      let e : start_of (xs ++ h ∷ []) p ≡ start_of xs p = get_or_append_left xs (h ∷ []) p p (omega arith) in
      rw e (all p)
  | inr ge ↦ elim (cases_lt n p) [
    | inl more ↦
        let e : start_of (xs ++ h ∷ []) p ≡ p = start_past (xs ++ h ∷ []) p (omega (arith, length-append xs (h ∷ []))) in
        rw e (run_itself t past p)
    | inr le ↦
        let same : p ≡ n = omega arith in
        let e : start_of (xs ++ h ∷ []) p ≡ h = get_or_push xs h p p (omega arith) in
        rw (e, same) new
  ]
]

-- a mark that is set is a point's
pub marked_point : (points : List Node) (N : ℕ) (marks : List Bool) → AreMarked points N marks → (n : Node) (k : ℕ) → k ≡ number n
    → get_or marks k false ≡ true → Contains points n
marked_point points N marks marked n k e on =
    let lt : k < length marks = elim (cases_lt k (length marks)) [
      | inl less ↦ less
      | inr ge ↦ let off : get_or marks k false ≡ false = get_or_past marks k false ge in absurd cc
    ] in
    let long = marked.length_is in
    on_point points N marks marked n k e (omega arith) on

pub goes_on : (t : Tables) (past : Bool) (p : ℕ) (q : Pos) (o : Option Node) → IfSome o (λ b. IsLone t.cfg.now (At p) b) → o ≡ Some (node.At q) → p ≡ suc q.0
    → (past ≡ false → whom_at t q.0 ≡ None) → (p ≡ suc q.0) × GoesOn t past q.0
goes_on t past p q o lone is e calm =
    let at : IsLone t.cfg.now (At p) (node.At q) = subst (λ z. IfSome z (λ b. IsLone t.cfg.now (At p) b)) is lone in
    (e, (subst (λ n. IsLone t.cfg.now (At n) (node.At q)) e at, calm))

-- ---- where a run comes from

pub join_many : (row : List Node) (n : Node) → (length row ≡ 1 → ⊥) → n ≡ join_only true row n
join_many [] n many = refl
join_many (node.Join b ∷ []) n many = absurd (many (omega arith))
join_many (node.Join b ∷ m ∷ row) n many = refl
join_many (node.At p ∷ row) n many = refl
join_many (node.Exit ∷ row) n many = refl

pub join_one : (row : List Node) (d : Node) (b : Pos) (n : Node) → length row ≡ 1 → get_or row 0 d ≡ node.Join b → node.Join b ≡ join_only true row n
join_one row d b n one e = ap (λ z. join_only true z n) (sym (one_only row d (node.Join b) one e))

pub join_at : (row : List Node) (d : Node) (p : Pos) (n : Node) → length row ≡ 1 → get_or row 0 d ≡ node.At p → n ≡ join_only true row n
join_at row d p n one e = ap (λ z. join_only true z n) (sym (one_only row d (node.At p) one e))

pub join_exit : (row : List Node) (d n : Node) → length row ≡ 1 → get_or row 0 d ≡ node.Exit → n ≡ join_only true row n
join_exit row d n one e = ap (λ z. join_only true z n) (sym (one_only row d node.Exit one e))

pub entry_zero : (g : Graph) (h : ℕ) → h ≡ 0 → At h ≡ entry_at g h
entry_zero g zero e = refl
entry_zero g (suc h) e = absurd (omega arith)

pub entry_dead : (g : Graph) (h : ℕ) → is_among (At h) g.points ≡ false → At h ≡ entry_at g h
entry_dead g zero off = refl
entry_dead g (suc h) off = ap (λ b. join_only b (row_of g.before (At (suc h))) (At (suc h))) (sym off)

pub entry_live : (g : Graph) (h : ℕ) → (h ≡ 0 → ⊥) → is_among (At h) g.points ≡ true → join_only true (row_of g.before (At h)) (At h) ≡ entry_at g h
entry_live g zero some on = absurd (some refl)
entry_live g (suc h) some on = ap (λ b. join_only b (row_of g.before (At (suc h))) (At (suc h))) (sym on)

-- ---- the last writer

not_later : (w : ℕ) (ws : List ℕ) (v : ℕ) → (w ≡ v → ⊥) → (Contains ws v → ⊥) → Contains (w ∷ ws) v → ⊥
not_later w ws v ne none (zero, lt, is) = ne is
not_later w ws v ne none (suc k, lt, is) = none (k, omega arith, is)

decide : (ws : List ℕ) (v : ℕ) → Contains ws v ⊎ (Contains ws v → ⊥)
decide [] v = inr (λ (k, lt, is). omega arith)
decide (w ∷ ws) v = elim (cases_eq w v) [
  | inl e ↦ inl (0, omega arith, e)
  | inr ne ↦ ⊎_elim (λ (k, lt, is). inl (suc k, omega arith, is)) (λ none. inr (not_later w ws v ne none)) (decide ws v)
]

-- of the numbers from h on below h + n the last one that the list has, if it has one
last_or_none : (xs : List ℕ) (h n : ℕ) → ((w : ℕ) × IsLastOf xs h (h + n) w) ⊎ HasNoneOf xs h (h + n)
last_or_none xs h zero = inr (λ v has from less. omega arith)
last_or_none xs h (suc n) = ⊎_elim
    (λ has. inl (h + n, record { there = has; from = omega arith; before = omega arith; last = λ v c less. omega arith }))
    (λ off. ⊎_elim
    (λ (w, last). let before = last.before in inl (
      w,
      record {
        there = last.there;
        from = last.from;
        before = omega arith;
        last = λ v c less. last.last v c (not_last v c off less);
      },
    ))
    (λ none. inr (λ v c from less. none v c from (not_last v c off less)))
    (last_or_none xs h n))
    (decide xs (h + n))
  where
    not_last : (v : ℕ) → Contains xs v → (Contains xs (h + n) → ⊥) → v < h + suc n → v < h + n
    not_last v c off less = elim (cases_lt v (h + n)) [
      | inl before ↦ before
      | inr ge ↦ let e : v ≡ h + n = omega arith in absurd (off (subst (λ z. Contains xs z) e c))
    ]

last_between : (xs : List ℕ) (h p : ℕ) → h ≤ p → ((w : ℕ) × IsLastOf xs h p w) ⊎ HasNoneOf xs h p
last_between xs h p le =
    let same : h + (p - h) ≡ p = omega arith in
    subst (λ n. ((w : ℕ) × IsLastOf xs h n w) ⊎ HasNoneOf xs h n) same (last_or_none xs h (p - h))

last_once : (xs : List ℕ) (h p v w : ℕ) → IsLastOf xs h p v → IsLastOf xs h p w → v ≡ w
last_once xs h p v w a b =
    let le = b.last v a.there a.before in
    let ge = a.last w b.there b.before in
    omega arith

from_once : (t : Tables) (r : Runs) (x : Loc) (h p : ℕ) (i j : Item) → SettledFrom t r x h p i → SettledFrom t r x h p j → i ≡ j
from_once t r x h p i j (inl (v, (a, e))) (inl (w, (b, e'))) =
    e ∙ (ap (λ n. Written x (At n)) (last_once (writers_in r x) h p v w a b) ∙ sym e')
from_once t r x h p i j (inl (v, (a, e))) (inr (none, e')) = absurd (none v a.there a.from a.before)
from_once t r x h p i j (inr (none, e)) (inl (w, (b, e'))) = absurd (none w b.there b.from b.before)
from_once t r x h p i j (inr (none, e)) (inr (none', e')) = e ∙ sym e'

pub settled_once : (t : Tables) (r : Runs) (x : Loc) (b : Node) (i j : Item) → Settled t r x b i → Settled t r x b j → i ≡ j
settled_once t r x (node.At p) i j s s' = from_once t r x (start_of (starts_for r x) p.0) p.0 i j s s'
settled_once t r x (node.Join b) i j e e' = e ∙ sym e'
settled_once t r x node.Exit i j e e' = e ∙ sym e'

-- ---- what is forced

-- from a location that is needed at a position to which just one point leads
pub record Forced (t : Tables) (i j : Item) : Type 0 where
  pub place : Loc
  pub pos : ℕ
  pub from : Node
  pub is : i ≡ Needed place (At (suc pos))
  pub lone : IsLone t.cfg.now (At (suc pos)) from
  pub passes : Passes t place from j

passes_once : (t : Tables) (x : Loc) (b : Node) (i j : Item) → Passes t x b i → Passes t x b j → i ≡ j
passes_once t x b i j (inl (w, e)) (inl (w', e')) = e ∙ sym e'
passes_once t x b i j (inl (w, e)) (inr (free, e')) = absurd (free w)
passes_once t x b i j (inr (free, e)) (inl (w, e')) = absurd (free w)
passes_once t x b i j (inr (free, e)) (inr (free', e')) = e ∙ sym e'

pub forced_edge : (t : Tables) (i k : Item) → Forced t i k → Next t i k
forced_edge t i k f = subst (λ z. Next t z k) (sym f.is)
    (f.lone.0, (f.from, (one_has (row_of t.cfg.now.before (At (suc f.pos))) f.from f.lone.1, f.passes)))

pub forced_only : (t : Tables) (i k j : Item) → Forced t i k → Next t i j → k ≡ j
forced_only t i k j f e =
    let n = subst (λ z. Next t z j) f.is e in
    let same : n.1.0 ≡ f.from = has_one (row_of t.cfg.now.before (At (suc f.pos))) f.from n.1.0 f.lone.1 n.1.1.0 in
    passes_once t f.place f.from k j f.passes (subst (λ b. Passes t f.place b j) same n.1.1.1)

-- where a body begins nothing is forced
pub begin_free : (t : Tables) (x : Loc) (n : Node) → number n ≤ 1 → (k : Item) → Forced t (Needed x n) k → ⊥
begin_free t x n low k f =
    let same : n ≡ At (suc f.pos) = ap node_of f.is in
    let e : number n ≡ number (At (suc f.pos)) = ap number same in
    omega arith

join_free : (W : Table) (x : Loc) (b : Pos) → Writes W x (node.Join b) → ⊥
join_free W x b w = let h = writes_is W x (node.Join b) w in join_apart (node.Join b) b refl h.0 h.1.0

module _ (t : Tables) (r : Runs) (quiet : AreQuiet t) (runs : AreRuns t r) where
  -- what a call writes is no local
  plainly : (x : Loc) (q : ℕ) → (is_inner x ≡ false → whom_at t q ≡ None) → WrittenAt t q x → WritesIn t.locs.now q x
  plainly (Local k) q calm w = quiet.locals q k w
  plainly (loc.Global k) q calm w = subst (λ c. WritesAs t q c (loc.Global k)) (calm refl) w
  plainly loc.Mem q calm w = subst (λ c. WritesAs t q c loc.Mem) (calm refl) w
  plainly loc.Size q calm w = subst (λ c. WritesAs t q c loc.Size) (calm refl) w
  plainly loc.Host q calm w = subst (λ c. WritesAs t q c loc.Host) (calm refl) w

  written_at : (x : Loc) (q : ℕ) → WritesIn t.locs.now q x → WrittenAt t q x
  written_at x q w = subst (λ c. WritesAs t q c x) (sym (quiet.plain q x w)) w

  pub free_at : (x : Loc) (q : ℕ) → (is_inner x ≡ false → whom_at t q ≡ None) → (Contains (writers_in r x) q → ⊥) → Writes (WrittenAt t) x (At q) → ⊥
  free_at x q calm off w = off (((runs.writers x).exact q).1 (plainly x q calm (written_there (WrittenAt t) x q w)))

  -- one position back, past one that doesn't write the location
  step_back : (x : Loc) (q : ℕ) (j : Item) → GoesOn t (is_inner x) q → (Contains (writers_in r x) q → ⊥) → Follows (Forced t) (Needed x (At q)) j
      → Follows (Forced t) (Needed x (At (suc q))) j
  step_back x q j on off rest = onward (Needed x (At q))
      (record { place = x; pos = q; from = At q; is = refl; lone = on.0; passes = inr (free_at x q on.1 off, refl) }) rest

  -- back along a run that nothing writes
  run_back : (x : Loc) (h n p : ℕ) (j : Item) → p ≡ h + n → ((q : ℕ) → h ≤ q → q < p → GoesOn t (is_inner x) q) → HasNoneOf (writers_in r x) h p
      → Follows (Forced t) (Needed x (At h)) j → Follows (Forced t) (Needed x (At p)) j
  run_back x h zero p j e goes none rest = let same : h ≡ p = omega arith in subst (λ z. Follows (Forced t) (Needed x (At z)) j) same rest
  run_back x h (suc n) p j e goes none rest =
      let same : suc (h + n) ≡ p = omega arith in
      subst (λ z. Follows (Forced t) (Needed x (At z)) j) same
      (step_back x (h + n) j (goes (h + n) (omega arith) (omega arith)) (λ has. none (h + n) has (omega arith) (omega arith))
      (run_back x h n (h + n) j refl (λ q from below. goes q from (omega arith)) (λ v has from less. none v has from (omega arith)) rest))

  run_to : (x : Loc) (h p : ℕ) (j : Item) → h ≤ p → ((q : ℕ) → h ≤ q → q < p → GoesOn t (is_inner x) q) → HasNoneOf (writers_in r x) h p
      → Follows (Forced t) (Needed x (At h)) j → Follows (Forced t) (Needed x (At p)) j
  run_to x h p j le goes none rest = run_back x h (p - h) p j (omega arith) goes none rest

  -- from the beginning of a run to the join that leads to it
  enter : (x : Loc) (h : ℕ) → Follows (Forced t) (Needed x (At h)) (Needed x (entry_at t.cfg.now h))
  enter x zero = here
  enter x (suc h) = go (is_among (At (suc h)) t.cfg.now.points) refl (row_of t.cfg.now.before (At (suc h))) refl
    where
      go : (b : Bool) → is_among (At (suc h)) t.cfg.now.points ≡ b → (row : List Node) → row_of t.cfg.now.before (At (suc h)) ≡ row
          → Follows (Forced t) (Needed x (At (suc h))) (Needed x (join_only b row (At (suc h))))
      go true on (node.Join b ∷ []) is = onward (Needed x (node.Join b))
          (record {
            place = x;
            pos = h;
            from = node.Join b;
            is = refl;
            lone = (contains_of t.cfg.now.points (At (suc h)) (among_is (At (suc h)) t.cfg.now.points on), is);
            passes = inr (join_free (WrittenAt t) x b, refl);
          }) here
      go true on (node.Join b ∷ m ∷ row) is = here
      go true on (node.At p ∷ row) is = here
      go true on (node.Exit ∷ row) is = here
      go true on [] is = here
      go false off row is = here

  from_follows : (x : Loc) (h p : ℕ) (j : Item) → IsRun t (is_inner x) h p → SettledFrom t r x h p j → Follows (Forced t) (Needed x (At p)) j
  from_follows x h p j run (inl (w, (last, e))) =
      let from = last.from in
      let before = last.before in
      let writes : WritesIn t.locs.now w x = ((runs.writers x).exact w).0 last.there in
      let none : HasNoneOf (writers_in r x) (suc w) p = λ v has late less. let le = last.last v has less in omega arith in
      run_to x (suc w) p j (omega arith) (λ q late below. run.goes q (omega arith) below) none
      (onward j (record {
        place = x;
        pos = w;
        from = At w;
        is = refl;
        lone = (run.goes w from before).0;
        passes = inl (writes_it (written_at x w writes), e);
      }) here)
  from_follows x h p j run (inr (none, e)) =
      run_to x h p j run.up run.goes none (subst (λ z. Follows (Forced t) (Needed x (At h)) z) (sym e) (enter x h))

  settled_follows : (x : Loc) (b : Node) (j : Item) → Settled t r x b j → Follows (Forced t) (Needed x b) j
  settled_follows x (node.At p) j s = from_follows x (start_of (starts_for r x) p.0) p.0 j (run_for t r runs x p.0) s
  settled_follows x (node.Join b) j e = subst (λ z. Follows (Forced t) (Needed x (node.Join b)) z) (sym e) here
  settled_follows x node.Exit j e = subst (λ z. Follows (Forced t) (Needed x node.Exit) z) (sym e) here

  settles : (x : Loc) (b : Node) → (j : Item) × Settled t r x b j
  settles x (node.At p) =
      let h = start_of (starts_for r x) p.0 in
      ⊎_elim (λ (w, last). (Written x (At w), inl (w, (last, refl)))) (λ none. (Needed x (entry_at t.cfg.now h), inr (none, refl)))
      (last_between (writers_in r x) h p.0 (run_for t r runs x p.0).up)
  settles x (node.Join b) = (Needed x (node.Join b), refl)
  settles x node.Exit = (Needed x node.Exit, refl)

  pub lands_sound : (x : Loc) (b : Node) (j : Item) → Lands t r x b j → (k : Item) × (Passes t x b k × Follows (Forced t) k j)
  lands_sound x b j (inl (w, e)) = (j, (inl (w, e), here))
  lands_sound x b j (inr (free, s)) = (Needed x b, (inr (free, refl), settled_follows x b j s))

  pub lands_complete : (x : Loc) (b : Node) (k : Item) → Passes t x b k → (j : Item) × (Lands t r x b j × Follows (Forced t) k j)
  lands_complete x b k (inl (w, e)) = (k, (inl (w, e), here))
  lands_complete x b k (inr (free, e)) =
      let s = settles x b in
      (s.0, (inr (free, s.1), subst (λ z. Follows (Forced t) z s.0) (sym e) (settled_follows x b s.0 s.1)))

-- ---- up past regions

top_once : (r : Runs) (x : Loc) (n a b : Node) (up : Bool) → IsTopBy r x n up a → IsTopBy r x n up b → a ≡ b
top_once r x n a b true tops tops' = tops_once r.skips (writers_in r x) n a b tops tops'
top_once r x n a b false e e' = e ∙ sym e'

pub raises_needed : (r : Runs) (x : Loc) (n a : Node) → IsTopFor r x n a → (i : Item) → i ≡ Needed x n → (j : Item) → Raises r i j ↔ (j ≡ Needed x a)
raises_needed r x n a top i is j = subst (λ z. Raises r z j ↔ (j ≡ Needed x a)) (sym is) (
  λ (b, (top', e)). e ∙ ap (Needed x) (top_once r x n b a (may_rise r.calm x) top' top),
  λ e. (a, (top, e)),
)

-- ---- calls

pub calm_more : (steps : List Step) (i : ℕ) (d : Step) → ((p : ℕ) → p < i → whom_of (slice_get steps p) ≡ None) → i < length steps
    → (get_or steps i d).whom ≡ None → (p : ℕ) → p < i + 1 → whom_of (slice_get steps p) ≡ None
calm_more steps i d calm lt free p below = elim (cases_lt p i) [
  | inl less ↦ calm p less
  | inr ge ↦
      let e : i ≡ p = omega arith in
      subst (λ z. whom_of (slice_get steps z) ≡ None) e (ap whom_of (slice_get-get_or steps i d lt) ∙ free)
]

pub calm_all : (steps : List Step) (i : ℕ) → ((p : ℕ) → p < i → whom_of (slice_get steps p) ≡ None) → length steps ≤ i → IsCalm steps
calm_all steps i calm whole p = elim (cases_lt p i) [
  | inl less ↦ calm p less
  | inr ge ↦ ap whom_of (slice_get_past steps p (omega arith))
]

pub not_some : (o : Option Whom) → is_some o ≡ false → o ≡ None
not_some None e = refl
not_some (Some w) e = absurd cc
