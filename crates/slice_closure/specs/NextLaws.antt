-- A search for a kept set stays among its items.
use Rattle.std.specs.Prelude.{◌≡◌, ℕ, zero, suc, ◌+◌, ◌-◌, ◌*◌, ◌<◌, ◌≤◌, List, [], ◌∷◌, Option, Some, None, drop, length, slice_get}
use Rattle.std.specs.List.{Contains}
use Rattle.std.proofs.Common.{inl, inr, ⊎_elim, arith, subst, sym}
use Rattle.std.proofs.Math.Nat.{mul-le-mul_right}
use Rattle.std.proofs.lemmas.Option.{slice_get_within, get_or_from_slice_get}
use Rattle.std.proofs.lemmas.Bool.{cases_lt}
use Rattle.std.proofs.lemmas.Grind.{not_there}
use Rattle.std.proofs.lemmas.List.Elements.{All-contains}
use Rattle.wasm_types.specs.declared.module.Pos.{Pos}
use Rattle.wasm_types.specs.declared.place.Loc.{Loc}
use Rattle.wasm_types.specs.declared.place.Loc.TheVariants as loc
use Rattle.wasm_types.specs.declared.place.Loc.TheVariants.{Mem, Size}
use Rattle.wasm_types.specs.declared.place.Node.{Node}
use Rattle.wasm_types.specs.declared.place.Node.TheVariants as node
use Rattle.wasm_types.specs.Nodes.{At}
use Rattle.block_cfg.specs.Graph.{number}
use Rattle.worklist.specs.Packed.{PackedEdge}
use Rattle.stack_names.specs.declared.place.Place.{Place}
use Rattle.stack_names.specs.Named.{of_node}
use Rattle.flow_domain.specs.Rows.{Output, Ret, Final, Done}
use Rattle.called_rows.specs.declared.instrs.Whom.{Whom}
use Rattle.called_rows.specs.Called.{globals_in}
use Rattle.called_rows.specs.Locs.{IsLoc}
use Rattle.slice_closure.specs.declared.tables.Tables.{Tables}
use Rattle.slice_closure.specs.declared.spot.Taken.{Taken}
use Rattle.slice_closure.specs.declared.spot.Taken.TheVariants as taken
use Rattle.slice_closure.specs.declared.spot.Touch.{Touch}
use Rattle.slice_closure.specs.declared.spot.Touch.TheVariants as touch
use Rattle.slice_closure.specs.Flow.{AsksBelow, touch_at, taken_is}
use Rattle.slice_closure.specs.declared.items.Item.{Item}
use Rattle.slice_closure.specs.declared.items.Item.TheVariants.{Keeps, Value, Written, Needs}
use Rattle.slice_closure.specs.Items.{loc_number, node_of, kind_number, item_number, IsItem}
use Rattle.slice_closure.specs.Takens.{of_taken}
use Rattle.slice_closure.specs.Runs.{back, Short}
use Rattle.slice_closure.specs.RunLaws.{back_below}
use Rattle.slice_closure.specs.Next.{spot_in, whom_in, value_by, value_item, written_by_item, operands_at, ByRow, ForOutput, Asks, Uses, IsHolder, NextAt, Next, Fits}

past : {A : Type 0} (n : ℕ) (xs : List A) (x : A) → Contains (drop n xs) x → Contains xs x
past zero xs x h = h
past (suc n) [] x h = h
past (suc n) (y ∷ xs) x h = let r = past n xs x h in let lt = r.1 in (suc r.0, omega arith, r.2)

nothing_there : {A : Type 0} (x : A) → Contains [] x → ⊥
nothing_there x (k, lt, is) = omega arith

-- what is taken is an operand
pub taken_there : (o : Option Taken) (places : List Place) (place : Place) → Contains (of_taken o places) place → Contains places place
taken_there None places place h = absurd (nothing_there place h)
taken_there (Some taken.All) places place h = h
taken_there (Some taken.Test) places place h = h
taken_there (Some taken.Last) places place h = past (length places - 1) places place h
taken_there (Some taken.Nothing) places place h = absurd (nothing_there place h)

pub keeps_item : (N L : ℕ) (n : Node) (j : Item) → j ≡ Keeps n → number n < N → IsItem N L j
keeps_item N L n j e lt = subst (IsItem N L) (sym e) (tt, lt)

needs_item : (N L : ℕ) (x : Loc) (n : Node) (j : Item) → j ≡ Needs x n → loc_number x < L → number n < N → IsItem N L j
needs_item N L x n j e below lt = subst (IsItem N L) (sym e) (below, lt)

pub value_fits : (N L : ℕ) (w : Option Whom) (n : Node) → number n < N → IsItem N L (value_by w n)
value_fits N L None n lt = (tt, lt)
value_fits N L (Some w) n lt = (tt, lt)

pub written_fits : (N L : ℕ) (w : Option Whom) (x : Loc) (n : Node) → loc_number x < L → number n < N → IsItem N L (written_by_item w x n)
written_fits N L None x n below lt = (tt, lt)
written_fits N L (Some w) x n below lt = (below, lt)

-- a location that is read or checked has a number
asked_item : (N L : ℕ) (touch : Touch) (p : ℕ) → AsksBelow L touch → number (At p) < N → (j : Item) → Asks touch p j → IsItem N L j
asked_item N L touch.Nothing p below lt j h = absurd h
asked_item N L (touch.Reads x) p below lt j h = needs_item N L x (At p) j h (below 0 x (omega arith)) lt
asked_item N L (touch.Writes x) p below lt j h = absurd h
asked_item N L (touch.Changes x) p below lt j h = needs_item N L x (At p) j h (below 0 x (omega arith)) lt
asked_item N L touch.Loads p below lt j h = ⊎_elim (λ e. needs_item N L Mem (At p) j e (below 0 Mem (omega arith)) lt)
    (λ e. needs_item N L Size (At p) j e (below 1 Mem (omega arith)) lt) h
asked_item N L touch.Stores p below lt j h = ⊎_elim (λ e. needs_item N L Mem (At p) j e (below 0 Mem (omega arith)) lt)
    (λ e. needs_item N L Size (At p) j e (below 1 Mem (omega arith)) lt) h
asked_item N L (touch.Calls w) p below lt j h = absurd h

-- and so has one of the module's that is no local
pub outer_below : (globals L : ℕ) (x : Loc) → IsLoc globals 0 x → 2 * globals + 3 ≤ L → loc_number x < L
outer_below globals L loc.Mem ok le = omega arith
outer_below globals L loc.Size ok le = omega arith
outer_below globals L loc.Host ok le = omega arith
outer_below globals L (loc.Global k) ok le = omega arith
outer_below globals L (loc.Local k) ok le = absurd (omega arith)

-- what stands at an index is contained
got : {A : Type 0} (xs : List A) (k : ℕ) (x : A) → slice_get xs k ≡ Some x → Contains xs x
got xs k x e = (k, slice_get_within xs k x e, get_or_from_slice_get xs k x x e)

module _ (N L : ℕ) (t : Tables) (fits : Fits N L t) where
  -- what is around a position stands before it
  holder_before : (p : ℕ) (b : Pos) → IsHolder t p b → b.0 < p
  holder_before p b around = elim (cases_lt b.0 p) [
    | inl lt ↦ lt
    | inr ge ↦ absurd (not_there fits.nested (λ n. let lt = (around n).0.behind in omega arith))
  ]

  value_there : (n : Node) (j : Item) → j ≡ value_item t n → number n < N → IsItem N L j
  value_there n j e lt = subst (IsItem N L) (sym e) (value_fits N L (whom_in t n) n lt)

  operand_there : (p : ℕ) (place : Place) (j : Item) → Contains (operands_at t p) place → j ≡ value_item t place.maker → IsItem N L j
  operand_there p place j has e =
      value_there place.maker j e (All-contains (λ (q : Place). number q.maker < N) (operands_at t p) place (fits.operands p) has)

  row_item : (p : ℕ) (o : Output) (w : Whom) → number (At p) < N → (j : Item) → ByRow t p o w j → IsItem N L j
  row_item p o w lt j (inl (k, (below, (on, (place, (is, e)))))) = operand_there p place j (got (operands_at t p) k place is) e
  row_item p o w lt j (inr (i, (below, (x, (ok, (same, (on, e))))))) = needs_item N L x (At p) j e (outer_below (globals_in t.called) L x ok fits.inputs) lt

  uses_item : (p : ℕ) (w : Option Whom) → number (At p) < N → (j : Item) → Uses t p w j → IsItem N L j
  uses_item p None lt j (inl (place, (has, e))) =
      operand_there p place j (taken_there (taken_is (spot_in t p)) (operands_at t p) place has) e
  uses_item p None lt j (inr asked) = asked_item N L (touch_at (spot_in t p)) p (fits.uses p) lt j asked
  uses_item p (Some w) lt j h = row_item p Done w lt j h

  next_at_item : (n : Node) → number n < N → (j : Item) → NextAt t n j → IsItem N L j
  next_at_item (node.At p) lt j (inl h) = uses_item p.0 (whom_in t (node.At p)) lt j h
  next_at_item (node.At p) lt j (inr (b, (around, e))) =
      let before = holder_before p.0 b around in keeps_item N L (At b.0) j e (omega arith)
  next_at_item (node.Join b) lt j h = keeps_item N L (At b.0) j h (omega arith)
  next_at_item node.Exit lt j h = absurd h

  output_item : (o : Output) (n : Node) (w : Option Whom) → number n < N → (j : Item) → ForOutput t o n w j → IsItem N L j
  output_item o (node.At p) (Some w) lt j h = row_item p.0 o w lt j h
  output_item o (node.At p) None lt j h = absurd h
  output_item o (node.Join b) w lt j h = absurd h
  output_item o node.Exit w lt j h = absurd h

  pub next_item : (i : Item) → IsItem N L i → (j : Item) → Next t i j → IsItem N L j
  next_item (Keeps n) ok j h = ⊎_elim
      (next_at_item n ok.1 j)
      (λ r. ⊎_elim
      (λ (m, (has, e)). value_there m j e (All-contains (λ (k : Node). number k < N) (of_node t.names.now.joined n) m (fits.joined n) has))
      (λ d. ⊎_elim
      (λ (p, (near, e)). keeps_item N L (At p.0) j e (fits.earlier n p near))
      (λ (p, (near, e)). keeps_item N L (At p.0) j e (fits.latest n p near)) d) r)
      h
  next_item (Value n) ok j (inl e) = keeps_item N L n j e ok.1
  next_item (Value n) ok j (inr h) = output_item Ret n (whom_in t n) ok.1 j h
  next_item (Written x n) ok j (inl e) = keeps_item N L n j e ok.1
  next_item (Written x n) ok j (inr h) = output_item (Final x) n (whom_in t n) ok.1 j h
  next_item (Needs x a) ok j (b, (comes, on)) =
      let lt = fits.before a b comes in
      ⊎_elim (λ (w, e). subst (IsItem N L) (sym e) (written_fits N L (whom_in t b) x b ok.0 lt)) (λ (free, e). needs_item N L x b j e ok.0 lt) on

  pub short_item : (i : Item) → IsItem N L i → (j : Item) → Short t i j → IsItem N L j
  short_item (Keeps n) ok j h = next_item (Keeps n) ok j h
  short_item (Value n) ok j h = next_item (Value n) ok j h
  short_item (Written x n) ok j h = next_item (Written x n) ok j h
  short_item (Needs x a) ok j (b, (comes, on)) =
      let lt = fits.before a b comes in
      let le = back_below t x b in
      ⊎_elim (λ (w, e). subst (IsItem N L) (sym e) (written_fits N L (whom_in t b) x b ok.0 lt))
      (λ (free, e). needs_item N L x (back t x b) j e ok.0 (omega arith)) on

kind_below : (N L : ℕ) (i : Item) → IsItem N L i → kind_number i < 2 * L + 2
kind_below N L (Keeps n) ok = omega arith
kind_below N L (Value n) ok = omega arith
kind_below N L (Written x n) ok = let lt = ok.0 in omega arith
kind_below N L (Needs x n) ok = let lt = ok.0 in omega arith

row_below : (r a k n : ℕ) → a < r → k < n → a * n + k < r * n
row_below r a k n lt lt' =
    let le : suc a * n ≤ r * n = mul-le-mul_right n (let le : suc a ≤ r = omega arith in le) in
    let more : suc a * n ≡ a * n + n = omega arith in
    omega arith

-- items have numbers below the bound
pub item_below : (N L : ℕ) (i : Item) → IsItem N L i → item_number N i < (2 * L + 2) * N
item_below N L i ok = row_below (2 * L + 2) (kind_number i) (number (node_of i)) N (kind_below N L i ok) ok.1

pub short_stays : (N L : ℕ) (t : Tables) → Fits N L t → (x y : ℕ) → PackedEdge (IsItem N L) (item_number N) (Short t) x y → y < (2 * L + 2) * N
short_stays N L t fits x y (i, (j, (from, (to, (ok, e))))) =
    subst (λ n. n < (2 * L + 2) * N) (sym to) (item_below N L j (short_item N L t fits i ok j e))
