-- A search by runs stays among its items.
use Rattle.std.specs.Prelude.{ℕ, zero, suc, ◌+◌, ◌*◌, ◌<◌, ◌≤◌, Bool, true, false, List, [], ◌∷◌}
use Rattle.std.specs.List.{All}
use Rattle.std.proofs.Common.{inl, inr, arith, subst, sym}
use Rattle.std.proofs.lemmas.List.Elements.{All-contains}
use Rattle.wasm_types.specs.declared.place.Loc.{Loc}
use Rattle.wasm_types.specs.declared.place.Node.{Node}
use Rattle.wasm_types.specs.declared.place.Node.TheVariants as node
use Rattle.wasm_types.specs.Nodes.{At}
use Rattle.wasm_types.specs.Takers.{is_among}
use Rattle.block_cfg.specs.Graph.{number, row_of}
use Rattle.worklist.specs.Packed.{PackedEdge}
use Rattle.func_flow.specs.declared.items.Item.{Item}
use Rattle.func_flow.specs.declared.items.Item.TheVariants.{Value, Completion, Decider, Decided, Written, Needed}
use Rattle.func_flow.specs.declared.numbering.Numbering.{Numbering}
use Rattle.func_flow.specs.declared.runs.Runs.{Runs}
use Rattle.func_flow.specs.declared.tables.Tables.{Tables}
use Rattle.func_flow.specs.Items.{IsLoc, IsItem, item_number}
use Rattle.func_flow.specs.Next.{Fits}
use Rattle.func_flow.specs.NextLaws.{written_item, needed_item, next_item, item_below}
use Rattle.func_flow.specs.Runs.{start_of, starts_for, writers_in, IsInOrder, join_only, entry_at, SettledFrom, Settled, Lands, Short}
use Rattle.func_flow.specs.Runs.{may_rise, IsTopBy, Raises}

join_below : (b : Bool) (row : List Node) (n : Node) (N : ℕ) → All (λ (m : Node). number m < N) row → number n < N → number (join_only b row n) < N
join_below true (node.Join b ∷ []) n N all lt = all 0 n (omega arith)
join_below true (node.Join b ∷ m ∷ row) n N all lt = lt
join_below true (node.At p ∷ row) n N all lt = lt
join_below true (node.Exit ∷ row) n N all lt = lt
join_below true [] n N all lt = lt
join_below false row n N all lt = lt

module _ (t : Tables) (r : Runs) (fits : Fits t) (order : IsInOrder r) where
  abbrev K : Numbering
  K = t.numbering

  pub entry_below : (h : ℕ) → number (At h) < K.nodes → number (entry_at t.cfg.now h) < K.nodes
  entry_below zero lt = lt
  entry_below (suc h) lt =
      join_below (is_among (At (suc h)) t.cfg.now.points) (row_of t.cfg.now.before (At (suc h))) (At (suc h)) K.nodes (fits.before (At (suc h))) lt

  pub from_item : (x : Loc) (h p : ℕ) (j : Item) → IsLoc K.globals K.locals x → h ≤ p → number (At p) < K.nodes → SettledFrom t r x h p j → IsItem K j
  from_item x h p j ok le lt (inl (w, (last, e))) = let before = last.before in written_item K x (At w) j e ok (omega arith)
  from_item x h p j ok le lt (inr (none, e)) = needed_item K x (entry_at t.cfg.now h) j e ok (entry_below h (omega arith))

  pub settled_item : (x : Loc) (b : Node) (j : Item) → IsLoc K.globals K.locals x → number b < K.nodes → Settled t r x b j → IsItem K j
  settled_item x (node.At p) j ok lt s = from_item x (start_of (starts_for r x) p.0) p.0 j ok (order.upward x p.0) lt s
  settled_item x (node.Join b) j ok lt e = needed_item K x (node.Join b) j e ok lt
  settled_item x node.Exit j ok lt e = needed_item K x node.Exit j e ok lt

  pub lands_item : (x : Loc) (b : Node) (j : Item) → IsLoc K.globals K.locals x → number b < K.nodes → Lands t r x b j → IsItem K j
  lands_item x b j ok lt (inl (w, e)) = written_item K x b j e ok lt
  lands_item x b j ok lt (inr (free, s)) = settled_item x b j ok lt s

  top_low : (x : Loc) (n a : Node) (up : Bool) → IsTopBy r x n up a → number a ≤ number n
  top_low x n a true tops = order.falls (writers_in r x) n a tops.climbs
  top_low x n a false e = subst (λ z. number z ≤ number n) (sym e) (omega arith)

  pub raised_item : (i j : Item) → IsItem K i → Raises r i j → IsItem K j
  raised_item (Value n) j ok e = subst (IsItem K) (sym e) ok
  raised_item (Completion n) j ok e = subst (IsItem K) (sym e) ok
  raised_item (Written x n) j ok e = subst (IsItem K) (sym e) ok
  raised_item (Decider n) j ok e = subst (IsItem K) (sym e) ok
  raised_item (Decided n) j ok e = subst (IsItem K) (sym e) ok
  raised_item (Needed x n) j ok (a, (top, e)) =
      let low = top_low x n a (may_rise r.calm x) top in
      let below = ok.1 in
      needed_item K x a j e ok.0 (omega arith)

  pub short_item : (i : Item) → IsItem K i → (j : Item) → Short t r i j → IsItem K j
  short_item (Value n) ok j h = next_item t fits (Value n) ok j h
  short_item (Completion n) ok j h = next_item t fits (Completion n) ok j h
  short_item (Written x n) ok j h = next_item t fits (Written x n) ok j h
  short_item (Decider n) ok j h = next_item t fits (Decider n) ok j h
  short_item (Decided n) ok j h = next_item t fits (Decided n) ok j h
  short_item (Needed x a) ok j (point, (b, (has, (k, (lands, raises))))) =
      raised_item k j (lands_item x b k ok.0 (All-contains (λ (m : Node). number m < K.nodes) (row_of t.cfg.now.before a) b (fits.before a) has) lands) raises

pub short_stays : (t : Tables) (r : Runs) → Fits t → IsInOrder r → (x y : ℕ) → PackedEdge (IsItem t.numbering) (item_number t.numbering) (Short t r) x y
    → y < (2 * (t.numbering.globals + t.numbering.locals) + 10) * t.numbering.nodes
short_stays t r fits order x y (i, (j, (from, (to, (ok, e))))) =
    subst (λ n. n < (2 * (t.numbering.globals + t.numbering.locals) + 10) * t.numbering.nodes) (sym to)
    (item_below t.numbering j (short_item t r fits order i ok j e))
