-- A search stays among its items.
use Rattle.std.specs.Prelude.{◌≡◌, ℕ, suc, Bool, true, false, ◌+◌, ◌-◌, ◌*◌, ◌<◌, ◌≤◌, ◌||◌, List, reverse, Option, Some, None, length, slice_get}
use Rattle.std.specs.List.{Contains}
use Rattle.std.proofs.Common.{inl, inr, ⊎_elim, arith, refl, subst, sym, ◌∙◌}
use Rattle.std.proofs.Math.Nat.{mul-le-mul_right}
use Rattle.std.proofs.lemmas.Bool.{cases_lt}
use Rattle.std.proofs.lemmas.Grind.{not_there}
use Rattle.std.proofs.lemmas.List.{length-reverse, get_or-reverse}
use Rattle.std.proofs.lemmas.List.Elements.{All-contains}
use Rattle.std.proofs.lemmas.Option.{slice_get_within, get_or_from_slice_get}
use Rattle.wasm_types.specs.declared.module.Pos.{Pos}
use Rattle.wasm_types.specs.declared.place.Loc.{Loc}
use Rattle.wasm_types.specs.declared.place.Loc.TheVariants as loc
use Rattle.wasm_types.specs.declared.place.Node.{Node}
use Rattle.wasm_types.specs.declared.place.Node.TheVariants as node
use Rattle.wasm_types.specs.Nodes.{At}
use Rattle.block_cfg.specs.Graph.{number, row_of}
use Rattle.stack_names.specs.declared.place.Place.{Place}
use Rattle.stack_names.specs.Named.{of_node}
use Rattle.flow_domain.specs.declared.loc_table.LocUse.{LocUse}
use Rattle.flow_domain.specs.LocTables.{row_in}
use Rattle.flow_domain.specs.Rows.{Output, Ret, Final, Done}
use Rattle.func_flow.specs.declared.items.Item.{Item}
use Rattle.func_flow.specs.declared.items.Item.TheVariants.{Value, Completion, Decider, Decided, Written, Needed}
use Rattle.func_flow.specs.declared.numbering.Numbering.{Numbering}
use Rattle.func_flow.specs.declared.steps.Picks.{Picks}
use Rattle.func_flow.specs.declared.steps.Step.{Step}
use Rattle.called_rows.specs.declared.instrs.Whom.{Whom}
use Rattle.func_flow.specs.declared.tables.Tables.{Tables}
use Rattle.func_flow.specs.Items.{loc_number, IsLoc, node_of, kind_number, item_number, IsItem}
use Rattle.func_flow.specs.Steps.{arms_of}
use Rattle.func_flow.specs.Next.{uses_for, IsHolder, holder_item, Picked, ByStep, AtNode, Makes, Condition, Outward, NextDecided, Next}
use Rattle.func_flow.specs.Next.{Fits, whom_at, operands_at, Stop, First}

-- ---- numbers

loc_below : (globals locals : ℕ) (x : Loc) → IsLoc globals locals x → loc_number globals x < globals + locals + 3
loc_below globals locals loc.Mem ok = omega arith
loc_below globals locals loc.Size ok = omega arith
loc_below globals locals loc.Host ok = omega arith
loc_below globals locals (loc.Global k) ok = omega arith
loc_below globals locals (loc.Local k) ok = omega arith

kind_below : (K : Numbering) (i : Item) → IsItem K i → kind_number K.globals i < 2 * (K.globals + K.locals) + 10
kind_below K (Value n) ok = omega arith
kind_below K (Completion n) ok = omega arith
kind_below K (Decider n) ok = omega arith
kind_below K (Decided n) ok = omega arith
kind_below K (Written x n) ok = let lt = loc_below K.globals K.locals x ok.0 in omega arith
kind_below K (Needed x n) ok = let lt = loc_below K.globals K.locals x ok.0 in omega arith

row_below : (r a k n : ℕ) → a < r → k < n → a * n + k < r * n
row_below r a k n lt lt' =
    let le : suc a * n ≤ r * n = mul-le-mul_right n (let le : suc a ≤ r = omega arith in le) in
    let more : suc a * n ≡ a * n + n = omega arith in
    omega arith

-- items have numbers below the bound
pub item_below : (K : Numbering) (i : Item) → IsItem K i → item_number K i < (2 * (K.globals + K.locals) + 10) * K.nodes
item_below K i ok = row_below (2 * (K.globals + K.locals) + 10) (kind_number K.globals i) (number (node_of i)) K.nodes (kind_below K i ok) ok.1

-- ---- items

value_item : (K : Numbering) (n : Node) (j : Item) → j ≡ Value n → number n < K.nodes → IsItem K j
value_item K n j e lt = subst (IsItem K) (sym e) (tt, lt)

completion_item : (K : Numbering) (n : Node) (j : Item) → j ≡ Completion n → number n < K.nodes → IsItem K j
completion_item K n j e lt = subst (IsItem K) (sym e) (tt, lt)

decider_item : (K : Numbering) (n : Node) (j : Item) → j ≡ Decider n → number n < K.nodes → IsItem K j
decider_item K n j e lt = subst (IsItem K) (sym e) (tt, lt)

decided_item : (K : Numbering) (n : Node) (j : Item) → j ≡ Decided n → number n < K.nodes → IsItem K j
decided_item K n j e lt = subst (IsItem K) (sym e) (tt, lt)

pub written_item : (K : Numbering) (x : Loc) (n : Node) (j : Item) → j ≡ Written x n → IsLoc K.globals K.locals x → number n < K.nodes → IsItem K j
written_item K x n j e ok lt = subst (IsItem K) (sym e) (ok, lt)

pub needed_item : (K : Numbering) (x : Loc) (n : Node) (j : Item) → j ≡ Needed x n → IsLoc K.globals K.locals x → number n < K.nodes → IsItem K j
needed_item K x n j e ok lt = subst (IsItem K) (sym e) (ok, lt)

-- what stands at an index is contained
pub got : {A : Type 0} (xs : List A) (k : ℕ) (x : A) → slice_get xs k ≡ Some x → Contains xs x
got xs k x e = (k, slice_get_within xs k x e, get_or_from_slice_get xs k x x e)

reversed_has : {A : Type 0} (xs : List A) (x : A) → Contains (reverse xs) x → Contains xs x
reversed_has xs x (k, lt, is) =
    let within : k < length xs = omega (arith, length-reverse xs) in
    (length xs - 1 - k, omega arith, sym (get_or-reverse xs k x within) ∙ is)

used_some : (o : Output) (u : LocUse) → uses_for o u ≡ true → (u.reads || u.checks) ≡ true
used_some Ret u e = rw e refl
used_some (Final x) u e = rw e refl
used_some Done u e = either u.reads u.checks e
  where
    either : (a b : Bool) → b ≡ true → (a || b) ≡ true
    either true b e = refl
    either false b e = e

module _ (t : Tables) (fits : Fits t) where
  abbrev K : Numbering
  K = t.numbering

  -- what is around a position stands before it
  holder_before : (p : ℕ) (b : Pos) → IsHolder t p b → b.0 < p
  holder_before p b around = elim (cases_lt b.0 p) [
    | inl lt ↦ lt
    | inr ge ↦ absurd (not_there fits.nested (λ n. let lt = (around n).0.behind in omega arith))
  ]

  picked_item : (p : ℕ) (picks : Picks) (j : Item) → Picked (operands_at t p) picks j → IsItem K j
  picked_item p picks j (k, (lt, (on, (place, (is, e))))) =
      value_item K place.maker j e (All-contains (λ (q : Place). number q.maker < K.nodes) (operands_at t p) place (fits.operands p)
      (reversed_has (operands_at t p) place (got (reverse (operands_at t p)) k place is)))

  step_item : (p : ℕ) (o : Output) → number (At p) < K.nodes → (st : Option Step) (w : Option Whom) (j : Item) → ByStep t p o st w j → IsItem K j
  step_item p o lt st None j (inl h) = picked_item p _ j h
  step_item p o lt st None j (inr (u, (has, (used, e)))) =
      needed_item K u.loc (At p) j e (All-contains (λ (v : LocUse). (v.reads || v.checks) ≡ true → IsLoc K.globals K.locals v.loc) (row_in (slice_get t.locs.now p)) u
      (fits.uses p) has (used_some o u used)) lt
  step_item p o lt st (Some w) j (inl (k, (below, (on, (place, (is, e)))))) =
      value_item K place.maker j e (All-contains (λ (q : Place). number q.maker < K.nodes) (operands_at t p) place (fits.operands p)
      (got (operands_at t p) k place is))
  step_item p o lt st (Some w) j (inr (i, (below, (x, (ok, (same, (on, e))))))) = needed_item K x (At p) j e ok lt

  at_item : (o : Output) (n : Node) → number n < K.nodes → (j : Item) → AtNode t o n j → IsItem K j
  at_item o (node.At p) lt j h = step_item p.0 o lt (slice_get t.steps.now p.0) (whom_at t p.0) j h
  at_item o (node.Join b) lt j h = absurd h
  at_item o node.Exit lt j h = absurd h

  makes_item : (o : Output) (n : Node) → number n < K.nodes → (j : Item) → Makes t o n j → IsItem K j
  makes_item o n lt j (inl h) = at_item o n lt j h
  makes_item o n lt j (inr e) = decided_item K n j e lt

  condition_item : (n : Node) (j : Item) → Condition t n j → IsItem K j
  condition_item (node.At p) j h = picked_item p.0 _ j h
  condition_item (node.Join b) j h = absurd h
  condition_item node.Exit j h = absurd h

  holder_fits : (b : Bool) (n : Node) (j : Item) → j ≡ holder_item b n → number n < K.nodes → IsItem K j
  holder_fits true n j e lt = decider_item K n j e lt
  holder_fits false n j e lt = decided_item K n j e lt

  outward_item : (n : Node) → number n < K.nodes → (j : Item) → Outward t n j → IsItem K j
  outward_item (node.At p) lt j (b, (around, e)) =
      let before = holder_before p.0 b around in
      holder_fits (arms_of (slice_get t.steps.now b.0)) (At b.0) j e (omega arith)
  outward_item (node.Join b) lt j h = holder_fits (arms_of (slice_get t.steps.now b.0)) (At b.0) j h (omega arith)
  outward_item node.Exit lt j h = absurd h

  decided_next : (n : Node) → number n < K.nodes → (j : Item) → NextDecided t n j → IsItem K j
  decided_next n lt j (inl (p, (near, e))) = decider_item K (At p.0) j e (fits.earlier n p near)
  decided_next n lt j (inr (inl (p, (near, e)))) = decider_item K (At p.0) j e (fits.latest n p near)
  decided_next n lt j (inr (inr h)) = outward_item n lt j h

  pub next_item : (i : Item) → IsItem K i → (j : Item) → Next t i j → IsItem K j
  next_item (Value n) ok j (inl h) = makes_item Ret n ok.1 j h
  next_item (Value n) ok j (inr (m, (has, e))) =
      value_item K m j e (All-contains (λ (k : Node). number k < K.nodes) (of_node t.names.now.joined n) m (fits.joined n) has)
  next_item (Completion n) ok j h = makes_item Done n ok.1 j h
  next_item (Written x n) ok j h = makes_item (Final x) n ok.1 j h
  next_item (Decider n) ok j (inl h) = condition_item n j h
  next_item (Decider n) ok j (inr e) = decided_item K n j e ok.1
  next_item (Decided n) ok j h = decided_next n ok.1 j h
  next_item (Needed x a) ok j (point, (b, (has, on))) =
      let lt = All-contains (λ (k : Node). number k < K.nodes) (row_of t.cfg.now.before a) b (fits.before a) has in
      ⊎_elim (λ (w, e). written_item K x b j e ok.0 lt) (λ (free, e). needed_item K x b j e ok.0 lt) on

  stop_item : (n : Node) → number n < K.nodes → (j : Item) → Stop t n j → IsItem K j
  stop_item (node.At p) lt j (inl (on, e)) = completion_item K (At p.0) j e lt
  stop_item (node.At p) lt j (inr (back, e)) = decider_item K (At p.0) j e lt
  stop_item (node.Join b) lt j h = absurd h
  stop_item node.Exit lt j h = absurd h

  pub first_item : 0 < K.nodes → (label : ℕ) (j : Item) → First t label j → IsItem K j
  first_item some label j (inl (is, e)) = value_item K node.Exit j e some
  first_item some label j (inr (inl (i, (below, (is, (x, (ok, (same, e)))))))) = needed_item K x node.Exit j e ok some
  first_item some label j (inr (inr (is, (n, (has, h))))) =
      stop_item n (All-contains (λ (k : Node). number k < K.nodes) t.cfg.now.points n fits.points has) j h
