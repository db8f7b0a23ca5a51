-- What a search of a body meets is what its outputs lead to.
use Rattle.std.proofs.Common.{◌≡◌, ◌↔◌, ℕ, suc, ◌+◌, ◌<◌, ◌≤◌, List, Bool, true, false, Option, Some, None, reverse, take, length}
use Rattle.std.proofs.Common.{refl, sym, ap, ◌∙◌, subst, inl, inr, ◌⊎◌, ⊎_elim, arith}
use Rattle.std.specs.Prelude.{slice_get}
use Rattle.std.specs.List.{Contains}
use Rattle.std.proofs.lemmas.List.{length-reverse}
use Rattle.std.proofs.lemmas.Option.{slice_get_within, same_Some}
use Rattle.wasm_types.specs.declared.module.ValType.{ValType}
use Rattle.wasm_types.specs.declared.module.FuncType.{FuncType}
use Rattle.wasm_types.specs.declared.module.Module.{Module}
use Rattle.wasm_types.specs.declared.module.Pos.{Pos}
use Rattle.wasm_types.specs.declared.instr.Instr.{Instr}
use Rattle.wasm_types.specs.declared.place.Loc.{Loc}
use Rattle.wasm_types.specs.declared.place.Loc.TheVariants.{Local}
use Rattle.wasm_types.specs.declared.place.Node.{Node}
use Rattle.wasm_types.specs.declared.place.Node.TheVariants as node
use Rattle.wasm_types.specs.declared.place.Node.TheVariants.{Exit}
use Rattle.wasm_types.specs.Code.{code_of}
use Rattle.wasm_types.specs.Spaces.{type_of_func}
use Rattle.wasm_types.specs.Actions.{Action, callees, Callees, Callee, Own, Through, Form, NoForm, Plain, CallOf, CallBy, form_of, Task, NoTask, Acts, Asks}
use Rattle.wasm_types.specs.Actions.{takes, task_of, takes_of, called_of}
use Rattle.wasm_types.specs.Locations.{is_outer, TaskReads, TaskChecks, TaskWrites}
use Rattle.wasm_types.specs.Nodes.{At, Join}
use Rattle.wasm_types.specs.Labels.{Label, join_of, loop_of, carried, arities}
use Rattle.wasm_types.specs.Sites.{carry_names, Head, DoHead, BlockHead, LoopHead, IfHead, BrHead, BrIfHead, BrTableHead, ReturnHead, UnreachableHead}
use Rattle.wasm_types.specs.Sites.{Site, Sites, IsSite, EndAt, HasJoin, Branches, Leads, operand_count, all_operands}
use Rattle.wasm_types.specs.Reaching.{HeadReads, HeadChecks, HeadWrites, Table, Writes, writes_it, Path, edge, along, Enters, stands, steps as enter}
use Rattle.wasm_types.specs.Shadow.{InShadow, at_position, arms, if_join, later, around, looping}
use Rattle.block_cfg.specs.Graph.{row_of}
use Rattle.block_cfg.specs.Points.{IsPoint}
use Rattle.stack_names.specs.declared.place.Place.{Place}
use Rattle.stack_names.specs.Named.{operands_in, of_node, place_of, placed, listed_all}
use Rattle.control_deps.specs.Nest.{IsAround, IsNestOf}
use Rattle.control_deps.specs.Nearest.{IsIf, FoundFrom, nearest_in, Finds, itself, onward, Onward, earlier as by_earlier, latest as by_latest}
use Rattle.control_deps.specs.Nearest.{around as by_around, own_join as by_join}
use Rattle.worklist.specs.Reached.{Reached, root, step}
use Rattle.flow_domain.specs.declared.loc_table.LocUse.{LocUse}
use Rattle.flow_domain.specs.LocTables.{HasRow, row_in, WritesIn, IsPlainTable}
use Rattle.flow_domain.specs.Bounds.{Bounds, bounds, Cover, reads, called, may_trap, may_trap_of, reads_of, checks_of, writes_of}
use Rattle.flow_domain.specs.Bounds.{traps_of as traps_by_task, writes_at, written_by}
use Rattle.flow_domain.specs.Rows.{Output, Ret, Final, Done, Item, Makes, Place as Locates, Decider, CallRows, needs_operand}
use Rattle.flow_domain.specs.Rows.{needs_place, Led, result, final, done_branch, done_trap, done_unreachable, writer, operand, reading, argument, place}
use Rattle.flow_domain.specs.Rows.{carrying, ending, deciding, deciding_again, condition, Needed}
use Rattle.flow_domain.specs.Sliced.{no_calls}
use Rattle.func_flow.specs.declared.items.Item.{Item as Met}
use Rattle.func_flow.specs.declared.items.Item.TheVariants as item
use Rattle.func_flow.specs.declared.steps.Picks.{Picks}
use Rattle.func_flow.specs.declared.steps.Picks.TheVariants.{Nothing, Top}
use Rattle.func_flow.specs.declared.steps.Step.{Step}
use Rattle.called_rows.specs.declared.instrs.Whom.{Whom}
use Rattle.called_rows.specs.declared.instrs.Whom.TheVariants as whom
use Rattle.func_flow.specs.declared.tables.Tables.{Tables}
use Rattle.func_flow.specs.Items.{loc_number, IsLoc}
use Rattle.func_flow.specs.Steps.{IsPicked, form_step, head_step, deciding as deciding_step, whom_of, decides_of, arms_of, stops_of}
use Rattle.called_rows.specs.Called.{ChecksBy, RowIn, TakesIn, globals_in}
use Rattle.called_rows.specs.Right.{CallRight}
use Rattle.called_rows.specs.Whom.{IsIndexOf, IsLast, IsWhom}
use Rattle.called_rows.proofs.FormKinds.{Kind, plain, own, through, kind_of, plain_task, own_asks, table_asks}
use Rattle.func_flow.specs.Next.{FromBelow, WritesAs, WrittenAt, holder_item, operands_at, PickedAt, picks_for, uses_for}
use Rattle.func_flow.specs.Next.{ArgumentAt, PlaceAt, ByStep, Condition, Outward, Passes, Next, Makes as MakesNext, First, Stop}
use Rattle.flow_domain.specs.Summaries.{row_number}
use Rattle.flow_domain.proofs.Summing.{among_is, among_some, row_once}
use Rattle.func_flow.proofs.FormKinds.{picked_traps, traps_picked}
use Rattle.slice_closure.proofs.Joined.{Comes}
use Rattle.slice_closure.proofs.Makers.{site_among, among_site}
use Rattle.slice_closure.proofs.Placed.{front_get, get_front, placed_long, top_maker, maker_top, deep_maker, maker_deep, front_long, unreversed}
use Rattle.slice_closure.proofs.Placed.{operands_are}

-- the tables are those of the body with these sites and live ends
pub record AreRight (B : Bounds) (R : CallRows) (S : Sites) (ends : List EndAt) (T : Node → ValType) (t : Tables) : Type 0 where
  pub points : (n : Node) → Contains t.cfg.now.points n ↔ IsPoint S n
  pub before : (a b : Node) → Contains (row_of t.cfg.now.before b) a ↔ Leads S a b
  pub nexts : (a b : Node) → Contains (row_of t.cfg.now.next a) b ↔ Leads S a b
  pub leads : (a b : Node) → Leads S a b → IsPoint S a × IsPoint S b
  pub plain : IsPlainTable (callees B.m) S t.locs.now
  pub stands : (p : ℕ) (s : Site) → IsSite S p s → slice_get t.steps.now p ≡ Some (head_step s.head)
  pub tasks : (p : ℕ) (s : Site) (op : Instr) → IsSite S p s → s.head ≡ DoHead op → task_of (callees B.m) op ≡ NoTask → ⊥
  pub tall : (p : ℕ) (s : Site) (op : Instr) → IsSite S p s → s.head ≡ DoHead op → takes (callees B.m) op ≤ length s.names
  pub globals : t.numbering.globals ≡ globals_in t.called
  pub positions : t.names.now.positions ≡ listed_all (callees B.m) T S
  pub joined : (j x : Node) → Contains (of_node t.names.now.joined j) x ↔ Comes S ends j x
  pub name_points : (p : ℕ) (s : Site) → IsSite S p s → (k : ℕ) (x : Node) → slice_get s.names k ≡ Some x → IsPoint S x
  pub joined_points : (j x : Node) → Contains (of_node t.names.now.joined j) x → IsPoint S x
  pub nest : IsNestOf t.body.now t.nest.now
  pub earlier : (n : Node) (p : Pos) → (nearest_in t.deciders.now n).earlier ≡ Some p → InShadow S p.0 n
  pub latest : (n : Node) (p : Pos) → (nearest_in t.deciders.now n).latest ≡ Some p → InShadow S p.0 n
  pub held : (q : ℕ) (b : Pos) (s : Site) → IsSite S q s → IsAround (code_of t.body.now.code) q (Some b)
      → (h : Site) × (IsSite S b.0 h × ((b.0 < q) × (q < h.stop)))
  pub inward : (p q : ℕ) (b : Pos) (s : Site) → IsSite S q s → IsAround (code_of t.body.now.code) q (Some b) → InShadow S p (At b.0) → InShadow S p (At q)
  pub inward_join : (p b : ℕ) (s : Site) → IsSite S b s → HasJoin s.head → InShadow S p (At b) → InShadow S p (Join b)
  -- a branch to a loop leads to a position that doesn't stand behind it, and nothing else does
  pub back : (p q : ℕ) → Leads S (At p) (At q) → q ≤ p
      → (l : ℕ) × ((s : Site) × (IsSite S p s × (Branches s.head l × (loop_of s.around l ≡ true))))
  pub loops : (p l : ℕ) (s : Site) → IsSite S p s → Branches s.head l → loop_of s.around l ≡ true → (q : ℕ) × (Leads S (At p) (At q) × (q ≤ p))
  -- whatever has a node in its shadow is found by steps, the last of them to a nearest decider, or from what an if holds
  pub found : (p : ℕ) (n : Node) → InShadow S p n → FoundFrom S (code_of t.body.now.code) (nearest_in t.deciders.now) n p
  pub calls : (p : ℕ) (s : Site) (op : Instr) (g : Callee) (w : Whom) → IsSite S p s → s.head ≡ DoHead op → called B op ≡ Some g → IsWhom g w
      → CallRight B R t.called g w

-- ---- of one instruction

more_locals : (globals n : ℕ) (x : Loc) → IsLoc globals 0 x → IsLoc globals n x
more_locals globals n (Local k) ok = absurd (omega arith)
more_locals globals n (Loc.Global k) ok = ok
more_locals globals n Loc.Mem ok = omega arith
more_locals globals n Loc.Size ok = omega arith
more_locals globals n Loc.Host ok = omega arith

pub reads_head : (cs : Callees) (h : Head) (x : Loc) → HeadReads cs h x → (op : Instr) × ((h ≡ DoHead op) × TaskReads (task_of cs op) x)
reads_head cs (DoHead op) x r = (op, (refl, r))
reads_head cs (BlockHead k) x r = absurd r
reads_head cs (LoopHead k) x r = absurd r
reads_head cs (IfHead k) x r = absurd r
reads_head cs (BrHead l) x r = absurd r
reads_head cs (BrIfHead l) x r = absurd r
reads_head cs (BrTableHead ls l) x r = absurd r
reads_head cs (ReturnHead l) x r = absurd r
reads_head cs UnreachableHead x r = absurd r

pub checks_head : (cs : Callees) (h : Head) (x : Loc) → HeadChecks cs no_calls h x → (op : Instr) × ((h ≡ DoHead op) × TaskChecks no_calls (task_of cs op) x)
checks_head cs (DoHead op) x r = (op, (refl, r))
checks_head cs (BlockHead k) x r = absurd r
checks_head cs (LoopHead k) x r = absurd r
checks_head cs (IfHead k) x r = absurd r
checks_head cs (BrHead l) x r = absurd r
checks_head cs (BrIfHead l) x r = absurd r
checks_head cs (BrTableHead ls l) x r = absurd r
checks_head cs (ReturnHead l) x r = absurd r
checks_head cs UnreachableHead x r = absurd r

pub writes_head : (cs : Callees) (h : Head) (x : Loc) → HeadWrites cs no_calls h x → (op : Instr) × ((h ≡ DoHead op) × TaskWrites no_calls (task_of cs op) x)
writes_head cs (DoHead op) x w = (op, (refl, w))
writes_head cs (BlockHead k) x w = absurd w
writes_head cs (LoopHead k) x w = absurd w
writes_head cs (IfHead k) x w = absurd w
writes_head cs (BrHead l) x w = absurd w
writes_head cs (BrIfHead l) x w = absurd w
writes_head cs (BrTableHead ls l) x w = absurd w
writes_head cs (ReturnHead l) x w = absurd w
writes_head cs UnreachableHead x w = absurd w

read_task : (T : Task) (x : Loc) → TaskReads T x → reads_of T x ≡ true
read_task NoTask x r = absurd r
read_task (Acts a) x r = r
read_task (Asks g n k) x r = absurd r

check_task : (W : Cover) (T : Task) (x : Loc) → TaskChecks no_calls T x → checks_of W T x ≡ true
check_task W NoTask x r = absurd r
check_task W (Acts a) x r = r
check_task W (Asks g n k) x r = absurd r

-- what is asked of a call
same_callee : (g g' : Callee) → Some g ≡ Some g' → g ≡ g'
same_callee g g' e = cc

touch_is : (W : Cover) (T : Task) (g : Callee) (x : Loc) → called_of T ≡ Some g → checks_of W T x ≡ W.touch g x
touch_is W NoTask g x e = absurd cc
touch_is W (Acts a) g x e = absurd cc
touch_is W (Asks g' n k) g x e = ap (λ z. W.touch z x) (same_callee g' g e)

writes_is : (W : Cover) (T : Task) (g : Callee) (x : Loc) → called_of T ≡ Some g → writes_of W T x ≡ W.writes g x
writes_is W NoTask g x e = absurd cc
writes_is W (Acts a) g x e = absurd cc
writes_is W (Asks g' n k) g x e = ap (λ z. W.writes z x) (same_callee g' g e)

reads_none : (T : Task) (g : Callee) (x : Loc) → called_of T ≡ Some g → reads_of T x ≡ false
reads_none NoTask g x e = absurd cc
reads_none (Acts a) g x e = absurd cc
reads_none (Asks g' n k) g x e = refl

-- what is picked of an instruction that makes nothing
none_made : (o : Output) (picks : Picks) (k : ℕ) → IsPicked (picks_for o (Some (deciding_step picks))) k → ⊥
none_made Ret picks k h = h
none_made (Final x) picks k h = h
none_made Done picks k h = h

form_arms : (f : Form) → (form_step f).arms ≡ true → ⊥
form_arms NoForm e = cc
form_arms (Plain a) e = cc
form_arms (CallOf f) e = cc
form_arms (CallBy t) e = cc

-- a decider: its condition
decides_all : (f : Form) (k : ℕ) → IsPicked (form_step f).decides k
decides_all NoForm k = tt
decides_all (Plain a) k = tt
decides_all (CallOf f) k = tt
decides_all (CallBy t) k = tt

-- a decider is live
pub shadow_site : (S : Sites) (p : ℕ) (n : Node) → InShadow S p n → (s : Site) × IsSite S p s
shadow_site S p n (arms kind s is e i) = (s, is)
shadow_site S p _ (if_join kind s is e) = (s, is)
shadow_site S p n (later l s is b i) = (s, is)
shadow_site S p _ (around l j s is b le) = (s, is)
shadow_site S p n (looping l j s is b le e i) = (s, is)

leads_path : (W : Table) (S : Sites) (x : Loc) (a b q : Node) → Leads S a b → Enters W S x b q → Path W S x a q
leads_path W S x a b q l stands = edge l
leads_path W S x a b q l (enter c m free e) = along b l free (leads_path W S x b c q m e)

one_site : (S : Sites) (p : ℕ) (s s' : Site) → IsSite S p s → IsSite S p s' → s ≡ s'
one_site S p s s' is is' = let e : Some (Some s) ≡ Some (Some s') = sym is ∙ is' in cc

outer_of : (globals i : ℕ) (x : Loc) → loc_number globals x ≡ i → i < globals + 3 → is_outer x ≡ true
outer_of globals i (Local k) e lt = absurd (omega arith)
outer_of globals i _ e lt = refl

below_outer : (globals locals : ℕ) (x : Loc) → IsLoc globals locals x → is_outer x ≡ true → loc_number globals x < globals + 3
below_outer globals locals (Local k) ok on = absurd cc
below_outer globals locals (Loc.Global k) ok on = omega arith
below_outer globals locals Loc.Mem ok on = omega arith
below_outer globals locals Loc.Size ok on = omega arith
below_outer globals locals Loc.Host ok on = omega arith

abbrev index_in : Node → ℕ
index_in (node.At z) = z.0
index_in (node.Join z) = z.0
index_in node.Exit = 0

at_once : (p q : ℕ) → At p ≡ At q → p ≡ q
at_once p q e = ap index_in e

-- the row of a location at the end
final_row : (globals : ℕ) (x : Loc) (i : ℕ) → IsLoc globals 0 x → loc_number globals x ≡ i → row_number globals (Final x) ≡ Some (i + 2)
final_row globals (Local k) i ok at = absurd (omega arith)
final_row globals (Loc.Global k) i ok at = let e : 5 + k ≡ i + 2 = omega arith in among_is 5 globals k ok ∙ ap Some e
final_row globals Loc.Mem i ok at = let e : 2 ≡ i + 2 = omega arith in ap Some e
final_row globals Loc.Size i ok at = let e : 3 ≡ i + 2 = omega arith in ap Some e
final_row globals Loc.Host i ok at = let e : 4 ≡ i + 2 = omega arith in ap Some e

row_final : (globals : ℕ) (x : Loc) (label : ℕ) → row_number globals (Final x) ≡ Some label → IsLoc globals 0 x × (label ≡ loc_number globals x + 2)
row_final globals (Local k) label e = absurd cc
row_final globals (Loc.Global k) label e = let h = among_some 5 globals k label e in (h.0, omega arith)
row_final globals Loc.Mem label e = let h = same_Some 2 label e in (omega arith, omega arith)
row_final globals Loc.Size label e = let h = same_Some 3 label e in (omega arith, omega arith)
row_final globals Loc.Host label e = let h = same_Some 4 label e in (omega arith, omega arith)

-- a location that is no local, among those of the module
outer_loc : (globals locals i : ℕ) (x : Loc) → IsLoc globals locals x → loc_number globals x ≡ i → i < globals + 3 → IsLoc globals 0 x
outer_loc globals locals i (Local k) ok at lt = absurd (omega arith)
outer_loc globals locals i (Loc.Global k) ok at lt = ok
outer_loc globals locals i Loc.Mem ok at lt = omega arith
outer_loc globals locals i Loc.Size ok at lt = omega arith
outer_loc globals locals i Loc.Host ok at lt = omega arith

loc_outer : (globals locals : ℕ) (x : Loc) → IsLoc globals 0 x → IsLoc globals locals x × (loc_number globals x < globals + 3)
loc_outer globals locals (Local k) ok = absurd (omega arith)
loc_outer globals locals (Loc.Global k) ok = (ok, omega arith)
loc_outer globals locals Loc.Mem ok = (omega arith, omega arith)
loc_outer globals locals Loc.Size ok = (omega arith, omega arith)
loc_outer globals locals Loc.Host ok = (omega arith, omega arith)

-- what may stop
form_stops : (m : Module) (W : Cover) (op : Instr) → Kind m op → (form_step (form_of op)).stops ≡ may_trap (bounds m W) op
form_stops m W op (plain a e) = ap (λ f. (form_step f).stops) e ∙ sym (ap may_trap_of (plain_task m op a e))
form_stops m W op (own f F e is) = ap (λ z. (form_step z).stops) e ∙ sym (ap may_trap_of (own_asks m op f (Some F) e is))
form_stops m W op (through k F e is) = ap (λ z. (form_step z).stops) e ∙ sym (ap may_trap_of (table_asks m op k (Some F) e is))

module _ (B : Bounds) (R : CallRows) (S : Sites) (ends : List EndAt) (T : Node → ValType) (t : Tables) (r : AreRight B R S ends T t) (o : Output) where
  abbrev cs : Callees
  cs = callees B.m

  abbrev written : Table
  written = written_by B S

  abbrev IsLed : Item → Type 0
  IsLed i = Led B R S ends o i

  abbrev MeansDecider : Node → Type 0
  MeansDecider (node.At p) = IsLed (Decider p.0) × IsPoint S (node.At p)
  MeansDecider _ = ⊥

  -- what it means that the search meets an item
  abbrev Means : Met → Type 0
  Means (item.Value n) = IsLed (Makes n Ret) × IsPoint S n
  Means (item.Completion n) = IsLed (Makes n Done) × IsPoint S n
  Means (item.Written x n) = IsLed (Makes n (Final x)) × IsPoint S n
  Means (item.Decider n) = MeansDecider n
  Means (item.Decided n) = ((p : ℕ) → InShadow S p n → IsLed (Decider p)) × IsPoint S n
  Means (item.Needed x a) = Needed B R S ends o a x

  operands_of : (p : ℕ) (s : Site) → IsSite S p s → operands_at t p ≡ placed T (take (all_operands cs s.around s.head) s.names)
  operands_of p s is = ap (λ ls. operands_in ls p) r.positions ∙ operands_are cs T S p s is

  -- the operands of an instruction that goes on to the next one
  do_operands : (p : ℕ) (s : Site) (op : Instr) → IsSite S p s → s.head ≡ DoHead op → operands_at t p ≡ placed T (take (takes cs op) s.names)
  do_operands p s op is e = operands_of p s is ∙ ap (λ h. placed T (take (all_operands cs s.around h) s.names)) e

  step_is : (p : ℕ) (s : Site) (op : Instr) (f : Form) → IsSite S p s → s.head ≡ DoHead op → form_of op ≡ f → slice_get t.steps.now p ≡ Some (form_step f)
  step_is p s op f is e fe = r.stands p s is ∙ (ap (λ h. Some (head_step h)) e ∙ ap (λ z. Some (form_step z)) fe)

  front_point : (p : ℕ) (s : Site) → IsSite S p s → (c k : ℕ) (n : Node) → slice_get (take c s.names) k ≡ Some n → IsPoint S n
  front_point p s is c k n e = r.name_points p s is k n (front_get c s.names k n e).1

  no_call : (op : Instr) (a : Action) → form_of op ≡ Plain a → called B op ≡ None
  no_call op a fe = ap called_of (plain_task B.m op a fe)

  calls_own : (op : Instr) (f : ℕ) (F : FuncType) → form_of op ≡ CallOf f → type_of_func B.m f ≡ Some F → called B op ≡ Some (Own f)
  calls_own op f F fe is = ap called_of (own_asks B.m op f (Some F) fe is)

  calls_table : (op : Instr) (k : ℕ) (F : FuncType) → form_of op ≡ CallBy k → slice_get B.m.types k ≡ Some F
      → called B op ≡ Some (Through k (length F.params))
  calls_table op k F fe is = ap called_of (table_asks B.m op k (Some F) fe is)

  -- ---- what is met is meant

  need_of : (out : Output) (op : Instr) (a : Action) (k : ℕ) → form_of op ≡ Plain a → IsPicked (picks_for out (Some (form_step (Plain a)))) k
      → needs_operand B op out k
  need_of Ret op a k fe h = tt
  need_of (Final x) op a k fe h = tt
  need_of Done op a k fe h = subst (λ z. traps_by_task z k) (sym (plain_task B.m op a fe)) (picked_traps a k h)

  plain_means : (out : Output) (p : ℕ) (s : Site) (op : Instr) (a : Action) → IsLed (Makes (At p) out) → IsSite S p s → s.head ≡ DoHead op
      → form_of op ≡ Plain a → (j : Met) → FromBelow (length (operands_at t p)) (PickedAt (operands_at t p) (picks_for out (Some (form_step (Plain a))))) j
      → Means j
  plain_means out p s op a led is e fe j (k, (lt, (on, (pl, (got, same))))) =
      let top : slice_get (reverse (placed T (take (takes cs op) s.names))) k ≡ Some pl =
      subst (λ (ps : List Place). slice_get (reverse ps) k ≡ Some pl) (do_operands p s op is e) got in
      let name = top_maker T (take (takes cs op) s.names) k pl top in
      subst Means (sym same) (operand p k out s op led is e (no_call op a fe) (need_of out op a k fe on) name, front_point p s is (takes cs op) k pl.maker name)

  row_there : (p : ℕ) (s : Site) → IsSite S p s → (u : LocUse) → Contains (row_in (slice_get t.locs.now p)) u
      → (us : List LocUse) × (HasRow t.locs.now p us × Contains us u)
  row_there p s is u has = let row = (r.plain.live p).1 (s, is) in (row.0, (row.1, subst (λ q. Contains (row_in q) u) row.1 has))

  read_means : (out : Output) (p : ℕ) (s : Site) (u : LocUse) → ((op : Instr) → reads B op u.loc ≡ true → needs_place B op out u.loc)
      → IsLed (Makes (At p) out) → IsSite S p s → Contains (row_in (slice_get t.locs.now p)) u → u.reads ≡ true → Needed B R S ends o (At p) u.loc
  read_means out p s u need led is has on =
      let row = row_there p s is u has in
      let d = (r.plain.reads p u.loc).0 (row.0, (row.1.0, record { found = u; there = row.1.1; same = refl; so = on })) in
      let h = reads_head cs d.0.head u.loc d.1.1 in
      record { at = At p; enters = stands; led = reading out d.0 h.0 led d.1.0 h.1.0 (need h.0 (read_task (task_of cs h.0) u.loc h.1.1)) }

  use_means : (out : Output) (p : ℕ) (s : Site) (u : LocUse) → IsLed (Makes (At p) out) → IsSite S p s → Contains (row_in (slice_get t.locs.now p)) u
      → uses_for out u ≡ true → Needed B R S ends o (At p) u.loc
  use_means Ret p s u led is has on = read_means Ret p s u (λ op e. e) led is has on
  use_means (Final x) p s u led is has on = read_means (Final x) p s u (λ op e. e) led is has on
  use_means Done p s u led is has on =
      let row = row_there p s is u has in
      let d = (r.plain.checks p u.loc).0 (row.0, (row.1.0, record { found = u; there = row.1.1; same = refl; so = on })) in
      let h = checks_head cs d.0.head u.loc d.1.1 in
      record { at = At p; enters = stands; led = reading Done d.0 h.0 led d.1.0 h.1.0 (check_task B.cover (task_of cs h.0) u.loc h.1.1) }

  -- an operand of a call
  argument_means : (out : Output) (p k : ℕ) (s : Site) (op : Instr) (g : Callee) → IsLed (Makes (At p) out) → IsSite S p s → s.head ≡ DoHead op
      → called B op ≡ Some g → R g out (Local k) → (pl : Place) → slice_get (operands_at t p) k ≡ Some pl → (j : Met) → j ≡ item.Value pl.maker → Means j
  argument_means out p k s op g led is e c row pl got j same =
      let deep : slice_get (placed T (take (takes cs op) s.names)) k ≡ Some pl =
      subst (λ (ps : List Place). slice_get ps k ≡ Some pl) (do_operands p s op is e) got in
      let name = deep_maker T (take (takes cs op) s.names) k pl deep in
      subst Means (sym same) (argument p k g out s op led is e c row name, deep_point name)
    where
      deep_point : slice_get (reverse (take (takes cs op) s.names)) k ≡ Some pl.maker → IsPoint S pl.maker
      deep_point name = let i = unreversed (take (takes cs op) s.names) k pl.maker name in front_point p s is (takes cs op) i.0 pl.maker i.1

  call_means : (out : Output) (p : ℕ) (s : Site) (op : Instr) (g : Callee) (w : Whom) → IsLed (Makes (At p) out) → IsSite S p s → s.head ≡ DoHead op
      → called B op ≡ Some g → CallRight B R t.called g w → ((k : ℕ) → IsLast w (length (operands_at t p)) k → IsIndexOf g (Local k)) → (j : Met)
      → FromBelow (length (operands_at t p)) (ArgumentAt t (operands_at t p) out w) j ⊎ FromBelow (t.numbering.globals + 3) (PlaceAt t p out w) j → Means j
  call_means out p s op g w led is e c cr last j (inl (k, (lt, (on, (pl, (got, same)))))) =
      let row : R g out (Local k) = (cr.rows out (Local k)).1 (⊎_elim (λ h. inl h.1) (λ h. inr (last k h)) on) in
      argument_means out p k s op g led is e c row pl got j same
  call_means out p s op g w led is e c cr last j (inr (i, (lt, (x, (ok, (at_i, (on, same))))))) =
      let out_x : is_outer x ≡ true = outer_of t.numbering.globals i x at_i lt in
      subst Means (sym same) (⊎_elim
      (λ row. record { at = At p; enters = stands; led = place g out s op led is e c ((cr.rows out x).1 (inl row)) out_x })
      (λ check.
      let h = (cr.checks out x).0 check in
      let led_done : IsLed (Makes (At p) Done) = subst (λ z. IsLed (Makes (At p) z)) h.0 led in
      record { at = At p; enters = stands; led = reading Done s op led_done is e (touch_is B.cover (task_of cs op) g x c ∙ h.1) })
      on)

  -- the index of a call through the table
  last_index : (p : ℕ) (s : Site) (op : Instr) (n : ℕ) → IsSite S p s → s.head ≡ DoHead op → takes cs op ≡ suc n → (k : ℕ)
      → k + 1 ≡ length (operands_at t p) → k ≡ n
  last_index p s op n is e many k last =
      let long : length (operands_at t p) ≡ takes cs op = ap length (do_operands p s op is e) ∙ (placed_long T (take (takes cs op) s.names)
      ∙ front_long (takes cs op) s.names (r.tall p s op is e)) in
      omega arith

  kind_means : (out : Output) (p : ℕ) (s : Site) (op : Instr) → IsLed (Makes (At p) out) → IsSite S p s → s.head ≡ DoHead op → Kind B.m op → (j : Met)
      → ByStep t p out (slice_get t.steps.now p) (whom_of (slice_get t.steps.now p)) j → Means j
  kind_means out p s op led is e (plain a fe) j h = ⊎_elim
      (λ picked. plain_means out p s op a led is e fe j picked)
      (λ (u, (has, (on, same))). subst Means (sym same) (use_means out p s u led is has on))
      (subst (λ st. ByStep t p out st (whom_of st) j) (step_is p s op (Plain a) is e fe) h)
  kind_means out p s op led is e (own f F fe ty) j h =
      let c = calls_own op f F fe ty in
      call_means out p s op (Own f) (whom.Own f) led is e c (r.calls p s op (Own f) (whom.Own f) is e c refl) (λ k l. l) j
      (subst (λ st. ByStep t p out st (whom_of st) j) (step_is p s op (CallOf f) is e fe) h)
  kind_means out p s op led is e (through k F fe ty) j h =
      let c = calls_table op k F fe ty in
      let many : takes cs op ≡ suc (length F.params) = ap takes_of (table_asks B.m op k (Some F) fe ty) in
      call_means out p s op (Through k (length F.params)) (whom.Through k) led is e c (r.calls p s op (Through k (length F.params)) (whom.Through k) is e c refl)
      (λ i l. last_index p s op (length F.params) is e many i l) j
      (subst (λ st. ByStep t p out st (whom_of st) j) (step_is p s op (CallBy k) is e fe) h)

  -- what is met from a position that makes nothing
  idle_means : (out : Output) (p : ℕ) (s : Site) (picks : Picks) (stops forks : Bool) → IsLed (Makes (At p) out) → IsSite S p s
      → head_step s.head ≡ record { whom = None; makes = Nothing; traps = Nothing; decides = picks; stops = stops; arms = forks } → (j : Met)
      → ByStep t p out (slice_get t.steps.now p) (whom_of (slice_get t.steps.now p)) j → Means j
  idle_means out p s picks stops forks led is e j h = ⊎_elim
      (λ (k, (lt, (on, (pl, (got, same))))). absurd (none_picked out k on))
      (λ (u, (has, (on, same))). subst Means (sym same) (use_means out p s u led is has on))
      (subst (λ st. ByStep t p out st (whom_of st) j) (r.stands p s is ∙ ap Some e) h)
    where
      none_picked : (out : Output) (k : ℕ)
          → IsPicked (picks_for out (Some (record { whom = None; makes = Nothing; traps = Nothing; decides = picks; stops = stops; arms = forks }))) k → ⊥
      none_picked Ret k h = h
      none_picked (Final x) k h = h
      none_picked Done k h = h

  head_means : (out : Output) (p : ℕ) (s : Site) → IsLed (Makes (At p) out) → IsSite S p s → (h : Head) → s.head ≡ h → (j : Met)
      → ByStep t p out (slice_get t.steps.now p) (whom_of (slice_get t.steps.now p)) j → Means j
  head_means out p s led is (DoHead op) e j h = kind_means out p s op led is e (kind_of B.m op (r.tasks p s op is e)) j h
  head_means out p s led is (BlockHead k) e j h = idle_means out p s Nothing false false led is (ap head_step e) j h
  head_means out p s led is (LoopHead k) e j h = idle_means out p s Nothing false false led is (ap head_step e) j h
  head_means out p s led is (IfHead k) e j h = idle_means out p s Top false true led is (ap head_step e) j h
  head_means out p s led is (BrHead l) e j h = idle_means out p s Nothing false false led is (ap head_step e) j h
  head_means out p s led is (BrIfHead l) e j h = idle_means out p s Top false false led is (ap head_step e) j h
  head_means out p s led is (BrTableHead ls l) e j h = idle_means out p s Top false false led is (ap head_step e) j h
  head_means out p s led is (ReturnHead l) e j h = idle_means out p s Nothing false false led is (ap head_step e) j h
  head_means out p s led is UnreachableHead e j h = idle_means out p s Nothing true false led is (ap head_step e) j h

  makes_means : (out : Output) (n : Node) → IsLed (Makes n out) → IsPoint S n → (j : Met) → MakesNext t out n j → Means j
  makes_means out n led point j (inr same) = subst Means (sym same) ((λ p shadow. deciding n out led shadow), point)
  makes_means out (node.At p) led point j (inl h) = head_means out p.0 point.0 led point.1 point.0.head refl j h
  makes_means out (node.Join b) led point j (inl h) = absurd h
  makes_means out node.Exit led point j (inl h) = absurd h

  joined_means : (n x : Node) → IsLed (Makes n Ret) → Comes S ends n x → IsLed (Makes x Ret)
  joined_means n x led (inl (s, (among, h))) =
      let site = among_site S s among in
      carrying site.0 h.label h.index s (subst (λ z. IsLed (Makes z Ret)) (sym h.goal) led) site.1 h.branch
      (get_front (carried (arities s.around) h.label) (carry_names s.head s.names) h.index x h.within h.is)
  joined_means n x led (inr (e, (among, h))) =
      ending e h.index (subst (λ z. IsLed (Makes z Ret)) (sym h.owner) led) among (get_front e.count e.names h.index x h.within h.is)

  -- ---- deciders

  condition_picks : (h : Head) (ctx : List Label) (names : List Node) (k : ℕ) (n : Node) → IsPicked (head_step h).decides k
      → slice_get (take (all_operands cs ctx h) names) k ≡ Some n → slice_get (take (operand_count cs h) names) k ≡ Some n
  condition_picks (DoHead op) ctx names k n on e = e
  condition_picks (BlockHead kind) ctx names k n on e = absurd on
  condition_picks (LoopHead kind) ctx names k n on e = absurd on
  condition_picks (IfHead kind) ctx names k n on e = e
  condition_picks (BrHead l) ctx names k n on e = absurd on
  condition_picks (BrIfHead l) ctx names k n on e = get_front 1 names k n (omega arith) (front_get (suc (carried (arities ctx) l)) names k n e).1
  condition_picks (BrTableHead ls l) ctx names k n on e = get_front 1 names k n (omega arith) (front_get (suc (carried (arities ctx) l)) names k n e).1
  condition_picks (ReturnHead l) ctx names k n on e = absurd on
  condition_picks UnreachableHead ctx names k n on e = absurd on

  condition_means : (p : ℕ) (s : Site) → IsLed (Decider p) → IsSite S p s → (j : Met) → Condition t (At p) j → Means j
  condition_means p s led is j (k, (lt, (on, (pl, (got, same))))) =
      let picked : IsPicked (head_step s.head).decides k = subst (λ st. IsPicked (decides_of st) k) (r.stands p s is) on in
      let top : slice_get (reverse (placed T (take (all_operands cs s.around s.head) s.names))) k ≡ Some pl =
      subst (λ (ps : List Place). slice_get (reverse ps) k ≡ Some pl) (operands_of p s is) got in
      let name = top_maker T (take (all_operands cs s.around s.head) s.names) k pl top in
      subst Means (sym same) (
        condition p k s led is (condition_picks s.head s.around s.names k pl.maker picked name),
        front_point p s is (all_operands cs s.around s.head) k pl.maker name,
      )

  -- an if
  arms_head : (h : Head) → (head_step h).arms ≡ true → (kind : Option ValType) × (h ≡ IfHead kind)
  arms_head (DoHead op) e = absurd (form_arms (form_of op) e)
  arms_head (IfHead kind) e = (kind, refl)
  arms_head (BlockHead kind) e = absurd cc
  arms_head (LoopHead kind) e = absurd cc
  arms_head (BrHead l) e = absurd cc
  arms_head (BrIfHead l) e = absurd cc
  arms_head (BrTableHead ls l) e = absurd cc
  arms_head (ReturnHead l) e = absurd cc
  arms_head UnreachableHead e = absurd cc

  -- what holds a node: an if has it in its shadow
  holder_means : (b : ℕ) (s : Site) → IsSite S b s → ((kind : Option ValType) → s.head ≡ IfHead kind → IsLed (Decider b))
      → ((p : ℕ) → InShadow S p (At b) → IsLed (Decider p)) → (a : Bool) → arms_of (slice_get t.steps.now b) ≡ a → (j : Met) → j ≡ holder_item a (At b)
      → Means j
  holder_means b s is whole inner true e j same =
      let arm : (head_step s.head).arms ≡ true = ap arms_of (sym (r.stands b s is)) ∙ e in
      let h = arms_head s.head arm in
      subst Means (sym same) (whole h.0 h.1, (s, is))
  holder_means b s is whole inner false e j same = subst Means (sym same) (inner, (s, is))

  outward_means : (n : Node) → ((p : ℕ) → InShadow S p n → IsLed (Decider p)) → IsPoint S n → (j : Met) → Outward t n j → Means j
  outward_means (node.At q) all point j (b, (holds, same)) =
      let is_around = holds r.nest in
      let h = r.held q.0 b point.0 point.1 is_around in
      holder_means b.0 h.0 h.1.0
      (λ kind e. all b.0 (arms kind h.0 h.1.0 e (at_position point.0 point.1 (omega (arith, h.1.1.0)) h.1.1.1)))
      (λ p shadow. all p (r.inward p q.0 b point.0 point.1 is_around shadow))
      (arms_of (slice_get t.steps.now b.0)) refl j same
  outward_means (node.Join b) all point j same =
      holder_means b.0 point.0 point.1.0
      (λ kind e. all b.0 (if_join kind point.0 point.1.0 e))
      (λ p shadow. all p (r.inward_join p b.0 point.0 point.1.0 point.1.1 shadow))
      (arms_of (slice_get t.steps.now b.0)) refl j same
  outward_means node.Exit all point j h = absurd h

  decider_means : (n : Node) → ((p : ℕ) → InShadow S p n → IsLed (Decider p)) → (p : Pos) → InShadow S p.0 n → (j : Met) → j ≡ item.Decider (At p.0) → Means j
  decider_means n all p shadow j same = subst Means (sym same) (all p.0 shadow, shadow_site S p.0 n shadow)

  -- ---- locations

  writes_there : (p : ℕ) (x : Loc) → Writes written x (At p) → written p x
  writes_there p x (writes_it w) = w

  -- what a live position writes, by its instruction
  plain_writes : (p : ℕ) (s : Site) → IsSite S p s → whom_of (slice_get t.steps.now p) ≡ None → (x : Loc)
      → (WrittenAt t p x → WritesIn t.locs.now p x) × (WritesIn t.locs.now p x → WrittenAt t p x)
  plain_writes p s is e x =
      (λ h. subst (λ w. WritesAs t p w x) e h, λ h. subst (λ w. WritesAs t p w x) (sym e) h)

  -- of a position at which nothing is called
  table_writes : (p : ℕ) (s : Site) → IsSite S p s → whom_of (slice_get t.steps.now p) ≡ None
      → ((x : Loc) → HeadWrites cs no_calls s.head x ↔ (writes_at B s.head x ≡ true))
      → (x : Loc) → WrittenAt t p x ↔ (writes_at B s.head x ≡ true)
  table_writes p s is e same x =
      let both = plain_writes p s is e x in (
        λ h. let d = (r.plain.writes p x).0 (both.0 h) in
            (same x).0 (subst (λ (z : Site). HeadWrites cs no_calls z.head x) (one_site S p d.site s d.is is) d.writes),
        λ h. both.1 ((r.plain.writes p x).1 (record { site = s; is = is; writes = (same x).1 h })),
      )

  form_whom : (p : ℕ) (s : Site) (op : Instr) (f : Form) → IsSite S p s → s.head ≡ DoHead op → form_of op ≡ f
      → whom_of (slice_get t.steps.now p) ≡ (form_step f).whom
  form_whom p s op f is e fe = ap whom_of (step_is p s op f is e fe)

  call_writes : (p : ℕ) (s : Site) (op : Instr) (g : Callee) (w : Whom) → s.head ≡ DoHead op → called B op ≡ Some g → CallRight B R t.called g w
      → whom_of (slice_get t.steps.now p) ≡ Some w → (x : Loc) → WrittenAt t p x ↔ (writes_at B s.head x ≡ true)
  call_writes p s op g w e c cr known x =
      let head : writes_at B s.head x ≡ B.cover.writes g x = ap (λ h. writes_at B h x) e ∙ writes_is B.cover (task_of cs op) g x c in (
        λ h. head ∙ (cr.writes x).0 (subst (λ z. WritesAs t p z x) known h),
        λ h. subst (λ z. WritesAs t p z x) (sym known) ((cr.writes x).1 (sym head ∙ h)),
      )

  kind_writes : (p : ℕ) (s : Site) (op : Instr) → IsSite S p s → s.head ≡ DoHead op → Kind B.m op → (x : Loc)
      → WrittenAt t p x ↔ (writes_at B s.head x ≡ true)
  kind_writes p s op is e (plain a fe) x =
      table_writes p s is (form_whom p s op (Plain a) is e fe) (λ y. subst (λ h. HeadWrites cs no_calls h y ↔ (writes_at B h y ≡ true)) (sym e)
      (subst (λ T'. TaskWrites no_calls T' y ↔ (writes_of B.cover T' y ≡ true)) (sym (plain_task B.m op a fe)) ((λ h. h), (λ h. h)))) x
  kind_writes p s op is e (own f F fe ty) x =
      let c = calls_own op f F fe ty in
      call_writes p s op (Own f) (whom.Own f) e c (r.calls p s op (Own f) (whom.Own f) is e c refl) (form_whom p s op (CallOf f) is e fe) x
  kind_writes p s op is e (through k F fe ty) x =
      let c = calls_table op k F fe ty in
      call_writes p s op (Through k (length F.params)) (whom.Through k) e c (r.calls p s op (Through k (length F.params)) (whom.Through k) is e c refl)
      (form_whom p s op (CallBy k) is e fe) x

  idle_writes : (p : ℕ) (s : Site) → IsSite S p s → (head_step s.head).whom ≡ None → ((x : Loc) → HeadWrites cs no_calls s.head x → ⊥)
      → ((x : Loc) → writes_at B s.head x ≡ true → ⊥) → (x : Loc) → WrittenAt t p x ↔ (writes_at B s.head x ≡ true)
  idle_writes p s is e none none' x =
      table_writes p s is (ap whom_of (r.stands p s is) ∙ e) (λ y. (λ h. absurd (none y h), λ h. absurd (none' y h))) x

  by_head : (h : Head) (p : ℕ) (s : Site) → IsSite S p s → s.head ≡ h → (head_step h).whom ≡ None → ((x : Loc) → HeadWrites cs no_calls h x → ⊥)
      → ((x : Loc) → writes_at B h x ≡ true → ⊥) → (x : Loc) → WrittenAt t p x ↔ (writes_at B s.head x ≡ true)
  by_head h p s is e whom_is none none' x =
      idle_writes p s is (ap (λ z. (head_step z).whom) e ∙ whom_is) (λ y w. none y (subst (λ z. HeadWrites cs no_calls z y) e w))
      (λ y w. none' y (ap (λ z. writes_at B z y) (sym e) ∙ w)) x

  head_writes : (p : ℕ) (s : Site) → IsSite S p s → (h : Head) → s.head ≡ h → (x : Loc) → WrittenAt t p x ↔ (writes_at B s.head x ≡ true)
  head_writes p s is (DoHead op) e x = kind_writes p s op is e (kind_of B.m op (r.tasks p s op is e)) x
  head_writes p s is (BlockHead k) e x = by_head (BlockHead k) p s is e refl (λ y h. h) (λ y h. absurd cc) x
  head_writes p s is (LoopHead k) e x = by_head (LoopHead k) p s is e refl (λ y h. h) (λ y h. absurd cc) x
  head_writes p s is (IfHead k) e x = by_head (IfHead k) p s is e refl (λ y h. h) (λ y h. absurd cc) x
  head_writes p s is (BrHead l) e x = by_head (BrHead l) p s is e refl (λ y h. h) (λ y h. absurd cc) x
  head_writes p s is (BrIfHead l) e x = by_head (BrIfHead l) p s is e refl (λ y h. h) (λ y h. absurd cc) x
  head_writes p s is (BrTableHead ls l) e x = by_head (BrTableHead ls l) p s is e refl (λ y h. h) (λ y h. absurd cc) x
  head_writes p s is (ReturnHead l) e x = by_head (ReturnHead l) p s is e refl (λ y h. h) (λ y h. absurd cc) x
  head_writes p s is UnreachableHead e x = by_head UnreachableHead p s is e refl (λ y h. h) (λ y h. absurd cc) x

  -- what is written at a point
  to_written : (b : Node) → IsPoint S b → (x : Loc) → Writes (WrittenAt t) x b → Writes written x b
  to_written _ point x (writes_it {p} w) = writes_it (point.0, point.1, (head_writes p point.0 point.1 point.0.head refl x).0 w)

  from_written : (b : Node) → (x : Loc) → Writes written x b → Writes (WrittenAt t) x b
  from_written _ x (writes_it {p} w) = writes_it ((head_writes p w.0 w.1 w.0.head refl x).1 w.2)

  passed_means : (x : Loc) (a b : Node) → Needed B R S ends o a x → Leads S b a → (j : Met) → Passes t x b j → Means j
  passed_means x a b n l j (inl (w, same)) = subst Means (sym same) (wrote b (to_written b (r.leads b a l).0 x w) l, (r.leads b a l).0)
    where
      wrote : (d : Node) → Writes written x d → Leads S d a → IsLed (Makes d (Final x))
      wrote _ (writes_it {p} w) m = writer n.at n.led (writes_it w) (leads_path written S x (At p) a n.at m n.enters)
  passed_means x a b n l j (inr (free, same)) =
      subst Means (sym same) (record { at = n.at; enters = enter a l (λ w. free (from_written b x w)) n.enters; led = n.led })

  from_decider : (n : Node) → MeansDecider n → (j : Met) → Condition t n j ⊎ (j ≡ item.Decided n) → Means j
  from_decider (node.At p) (led, point) j (inl h) = condition_means p.0 point.0 led point.1 j h
  from_decider (node.At p) (led, point) j (inr same) = subst Means (sym same) ((λ q shadow. deciding_again p.0 led shadow), point)
  from_decider (node.Join b) m j h = absurd m
  from_decider node.Exit m j h = absurd m

  next_means : (i : Met) → Means i → (j : Met) → Next t i j → Means j
  next_means (item.Value n) (led, point) j (inl h) = makes_means Ret n led point j h
  next_means (item.Value n) (led, point) j (inr (x, (has, same))) =
      subst Means (sym same) (joined_means n x led ((r.joined n x).0 has), r.joined_points n x has)
  next_means (item.Completion n) (led, point) j h = makes_means Done n led point j h
  next_means (item.Written x n) (led, point) j h = makes_means (Final x) n led point j h
  next_means (item.Decider n) m j h = from_decider n m j h
  next_means (item.Decided n) (all, point) j (inl (p, (near, same))) = decider_means n all p (r.earlier n p near) j same
  next_means (item.Decided n) (all, point) j (inr (inl (p, (near, same)))) = decider_means n all p (r.latest n p near) j same
  next_means (item.Decided n) (all, point) j (inr (inr h)) = outward_means n all point j h
  next_means (item.Needed x a) m j (point, (b, (has, on))) = passed_means x a b m ((r.before b a).0 has) j on

  -- ---- where the search begins

  stop_means : o ≡ Done → (p : ℕ) (s : Site) → IsSite S p s → (h : Head) → s.head ≡ h → (head_step h).stops ≡ true → IsLed (Makes (At p) Done)
  stop_means e p s is (DoHead op) at on =
      done_trap op s e is at (sym (form_stops B.m B.cover op (kind_of B.m op (r.tasks p s op is at))) ∙ on)
  stop_means e p s is UnreachableHead at on = done_unreachable s e is at
  stop_means e p s is (BlockHead k) at on = absurd cc
  stop_means e p s is (LoopHead k) at on = absurd cc
  stop_means e p s is (IfHead k) at on = absurd cc
  stop_means e p s is (BrHead l) at on = absurd cc
  stop_means e p s is (BrIfHead l) at on = absurd cc
  stop_means e p s is (BrTableHead ls l) at on = absurd cc
  stop_means e p s is (ReturnHead l) at on = absurd cc

  stops_means : o ≡ Done → (n : Node) → IsPoint S n → (j : Met) → Stop t n j → Means j
  stops_means e (node.At p) point j (inl (on, same)) =
      subst Means (sym same) (stop_means e p.0 point.0 point.1 point.0.head refl (ap stops_of (sym (r.stands p.0 point.0 point.1)) ∙ on), point)
  stops_means e (node.At p) point j (inr ((q, (has, le)), same)) =
      let b = r.back p.0 q.0 ((r.nexts (At p.0) (At q.0)).0 has) le in
      subst Means (sym same) (done_branch b.0 b.1.0 e b.1.1.0 b.1.1.1.0 b.1.1.1.1, point)
  stops_means e (node.Join b) point j h = absurd h
  stops_means e node.Exit point j h = absurd h

  module _ (label : ℕ) (row : row_number t.numbering.globals o ≡ Some label) where
    first_means : (j : Met) → First t label j → Means j
    first_means j (inl (is, same)) =
        let e : o ≡ Ret = row_once t.numbering.globals o Ret label row (ap Some (sym is)) in
        subst Means (sym same) (result e, tt)
    first_means j (inr (inl (i, (lt, (is, (x, (ok, (at, same)))))))) =
        let e : o ≡ Final x = row_once t.numbering.globals o (Final x) label row
        (final_row t.numbering.globals x i (outer_loc t.numbering.globals t.numbering.locals i x ok at lt) at ∙ ap Some (sym is)) in
        subst Means (sym same) (record { at = Exit; enters = stands; led = final e })
    first_means j (inr (inr (is, (n, (has, h))))) =
        let e : o ≡ Done = row_once t.numbering.globals o Done label row (ap Some (sym is)) in
        stops_means e n ((r.points n).0 has) j h

    pub met_means : (i : Met) → Reached (First t label) (Next t) i → Means i
    met_means i (root h) = first_means i h
    met_means i (step w h e) = next_means w (met_means w h) i e

    -- ---- what is led to is met

    abbrev IsMet : Met → Type 0
    IsMet i = Reached (First t label) (Next t) i

    abbrev MakesMet : Node → Output → Type 0
    MakesMet n Ret = IsMet (item.Value n)
    MakesMet n Done = IsMet (item.Completion n)
    MakesMet n (Final x) = IsMet (item.Written x n)

    abbrev LedMet : Item → Type 0
    LedMet (Makes n out) = MakesMet n out
    LedMet (Locates a x) = IsMet (item.Needed x a)
    LedMet (Decider p) = IsMet (item.Decider (At p))

    -- on from what a node makes
    made_on : (n : Node) (out : Output) → MakesMet n out → (j : Met) → MakesNext t out n j → IsMet j
    made_on n Ret met j h = step (item.Value n) met (inl h)
    made_on n Done met j h = step (item.Completion n) met h
    made_on n (Final x) met j h = step (item.Written x n) met h

    at_on : (p : ℕ) (out : Output) → MakesMet (At p) out → (st : Option Step) → slice_get t.steps.now p ≡ st → (j : Met) → ByStep t p out st (whom_of st) j
        → IsMet j
    at_on p out met st is j h = made_on (At p) out met j (inl (subst (λ z. ByStep t p out z (whom_of z) j) (sym is) h))

    holder_on : (b : ℕ) (a : Bool) → IsMet (holder_item a (At b)) → IsMet (item.Decided (At b))
    holder_on b true met = step (item.Decider (At b)) met (inr refl)
    holder_on b false met = met

    onward_met : (k n : Node) → Onward (code_of t.body.now.code) (nearest_in t.deciders.now) k n → IsMet (item.Decided k) → IsMet (item.Decided n)
    onward_met k _ (by_earlier p e) met = step (item.Decider (At p.0)) (step (item.Decided k) met (inl (p, (e, refl)))) (inr refl)
    onward_met k _ (by_latest p e) met = step (item.Decider (At p.0)) (step (item.Decided k) met (inr (inl (p, (e, refl))))) (inr refl)
    onward_met _ _ (by_around {q} b is) met =
        holder_on b.0 (arms_of (slice_get t.steps.now b.0)) (step (item.Decided (At q)) met (inr (inr (b, (λ nested. is, refl)))))
    onward_met _ _ (by_join {b}) met = holder_on b (arms_of (slice_get t.steps.now b)) (step (item.Decided (Join b)) met (inr (inr refl)))

    finds_met : (n k : Node) → Finds (code_of t.body.now.code) (nearest_in t.deciders.now) n k → IsMet (item.Decided n) → IsMet (item.Decided k)
    finds_met n _ itself met = met
    finds_met n k (onward m f s) met = onward_met m k s (finds_met n m f met)

    if_arms : (p : ℕ) → IsIf S p → arms_of (slice_get t.steps.now p) ≡ true
    if_arms p (kind, (s, (is, e))) = ap arms_of (r.stands p s is) ∙ ap (λ h. (head_step h).arms) e

    if_on : (p : ℕ) → IsIf S p → IsMet (holder_item (arms_of (slice_get t.steps.now p)) (At p)) → IsMet (item.Decider (At p))
    if_on p arm met = subst (λ a. IsMet (holder_item a (At p))) (if_arms p arm) met

    last_met : (k m : Node) (p : ℕ) → Onward (code_of t.body.now.code) (nearest_in t.deciders.now) k m → m ≡ At p → IsIf S p → IsMet (item.Decided k)
        → IsMet (item.Decider (At p))
    last_met k _ p (by_earlier q e) same arm met = subst (λ n. IsMet (item.Decider n)) same (step (item.Decided k) met (inl (q, (e, refl))))
    last_met k _ p (by_latest q e) same arm met = subst (λ n. IsMet (item.Decider n)) same (step (item.Decided k) met (inr (inl (q, (e, refl)))))
    last_met _ _ p (by_around {q} b is) same arm met =
        if_on p arm (subst (λ z. IsMet (holder_item (arms_of (slice_get t.steps.now z)) (At z))) (at_once b.0 p same)
        (step (item.Decided (At q)) met (inr (inr (b, (λ nested. is, refl))))))
    last_met _ _ p (by_join {b}) same arm met =
        if_on p arm (subst (λ z. IsMet (holder_item (arms_of (slice_get t.steps.now z)) (At z))) (at_once b p same)
        (step (item.Decided (Join b)) met (inr (inr refl))))

    decided_met : (p : ℕ) (n : Node) → InShadow S p n → IsMet (item.Decided n) → IsMet (item.Decider (At p))
    decided_met p n shadow met =
        let f = r.found p n shadow in
        let k = finds_met n f.last f.finds met in
        ⊎_elim
        (λ near. ⊎_elim
        (λ e. step (item.Decided f.last) k (inl (record { 0 = p }, (e, refl))))
        (λ e. step (item.Decided f.last) k (inr (inl (record { 0 = p }, (e, refl)))))
        near)
        (λ (on, arm). last_met f.last (At p) p on refl arm k)
        f.step

    path_met : (x : Loc) (a q : Node) → Path written S x a q → IsMet (item.Needed x q) → (b : Node) × (Leads S a b × IsMet (item.Needed x b))
    path_met x a q (edge l) met = (q, (l, met))
    path_met x a q (along b l free p) met =
        let on = path_met x b q p met in (
          b,
          (
            l,
            step (item.Needed x on.0) on.1.1 (
              (r.points on.0).1 (r.leads b on.0 on.1.0).1,
              (b, ((r.before b on.0).1 on.1.0, inr (λ w. free (to_written b (r.leads b on.0 on.1.0).0 x w), refl))),
            ),
          ),
        )

    -- from a location that is needed, back to what writes it, or to where it isn't written before
    entered_met : (x : Loc) (a q : Node) → Enters written S x a q → IsMet (item.Needed x q) → IsMet (item.Needed x a)
    entered_met x a _ stands met = met
    entered_met x a q (enter b l free e) met =
        let on = entered_met x b q e met in
        step (item.Needed x b) on
        ((r.points b).1 (r.leads a b l).1, (a, ((r.before a b).1 l, inr (λ w. free (to_written a (r.leads a b l).0 x w), refl))))

    -- an operand that is picked
    picked_met : (p : ℕ) (s : Site) (c k : ℕ) (n : Node) (picks : Picks) → IsSite S p s → operands_at t p ≡ placed T (take c s.names) → IsPicked picks k
        → slice_get (take c s.names) k ≡ Some n → FromBelow (length (operands_at t p)) (PickedAt (operands_at t p) picks) (item.Value n)
    picked_met p s c k n picks is same on e =
        let got : slice_get (reverse (operands_at t p)) k ≡ Some (place_of T n) =
        ap (λ (ps : List Place). slice_get (reverse ps) k) same ∙ maker_top T (take c s.names) k n e in
        let lt = slice_get_within (reverse (operands_at t p)) k (place_of T n) got in
        (k, (omega (arith, length-reverse (operands_at t p)), (on, (place_of T n, (got, refl)))))

    need_picked : (out : Output) (op : Instr) (a : Action) (k : ℕ) → form_of op ≡ Plain a → needs_operand B op out k
        → IsPicked (picks_for out (Some (form_step (Plain a)))) k
    need_picked Ret op a k fe h = tt
    need_picked (Final x) op a k fe h = tt
    need_picked Done op a k fe h = traps_picked a k (subst (λ z. traps_by_task z k) (plain_task B.m op a fe) h)

    -- an instruction that calls nothing
    none_some : (g : Callee) → None ≡ Some g → ⊥
    none_some g e = cc

    operand_met : (p k : ℕ) (out : Output) (s : Site) (op : Instr) (n : Node) → MakesMet (At p) out → IsSite S p s → s.head ≡ DoHead op → Kind B.m op
        → called B op ≡ None → needs_operand B op out k → slice_get (take (takes cs op) s.names) k ≡ Some n → IsMet (item.Value n)
    operand_met p k out s op n met is e (plain a fe) c need name =
        at_on p out met (Some (form_step (Plain a))) (step_is p s op (Plain a) is e fe) (item.Value n)
        (inl (picked_met p s (takes cs op) k n (picks_for out (Some (form_step (Plain a)))) is (do_operands p s op is e) (need_picked out op a k fe need) name))
    operand_met p k out s op n met is e (own f F fe ty) c need name = absurd (none_some (Own f) (sym c ∙ calls_own op f F fe ty))
    operand_met p k out s op n met is e (through i F fe ty) c need name =
        absurd (none_some (Through i (length F.params)) (sym c ∙ calls_table op i F fe ty))

    -- a location that is read, or by which an instruction traps
    use_on : (p : ℕ) (s : Site) (out : Output) (x : Loc) → MakesMet (At p) out → IsSite S p s → whom_of (slice_get t.steps.now p) ≡ None
        → (us : List LocUse) → HasRow t.locs.now p us → (u : LocUse) → Contains us u → u.loc ≡ x → uses_for out u ≡ true → IsMet (item.Needed x (At p))
    use_on p s out x met is none us row u there same on =
        let has : Contains (row_in (slice_get t.locs.now p)) u = subst (λ q. Contains (row_in q) u) (sym row) there in
        let next : ByStep t p out (slice_get t.steps.now p) None (item.Needed x (At p)) = inr (u, (has, (on, ap (λ z. item.Needed z (At p)) (sym same)))) in
        made_on (At p) out met (item.Needed x (At p)) (inl (subst (λ w. ByStep t p out (slice_get t.steps.now p) w (item.Needed x (At p))) (sym none) next))

    read_on : (p : ℕ) (s : Site) (op : Instr) (out : Output) (x : Loc) → MakesMet (At p) out → IsSite S p s → s.head ≡ DoHead op
        → whom_of (slice_get t.steps.now p) ≡ None → ((u : LocUse) → u.reads ≡ true → uses_for out u ≡ true) → TaskReads (task_of cs op) x
        → IsMet (item.Needed x (At p))
    read_on p s op out x met is e none way h =
        let f = (r.plain.reads p x).1 (s, (is, subst (λ z. HeadReads cs z x) (sym e) h)) in
        use_on p s out x met is none f.0 f.1.0 f.1.1.found f.1.1.there f.1.1.same (way f.1.1.found f.1.1.so)

    check_on : (p : ℕ) (s : Site) (op : Instr) (x : Loc) → IsMet (item.Completion (At p)) → IsSite S p s → s.head ≡ DoHead op
        → whom_of (slice_get t.steps.now p) ≡ None → TaskChecks no_calls (task_of cs op) x → IsMet (item.Needed x (At p))
    check_on p s op x met is e none h =
        let f = (r.plain.checks p x).1 (s, (is, subst (λ z. HeadChecks cs no_calls z x) (sym e) h)) in
        use_on p s Done x met is none f.0 f.1.0 f.1.1.found f.1.1.there f.1.1.same f.1.1.so

    plain_reading : (p : ℕ) (s : Site) (op : Instr) (a : Action) (out : Output) (x : Loc) → MakesMet (At p) out → IsSite S p s → s.head ≡ DoHead op
        → form_of op ≡ Plain a → needs_place B op out x → IsMet (item.Needed x (At p))
    plain_reading p s op a Ret x met is e fe h =
        read_on p s op Ret x met is e (form_whom p s op (Plain a) is e fe) (λ u on. on)
        (subst (λ z. TaskReads z x) (sym (plain_task B.m op a fe)) (subst (λ z. reads_of z x ≡ true) (plain_task B.m op a fe) h))
    plain_reading p s op a (Final y) x met is e fe h =
        read_on p s op (Final y) x met is e (form_whom p s op (Plain a) is e fe) (λ u on. on)
        (subst (λ z. TaskReads z x) (sym (plain_task B.m op a fe)) (subst (λ z. reads_of z x ≡ true) (plain_task B.m op a fe) h))
    plain_reading p s op a Done x met is e fe h =
        check_on p s op x met is e (form_whom p s op (Plain a) is e fe)
        (subst (λ z. TaskChecks no_calls z x) (sym (plain_task B.m op a fe)) (subst (λ z. checks_of B.cover z x ≡ true) (plain_task B.m op a fe) h))

    -- calls
    call_on : (p : ℕ) (s : Site) (op : Instr) (f : Form) (w : Whom) (out : Output) → MakesMet (At p) out → IsSite S p s → s.head ≡ DoHead op → form_of op ≡ f
        → (form_step f).whom ≡ Some w → (j : Met)
        → FromBelow (length (operands_at t p)) (ArgumentAt t (operands_at t p) out w) j ⊎ FromBelow (t.numbering.globals + 3) (PlaceAt t p out w) j → IsMet j
    call_on p s op f w out met is e fe whom_is j h =
        let next : ByStep t p out (slice_get t.steps.now p) (Some w) j = h in
        made_on (At p) out met j (inl (subst (λ z. ByStep t p out (slice_get t.steps.now p) z j) (sym (form_whom p s op f is e fe ∙ whom_is)) next))

    -- a location that a call needs
    place_next : (p : ℕ) (w : Whom) (out : Output) (x : Loc) → IsLoc t.numbering.globals t.numbering.locals x → is_outer x ≡ true
        → RowIn t.called w out x ⊎ ChecksBy t.called w out x → FromBelow (t.numbering.globals + 3) (PlaceAt t p out w) (item.Needed x (At p))
    place_next p w out x ok on h =
        (loc_number t.numbering.globals x, (below_outer t.numbering.globals t.numbering.locals x ok on, (x, (ok, (refl, (h, refl))))))

    -- a location of the module has a number
    known_loc : (x : Loc) → IsLoc (globals_in t.called) 0 x → IsLoc t.numbering.globals t.numbering.locals x
    known_loc x ok = more_locals t.numbering.globals t.numbering.locals x (subst (λ n. IsLoc n 0 x) (sym r.globals) ok)

    outer_index : (g : Callee) (x : Loc) → IsIndexOf g x → is_outer x ≡ true → ⊥
    outer_index (Own f) x h on = h
    outer_index (Through k n) (Local i) h on = cc
    outer_index (Through k n) (Loc.Global i) h on = h
    outer_index (Through k n) Loc.Mem h on = h
    outer_index (Through k n) Loc.Size h on = h
    outer_index (Through k n) Loc.Host h on = h

    call_reading : (p : ℕ) (s : Site) (op : Instr) (f : Form) (g : Callee) (w : Whom) (out : Output) (x : Loc) → MakesMet (At p) out → IsSite S p s
        → s.head ≡ DoHead op → form_of op ≡ f → (form_step f).whom ≡ Some w → called B op ≡ Some g → CallRight B R t.called g w → needs_place B op out x
        → IsMet (item.Needed x (At p))
    call_reading p s op f g w Ret x met is e fe whom_is c cr h = let off = reads_none (task_of cs op) g x c in absurd cc
    call_reading p s op f g w (Final y) x met is e fe whom_is c cr h = let off = reads_none (task_of cs op) g x c in absurd cc
    call_reading p s op f g w Done x met is e fe whom_is c cr h =
        let touched = sym (touch_is B.cover (task_of cs op) g x c) ∙ h in
        let known = cr.touched x touched in
        call_on p s op f w Done met is e fe whom_is (item.Needed x (At p)) (inr (place_next p w Done x (known_loc x known.1) known.0 (inr ((cr.checks Done x).1 (refl, touched)))))

    reading_met : (p : ℕ) (s : Site) (op : Instr) (out : Output) (x : Loc) → MakesMet (At p) out → IsSite S p s → s.head ≡ DoHead op → Kind B.m op
        → needs_place B op out x → IsMet (item.Needed x (At p))
    reading_met p s op out x met is e (plain a fe) h = plain_reading p s op a out x met is e fe h
    reading_met p s op out x met is e (own f F fe ty) h =
        let c = calls_own op f F fe ty in
        call_reading p s op (CallOf f) (Own f) (whom.Own f) out x met is e fe refl c (r.calls p s op (Own f) (whom.Own f) is e c refl) h
    reading_met p s op out x met is e (through k F fe ty) h =
        let c = calls_table op k F fe ty in
        call_reading p s op (CallBy k) (Through k (length F.params)) (whom.Through k) out x met is e fe refl c
        (r.calls p s op (Through k (length F.params)) (whom.Through k) is e c refl) h

    call_place : (p : ℕ) (s : Site) (op : Instr) (f : Form) (g : Callee) (w : Whom) (out : Output) (x : Loc) → MakesMet (At p) out → IsSite S p s
        → s.head ≡ DoHead op → form_of op ≡ f → (form_step f).whom ≡ Some w → CallRight B R t.called g w → R g out x → is_outer x ≡ true → IsMet (item.Needed x (At p))
    call_place p s op f g w out x met is e fe whom_is cr row on = ⊎_elim
        (λ h. call_on p s op f w out met is e fe whom_is (item.Needed x (At p)) (inr (place_next p w out x (known_loc x (cr.known out x h on)) on (inl h))))
        (λ i. absurd (outer_index g x i on))
        ((cr.rows out x).0 row)

    place_met : (p : ℕ) (s : Site) (op : Instr) (g : Callee) (out : Output) (x : Loc) → MakesMet (At p) out → IsSite S p s → s.head ≡ DoHead op → Kind B.m op
        → called B op ≡ Some g → R g out x → is_outer x ≡ true → IsMet (item.Needed x (At p))
    place_met p s op g out x met is e (plain a fe) c row on = absurd (none_some g (sym (no_call op a fe) ∙ c))
    place_met p s op g out x met is e (own f F fe ty) c row on =
        let c' = calls_own op f F fe ty in
        call_place p s op (CallOf f) (Own f) (whom.Own f) out x met is e fe refl (r.calls p s op (Own f) (whom.Own f) is e c' refl)
        (subst (λ z. R z out x) (same_callee g (Own f) (sym c ∙ c')) row) on
    place_met p s op g out x met is e (through k F fe ty) c row on =
        let c' = calls_table op k F fe ty in
        let g' = Through k (length F.params) in
        call_place p s op (CallBy k) g' (whom.Through k) out x met is e fe refl (r.calls p s op g' (whom.Through k) is e c' refl)
        (subst (λ z. R z out x) (same_callee g g' (sym c ∙ c')) row) on

    call_argument : (p k : ℕ) (s : Site) (op : Instr) (f : Form) (g : Callee) (w : Whom) (out : Output) (n : Node) → MakesMet (At p) out → IsSite S p s
        → s.head ≡ DoHead op → form_of op ≡ f → (form_step f).whom ≡ Some w → CallRight B R t.called g w
        → (IsIndexOf g (Local k) → k < length (operands_at t p) → IsLast w (length (operands_at t p)) k) → R g out (Local k)
        → slice_get (reverse (take (takes cs op) s.names)) k ≡ Some n → IsMet (item.Value n)
    call_argument p k s op f g w out n met is e fe whom_is cr last row name =
        let got : slice_get (operands_at t p) k ≡ Some (place_of T n) =
        ap (λ (ps : List Place). slice_get ps k) (do_operands p s op is e) ∙ maker_deep T (take (takes cs op) s.names) k n name in
        let lt = slice_get_within (operands_at t p) k (place_of T n) got in
        let needed : TakesIn t.called w out (length (operands_at t p)) k =
        ⊎_elim (λ h. inl (cr.few out k h, h)) (λ i. inr (last i lt)) ((cr.rows out (Local k)).0 row) in
        call_on p s op f w out met is e fe whom_is (item.Value n) (inl (k, (lt, (needed, (place_of T n, (got, refl))))))

    -- the index is the last operand
    index_last : (p : ℕ) (s : Site) (op : Instr) (m k : ℕ) → IsSite S p s → s.head ≡ DoHead op → takes cs op ≡ suc m → k ≡ m
        → k + 1 ≡ length (operands_at t p)
    index_last p s op m k is e many same =
        let long : length (operands_at t p) ≡ takes cs op = ap length (do_operands p s op is e) ∙ (placed_long T (take (takes cs op) s.names)
        ∙ front_long (takes cs op) s.names (r.tall p s op is e)) in
        omega arith

    argument_met : (p k : ℕ) (s : Site) (op : Instr) (g : Callee) (out : Output) (n : Node) → MakesMet (At p) out → IsSite S p s → s.head ≡ DoHead op
        → Kind B.m op → called B op ≡ Some g → R g out (Local k) → slice_get (reverse (take (takes cs op) s.names)) k ≡ Some n → IsMet (item.Value n)
    argument_met p k s op g out n met is e (plain a fe) c row name = absurd (none_some g (sym (no_call op a fe) ∙ c))
    argument_met p k s op g out n met is e (own f F fe ty) c row name =
        let c' = calls_own op f F fe ty in
        call_argument p k s op (CallOf f) (Own f) (whom.Own f) out n met is e fe refl (r.calls p s op (Own f) (whom.Own f) is e c' refl) (λ i lt. i)
        (subst (λ z. R z out (Local k)) (same_callee g (Own f) (sym c ∙ c')) row) name
    argument_met p k s op g out n met is e (through i F fe ty) c row name =
        let c' = calls_table op i F fe ty in
        let g' = Through i (length F.params) in
        let many : takes cs op ≡ suc (length F.params) = ap takes_of (table_asks B.m op i (Some F) fe ty) in
        call_argument p k s op (CallBy i) g' (whom.Through i) out n met is e fe refl (r.calls p s op g' (whom.Through i) is e c' refl)
        (λ h lt. index_last p s op (length F.params) k is e many h)
        (subst (λ z. R z out (Local k)) (same_callee g g' (sym c ∙ c')) row) name

    -- what decides
    picks_condition : (h : Head) (ctx : List Label) (names : List Node) (k : ℕ) (n : Node) → slice_get (take (operand_count cs h) names) k ≡ Some n
        → IsPicked (head_step h).decides k × (slice_get (take (all_operands cs ctx h) names) k ≡ Some n)
    picks_condition (DoHead op) ctx names k n e = (decides_all (form_of op) k, e)
    picks_condition (BlockHead kind) ctx names k n e = let lt = (front_get 0 names k n e).0 in absurd (omega arith)
    picks_condition (LoopHead kind) ctx names k n e = let lt = (front_get 0 names k n e).0 in absurd (omega arith)
    picks_condition (IfHead kind) ctx names k n e = let lt = (front_get 1 names k n e).0 in (omega arith, e)
    picks_condition (BrHead l) ctx names k n e = let lt = (front_get 0 names k n e).0 in absurd (omega arith)
    picks_condition (BrIfHead l) ctx names k n e =
        let f = front_get 1 names k n e in let lt = f.0 in (omega arith, get_front (suc (carried (arities ctx) l)) names k n (omega arith) f.1)
    picks_condition (BrTableHead ls l) ctx names k n e =
        let f = front_get 1 names k n e in let lt = f.0 in (omega arith, get_front (suc (carried (arities ctx) l)) names k n (omega arith) f.1)
    picks_condition (ReturnHead l) ctx names k n e = let lt = (front_get 0 names k n e).0 in absurd (omega arith)
    picks_condition UnreachableHead ctx names k n e = let lt = (front_get 0 names k n e).0 in absurd (omega arith)

    condition_met : (p k : ℕ) (s : Site) (n : Node) → IsMet (item.Decider (At p)) → IsSite S p s → slice_get (take (operand_count cs s.head) s.names) k ≡ Some n
        → IsMet (item.Value n)
    condition_met p k s n met is e =
        let h = picks_condition s.head s.around s.names k n e in
        let on : IsPicked (decides_of (slice_get t.steps.now p)) k = subst (λ st. IsPicked (decides_of st) k) (sym (r.stands p s is)) h.0 in
        step (item.Decider (At p)) met
        (inl (picked_met p s (all_operands cs s.around s.head) k n (decides_of (slice_get t.steps.now p)) is (operands_of p s is) on h.1))

    comes_met : (j n : Node) → IsMet (item.Value j) → Comes S ends j n → IsMet (item.Value n)
    comes_met j n met c = step (item.Value j) met (inr (n, ((r.joined j n).1 c, refl)))

    stop_met : (p : ℕ) (s : Site) → o ≡ Done → IsSite S p s → (head_step s.head).stops ≡ true → IsMet (item.Completion (At p))
    stop_met p s e is on =
        let zero_is : label ≡ 0 = same_Some label 0 (sym row ∙ ap (row_number t.numbering.globals) e) in
        root (inr (inr (zero_is, (At p, ((r.points (At p)).1 (s, is), inl (ap stops_of (r.stands p s is) ∙ on, refl))))))

    pub led_met : (i : Item) → IsLed i → LedMet i
    led_met _ (result e) = root (inl (same_Some label 1 (sym row ∙ ap (row_number t.numbering.globals) e), refl))
    led_met _ (final {x} e) =
        let h = row_final t.numbering.globals x label (sym (ap (row_number t.numbering.globals) e) ∙ row) in
        let ok = loc_outer t.numbering.globals t.numbering.locals x h.0 in
        root (inr (inl (loc_number t.numbering.globals x, (ok.1, (h.1, (x, (ok.0, (refl, refl))))))))
    led_met _ (done_branch {p} l s e is br loop) =
        let zero_is : label ≡ 0 = same_Some label 0 (sym row ∙ ap (row_number t.numbering.globals) e) in
        let b = r.loops p l s is br loop in
        root (inr (inr (zero_is, (At p, ((r.points (At p)).1 (s, is), inr ((record { 0 = b.0 }, ((r.nexts (At p) (At b.0)).1 b.1.0, b.1.1)), refl))))))
    led_met _ (done_trap {p} op s e is at on) =
        stop_met p s e is (ap (λ h. (head_step h).stops) at ∙ (form_stops B.m B.cover op (kind_of B.m op (r.tasks p s op is at)) ∙ on))
    led_met _ (done_unreachable {p} s e is at) = stop_met p s e is (ap (λ h. (head_step h).stops) at)
    led_met _ (writer {x} {d} a led w path) =
        let on = path_met x (At d) a path (led_met (Locates a x) led) in
        step (item.Needed x on.0) on.1.1
        ((r.points on.0).1 (r.leads (At d) on.0 on.1.0).1, (At d, ((r.before (At d) on.0).1 on.1.0, inl (from_written (At d) x w, refl))))
    led_met _ (operand {n} p k out s op led is at c need name) =
        operand_met p k out s op n (led_met (Makes (At p) out) led) is at (kind_of B.m op (r.tasks p s op is at)) c need name
    led_met _ (reading {p} {x} out s op led is at need) =
        reading_met p s op out x (led_met (Makes (At p) out) led) is at (kind_of B.m op (r.tasks p s op is at)) need
    led_met _ (argument {n} p k g out s op led is at c rowed name) =
        argument_met p k s op g out n (led_met (Makes (At p) out) led) is at (kind_of B.m op (r.tasks p s op is at)) c rowed name
    led_met _ (place {p} {x} g out s op led is at c rowed on) =
        place_met p s op g out x (led_met (Makes (At p) out) led) is at (kind_of B.m op (r.tasks p s op is at)) c rowed on
    led_met _ (carrying {n} p l k s led is br name) =
        let f = front_get (carried (arities s.around) l) (carry_names s.head s.names) k n name in
        comes_met (join_of s.around l) n (led_met (Makes (join_of s.around l) Ret) led)
        (inl (s, (site_among S p s is, record { label = l; branch = br; goal = refl; index = k; within = f.0; is = f.1 })))
    led_met _ (ending {n} e k led among name) =
        let f = front_get e.count e.names k n name in
        comes_met e.owner n (led_met (Makes e.owner Ret) led) (inr (e, (among, record { owner = refl; index = k; within = f.0; is = f.1 })))
    led_met _ (deciding {p} n out led shadow) =
        decided_met p n shadow (made_on n out (led_met (Makes n out) led) (item.Decided n) (inr refl))
    led_met _ (deciding_again {p} q led shadow) =
        decided_met p (At q) shadow (step (item.Decider (At q)) (led_met (Decider q) led) (inr refl))
    led_met _ (condition {n} p k s led is name) = condition_met p k s n (led_met (Decider p) led) is name

    -- a location is met at a point exactly where it is needed there
    pub needed_met : (a : Node) (x : Loc) → Needed B R S ends o a x ↔ IsMet (item.Needed x a)
    needed_met a x = (λ n. entered_met x a n.at n.enters (led_met (Locates n.at x) n.led), λ met. met_means (item.Needed x a) met)
