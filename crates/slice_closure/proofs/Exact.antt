-- What a search for a kept set meets is what is kept.
use Rattle.std.proofs.Common.{◌≡◌, ◌↔◌, ℕ, ◌+◌, ◌<◌, ◌≤◌, ◌||◌, List, Bool, true, false, Option, Some, None, reverse, take, length, refl, sym, ap, ◌∙◌, subst, inl, inr, ◌⊎◌, ⊎_elim, nat_eq, eqb-true, eq-eqb, arith}
use Rattle.std.specs.Prelude.{slice_get}
use Rattle.std.specs.List.{Contains}
use Rattle.std.proofs.lemmas.Option.{slice_get_within}
use Rattle.wasm_types.specs.declared.module.ValType.{ValType}
use Rattle.wasm_types.specs.declared.module.Pos.{Pos}
use Rattle.wasm_types.specs.declared.instr.Instr.{Instr}
use Rattle.wasm_types.specs.declared.place.Loc.{Loc}
use Rattle.wasm_types.specs.declared.place.Loc.TheVariants as loc
use Rattle.wasm_types.specs.declared.place.Node.{Node}
use Rattle.wasm_types.specs.declared.place.Node.TheVariants as node
use Rattle.wasm_types.specs.Code.{code_of}
use Rattle.wasm_types.specs.Actions.{Callees, callees, Callee, Own, Through, takes}
use Rattle.wasm_types.specs.Locations.{is_outer}
use Rattle.wasm_types.specs.Nodes.{At, Join}
use Rattle.wasm_types.specs.Labels.{join_of}
use Rattle.wasm_types.specs.Sites.{DoHead, Site, Sites, IsSite, EndAt, Leads, all_operands}
use Rattle.wasm_types.specs.Reaching.{Table, HeadReads, HeadChecks, HeadWrites, Writes, writes_it, Path, edge, along, Enters, stands, steps}
use Rattle.wasm_types.specs.Shadow.{InShadow, arms, if_join, later, around, looping}
use Rattle.block_cfg.specs.Points.{IsPoint}
use Rattle.stack_names.specs.declared.place.Place.{Place}
use Rattle.stack_names.specs.Named.{operands_in, of_node, place_of, placed, listed_all}
use Rattle.control_deps.specs.Nest.{IsAround, IsNestOf}
use Rattle.control_deps.specs.Nearest.{Finds, nearest_in}
use Rattle.worklist.specs.Reached.{Reached, root, step}
use Rattle.flow_domain.specs.declared.loc_table.LocUse.{LocUse}
use Rattle.flow_domain.specs.Bounds.{Bounds, reads, checks, called, writes_at, written_by}
use Rattle.flow_domain.specs.Kept.{called_at, KeptItem, criterion, criterion_operand, completes, whole, operand, using, argument, place, writer, deciding, carrying, ending, holding_at, holding_join, own_join}
use Rattle.flow_domain.specs.LocTables.{Rows, HasRow, HasUse, IsPlainTable}
use Rattle.flow_domain.specs.Rows.{Output, Ret, Final, Done, CallRows, Item, Makes, Place as Locates, Decider}
use Rattle.flow_domain.specs.Sliced.{no_calls}
use Rattle.called_rows.specs.declared.instrs.Whom.{Whom}
use Rattle.called_rows.specs.Called.{globals_in, TakesIn}
use Rattle.called_rows.specs.Locs.{loc_number as outer_number, IsLoc}
use Rattle.called_rows.specs.Right.{CallRight}
use Rattle.called_rows.specs.Whom.{IsLast, IsIndexOf}
use Rattle.slice_closure.specs.declared.tables.Tables.{Tables}
use Rattle.slice_closure.specs.declared.items.Item.{Item as Met}
use Rattle.slice_closure.specs.declared.items.Item.TheVariants.{Keeps, Value, Written, Needs}
use Rattle.slice_closure.specs.Takens.{taken_at, of_taken}
use Rattle.slice_closure.specs.Flow.{uses_in, written_by as written_in, touch_at, taken_is}
use Rattle.slice_closure.specs.Next.{spot_in, whom_in, value_by, value_item, written_by_item, written_item, operands_at}
use Rattle.slice_closure.specs.Next.{ByRow, ForOutput, taken_places, Asks, Uses, WritesAs, Touched, NextAt, IsBefore, Passes, First, Next}
use Rattle.slice_closure.proofs.Spots.{asks_used, used_asks, written_use, use_written}
use Rattle.slice_closure.proofs.Joined.{Comes}
use Rattle.slice_closure.proofs.Makers.{site_among, among_site}
use Rattle.slice_closure.proofs.Onwards.{finds_met}
use Rattle.slice_closure.proofs.Operands.{operands_has, has_operand, taken_has, has_taken}
use Rattle.slice_closure.proofs.Heads.{PlainUse, head_reads, head_checks, use_head, head_writes, writes_head, call_there, called_there, call_writes_at}
use Rattle.slice_closure.proofs.Placed.{front_get, placed_long, deep_maker, maker_deep, front_long, unreversed, operands_are}

-- what the tables say of a call at a position, which takes so many operands
pub record CallAt (B : Bounds) (R : CallRows) (t : Tables) (p : ℕ) (op : Instr) (g : Callee) : Type 0 where
  pub whom : Whom
  pub is : whom_in t (At p) ≡ Some whom
  pub right : CallRight B R t.called g whom
  pub last : (k : ℕ) → IsLast whom (takes (callees B.m) op) k ↔ IsIndexOf g (loc.Local k)

-- the tables are those of the body with these sites and live ends, at whose position `at` is watched
pub record AreRight (B : Bounds) (R : CallRows) (S : Sites) (ends : List EndAt) (T : Node → ValType) (t : Tables) (at : Pos) : Type 0 where
  pub live : Site
  pub is_live : IsSite S at.0 live
  pub comes : (a b : Node) → IsBefore t b a ↔ Leads S a b
  pub leads : (a b : Node) → Leads S a b → IsPoint S a
  pub rows : Rows
  pub plain : IsPlainTable (callees B.m) S rows
  pub uses : (p : ℕ) (us : List LocUse) → HasRow rows p us → uses_in (touch_at (spot_in t p)) ≡ us
  pub watched : (p : ℕ) (s : Site) → IsSite S p s → s.mark ≡ nat_eq at.0 p
  pub taken : (p : ℕ) (s : Site) → IsSite S p s → taken_is (spot_in t p) ≡ Some (taken_at s.head)
  pub calls : (p : ℕ) (s : Site) (op : Instr) (g : Callee) → IsSite S p s → s.head ≡ DoHead op → called B op ≡ Some g → CallAt B R t p op g
  pub silent : (p : ℕ) (s : Site) → IsSite S p s → called_at B s.head ≡ None → whom_in t (At p) ≡ None
  pub tall : (p : ℕ) (s : Site) (op : Instr) → IsSite S p s → s.head ≡ DoHead op → takes (callees B.m) op ≤ length s.names
  pub positions : t.names.now.positions ≡ listed_all (callees B.m) T S
  pub joined : (j x : Node) → Contains (of_node t.names.now.joined j) x ↔ Comes S ends j x
  pub name_points : (p : ℕ) (s : Site) → IsSite S p s → (k : ℕ) (x : Node) → slice_get s.names k ≡ Some x → IsPoint S x
  pub joined_points : (j x : Node) → Contains (of_node t.names.now.joined j) x → IsPoint S x
  pub nest : IsNestOf t.body.now t.nest.now
  pub earlier : (n : Node) (p : Pos) → (nearest_in t.deciders.now n).earlier ≡ Some p → InShadow S p.0 n
  pub latest : (n : Node) (p : Pos) → (nearest_in t.deciders.now n).latest ≡ Some p → InShadow S p.0 n
  pub all : (p : ℕ) (n : Node) → InShadow S p n → Finds (code_of t.body.now.code) (nearest_in t.deciders.now) n (At p)
  pub holders : (b q : ℕ) (s : Site) → IsSite S b s → b < q → q < s.stop → Finds (code_of t.body.now.code) (nearest_in t.deciders.now) (At q) (At b)
  pub held : (q : ℕ) (b : Pos) (s : Site) → IsSite S q s → IsAround (code_of t.body.now.code) q (Some b)
      → (h : Site) × (IsSite S b.0 h × ((b.0 < q) × (q < h.stop)))

-- a decider is live
pub shadow_site : (S : Sites) (p : ℕ) (n : Node) → InShadow S p n → (s : Site) × IsSite S p s
shadow_site S p n (arms kind s is e i) = (s, is)
shadow_site S p _ (if_join kind s is e) = (s, is)
shadow_site S p n (later l s is b i) = (s, is)
shadow_site S p _ (around l j s is b le) = (s, is)
shadow_site S p n (looping l j s is b le e i) = (s, is)

leads_path : (W : Table) (S : Sites) (x : Loc) (a b q : Node) → Leads S a b → Enters W S x b q → Path W S x a q
leads_path W S x a b q l stands = edge l
leads_path W S x a b q l (steps c m free e) = along b l free (leads_path W S x b c q m e)

either_true : (a b : Bool) → (a || b) ≡ true → (a ≡ true) ⊎ (b ≡ true)
either_true true b e = inl refl
either_true false b e = inr e

first_true : (a b : Bool) → a ≡ true → (a || b) ≡ true
first_true a b e = rw e refl

second_true : (a b : Bool) → b ≡ true → (a || b) ≡ true
second_true true b e = refl
second_true false b e = e

one_site : (S : Sites) (p : ℕ) (s s' : Site) → IsSite S p s → IsSite S p s' → s ≡ s'
one_site S p s s' is is' = let e : Some (Some s) ≡ Some (Some s') = sym is ∙ is' in cc

-- a location of the module that is no local, and an index of a call, which is one
outer_of : (globals : ℕ) (x : Loc) → IsLoc globals 0 x → is_outer x ≡ true
outer_of globals (loc.Local k) ok = absurd (omega arith)
outer_of globals (loc.Global k) ok = refl
outer_of globals loc.Mem ok = refl
outer_of globals loc.Size ok = refl
outer_of globals loc.Host ok = refl

outer_below : (globals : ℕ) (x : Loc) → IsLoc globals 0 x → outer_number globals x < globals + 3
outer_below globals (loc.Local k) ok = absurd (omega arith)
outer_below globals (loc.Global k) ok = omega arith
outer_below globals loc.Mem ok = omega arith
outer_below globals loc.Size ok = omega arith
outer_below globals loc.Host ok = omega arith

outer_index : {A : Type 0} (g : Callee) (x : Loc) → IsIndexOf g x → is_outer x ≡ true → A
outer_index (Own f) x h on = absurd h
outer_index (Through k n) (loc.Local i) h on = absurd cc
outer_index (Through k n) (loc.Global i) h on = absurd h
outer_index (Through k n) loc.Mem h on = absurd h
outer_index (Through k n) loc.Size h on = absurd h
outer_index (Through k n) loc.Host h on = absurd h

none_some : {A : Type 0} (w : Whom) → None ≡ Some w → A
none_some w e = absurd cc

module _ (B : Bounds) (R : CallRows) (S : Sites) (ends : List EndAt) (T : Node → ValType) (t : Tables) (at : Pos) (r : AreRight B R S ends T t at) where
  abbrev cs : Callees
  cs = callees B.m

  abbrev written : Table
  written = written_by B S

  abbrev IsKept : Item → Type 0
  IsKept i = KeptItem B R S ends i

  -- a location is needed at a point: from there it comes unwritten to a point where it is kept
  record Need (a : Node) (x : Loc) : Type 0 where
    pub there : Node
    pub enters : Enters written S x a there
    pub kept : IsKept (Locates there x)

  -- what it means that the search meets an item
  abbrev Means : Met → Type 0
  Means (Keeps n) = IsKept (Makes n Done) × IsPoint S n
  Means (Value n) = IsKept (Makes n Ret) × IsPoint S n
  Means (Written x n) = IsKept (Makes n (Final x)) × IsPoint S n
  Means (Needs x a) = Need a x

  value_by_means : (w : Option Whom) (n : Node) → IsKept (Makes n Ret) → IsPoint S n → Means (value_by w n)
  value_by_means None n kept point = (completes Ret kept, point)
  value_by_means (Some w) n kept point = (kept, point)

  value_means : (n : Node) → IsKept (Makes n Ret) → IsPoint S n → (j : Met) → j ≡ value_item t n → Means j
  value_means n kept point j e = subst Means (sym e) (value_by_means (whom_in t n) n kept point)

  written_by_means : (w : Option Whom) (x : Loc) (n : Node) → IsKept (Makes n (Final x)) → IsPoint S n → Means (written_by_item w x n)
  written_by_means None x n kept point = (completes (Final x) kept, point)
  written_by_means (Some w) x n kept point = (kept, point)

  -- ---- operands

  places_at : (p : ℕ) (s : Site) → IsSite S p s → taken_places t p ≡ of_taken (Some (taken_at s.head)) (operands_in (listed_all cs T S) p)
  places_at p s is = ap (λ o. of_taken o (operands_in t.names.now.positions p)) (r.taken p s is)
      ∙ ap (λ ls. of_taken (Some (taken_at s.head)) (operands_in ls p)) r.positions

  -- those of an instruction that goes on to the next one
  do_operands : (p : ℕ) (s : Site) (op : Instr) → IsSite S p s → s.head ≡ DoHead op → operands_at t p ≡ placed T (take (takes cs op) s.names)
  do_operands p s op is e =
      ap (λ ls. operands_in ls p) r.positions ∙ (operands_are cs T S p s is ∙ ap (λ h. placed T (take (all_operands cs s.around h) s.names)) e)

  operands_long : (p : ℕ) (s : Site) (op : Instr) → IsSite S p s → s.head ≡ DoHead op → length (operands_at t p) ≡ takes cs op
  operands_long p s op is e =
      ap length (do_operands p s op is e) ∙ (placed_long T (take (takes cs op) s.names) ∙ front_long (takes cs op) s.names (r.tall p s op is e))

  front_point : (p : ℕ) (s : Site) → IsSite S p s → (c k : ℕ) (n : Node) → slice_get (take c s.names) k ≡ Some n → IsPoint S n
  front_point p s is c k n e = r.name_points p s is k n (front_get c s.names k n e).1

  -- ---- what is written

  table_writes : (p : ℕ) (s : Site) → IsSite S p s → called_at B s.head ≡ None → (x : Loc) → Touched t p x ↔ (writes_at B s.head x ≡ true)
  table_writes p s is none x =
      let plain = r.silent p s is none in (
        λ w.
            let there : written_in (touch_at (spot_in t p)) ≡ Some x = subst (λ z. WritesAs t p z x) plain w in
            let row = (r.plain.live p).1 (s, is) in
            let d = (r.plain.writes p x).0 (
              row.0,
              (
                row.1,
                subst (λ us. HasUse (λ u. u.writes) us x) (r.uses p row.0 row.1)
                    (written_use (touch_at (spot_in t p)) x there),
              ),
            ) in
            head_writes B s.head x (subst (λ (z : Site). HeadWrites cs no_calls z.head x) (one_site S p d.site s d.is is) d.writes),
        λ on.
            let h = (r.plain.writes p x).1 (record { site = s; is = is; writes = writes_head B s.head x none on }) in
            subst (λ z. WritesAs t p z x) (sym plain)
            (use_written (touch_at (spot_in t p)) x (subst (λ us. HasUse (λ u. u.writes) us x) (sym (r.uses p h.0 h.1.0)) h.1.1)),
      )

  call_writes : (p : ℕ) (s : Site) (op : Instr) (g : Callee) → s.head ≡ DoHead op → called B op ≡ Some g → CallAt B R t p op g → (x : Loc)
      → Touched t p x ↔ (writes_at B s.head x ≡ true)
  call_writes p s op g e c there x =
      let head = call_writes_at B s.head op g x e c in (
        λ w. head ∙ (there.right.writes x).0 (subst (λ z. WritesAs t p z x) there.is w),
        λ on. subst (λ z. WritesAs t p z x) (sym there.is) ((there.right.writes x).1 (sym head ∙ on)),
      )

  writes_by : (p : ℕ) (s : Site) → IsSite S p s → (o : Option Callee) → called_at B s.head ≡ o → (x : Loc) → Touched t p x ↔ (writes_at B s.head x ≡ true)
  writes_by p s is None c x = table_writes p s is c x
  writes_by p s is (Some g) c x =
      let call = call_there B s.head g c in call_writes p s call.op g call.is call.calls (r.calls p s call.op g is call.is call.calls) x

  to_written : (x : Loc) (n : Node) → IsPoint S n → Writes (Touched t) x n → Writes written x n
  to_written x _ point (writes_it {p} w) = writes_it (point.0, point.1, (writes_by p point.0 point.1 (called_at B point.0.head) refl x).0 w)

  from_written : (x : Loc) (n : Node) → Writes written x n → Writes (Touched t) x n
  from_written x _ (writes_it {p} w) = writes_it ((writes_by p w.0 w.1 (called_at B w.0.head) refl x).1 w.2)

  at_watched : (p : ℕ) (s : Site) → IsSite S p s → s.mark ≡ true → at.0 ≡ p
  at_watched p s is mark = eqb-true at.0 p (sym (r.watched p s is) ∙ mark)

  mark_there : r.live.mark ≡ true
  mark_there = r.watched at.0 r.live r.is_live ∙ eq-eqb at.0 at.0 refl

  -- ---- what is met is meant

  first_means : (j : Met) → First t at j → Means j
  first_means j (inl e) = value_means (At at.0) (criterion r.live r.is_live mark_there) (r.live, r.is_live) j e
  first_means j (inr (pl, (has, e))) =
      let o = operands_has T cs S at.0 r.live r.is_live pl (subst (λ ls. Contains (operands_in ls at.0) pl) r.positions has) in
      value_means pl.maker (criterion_operand at.0 o.0 r.live r.is_live mark_there o.1.0 o.1.1)
      (r.name_points at.0 r.live r.is_live o.0 pl.maker o.1.1) j e

  row_there : (p : ℕ) (s : Site) → IsSite S p s → (u : LocUse) → Contains (uses_in (touch_at (spot_in t p))) u
      → (us : List LocUse) × (HasRow r.rows p us × Contains us u)
  row_there p s is u has = let row = (r.plain.live p).1 (s, is) in (row.0, (row.1, subst (λ us. Contains us u) (r.uses p row.0 row.1) has))

  plain_used : (p : ℕ) (s : Site) (x : Loc) → IsKept (Makes (At p) Done) → IsSite S p s → PlainUse B s.head x → IsKept (Locates (At p) x)
  plain_used p s x kept is u = using s u.op kept is u.is u.none u.uses

  used_there : (p : ℕ) (s : Site) → IsKept (Makes (At p) Done) → IsSite S p s → (u : LocUse) → Contains (uses_in (touch_at (spot_in t p))) u
      → (u.reads || u.checks) ≡ true → IsKept (Locates (At p) u.loc)
  used_there p s kept is u has e =
      let row = row_there p s is u has in
      ⊎_elim
      (λ reads. let d = (r.plain.reads p u.loc).0 (row.0, (row.1.0, record { found = u; there = row.1.1; same = refl; so = reads })) in
      plain_used p d.0 u.loc kept d.1.0 (head_reads B d.0.head u.loc d.1.1))
      (λ checks. let d = (r.plain.checks p u.loc).0 (row.0, (row.1.0, record { found = u; there = row.1.1; same = refl; so = checks })) in
      plain_used p d.0 u.loc kept d.1.0 (head_checks B d.0.head u.loc d.1.1))
      (either_true u.reads u.checks e)

  -- what a call needs
  argument_means : (out : Output) (p k : ℕ) (s : Site) (op : Instr) (g : Callee) → IsKept (Makes (At p) out) → IsSite S p s → s.head ≡ DoHead op
      → called B op ≡ Some g → R g out (loc.Local k) → (pl : Place) → slice_get (operands_at t p) k ≡ Some pl → (j : Met) → j ≡ value_item t pl.maker → Means j
  argument_means out p k s op g kept is e c row pl got j same =
      let deep : slice_get (placed T (take (takes cs op) s.names)) k ≡ Some pl =
      subst (λ (ps : List Place). slice_get ps k ≡ Some pl) (do_operands p s op is e) got in
      let name = deep_maker T (take (takes cs op) s.names) k pl deep in
      let i = unreversed (take (takes cs op) s.names) k pl.maker name in
      value_means pl.maker (argument p k g out s op kept is e c row name) (front_point p s is (takes cs op) i.0 pl.maker i.1) j same

  row_means : (out : Output) (p : ℕ) (s : Site) (op : Instr) (g : Callee) → IsKept (Makes (At p) out) → IsSite S p s → s.head ≡ DoHead op
      → called B op ≡ Some g → (there : CallAt B R t p op g) → (j : Met) → ByRow t p out there.whom j → Means j
  row_means out p s op g kept is e c there j (inl (k, (lt, (needed, (pl, (got, same)))))) =
      let row : R g out (loc.Local k) = (there.right.rows out (loc.Local k)).1 (⊎_elim (λ h. inl h.1)
      (λ h. inr ((there.last k).0 (subst (λ n. IsLast there.whom n k) (operands_long p s op is e) h))) needed) in
      argument_means out p k s op g kept is e c row pl got j same
  row_means out p s op g kept is e c there j (inr (i, (lt, (x, (ok, (at_i, (row, same))))))) =
      subst Means (sym same) (record {
        there = At p;
        enters = stands;
        kept = place g out s op kept is e c ((there.right.rows out x).1 (inl row)) (outer_of (globals_in t.called) x ok);
      })

  uses_means : (p : ℕ) (s : Site) → IsKept (Makes (At p) Done) → IsSite S p s → (o : Option Callee) → called_at B s.head ≡ o → (j : Met)
      → Uses t p (whom_in t (At p)) j → Means j
  uses_means p s kept is None c j h = plain_means (subst (λ w. Uses t p w j) (r.silent p s is c) h)
    where
      plain_means : Uses t p None j → Means j
      plain_means (inl (pl, (has, e))) =
          let o = taken_has T cs S p s is pl (subst (λ zs. Contains zs pl) (places_at p s is) has) in
          value_means pl.maker (operand p o.0 s kept is c o.1.0 o.1.1) (r.name_points p s is o.0 pl.maker o.1.1) j e
      plain_means (inr asked) =
          let u = asks_used (touch_at (spot_in t p)) p j asked in
          subst Means (sym u.1.1.1) (record { there = At p; enters = stands; kept = used_there p s kept is u.0 u.1.0 u.1.1.0 })
  uses_means p s kept is (Some g) c j h =
      let call = call_there B s.head g c in
      let there = r.calls p s call.op g is call.is call.calls in
      row_means Done p s call.op g kept is call.is call.calls there j (subst (λ w. Uses t p w j) there.is h)

  near_means : (n : Node) → IsKept (Makes n Done) → IsPoint S n → (j : Met) → NextAt t n j → Means j
  near_means (node.At p) kept point j (inl h) = uses_means p.0 point.0 kept point.1 (called_at B point.0.head) refl j h
  near_means (node.At p) kept point j (inr (b, (is_around, e))) =
      let o = r.held p.0 b point.0 point.1 (is_around r.nest) in
      subst Means (sym e) (holding_at p.0 o.0 kept o.1.0 o.1.1.0 o.1.1.1, (o.0, o.1.0))
  near_means (node.Join b) kept point j h = subst Means (sym h) (own_join kept, (point.0, point.1.0))
  near_means node.Exit kept point j h = absurd h

  -- an output of a call that is no completion
  output_means : (out : Output) (n : Node) → IsKept (Makes n out) → IsPoint S n → (j : Met) → ForOutput t out n (whom_in t n) j → Means j
  output_means out (node.At p) kept point j h = by_call (called_at B point.0.head) refl
    where
      by_call : (o : Option Callee) → called_at B point.0.head ≡ o → Means j
      by_call None c = absurd (subst (λ w. ForOutput t out (node.At p) w j) (r.silent p.0 point.0 point.1 c) h)
      by_call (Some g) c =
          let call = call_there B point.0.head g c in
          let there = r.calls p.0 point.0 call.op g point.1 call.is call.calls in
          row_means out p.0 point.0 call.op g kept point.1 call.is call.calls there j (subst (λ w. ForOutput t out (node.At p) w j) there.is h)
  output_means out (node.Join b) kept point j h = absurd h
  output_means out node.Exit kept point j h = absurd h

  joined_means : (n x : Node) → IsKept (Makes n Done) → Comes S ends n x → IsKept (Makes x Ret)
  joined_means n x kept (inl (s, (among, h))) =
      let site = among_site S s among in
      carrying site.0 h.label h.index s (subst (λ z. IsKept (Makes z Done)) (sym h.goal) kept) site.1 h.branch h.within h.is
  joined_means n x kept (inr (e, (among, h))) = ending e h.index (subst (λ z. IsKept (Makes z Done)) (sym h.owner) kept) among h.within h.is

  passed_means : (x : Loc) (a b : Node) → Need a x → Leads S b a → (j : Met) → Passes t x b j → Means j
  passed_means x a b n l j (inl (w, e)) =
      let point = r.leads b a l in
      subst Means (sym e) (written_by_means (whom_in t b) x b (wrote b (to_written x b point w) l) point)
    where
      wrote : (d : Node) → Writes written x d → Leads S d a → IsKept (Makes d (Final x))
      wrote _ (writes_it {p} w) m = writer n.there n.kept (writes_it w) (leads_path written S x (At p) a n.there m n.enters)
  passed_means x a b n l j (inr (free, e)) =
      subst Means (sym e) (record { there = n.there; enters = steps a l (λ w. free (from_written x b w)) n.enters; kept = n.kept })

  next_means : (i : Met) → Means i → (j : Met) → Next t i j → Means j
  next_means (Keeps n) (kept, point) j (inl h) = near_means n kept point j h
  next_means (Keeps n) (kept, point) j (inr (inl (x, (has, e)))) =
      value_means x (joined_means n x kept ((r.joined n x).0 has)) (r.joined_points n x has) j e
  next_means (Keeps n) (kept, point) j (inr (inr (inl (p, (near, e))))) =
      let shadow = r.earlier n p near in subst Means (sym e) (deciding n kept shadow, shadow_site S p.0 n shadow)
  next_means (Keeps n) (kept, point) j (inr (inr (inr (p, (near, e))))) =
      let shadow = r.latest n p near in subst Means (sym e) (deciding n kept shadow, shadow_site S p.0 n shadow)
  next_means (Value n) (kept, point) j (inl e) = subst Means (sym e) (completes Ret kept, point)
  next_means (Value n) (kept, point) j (inr h) = output_means Ret n kept point j h
  next_means (Written x n) (kept, point) j (inl e) = subst Means (sym e) (completes (Final x) kept, point)
  next_means (Written x n) (kept, point) j (inr h) = output_means (Final x) n kept point j h
  next_means (Needs x a) m j (b, (comes, on)) = passed_means x a b m ((r.comes b a).0 comes) j on

  met_means : (i : Met) → Reached (First t at) (Next t) i → Means i
  met_means i (root h) = first_means i h
  met_means i (step w h e) = next_means w (met_means w h) i e

  -- ---- what is kept is met

  abbrev IsMet : Met → Type 0
  IsMet i = Reached (First t at) (Next t) i

  abbrev MakesMet : Node → Output → Type 0
  MakesMet n Ret = IsMet (value_item t n)
  MakesMet n Done = IsMet (Keeps n)
  MakesMet n (Final x) = IsMet (written_item t x n)

  abbrev ItemMet : Item → Type 0
  ItemMet (Makes n out) = MakesMet n out
  ItemMet (Locates a x) = IsMet (Needs x a)
  ItemMet (Decider p) = Unit {0}

  value_done : (w : Option Whom) (n : Node) → IsMet (value_by w n) → IsMet (Keeps n)
  value_done None n met = met
  value_done (Some w) n met = step (Value n) met (inl refl)

  written_done : (w : Option Whom) (x : Loc) (n : Node) → IsMet (written_by_item w x n) → IsMet (Keeps n)
  written_done None x n met = met
  written_done (Some w) x n met = step (Written x n) met (inl refl)

  done_met : (n : Node) (out : Output) → MakesMet n out → IsMet (Keeps n)
  done_met n Ret met = value_done (whom_in t n) n met
  done_met n Done met = met
  done_met n (Final x) met = written_done (whom_in t n) x n met

  -- on from what is needed of a call
  row_on : (p : ℕ) (out : Output) (w : Whom) → whom_in t (At p) ≡ Some w → MakesMet (At p) out → (j : Met) → ByRow t p out w j → IsMet j
  row_on p Ret w is met j h =
      let value = subst (λ z. IsMet (value_by z (At p))) is met in
      step (Value (At p)) value (inr (subst (λ z. ForOutput t Ret (At p) z j) (sym is) h))
  row_on p Done w is met j h = step (Keeps (At p)) met (inl (inl (subst (λ z. Uses t p z j) (sym is) h)))
  row_on p (Final x) w is met j h =
      let wrote = subst (λ z. IsMet (written_by_item z x (At p))) is met in
      step (Written x (At p)) wrote (inr (subst (λ z. ForOutput t (Final x) (At p) z j) (sym is) h))

  argument_met : (p k : ℕ) (out : Output) (s : Site) (op : Instr) (g : Callee) (n : Node) → MakesMet (At p) out → IsSite S p s → s.head ≡ DoHead op
      → CallAt B R t p op g → R g out (loc.Local k) → slice_get (reverse (take (takes cs op) s.names)) k ≡ Some n → IsMet (value_item t n)
  argument_met p k out s op g n met is e there row name =
      let got : slice_get (operands_at t p) k ≡ Some (place_of T n) =
      ap (λ (ps : List Place). slice_get ps k) (do_operands p s op is e) ∙ maker_deep T (take (takes cs op) s.names) k n name in
      let lt = slice_get_within (operands_at t p) k (place_of T n) got in
      let needed : TakesIn t.called there.whom out (length (operands_at t p)) k =
      ⊎_elim (λ h. inl (there.right.few out k h, h))
      (λ i. inr (subst (λ c. IsLast there.whom c k) (sym (operands_long p s op is e)) ((there.last k).1 i)))
      ((there.right.rows out (loc.Local k)).0 row) in
      row_on p out there.whom there.is met (value_item t n) (inl (k, (lt, (needed, (place_of T n, (got, refl))))))

  input_met : (p : ℕ) (out : Output) (op : Instr) (g : Callee) (x : Loc) → MakesMet (At p) out → CallAt B R t p op g → R g out x → is_outer x ≡ true
      → IsMet (Needs x (At p))
  input_met p out op g x met there row on = ⊎_elim
      (λ h.
      let ok = there.right.known out x h on in
      row_on p out there.whom there.is met (Needs x (At p))
      (inr (outer_number (globals_in t.called) x, (outer_below (globals_in t.called) x ok, (x, (ok, (refl, (h, refl))))))))
      (λ i. outer_index g x i on)
      ((there.right.rows out x).0 row)

  use_met : (u : ℕ) (x : Loc) (s : Site) (op : Instr) → IsMet (Keeps (At u)) → IsSite S u s → s.head ≡ DoHead op → called B op ≡ None
      → (reads B op x ≡ true) ⊎ (checks B op x ≡ true) → IsMet (Needs x (At u))
  use_met u x s op met is e none h = ⊎_elim
      (λ reads. let f = (r.plain.reads u x).1 (s, (is, subst (λ z. HeadReads cs z x) (sym e) reads)) in
      from_row f.0 f.1.0 f.1.1.found f.1.1.there f.1.1.same (first_true f.1.1.found.reads f.1.1.found.checks f.1.1.so))
      (λ checks. let f = (r.plain.checks u x).1 (s, (is, subst (λ z. HeadChecks cs no_calls z x) (sym e) checks)) in
      from_row f.0 f.1.0 f.1.1.found f.1.1.there f.1.1.same (second_true f.1.1.found.reads f.1.1.found.checks f.1.1.so))
      (use_head B op x none h)
    where
      from_row : (us : List LocUse) → HasRow r.rows u us → (v : LocUse) → Contains us v → v.loc ≡ x → (v.reads || v.checks) ≡ true → IsMet (Needs x (At u))
      from_row us row v there same so =
          let has : Contains (uses_in (touch_at (spot_in t u))) v = subst (λ zs. Contains zs v) (sym (r.uses u us row)) there in
          let asks = subst (λ z. Asks (touch_at (spot_in t u)) u (Needs z (At u))) same (used_asks (touch_at (spot_in t u)) u v has so) in
          let silent = r.silent u s is (called_there B s.head op None e none) in
          step (Keeps (At u)) met (inl (inl (subst (λ z. Uses t u z (Needs x (At u))) (sym silent) (inr asks))))

  path_met : (x : Loc) (a q : Node) → Path written S x a q → IsMet (Needs x q) → (b : Node) × (Leads S a b × IsMet (Needs x b))
  path_met x a q (edge l) met = (q, (l, met))
  path_met x a q (along b l free p) met =
      let on = path_met x b q p met in (
        b,
        (
          l,
          step (Needs x on.0) on.1.1
              (b, ((r.comes b on.0).1 on.1.0, inr (λ w. free (to_written x b (r.leads b on.0 on.1.0) w), refl))),
        ),
      )

  holder : (b q : ℕ) (s : Site) → IsMet (Keeps (At q)) → IsSite S b s → b < q → q < s.stop → IsMet (Keeps (At b))
  holder b q s met is lt lt' = finds_met t at (At q) (At b) (r.holders b q s is lt lt') met

  kept_met : (i : Item) → IsKept i → ItemMet i
  kept_met _ (criterion {p} s is mark) = root (inl (ap (λ q. value_item t (At q)) (sym (at_watched p s is mark))))
  kept_met _ (criterion_operand {n} p k s is mark lt e) =
      let same = at_watched p s is mark in
      let has : Contains (operands_in t.names.now.positions p) (place_of T n) =
      subst (λ ls. Contains (operands_in ls p) (place_of T n)) (sym r.positions) (has_operand T cs S p s is n k lt e) in
      root (inr (place_of T n, (subst (λ q. Contains (operands_in t.names.now.positions q) (place_of T n)) (sym same) has, refl)))
  kept_met _ (completes {n} out h) = done_met n out (kept_met (Makes n out) h)
  kept_met _ (whole {p} s h is none) = subst (λ w. IsMet (value_by w (At p))) (sym (r.silent p s is none)) (kept_met (Makes (At p) Done) h)
  kept_met _ (operand {n} p k s h is none lt e) =
      let has = subst (λ zs. Contains zs (place_of T n)) (sym (places_at p s is)) (has_taken T cs S p s is n k lt e) in
      step (Keeps (At p)) (kept_met (Makes (At p) Done) h)
      (inl (inl (subst (λ w. Uses t p w (value_item t n)) (sym (r.silent p s is none)) (inl (place_of T n, (has, refl))))))
  kept_met _ (using {p} {x} s op h is hd none u) = use_met p x s op (kept_met (Makes (At p) Done) h) is hd none u
  kept_met _ (argument {n} p k g out s op h is hd c row e) =
      argument_met p k out s op g n (kept_met (Makes (At p) out) h) is hd (r.calls p s op g is hd c) row e
  kept_met _ (place {p} {x} g out s op h is hd c row on) = input_met p out op g x (kept_met (Makes (At p) out) h) (r.calls p s op g is hd c) row on
  kept_met _ (writer {x} {d} a h w path) =
      let on = path_met x (At d) a path (kept_met (Locates a x) h) in
      step (Needs x on.0) on.1.1 (At d, ((r.comes (At d) on.0).1 on.1.0, inl (from_written x (At d) w, refl)))
  kept_met _ (deciding {p} n h shadow) = finds_met t at n (At p) (r.all p n shadow) (kept_met (Makes n Done) h)
  kept_met _ (carrying {n} p l k s h is branch lt e) =
      let comes : Comes S ends (join_of s.around l) n =
      inl (s, (site_among S p s is, record { label = l; branch = branch; goal = refl; index = k; within = lt; is = e })) in
      step (Keeps (join_of s.around l)) (kept_met (Makes (join_of s.around l) Done) h) (inr (inl (n, ((r.joined (join_of s.around l) n).1 comes, refl))))
  kept_met _ (ending {n} e k h among lt is) =
      let comes : Comes S ends e.owner n = inr (e, (among, record { owner = refl; index = k; within = lt; is = is })) in
      step (Keeps e.owner) (kept_met (Makes e.owner Done) h) (inr (inl (n, ((r.joined e.owner n).1 comes, refl))))
  kept_met _ (holding_at {b} q s h is lt lt') = holder b q s (kept_met (Makes (At q) Done) h) is lt lt'
  kept_met _ (holding_join {b} q s h is lt lt') = holder b q s (step (Keeps (Join q)) (kept_met (Makes (Join q) Done) h) (inl refl)) is lt lt'
  kept_met _ (own_join {b} h) = step (Keeps (Join b)) (kept_met (Makes (Join b) Done) h) (inl refl)

  -- ---- both ways

  pub node_met : (n : Node) → IsMet (Keeps n) ↔ IsKept (Makes n Done)
  node_met n = (λ met. (met_means (Keeps n) met).0, λ kept. kept_met (Makes n Done) kept)

  -- a join is kept for its value alone
  abbrev Valued : Node → Type 0
  Valued (node.At p) = Unit {0}
  Valued n = IsKept (Makes n Ret)

  abbrev ItemValued : Item → Type 0
  ItemValued (Makes n out) = Valued n
  ItemValued _ = Unit {0}

  maker_valued : (n : Node) → IsKept (Makes n Ret) → Valued n
  maker_valued (node.At p) h = tt
  maker_valued (node.Join b) h = h
  maker_valued node.Exit h = h

  kept_valued : (i : Item) → IsKept i → ItemValued i
  kept_valued _ (criterion s is mark) = tt
  kept_valued _ (criterion_operand {n} p k s is mark lt e) = maker_valued n (criterion_operand p k s is mark lt e)
  kept_valued _ (completes {n} out h) = kept_valued (Makes n out) h
  kept_valued _ (whole s h is none) = tt
  kept_valued _ (operand {n} p k s h is none lt e) = maker_valued n (operand p k s h is none lt e)
  kept_valued _ (using s op h is hd none u) = tt
  kept_valued _ (argument {n} p k g out s op h is hd c row e) = maker_valued n (argument p k g out s op h is hd c row e)
  kept_valued _ (place g out s op h is hd c row on) = tt
  kept_valued _ (writer a h w path) = tt
  kept_valued _ (deciding n h shadow) = tt
  kept_valued _ (carrying {n} p l k s h is branch lt e) = maker_valued n (carrying p l k s h is branch lt e)
  kept_valued _ (ending {n} e k h among lt is) = maker_valued n (ending e k h among lt is)
  kept_valued _ (holding_at q s h is lt lt') = tt
  kept_valued _ (holding_join q s h is lt lt') = tt
  kept_valued _ (own_join h) = tt

  -- where it calls nothing, a kept node is kept for its value
  silent_maker : (n : Node) → IsPoint S n → whom_in t n ≡ None → IsKept (Makes n Done) → IsKept (Makes n Ret)
  silent_maker (node.At p) point none kept = by_call (called_at B point.0.head) refl
    where
      by_call : (o : Option Callee) → called_at B point.0.head ≡ o → IsKept (Makes (node.At p) Ret)
      by_call None c = whole point.0 kept point.1 c
      by_call (Some g) c =
          let call = call_there B point.0.head g c in
          let there = r.calls p.0 point.0 call.op g point.1 call.is call.calls in
          none_some there.whom (sym none ∙ there.is)
  silent_maker (node.Join b) point none kept = kept_valued (Makes (node.Join b) Done) kept
  silent_maker node.Exit point none kept = kept_valued (Makes node.Exit Done) kept

  pub maker_met : (n : Node) → IsMet (value_item t n) ↔ IsKept (Makes n Ret)
  maker_met n = (λ met. by_whom (whom_in t n) refl (met_means (value_item t n) met), λ kept. kept_met (Makes n Ret) kept)
    where
      by_whom : (w : Option Whom) → whom_in t n ≡ w → Means (value_by (whom_in t n) n) → IsKept (Makes n Ret)
      by_whom None none m = let h = subst (λ z. Means (value_by z n)) none m in silent_maker n h.1 none h.0
      by_whom (Some w) some m = (subst (λ z. Means (value_by z n)) some m).0
