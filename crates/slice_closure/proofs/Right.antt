-- The tables that are made of a body are right.
use Rattle.std.proofs.Common.{◌≡◌, ◌↔◌, ℕ, suc, ◌+◌, ◌*◌, ◌<◌, ◌≤◌, List, [], ◌∷◌, Bool, true, false, Option, Some, None, length, get_or, refl, sym, ap, ◌∙◌, subst, arith, nat_eq, inl, inr, ⊎_elim}
use Rattle.std.specs.Prelude.{slice_get}
use Rattle.std.specs.List.{All, Contains}
use Rattle.std.specs.Option.{option_map}
use Rattle.std.proofs.lemmas.Option.{slice_get-map, same_Some}
use Rattle.std.proofs.lemmas.Grind.{merely}
use Rattle.std.proofs.lemmas.List.Elements.{All-contains_itself}
use Rattle.wasm_types.specs.declared.module.ValType.{ValType}
use Rattle.wasm_types.specs.declared.module.Pos.{Pos}
use Rattle.wasm_types.specs.declared.module.FuncType.{FuncType}
use Rattle.wasm_types.specs.declared.module.Body.{Body}
use Rattle.wasm_types.specs.declared.module.Module.{Module}
use Rattle.wasm_types.specs.declared.place.Node.{Node}
use Rattle.wasm_types.specs.declared.place.Node.TheVariants.{Exit}
use Rattle.wasm_types.specs.Code.{code_of, count}
use Rattle.wasm_types.specs.Marked.{Marked, size}
use Rattle.wasm_types.specs.Spaces.{type_of_func, body_of, HasBody}
use Rattle.wasm_types.specs.Subset.{IsSealed}
use Rattle.body_check.proofs.BodyLemmas.{body-among}
use Rattle.wasm_types.specs.declared.instr.Instr.{Instr}
use Rattle.wasm_types.specs.declared.place.Loc.TheVariants as loc
use Rattle.wasm_types.specs.Actions.{Callees, callees, Callee, Own, Through, form_of, takes, takes_of, called_of}
use Rattle.wasm_types.specs.Nodes.{At}
use Rattle.wasm_types.specs.Labels.{body_label}
use Rattle.wasm_types.specs.Sites.{Head, DoHead, BlockHead, LoopHead, IfHead, BrHead, BrIfHead, BrTableHead, ReturnHead, UnreachableHead}
use Rattle.wasm_types.specs.Sites.{Site, Sites, IsSite, EndAt, Leads, from_at, from_join, body_sites, body_ends}
use Rattle.wasm_types.specs.Takers.{joined_of}
use Rattle.block_cfg.specs.Graph.{number, row_of}
use Rattle.block_cfg.specs.Points.{IsPoint}
use Rattle.block_cfg.specs.Walk.{lists}
use Rattle.block_cfg.proofs.MemberLemmas.{among_of, contains_of}
use Rattle.block_cfg.proofs.SiteLemmas.{size_marked, sites_shapes}
use Rattle.block_cfg.proofs.LeadLemmas.{all_rows, leads_of, of_leads}
use Rattle.stack_names.specs.declared.place.Place.{Place}
use Rattle.stack_names.specs.Named.{Named, is_listed, is_live_in, operands_in, of_node, listed, listed_all, code_in, sites_in}
use Rattle.stack_names.specs.Ends.{HasValues}
use Rattle.control_deps.specs.Nearest.{nearest_in}
use Rattle.control_deps.proofs.FindLemmas.{holder_found, around_site}
use Rattle.flow_domain.specs.Heights.{Shaped}
use Rattle.flow_domain.specs.LocRows.{rows_of}
use Rattle.flow_domain.proofs.LocLemmas.{plain_table}
use Rattle.flow_domain.specs.Bounds.{Cover, Bounds, bounds, called}
use Rattle.flow_domain.specs.Kept.{Tells, called_at}
use Rattle.flow_domain.specs.KeptSets.{KeptSet, holds}
use Rattle.flow_domain.specs.Rows.{CallRows, RowOf}
use Rattle.flow_domain.specs.Sliced.{context_of, watched_code}
use Rattle.flow_domain.specs.Summaries.{TableRows}
use Rattle.flow_domain.specs.Touch.{IsExact}
use Rattle.called_rows.specs.declared.instrs.Whom.{Whom}
use Rattle.called_rows.specs.declared.instrs.Whom.TheVariants as whom
use Rattle.called_rows.specs.Whom.{whom_of, IsWhom, IsLast, IsIndexOf}
use Rattle.called_rows.specs.Called.{globals_in}
use Rattle.called_rows.proofs.FormKinds.{Kind, plain, own, through, kind_of, plain_task, own_asks, table_asks, whom_called, whom_none}
use Rattle.called_rows.proofs.Known.{task_there, Fine, fine_site}
use Rattle.called_rows.proofs.Right.{call_right}
use Rattle.stack_repair.specs.Law.{HasTypes, ValidHasHeights}
use Rattle.worklist.specs.Reached.{Reached}
use Rattle.slice_closure.specs.declared.tables.Tables.{Tables}
use Rattle.slice_closure.specs.declared.spot.Came.TheVariants.{First, After}
use Rattle.slice_closure.specs.Takens.{taken_at}
use Rattle.slice_closure.specs.Flow.{AsksBelow, touch_at, touched_at, taken_is, whom_in_touch, does_at, came_to}
use Rattle.slice_closure.proofs.Coming.{Told, told_led, led_told}
use Rattle.slice_closure.specs.Answer.{KeptBy, MadeBy}
use Rattle.slice_closure.proofs.Spots.{uses_at_spot, does_at_spot, touch_whom}
use Rattle.slice_closure.specs.declared.items.Item.TheVariants.{Keeps}
use Rattle.slice_closure.specs.Next.{spot_in, whom_in, value_item, IsBefore, First as Begins, Next, Fits}
use Rattle.slice_closure.specs.Made.{AreMade}
use Rattle.slice_closure.proofs.Joined.{Comes, joined_comes}
use Rattle.slice_closure.proofs.Takes.{takes_at}
use Rattle.slice_closure.proofs.Operands.{operands_has, operand_site}
use Rattle.slice_closure.proofs.Makers.{name_point, joined_point, point_below}
use Rattle.slice_closure.proofs.Exact.{CallAt, AreRight, shadow_site, node_met, maker_met}

-- what is listed is live
live_site : (cs : Callees) (T : Node → ValType) (S : Sites) (p : ℕ) → is_live_in (listed_all cs T S) p ≡ true → (s : Site) × IsSite S p s
live_site cs T S p h = go (slice_get S p) refl
  where
    at : (o : Option (Option Site)) → slice_get S p ≡ o → is_listed (option_map (option_map (listed cs T)) o) ≡ true
    at o e = sym (ap is_listed (slice_get-map (option_map (listed cs T)) S p ∙ ap (option_map (option_map (listed cs T))) e)) ∙ h

    go : (o : Option (Option Site)) → slice_get S p ≡ o → (s : Site) × IsSite S p s
    go None e = let off : false ≡ true = at None e in absurd cc
    go (Some None) e = let off : false ≡ true = at (Some None) e in absurd cc
    go (Some (Some s)) e = (s, e)

-- what leads on is a point
leads_from : (S : Sites) (a b : Node) → Leads S a b → IsPoint S a
leads_from S a b (from_at s is g) = (s, is)
leads_from S a b (from_join s is j) = (s, (is, j))

-- all elements, where each that is contained is so
pub all_from : {A : Type 0} (P : A → Type 0) (xs : List A) → ((x : A) → Contains xs x → P x) → All P xs
all_from P xs f = λ k d lt. f (get_or xs k d) (All-contains_itself xs k d lt)

pub same_some : (a b : Body) → Some a ≡ Some b → a ≡ b
same_some a b e = cc

pub same_type : (a b : FuncType) → Some a ≡ Some b → a ≡ b
same_type a b e = cc

-- the operands of a call through the table: its arguments, and the index
not_called : {A : Type 0} (g : Callee) → None ≡ Some g → A
not_called g e = absurd cc

own_not_through : {A : Type 0} (f k n : ℕ) → Own f ≡ Through k n → A
own_not_through f k n e = absurd cc

through_takes : (m : Module) (W : Cover) (op : Instr) (k n : ℕ) → Kind m op → called (bounds m W) op ≡ Some (Through k n) → takes (callees m) op ≡ n + 1
through_takes m W op k n (plain a fe) c = not_called (Through k n) (sym (ap called_of (plain_task m op a fe)) ∙ c)
through_takes m W op k n (own f F fe is) c =
    own_not_through f k n (same_Some (Own f) (Through k n) (sym (ap called_of (own_asks m op f (Some F) fe is)) ∙ c))
through_takes m W op k n (through i F fe is) c =
    let same : Through i (length F.params) ≡ Through k n =
    same_Some (Through i (length F.params)) (Through k n) (sym (ap called_of (table_asks m op i (Some F) fe is)) ∙ c) in
    let long : length F.params ≡ n = cc in
    let many : takes (callees m) op ≡ suc (length F.params) = ap takes_of (table_asks m op i (Some F) fe is) in
    omega arith

last_of : (a n k : ℕ) → a ≡ n + 1 → (k + 1 ≡ a) ↔ (k ≡ n)
last_of a n k e = (λ l. omega arith, λ s. omega arith)

last_index : (m : Module) (W : Cover) (op : Instr) (g : Callee) (w : Whom) → Kind m op → called (bounds m W) op ≡ Some g → IsWhom g w → (k : ℕ)
    → IsLast w (takes (callees m) op) k ↔ IsIndexOf g (loc.Local k)
last_index m W op (Own f) (whom.Own h) kind c is k = (λ l. l, λ i. i)
last_index m W op (Own f) (whom.Through j) kind c is k = absurd is
last_index m W op (Through i n) (whom.Own h) kind c is k = absurd is
last_index m W op (Through i n) (whom.Through j) kind c is k = last_of (takes (callees m) op) n k (through_takes m W op i n kind c)

module _ (m : Module) (f : ℕ) (at : Pos) (t : Tables) (made : AreMade m f at t) where
  abbrev cs : Callees
  cs = callees m

  abbrev body : Body
  body = t.body.now

  abbrev w : ℕ → Bool
  w = nat_eq at.0

  abbrev code : Marked
  code = watched_code w body

  abbrev results : ℕ
  results = length made.names.kind.results

  abbrev S : Sites
  S = body_sites cs results code

  abbrev ends : List EndAt
  ends = body_ends cs results code

  positions_are : t.names.now.positions ≡ listed_all cs made.names.types S
  positions_are = made.names.positions ∙ ap (λ b. listed_all cs made.names.types (sites_in m made.names.kind w b)) made.same

  joined_are : (j : Node) → of_node t.names.now.joined j ≡ joined_of cs results code j
  joined_are j = made.names.joined j ∙ ap (λ b. joined_of cs results (code_in w b) j) made.same

  here : (s : Site) × IsSite S at.0 s
  here = live_site cs made.names.types S at.0 (subst (λ ls. is_live_in ls at.0 ≡ true) positions_are made.live)

  abbrev rows : List (List Node)
  rows = [] ∷ lists true (Exit ∷ []) Exit (code_of body.code) 0

  -- the rows of the sites
  rows_are : all_rows S ≡ rows
  rows_are = ap (λ (r : List (List Node)). [] ∷ r) (sites_shapes cs w (code_of body.code) (body_label results (size code) ∷ []) Exit 0 [] refl)

  comes_leads : (a b : Node) → IsBefore t b a ↔ Leads S a b
  comes_leads a b = (
    λ comes.
        let told : Told (code_of body.code) t.flow.now.before.items made.ways b a =
        ⊎_elim (λ h. inl (subst (λ spots. came_to spots b ≡ After a) made.spots h)) (λ h. inr h) comes in
        leads_of S a b (subst (λ (rs : List (List Node)). Contains (row_of rs a) b) (sym rows_are)
        (contains_of (row_of rows a) b (told_led (code_of body.code) t.flow.now.before.items made.ways b a told))),
    λ leads.
        let led = among_of (row_of rows a) b (subst (λ (rs : List (List Node)). Contains (row_of rs a) b) rows_are (of_leads S a b leads)) in
        ⊎_elim (λ h. inl (subst (λ spots. came_to spots b ≡ After a) (sym made.spots) h)) (λ h. inr h)
        (led_told (code_of body.code) t.flow.now.before.items made.ways b a led),
  )

  joined_points : (j x : Node) → Contains (of_node t.names.now.joined j) x → IsPoint S x
  joined_points j x has = joined_point cs results code j x
      (among_of (joined_of cs results code j) x (subst (λ (xs : List Node). Contains xs x) (joined_are j) has))

  -- what a position takes and touches
  does : (p : ℕ) (s : Site) → IsSite S p s → (taken_is (spot_in t p) ≡ Some (taken_at s.head)) × (touch_at (spot_in t p) ≡ touched_at s.head)
  does p s is = does_at_spot First (code_of body.code) 0 p t.flow.now.spots.items (does_at s.head) made.spots
      (takes_at cs w (code_of body.code) (body_label results (size code) ∷ []) Exit p s is).0

  touches : (p : ℕ) (s : Site) (h : Head) → IsSite S p s → s.head ≡ h → touch_at (spot_in t p) ≡ touched_at h
  touches p s h is e = (does p s is).1 ∙ ap touched_at e

  -- what goes on to the next one has a meaning, and its operands
  fine : (p : ℕ) (s : Site) → IsSite S p s → Fine cs (HasTypes (context_of m made.names.kind body)) s
  fine p s is = fine_site cs (HasTypes (context_of m made.names.kind body)) results code made.shaped p s is

  kind_at : (p : ℕ) (s : Site) (op : Instr) → IsSite S p s → s.head ≡ DoHead op → Kind m op
  kind_at p s op is e = kind_of m op (task_there (context_of m made.names.kind body) op (fine p s is op e).1)

  whom_is : (p : ℕ) (s : Site) (op : Instr) → IsSite S p s → s.head ≡ DoHead op → whom_in t (At p) ≡ whom_of op
  whom_is p s op is e = ap whom_in_touch (touches p s (DoHead op) is e) ∙ touch_whom (form_of op)

  abbrev rows_by : CallRows
  rows_by = RowOf m (TableRows t.called.rows.now)

  module _ (W : Cover) (exact : IsExact m W) where
    abbrev B : Bounds
    B = bounds m W

    calls : (p : ℕ) (s : Site) (op : Instr) (g : Callee) → IsSite S p s → s.head ≡ DoHead op → called B op ≡ Some g → CallAt B rows_by t p op g
    calls p s op g is e c =
        let kind = kind_at p s op is e in
        let h = whom_called m op kind g c in
        record {
          whom = h.0;
          is = whom_is p s op is e ∙ h.1.0;
          right = call_right m t.called made.sealed made.heights made.called W exact op g h.0 kind c h.1.1;
          last = last_index m W op g h.0 kind c h.1.1;
        }

    silent_by : (p : ℕ) (s : Site) (h : Head) → IsSite S p s → s.head ≡ h → called_at B h ≡ None → whom_in t (At p) ≡ None
    silent_by p s (DoHead op) is e c = whom_is p s op is e ∙ whom_none m op (kind_at p s op is e) c
    silent_by p s (BlockHead kind) is e c = ap whom_in_touch (touches p s (BlockHead kind) is e)
    silent_by p s (LoopHead kind) is e c = ap whom_in_touch (touches p s (LoopHead kind) is e)
    silent_by p s (IfHead kind) is e c = ap whom_in_touch (touches p s (IfHead kind) is e)
    silent_by p s (BrHead l) is e c = ap whom_in_touch (touches p s (BrHead l) is e)
    silent_by p s (BrIfHead l) is e c = ap whom_in_touch (touches p s (BrIfHead l) is e)
    silent_by p s (BrTableHead labels other) is e c = ap whom_in_touch (touches p s (BrTableHead labels other) is e)
    silent_by p s (ReturnHead l) is e c = ap whom_in_touch (touches p s (ReturnHead l) is e)
    silent_by p s UnreachableHead is e c = ap whom_in_touch (touches p s UnreachableHead is e)

    right : AreRight B rows_by S ends made.names.types t at
    right =
        let c = code_of body.code in
        let near = made.near body made.nest cs results w in
        record {
          live = here.0;
          is_live = here.1;
          comes = comes_leads;
          leads = leads_from S;
          rows = rows_of true c;
          plain = plain_table cs results w body (rows_of true c) refl;
          uses = λ p us row. uses_at_spot First c 0 p t.flow.now.spots.items us made.spots row;
          watched = λ p s is. (takes_at cs w c (body_label results (size code) ∷ []) Exit p s is).1;
          taken = λ p s is. (does p s is).0;
          calls = calls;
          silent = λ p s is none. silent_by p s s.head is refl none;
          tall = λ p s op is e. (fine p s is op e).0;
          positions = positions_are;
          joined = λ j x. subst (λ (xs : List Node). Contains xs x ↔ Comes S ends j x) (sym (joined_are j)) (joined_comes cs (HasTypes
              (context_of m made.names.kind body)) results code made.shaped j x);
          name_points = λ p s is k x e. name_point cs results code p s is k x e;
          joined_points = joined_points;
          nest = made.nest;
          earlier = near.earlier;
          latest = near.latest;
          all = near.all;
          holders = λ b q s is lt lt'. holder_found body t.nest.now made.nest cs results w (nearest_in t.deciders.now) b q s is lt lt';
          held = λ q b s is around. around_site body t.nest.now made.nest cs results w q s b is around;
        }

  size_is : size code ≡ count (code_of body.code)
  size_is = size_marked w (code_of body.code) 0

  below : (N : ℕ) → N ≡ 2 * count (code_of body.code) + 1 → (n : Node) → IsPoint S n → number n < N
  below N e n h = let lt = point_below cs results code n h in omega (arith, size_is)

  pub at_below : (N : ℕ) → N ≡ 2 * count (code_of body.code) + 1 → number (At at.0) < N
  at_below N e = below N e (At at.0) here

  pub tables_fit : (N L : ℕ) → N ≡ 2 * count (code_of body.code) + 1 → ((p : ℕ) → AsksBelow L (touch_at (spot_in t p))) → 2 * globals_in t.called + 3 ≤ L
      → Fits N L t
  tables_fit N L e uses inputs =
      let near = made.near body made.nest cs results w in
      record {
        operands = λ p. all_from (λ (place : Place). number place.maker < N) (operands_in t.names.now.positions p) (λ place has.
            let listed = subst (λ ls. Contains (operands_in ls p) place) positions_are has in
            let s = operand_site made.names.types cs S p place listed in
            let o = operands_has made.names.types cs S p s.0 s.1 place listed in
            below N e place.maker (name_point cs results code p s.0 s.1 o.0 place.maker o.1.1));
        joined = λ n. all_from (λ (k : Node). number k < N) (of_node t.names.now.joined n) (λ x has. below N e x (joined_points n x has));
        before = λ n a comes. below N e a (leads_from S a n ((comes_leads a n).0 comes));
        uses = uses;
        inputs = inputs;
        earlier = λ n p at. below N e (At p.0) (shadow_site S p.0 n (near.earlier n p at));
        latest = λ n p at. below N e (At p.0) (shadow_site S p.0 n (near.latest n p at));
        nested = merely made.nest;
      }

  -- the body is that of the function
  module _ (F : FuncType) (b : Body) (kind : type_of_func m f ≡ Some F) (has : HasBody m f b) where
    to_body : (P : FuncType → Body → Type 0) → P made.names.kind body → P F b
    to_body P h =
        let same_kind : made.names.kind ≡ F = same_type made.names.kind F (sym made.names.kind_is ∙ kind) in
        let same_body : body ≡ b = sym made.same ∙ same_some made.names.body b (sym made.names.has_body.1 ∙ has.1) in
        subst (λ (F' : FuncType). P F' b) same_kind (subst (λ (b' : Body). P made.names.kind b') same_body h)

    -- what the search met is the kept set of the body
    pub search_tells : (K : KeptSet) → ((n : Node) → holds K n ≡ true ↔ Reached (Begins t at) (Next t) (Keeps n)) → (W : Cover) → IsExact m W
        → Tells (holds K) (KeptBy m t.called.rows.now W F b at.0)
    search_tells K met W exact = to_body (λ F' b'. Tells (holds K) (KeptBy m t.called.rows.now W F' b' at.0)) (λ n.
        let told = node_met (bounds m W) rows_by S ends made.names.types t at (right W exact) n in
        (λ h. told.0 ((met n).0 h), λ kept. (met n).1 (told.1 kept)))

    -- and the nodes whose value it met are those that are kept for their value
    pub makers_tell : (M : Node → Bool) → ((n : Node) → M n ≡ true ↔ Reached (Begins t at) (Next t) (value_item t n)) → (W : Cover) → IsExact m W
        → Tells M (MadeBy m t.called.rows.now W F b at.0)
    makers_tell M met W exact = to_body (λ F' b'. Tells M (MadeBy m t.called.rows.now W F' b' at.0)) (λ n.
        let told = maker_met (bounds m W) rows_by S ends made.names.types t at (right W exact) n in
        (λ h. told.0 ((met n).0 h), λ kept. (met n).1 (told.1 kept)))

-- the names of a body and its heights
pub names_same : (m : Module) (f : ℕ) (w : ℕ → Bool) (n : Named) (a : HasValues m f w n) (b : Body) → body_of m f ≡ Some b → a.body ≡ b
names_same m f w n a b is = same_some a.body b (sym a.has_body.1 ∙ body-among m f b is)

pub names_shaped : (m : Module) (f : ℕ) (w : ℕ → Bool) (n : Named) (a : HasValues m f w n) (b : Body) → body_of m f ≡ Some b → IsSealed m → ValidHasHeights
    → Shaped (callees m) (HasTypes (context_of m a.kind b)) (length a.kind.results ∷ []) (length a.kind.results) (watched_code w b) 0
names_shaped m f w n a b is sealed heights = heights m a.kind b
    (record { valid = sealed.valid; no_float = sealed.no_float; func = f; kind_is = a.kind_is; has_body = (a.has_body.0, body-among m f b is) }) w
