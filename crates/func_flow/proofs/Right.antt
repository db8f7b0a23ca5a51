-- The tables that are made of a body are right.
use Rattle.std.proofs.Common.{◌≡◌, ◌↔◌, ℕ, ◌<◌, ◌||◌, List, [], ◌∷◌, Bool, true, false, Option, Some, None, length}
use Rattle.std.proofs.Common.{slice_get, refl, sym, ap, ◌∙◌, subst, inl, inr, ◌⊎◌, ⊎_elim, arith}
use Rattle.std.specs.List.{Contains}
use Rattle.std.proofs.lemmas.Grind.{merely}
use Rattle.std.proofs.lemmas.List.Elements.{All-contains}
use Rattle.wasm_types.specs.declared.module.Body.{Body}
use Rattle.wasm_types.specs.declared.module.Module.{Module}
use Rattle.wasm_types.specs.declared.instr.Instr.{Instr}
use Rattle.wasm_types.specs.declared.place.Loc.{Loc}
use Rattle.wasm_types.specs.declared.place.Loc.TheVariants as loc
use Rattle.wasm_types.specs.declared.place.Node.{Node}
use Rattle.wasm_types.specs.declared.place.Node.TheVariants.{Exit}
use Rattle.wasm_types.specs.Code.{code_of, count}
use Rattle.wasm_types.specs.Marked.{Marked, size}
use Rattle.wasm_types.specs.Spaces.{HasBody}
use Rattle.wasm_types.specs.Actions.{Action, Callees, callees, Plain, form_of, task_of}
use Rattle.wasm_types.specs.Locations.{TaskReads, TaskChecks, TaskWrites}
use Rattle.wasm_types.specs.Funcs.{unwatched}
use Rattle.wasm_types.specs.Nodes.{At}
use Rattle.wasm_types.specs.Labels.{body_label}
use Rattle.wasm_types.specs.Sites.{DoHead, Site, Sites, IsSite, EndAt, body_sites, body_ends}
use Rattle.wasm_types.specs.Takers.{joined_of}
use Rattle.block_cfg.specs.Graph.{number, row_of}
use Rattle.block_cfg.specs.Points.{IsPoint}
use Rattle.block_cfg.proofs.MemberLemmas.{among_of}
use Rattle.block_cfg.proofs.SiteLemmas.{size_marked}
use Rattle.stack_names.specs.declared.place.Place.{Place}
use Rattle.stack_names.specs.Named.{operands_in, of_node, listed_all, code_in, sites_in}
use Rattle.stack_repair.specs.Law.{HasTypes}
use Rattle.control_deps.proofs.FindLemmas.{around_site}
use Rattle.control_deps.proofs.InwardLemmas.{shadow_inward, shadow_join}
use Rattle.flow_domain.specs.declared.loc_table.LocUse.{LocUse}
use Rattle.flow_domain.specs.Bounds.{Bounds, bounds, Cover}
use Rattle.flow_domain.specs.Heights.{Shaped}
use Rattle.flow_domain.specs.LocTables.{HasRow, row_in, WritesIn}
use Rattle.flow_domain.specs.Rows.{CallRows, RowOf}
use Rattle.flow_domain.specs.Sliced.{context_of, watched_code, no_calls}
use Rattle.flow_domain.specs.Reach.{MayWrite}
use Rattle.flow_domain.specs.Touch.{MayTouch, IsExact}
use Rattle.flow_domain.specs.Summaries.{TableRows}
use Rattle.func_flow.specs.declared.steps.Step.{Step}
use Rattle.func_flow.specs.declared.tables.Tables.{Tables}
use Rattle.func_flow.specs.Items.{IsLoc, index_of}
use Rattle.func_flow.specs.Made.{AreMade}
use Rattle.func_flow.specs.Next.{whom_at, WritesAs, WrittenAt, Fits}
use Rattle.func_flow.specs.Runs.{AreQuiet}
use Rattle.func_flow.specs.Steps.{form_step, head_step, whom_of}
use Rattle.func_flow.proofs.Exact.{shadow_site, reads_head, checks_head, writes_head, AreRight}
use Rattle.called_rows.specs.declared.instrs.Whom.{Whom}
use Rattle.called_rows.specs.declared.instrs.Whom.TheVariants as whom
use Rattle.called_rows.specs.Called.{globals_in, WritesBy}
use Rattle.called_rows.proofs.FormKinds.{Kind, plain, own, through, kind_of, plain_task, own_asks, table_asks}
use Rattle.called_rows.proofs.Right.{call_right}
use Rattle.func_flow.proofs.Forward.{back, loops}
use Rattle.called_rows.proofs.Known.{IsSound, Fine, fine_site, sound_of, task_there, reads_known, checks_known, may_write_known, may_touch_known}
use Rattle.called_rows.proofs.TargetLemmas.{targets_right}
use Rattle.func_flow.proofs.StepLemmas.{step_at}
use Rattle.slice_closure.proofs.Joined.{Comes, joined_comes}
use Rattle.slice_closure.proofs.Makers.{name_point, joined_point, point_below}
use Rattle.slice_closure.proofs.Operands.{operands_has, operand_site}
use Rattle.slice_closure.proofs.Right.{all_from}

local_any : (globals a b : ℕ) (x : Loc) → IsLoc globals a x → index_of x < b → IsLoc globals b x
local_any globals a b (loc.Local k) ok lt = lt
local_any globals a b (loc.Global k) ok lt = ok
local_any globals a b loc.Mem ok lt = omega arith
local_any globals a b loc.Size ok lt = omega arith
local_any globals a b loc.Host ok lt = omega arith

either_true : (a b : Bool) → (a || b) ≡ true → (a ≡ true) ⊎ (b ≡ true)
either_true true b e = inl refl
either_true false b e = inr e

nothing_has : {A : Type 0} (x : A) → Contains [] x → ⊥
nothing_has x (k, lt, is) = omega arith

row_has : (rows : List (Option (List LocUse))) (p : ℕ) (u : LocUse) → Contains (row_in (slice_get rows p)) u → (us : List LocUse) × (HasRow rows p us × Contains us u)
row_has rows p u has = go (slice_get rows p) refl
  where
    go : (o : Option (Option (List LocUse))) → slice_get rows p ≡ o → (us : List LocUse) × (HasRow rows p us × Contains us u)
    go None e = absurd (nothing_has u (subst (λ z. Contains (row_in z) u) e has))
    go (Some None) e = absurd (nothing_has u (subst (λ z. Contains (row_in z) u) e has))
    go (Some (Some us)) e = (us, (e, subst (λ z. Contains (row_in z) u) e has))

module _ (m : Module) (f : ℕ) (t : Tables) (made : AreMade m f t) where
  abbrev cs : Callees
  cs = callees m

  abbrev G : ℕ
  G = t.numbering.globals

  abbrev body : Body
  body = t.body.now

  abbrev code : Marked
  code = watched_code unwatched body

  abbrev results : ℕ
  results = length made.names.kind.results

  abbrev S : Sites
  S = body_sites cs results code

  abbrev ends : List EndAt
  ends = body_ends cs results code

  abbrev R : CallRows
  R = RowOf m (TableRows t.called.rows.now)

  shaped : Shaped cs (HasTypes (context_of m made.names.kind body)) (results ∷ []) results code 0
  shaped = made.heights m made.names.kind body
      (record {
        valid = made.sealed.valid;
        no_float = made.sealed.no_float;
        func = f;
        kind_is = made.names.kind_is;
        has_body = subst (HasBody m f) made.same made.names.has_body;
      }) unwatched

  fine : (p : ℕ) (s : Site) → IsSite S p s → Fine cs (HasTypes (context_of m made.names.kind body)) s
  fine p s is = fine_site cs (HasTypes (context_of m made.names.kind body)) results code shaped p s is

  positions_are : t.names.now.positions ≡ listed_all cs made.names.types S
  positions_are = made.names.positions ∙ ap (λ b. listed_all cs made.names.types (sites_in m made.names.kind unwatched b)) made.same

  joined_are : (j : Node) → of_node t.names.now.joined j ≡ joined_of cs results code j
  joined_are j = made.names.joined j ∙ ap (λ b. joined_of cs results (code_in unwatched b) j) made.same

  stands_at : (p : ℕ) (s : Site) → IsSite S p s → slice_get t.steps.now p ≡ Some (head_step s.head)
  stands_at p s is = ap (λ (ss : List Step). slice_get ss p) made.steps
      ∙ step_at cs unwatched (code_of body.code) (body_label results (size code) ∷ []) Exit p s is

  module _ (W : Cover) (exact : IsExact m W) where
    abbrev B : Bounds
    B = bounds m W

    pub right : AreRight B R S ends made.names.types t
    right =
        let g = made.cfg cs results unwatched in
        let near = made.near body made.nest cs results unwatched in
        record {
          points = g.points;
          before = g.before;
          nexts = g.next;
          leads = g.stays;
          plain = made.plain cs results unwatched;
          stands = stands_at;
          tasks = λ p s op is e. task_there (context_of m made.names.kind body) op (fine p s is op e).1;
          tall = λ p s op is e. (fine p s is op e).0;
          globals = made.globals ∙ sym made.called.targets.globals;
          positions = positions_are;
          joined = λ j x. subst (λ (xs : List Node). Contains xs x ↔ Comes S ends j x) (sym (joined_are j)) (joined_comes cs (HasTypes
              (context_of m made.names.kind body)) results code shaped j x);
          name_points = λ p s is k x e. name_point cs results code p s is k x e;
          joined_points = λ j x has. joined_point cs results code j x (among_of (joined_of cs results code j) x (subst (λ
              (xs : List Node). Contains xs x) (joined_are j) has));
          nest = made.nest;
          earlier = near.earlier;
          latest = near.latest;
          held = λ q b s is around. around_site body t.nest.now made.nest cs results unwatched q s b is around;
          inward = λ p q b s is around shadow. shadow_inward body t.nest.now made.nest cs results unwatched p q b s is around shadow;
          inward_join = λ p b s is j shadow. shadow_join body t.nest.now made.nest cs results unwatched p b s is j shadow;
          back = λ p q l le. back cs results code p q l le;
          loops = λ p l s is br loop. loops cs results code p l s is br loop;
          found = λ p n shadow. near.found p n shadow;
          calls = λ p s op h w is e c who. call_right m t.called made.sealed made.heights made.called W exact op h w
              (kind_of m op (task_there (context_of m made.names.kind body) op (fine p s is op e).1)) c who;
        }

  -- ---- what has a number

  size_is : size code ≡ count (code_of body.code)
  size_is = size_marked unwatched (code_of body.code) 0

  below : (n : Node) → IsPoint S n → number n < t.numbering.nodes
  below n h = let lt = point_below cs results code n h in let e = made.nodes in omega (arith, size_is)

  known_by : (p : ℕ) (s : Site) (op : Instr) (a : Action) → IsSite S p s → s.head ≡ DoHead op → form_of op ≡ Plain a
      → IsSound G (length (context_of m made.names.kind body).locals) a
  known_by p s op a is e fe = subst (λ n. IsSound n (length (context_of m made.names.kind body).locals) a) (sym made.globals)
      (sound_of (context_of m made.names.kind body) op a (fine p s is op e).1 fe)

  read_loc : (p : ℕ) (s : Site) (op : Instr) (x : Loc) → IsSite S p s → s.head ≡ DoHead op → TaskReads (task_of cs op) x
      → IsLoc G (length (context_of m made.names.kind body).locals) x
  read_loc p s op x is e h = go (kind_of m op (task_there (context_of m made.names.kind body) op (fine p s is op e).1))
    where
      go : Kind m op → IsLoc G (length (context_of m made.names.kind body).locals) x
      go (plain a fe) = reads_known G _ a x (known_by p s op a is e fe) (subst (λ z. TaskReads z x) (plain_task m op a fe) h)
      go (own g F fe ty) = absurd (subst (λ z. TaskReads z x) (own_asks m op g (Some F) fe ty) h)
      go (through k F fe ty) = absurd (subst (λ z. TaskReads z x) (table_asks m op k (Some F) fe ty) h)

  check_loc : (p : ℕ) (s : Site) (op : Instr) (x : Loc) → IsSite S p s → s.head ≡ DoHead op → TaskChecks no_calls (task_of cs op) x
      → IsLoc G (length (context_of m made.names.kind body).locals) x
  check_loc p s op x is e h = go (kind_of m op (task_there (context_of m made.names.kind body) op (fine p s is op e).1))
    where
      go : Kind m op → IsLoc G (length (context_of m made.names.kind body).locals) x
      go (plain a fe) = checks_known G _ a x (known_by p s op a is e fe) (subst (λ z. TaskChecks no_calls z x) (plain_task m op a fe) h)
      go (own g F fe ty) = absurd (subst (λ z. TaskChecks no_calls z x) (own_asks m op g (Some F) fe ty) h)
      go (through k F fe ty) = absurd (subst (λ z. TaskChecks no_calls z x) (table_asks m op k (Some F) fe ty) h)

  use_loc : (p : ℕ) (u : LocUse) → Contains (row_in (slice_get t.locs.now p)) u → (u.reads || u.checks) ≡ true → IsLoc G t.numbering.locals u.loc
  use_loc p u has on =
      let row = row_has t.locs.now p u has in
      let plain_table = made.plain cs results unwatched in
      local_any G (length (context_of m made.names.kind body).locals) t.numbering.locals u.loc
      (⊎_elim
      (λ reads. let d = (plain_table.reads p u.loc).0 (row.0, (row.1.0, record { found = u; there = row.1.1; same = refl; so = reads })) in
      let h = reads_head cs d.0.head u.loc d.1.1 in
      read_loc p d.0 h.0 u.loc d.1.0 h.1.0 h.1.1)
      (λ checks. let d = (plain_table.checks p u.loc).0 (row.0, (row.1.0, record { found = u; there = row.1.1; same = refl; so = checks })) in
      let h = checks_head cs d.0.head u.loc d.1.1 in
      check_loc p d.0 h.0 u.loc d.1.0 h.1.0 h.1.1)
      (either_true u.reads u.checks on))
      (All-contains (λ (v : LocUse). index_of v.loc < t.numbering.locals) (row_in (slice_get t.locs.now p)) u (made.locals p) has)

  -- ---- what positions write

  calls_none : (p : ℕ) (s : Site) (op : Instr) (x : Loc) → IsSite S p s → s.head ≡ DoHead op → TaskWrites no_calls (task_of cs op) x → whom_at t p ≡ None
  calls_none p s op x is e h = go (kind_of m op (task_there (context_of m made.names.kind body) op (fine p s is op e).1))
    where
      go : Kind m op → whom_at t p ≡ None
      go (plain a fe) = ap whom_of (stands_at p s is ∙ (ap (λ g. Some (head_step g)) e ∙ ap (λ z. Some (form_step z)) fe))
      go (own g F fe ty) = absurd (subst (λ z. TaskWrites no_calls z x) (own_asks m op g (Some F) fe ty) h)
      go (through k F fe ty) = absurd (subst (λ z. TaskWrites no_calls z x) (table_asks m op k (Some F) fe ty) h)

  plain_writes : (p : ℕ) (x : Loc) → WritesIn t.locs.now p x → whom_at t p ≡ None
  plain_writes p x w =
      let d = ((made.plain cs results unwatched).writes p x).0 w in
      let h = writes_head cs d.site.head x d.writes in
      calls_none p d.site h.0 x d.is h.1.0 h.1.1

  outer_written : (g : ℕ) (x : Loc) → MayWrite m g x → IsLoc (globals_in t.called) 0 x
  outer_written g x h = subst (λ n. IsLoc n 0 x) (sym made.called.targets.globals) (may_write_known m made.sealed made.heights g x h)

  outer_touched : (g : ℕ) (x : Loc) → MayTouch m g x → IsLoc (globals_in t.called) 0 x
  outer_touched g x h = subst (λ n. IsLoc n 0 x) (sym made.called.targets.globals) (may_touch_known m made.sealed made.heights g x h)

  -- no call writes a local
  no_local : (w : Whom) (k : ℕ) → WritesBy t.called w (loc.Local k) → ⊥
  no_local (whom.Own g) k h = let lt = outer_written g (loc.Local k) ((made.called.graph.writes g (loc.Local k)).0 h) in omega arith
  no_local (whom.Through u) k h =
      let right = targets_right m t.called made.called outer_written outer_touched u in
      let f = (right.writes (loc.Local k)).0 h in
      let lt = outer_written f.0 (loc.Local k) f.2 in omega arith

  local_writes : (p k : ℕ) → WrittenAt t p (loc.Local k) → WritesIn t.locs.now p (loc.Local k)
  local_writes p k w = go (whom_at t p) w
    where
      go : (c : Option Whom) → WritesAs t p c (loc.Local k) → WritesIn t.locs.now p (loc.Local k)
      go None h = h
      go (Some c) h = absurd (no_local c k h)

  pub quiet : AreQuiet t
  quiet = record { plain = plain_writes; locals = local_writes }

  pub fits : Fits t
  fits =
      let g = made.cfg cs results unwatched in
      let near = made.near body made.nest cs results unwatched in
      record {
        operands = λ p. all_from (λ (place : Place). number place.maker < t.numbering.nodes) (operands_in t.names.now.positions p) (λ place has.
            let listed = subst (λ ls. Contains (operands_in ls p) place) positions_are has in
            let s = operand_site made.names.types cs S p place listed in
            let o = operands_has made.names.types cs S p s.0 s.1 place listed in
            below place.maker (name_point cs results code p s.0 s.1 o.0 place.maker o.1.1));
        joined = λ n. all_from (λ (k : Node). number k < t.numbering.nodes) (of_node t.names.now.joined n) (λ x has.
            below x (joined_point cs results code n x (among_of (joined_of cs results code n) x (subst (λ (xs : List Node). Contains xs x) (joined_are n) has))));
        before = λ n. all_from (λ (k : Node). number k < t.numbering.nodes) (row_of t.cfg.now.before n) (λ a has. below a (g.stays a n ((g.before a n).0 has)).0);
        points = all_from (λ (k : Node). number k < t.numbering.nodes) t.cfg.now.points (λ n has. below n ((g.points n).0 has));
        uses = λ p. all_from (λ (u : LocUse). (u.reads || u.checks) ≡ true → IsLoc G t.numbering.locals u.loc) (row_in (slice_get t.locs.now p))
            (λ u has. use_loc p u has);
        earlier = λ n p at. below (At p.0) (shadow_site S p.0 n (near.earlier n p at));
        latest = λ n p at. below (At p.0) (shadow_site S p.0 n (near.latest n p at));
        nested = merely made.nest;
      }
