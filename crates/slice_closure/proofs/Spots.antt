-- What positions touch and take, by the lists of the definitions.
use Rattle.std.proofs.Common.{◌≡◌, ℕ, ◌+◌, ◌&&◌, ◌||◌, inl, inr, Bool, true, false, List, [], ◌∷◌, ◌++◌, Option, Some, None, map, refl, sym, ap, ap₂, ◌∙◌, subst, arith}
use Rattle.std.specs.Prelude.{slice_get}
use Rattle.std.specs.List.{Contains}
use Rattle.std.specs.Option.{option_map}
use Rattle.std.proofs.lemmas.Option.{slice_get-map}
use Rattle.wasm_types.specs.declared.instr.Instr.{Instr}
use Rattle.wasm_types.specs.declared.instr.Instr as instr
use Rattle.wasm_types.specs.declared.place.Loc.{Loc}
use Rattle.wasm_types.specs.declared.place.Loc.TheVariants.{Mem, Size}
use Rattle.wasm_types.specs.Actions.{Action, Form, NoForm, Plain, CallOf, CallBy, form_of}
use Rattle.wasm_types.specs.Actions as action
use Rattle.wasm_types.specs.Code.{Code, done, one, block, repeat, branch, count}
use Rattle.wasm_types.specs.Nodes.{At, Join}
use Rattle.wasm_types.specs.Sites.{Among}
use Rattle.block_cfg.specs.Walk.{goes_on}
use Rattle.block_cfg.proofs.MemberLemmas.{among_of}
use Rattle.flow_domain.specs.declared.loc_table.LocUse.{LocUse}
use Rattle.flow_domain.specs.LocRows.{reading, checking, writing, changing, uses_of, if_live, rows_of}
use Rattle.flow_domain.specs.LocRows as rows
use Rattle.flow_domain.specs.LocTables.{HasUse}
use Rattle.called_rows.specs.Whom.{whom_by}
use Rattle.slice_closure.specs.declared.spot.Came.{Came}
use Rattle.slice_closure.specs.declared.spot.Spot.{Spot}
use Rattle.slice_closure.specs.declared.spot.Touch.{Touch}
use Rattle.slice_closure.specs.declared.spot.Touch.TheVariants as touch
use Rattle.slice_closure.specs.declared.items.Item.{Item}
use Rattle.slice_closure.specs.declared.items.Item.TheVariants.{Needs}
use Rattle.slice_closure.specs.Flow.{uses_in, written_by, touch_in, touch_by, touch_of, touch_at, whom_in_touch, taken_is, through}
use Rattle.slice_closure.specs.Flow.{onward, holder, fork, spots_in, Doing, does_by, doings}
use Rattle.slice_closure.specs.Next.{Asks}
use Rattle.slice_closure.proofs.Coming.{came_live, through_live, onward_live}

map_both : {A B : Type 0} (f : A → B) (xs ys : List A) → map f (xs ++ ys) ≡ map f xs ++ map f ys
map_both f [] ys = refl
map_both f (x ∷ xs) ys = ap (λ zs. f x ∷ zs) (map_both f xs ys)

-- ---- what positions take and touch

abbrev doing_in : Spot → Doing
doing_in spot = (spot.taken, spot.touch)

spots_doings : (came : Came) (c : Code) (p : ℕ) → map doing_in (spots_in came c p) ≡ doings c
spots_doings came done p = refl
spots_doings came (one i rest) p = ap (λ ts. does_by i ∷ ts) (spots_doings (onward came i p) rest (p + 1))
spots_doings came (block kind inner rest) p =
    let I = spots_in (through came (At p)) inner (p + 1) in
    let R = spots_in (through came (Join p)) rest (p + 1 + count inner) in
    ap (λ ts. doing_in (holder came) ∷ ts) (map_both doing_in I R ∙ ap₂ (λ (a b : List Doing). a ++ b) (spots_doings (through came (At p)) inner (p + 1))
    (spots_doings (through came (Join p)) rest (p + 1 + count inner)))
spots_doings came (repeat kind inner rest) p =
    let I = spots_in (through came (At p)) inner (p + 1) in
    let R = spots_in (through came (Join p)) rest (p + 1 + count inner) in
    ap (λ ts. doing_in (holder came) ∷ ts) (map_both doing_in I R ∙ ap₂ (λ (a b : List Doing). a ++ b) (spots_doings (through came (At p)) inner (p + 1))
    (spots_doings (through came (Join p)) rest (p + 1 + count inner)))
spots_doings came (branch kind x y rest) p =
    let X = spots_in (through came (At p)) x (p + 1) in
    let Y = spots_in (through came (At p)) y (p + 1 + count x) in
    let R = spots_in (through came (Join p)) rest (p + 1 + count x + count y) in
    ap (λ ts. doing_in (fork came) ∷ ts) (map_both doing_in X (Y ++ R) ∙ ap₂ (λ (a b : List Doing). a ++ b) (spots_doings (through came (At p)) x (p + 1))
    (map_both doing_in Y R ∙ ap₂ (λ (a b : List Doing). a ++ b) (spots_doings (through came (At p)) y (p + 1 + count x))
    (spots_doings (through came (Join p)) rest (p + 1 + count x + count y))))

does_here : (o : Option Spot) (d : Doing) → option_map doing_in o ≡ Some d → (taken_is o ≡ Some d.0) × (touch_at o ≡ d.1)
does_here None d e = absurd cc
does_here (Some s) d e = let same : doing_in s ≡ d = cc in (ap (λ (z : Doing). Some z.0) same, ap (λ (z : Doing). z.1) same)

pub does_at_spot : (came : Came) (c : Code) (p : ℕ) (q : ℕ) (spots : List Spot) (d : Doing) → spots ≡ spots_in came c p → slice_get (doings c) q ≡ Some d
    → (taken_is (slice_get spots q) ≡ Some d.0) × (touch_at (slice_get spots q) ≡ d.1)
does_at_spot came c p q spots d is e =
    does_here (slice_get spots q) d (sym (slice_get-map doing_in spots q) ∙ (ap (λ (ts : List Doing). slice_get ts q) (ap (map doing_in) is
    ∙ spots_doings came c p) ∙ e))

-- ---- locations

touched_in : (a : Action) → uses_in (touch_in a) ≡ rows.uses_in a
touched_in action.Nothing = refl
touched_in (action.Const v) = refl
touched_in (action.Number op) = refl
touched_in action.Discard = refl
touched_in action.Choose = refl
touched_in (action.Get k) = refl
touched_in (action.Set k) = refl
touched_in (action.Tee k) = refl
touched_in (action.GetGlobal k) = refl
touched_in (action.SetGlobal k) = refl
touched_in (action.Read access signed) = refl
touched_in (action.Write access) = refl
touched_in action.Pages = refl
touched_in action.Grow = refl
touched_in action.Copy = refl
touched_in action.Fill = refl

touched_by : (f : Form) → uses_in (touch_by f) ≡ rows.uses_by f
touched_by (Plain a) = touched_in a
touched_by (CallOf f) = refl
touched_by (CallBy k) = refl
touched_by NoForm = refl

-- whom an instruction calls
plain_silent : (a : Action) → whom_in_touch (touch_in a) ≡ None
plain_silent (action.Get k) = refl
plain_silent _ = refl

pub touch_whom : (f : Form) → whom_in_touch (touch_by f) ≡ whom_by f
touch_whom (Plain a) = plain_silent a
touch_whom (CallOf f) = refl
touch_whom (CallBy k) = refl
touch_whom NoForm = refl

touched : (i : Instr) → uses_in (touch_of i) ≡ uses_of i
touched i = touched_by (form_of i)

abbrev row_in : Spot → Option (List LocUse)
row_in spot = if_live (came_live spot.came) (uses_in spot.touch)

goes_same : (i : Instr) → goes_on i ≡ rows.goes_on i
goes_same (instr.Br l) = refl
goes_same (instr.BrTable labels other) = refl
goes_same instr.Return = refl
goes_same instr.Unreachable = refl
goes_same _ = refl

spots_rows : (came : Came) (c : Code) (p : ℕ) → map row_in (spots_in came c p) ≡ rows_of (came_live came) c
spots_rows came done p = refl
spots_rows came (one i rest) p =
    ap₂ (λ (r : Option (List LocUse)) (rs : List (Option (List LocUse))). r ∷ rs) (ap (if_live (came_live came)) (touched i))
    (spots_rows (onward came i p) rest (p + 1) ∙ ap (λ b. rows_of b rest) (onward_live came i p ∙ ap (λ b. b && came_live came) (goes_same i)))
spots_rows came (block kind inner rest) p =
    let I = spots_in (through came (At p)) inner (p + 1) in
    let R = spots_in (through came (Join p)) rest (p + 1 + count inner) in
    ap (λ rs. if_live (came_live came) [] ∷ rs) (map_both row_in I R ∙ ap₂ (λ (a b : List (Option (List LocUse))). a ++ b)
    (spots_rows (through came (At p)) inner (p + 1) ∙ ap (λ b. rows_of b inner) (through_live came (At p)))
    (spots_rows (through came (Join p)) rest (p + 1 + count inner) ∙ ap (λ b. rows_of b rest) (through_live came (Join p))))
spots_rows came (repeat kind inner rest) p =
    let I = spots_in (through came (At p)) inner (p + 1) in
    let R = spots_in (through came (Join p)) rest (p + 1 + count inner) in
    ap (λ rs. if_live (came_live came) [] ∷ rs) (map_both row_in I R ∙ ap₂ (λ (a b : List (Option (List LocUse))). a ++ b)
    (spots_rows (through came (At p)) inner (p + 1) ∙ ap (λ b. rows_of b inner) (through_live came (At p)))
    (spots_rows (through came (Join p)) rest (p + 1 + count inner) ∙ ap (λ b. rows_of b rest) (through_live came (Join p))))
spots_rows came (branch kind x y rest) p =
    let X = spots_in (through came (At p)) x (p + 1) in
    let Y = spots_in (through came (At p)) y (p + 1 + count x) in
    let R = spots_in (through came (Join p)) rest (p + 1 + count x + count y) in
    ap (λ rs. if_live (came_live came) [] ∷ rs) (map_both row_in X (Y ++ R) ∙ ap₂ (λ (a b : List (Option (List LocUse))). a ++ b)
    (spots_rows (through came (At p)) x (p + 1) ∙ ap (λ b. rows_of b x) (through_live came (At p)))
    (map_both row_in Y R ∙ ap₂ (λ (a b : List (Option (List LocUse))). a ++ b)
    (spots_rows (through came (At p)) y (p + 1 + count x) ∙ ap (λ b. rows_of b y) (through_live came (At p)))
    (spots_rows (through came (Join p)) rest (p + 1 + count x + count y) ∙ ap (λ b. rows_of b rest) (through_live came (Join p)))))

row_uses : (o : Option Spot) (us : List LocUse) → option_map row_in o ≡ Some (Some us) → uses_in (touch_at o) ≡ us
row_uses None us e = absurd cc
row_uses (Some s) us e = go (came_live s.came) (uses_in s.touch) (let f : Some (if_live (came_live s.came) (uses_in s.touch)) ≡ Some (Some us) = e in f)
  where
    go : (b : Bool) (xs : List LocUse) → Some (if_live b xs) ≡ Some (Some us) → xs ≡ us
    go true xs h = cc
    go false xs h = absurd cc

-- the row of a live position has what it touches
pub uses_at_spot : (came : Came) (c : Code) (p : ℕ) (q : ℕ) (spots : List Spot) (us : List LocUse) → spots ≡ spots_in came c p
    → slice_get (rows_of (came_live came) c) q ≡ Some (Some us) → uses_in (touch_at (slice_get spots q)) ≡ us
uses_at_spot came c p q spots us is e =
    row_uses (slice_get spots q) us (sym (slice_get-map row_in spots q)
    ∙ (ap (λ (rs : List (Option (List LocUse))). slice_get rs q) (ap (map row_in) is ∙ spots_rows came c p) ∙ e))

pub written_use : (t : Touch) (x : Loc) → written_by t ≡ Some x → HasUse (λ u. u.writes) (uses_in t) x
written_use touch.Nothing x e = absurd cc
written_use (touch.Reads y) x e = absurd cc
written_use (touch.Writes y) x e = record { found = writing y; there = (0, omega arith, refl); same = cc; so = refl }
written_use (touch.Changes y) x e = record { found = changing y; there = (0, omega arith, refl); same = cc; so = refl }
written_use touch.Loads x e = absurd cc
written_use (touch.Calls w) x e = absurd cc
written_use touch.Stores x e = record { found = changing Mem; there = (0, omega arith, refl); same = cc; so = refl }

not_written : (u v : LocUse) → u ≡ v → v.writes ≡ true → u.writes ≡ false → ⊥
not_written u v e h off = let on : u.writes ≡ true = subst (λ (z : LocUse). z.writes ≡ true) (sym e) h in absurd cc

found_written : (t : Touch) (x : Loc) (u : LocUse) → Among (uses_in t) u → u.loc ≡ x → u.writes ≡ true → written_by t ≡ Some x
found_written touch.Nothing x u a same so = absurd a
found_written (touch.Reads y) x u (inl e) same so = absurd (not_written (reading y) u e so refl)
found_written (touch.Reads y) x u (inr a) same so = absurd a
found_written (touch.Writes y) x u (inl e) same so = ap Some (ap (λ (z : LocUse). z.loc) e ∙ same)
found_written (touch.Writes y) x u (inr a) same so = absurd a
found_written (touch.Changes y) x u (inl e) same so = ap Some (ap (λ (z : LocUse). z.loc) e ∙ same)
found_written (touch.Changes y) x u (inr a) same so = absurd a
found_written touch.Loads x u (inl e) same so = absurd (not_written (reading Mem) u e so refl)
found_written touch.Loads x u (inr (inl e)) same so = absurd (not_written (checking Size) u e so refl)
found_written touch.Loads x u (inr (inr a)) same so = absurd a
found_written (touch.Calls w) x u a same so = absurd a
found_written touch.Stores x u (inl e) same so = ap Some (ap (λ (z : LocUse). z.loc) e ∙ same)
found_written touch.Stores x u (inr (inl e)) same so = absurd (not_written (checking Size) u e so refl)
found_written touch.Stores x u (inr (inr a)) same so = absurd a

pub use_written : (t : Touch) (x : Loc) → HasUse (λ u. u.writes) (uses_in t) x → written_by t ≡ Some x
use_written t x h = found_written t x h.found (among_of (uses_in t) h.found h.there) h.same h.so

-- ---- what is asked for

abbrev pub Reads : LocUse → Type 0
Reads u = (u.reads || u.checks) ≡ true

pub asks_used : (t : Touch) (p : ℕ) (j : Item) → Asks t p j → (u : LocUse) × (Contains (uses_in t) u × (Reads u × (j ≡ Needs u.loc (At p))))
asks_used touch.Nothing p j h = absurd h
asks_used (touch.Reads x) p j h = (reading x, ((0, omega arith, refl), (refl, h)))
asks_used (touch.Writes x) p j h = absurd h
asks_used (touch.Changes x) p j h = (changing x, ((0, omega arith, refl), (refl, h)))
asks_used touch.Loads p j (inl h) = (reading Mem, ((0, omega arith, refl), (refl, h)))
asks_used touch.Loads p j (inr h) = (checking Size, ((1, omega arith, refl), (refl, h)))
asks_used (touch.Calls w) p j h = absurd h
asks_used touch.Stores p j (inl h) = (changing Mem, ((0, omega arith, refl), (refl, h)))
asks_used touch.Stores p j (inr h) = (checking Size, ((1, omega arith, refl), (refl, h)))

need_same : (p : ℕ) (u v : LocUse) → u ≡ v → Needs v.loc (At p) ≡ Needs u.loc (At p)
need_same p u v e = ap (λ (z : LocUse). Needs z.loc (At p)) (sym e)

not_read : (u v : LocUse) → u ≡ v → Reads v → (u.reads || u.checks) ≡ false → ⊥
not_read u v e h off = let on : (u.reads || u.checks) ≡ true = subst (λ (z : LocUse). Reads z) (sym e) h in absurd cc

among_asks : (t : Touch) (p : ℕ) (u : LocUse) → Among (uses_in t) u → Reads u → Asks t p (Needs u.loc (At p))
among_asks touch.Nothing p u a h = absurd a
among_asks (touch.Reads x) p u (inl e) h = need_same p (reading x) u e
among_asks (touch.Reads x) p u (inr a) h = absurd a
among_asks (touch.Writes x) p u (inl e) h = not_read (writing x) u e h refl
among_asks (touch.Writes x) p u (inr a) h = absurd a
among_asks (touch.Changes x) p u (inl e) h = need_same p (changing x) u e
among_asks (touch.Changes x) p u (inr a) h = absurd a
among_asks touch.Loads p u (inl e) h = inl (need_same p (reading Mem) u e)
among_asks touch.Loads p u (inr (inl e)) h = inr (need_same p (checking Size) u e)
among_asks touch.Loads p u (inr (inr a)) h = absurd a
among_asks (touch.Calls w) p u a h = absurd a
among_asks touch.Stores p u (inl e) h = inl (need_same p (changing Mem) u e)
among_asks touch.Stores p u (inr (inl e)) h = inr (need_same p (checking Size) u e)
among_asks touch.Stores p u (inr (inr a)) h = absurd a

pub used_asks : (t : Touch) (p : ℕ) (u : LocUse) → Contains (uses_in t) u → Reads u → Asks t p (Needs u.loc (At p))
used_asks t p u has h = among_asks t p u (among_of (uses_in t) u has) h
