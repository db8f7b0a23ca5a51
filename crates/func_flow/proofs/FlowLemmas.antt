-- From what a search finds where a body begins to what the outputs of its function lead to.
use Rattle.std.proofs.Common.{◌≡◌, ◌↔◌, ℕ, ◌+◌, ◌-◌, ◌*◌, ◌<◌, ◌≤◌, ◌||◌, List, [], Bool, true, false, not, Option, Some, None, IsSome, length, nat_lt}
use Rattle.std.proofs.Common.{if◌then◌else◌, slice_get, refl, sym, ap, ◌∙◌, subst, arith}
use Rattle.std.proofs.lemmas.Bool.Decides.{nat_tests}
use Rattle.std.proofs.lemmas.Option.{same_Some}
use Rattle.wasm_types.specs.declared.module.Body.{Body}
use Rattle.wasm_types.specs.declared.module.Module.{Module}
use Rattle.wasm_types.specs.declared.place.Loc.{Loc}
use Rattle.wasm_types.specs.declared.place.Loc.TheVariants as loc
use Rattle.wasm_types.specs.declared.place.Node.{Node}
use Rattle.wasm_types.specs.declared.place.Node.TheVariants.{Exit}
use Rattle.wasm_types.specs.Code.{Code, done, one, block, repeat, branch, code_of, count}
use Rattle.wasm_types.specs.Actions.{Callees, callees}
use Rattle.wasm_types.specs.Funcs.{unwatched}
use Rattle.wasm_types.specs.Labels.{first}
use Rattle.wasm_types.specs.Marked.{marked}
use Rattle.wasm_types.specs.Sites.{Sites, EndAt, body_sites, body_ends}
use Rattle.wasm_types.specs.Spaces.{body_of, func_types, import_count}
use Rattle.block_cfg.specs.Graph.{Graph, number}
use Rattle.block_cfg.specs.Points.{IsCfgOf}
use Rattle.block_cfg.specs.Walk.{first_of}
use Rattle.block_cfg.proofs.SiteLemmas.{first_marked}
use Rattle.single_entry.specs.Entries.{IsGraph}
use Rattle.sparse_reach.specs.declared.table.SparseRows.{SparseRows}
use Rattle.worklist.specs.declared.labels.Root.{Root}
use Rattle.worklist.specs.Bits.{HasBit}
use Rattle.worklist.specs.Packed.{PackedEdge}
use Rattle.worklist.specs.Reached.{Reached}
use Rattle.worklist.specs.Roots.{IsRootOf}
use Rattle.flow_domain.specs.Bounds.{Cover, bounds}
use Rattle.flow_domain.specs.Rows.{Output, Ret, Final, Done, CallRows, RowOf, Needed, LedTo, IsInput}
use Rattle.flow_domain.specs.Summaries.{IsKnown, TableRows, row_number, column_number}
use Rattle.flow_domain.specs.Touch.{IsExact}
use Rattle.flow_domain.proofs.Summing.{among_some, among_is, column_below}
use Rattle.func_flow.specs.declared.items.Item.TheVariants as item
use Rattle.func_flow.specs.declared.runs.Runs.{Runs}
use Rattle.func_flow.specs.declared.tables.Tables.{Tables}
use Rattle.func_flow.specs.Items.{IsLoc, IsItem, item_number}
use Rattle.func_flow.specs.Made.{AreMade}
use Rattle.func_flow.specs.Met.{IsMet, IsFound}
use Rattle.func_flow.specs.Next.{First, Next, Fits}
use Rattle.func_flow.specs.Roots.{Adds, Begins}
use Rattle.func_flow.specs.Runs.{AreRuns, AreQuiet, Short}
use Rattle.func_flow.proofs.Exact.{needed_met}
use Rattle.func_flow.proofs.Finished.{led_is}
use Rattle.func_flow.proofs.MetLemmas.{entry_item}
use Rattle.func_flow.proofs.Right.{right, fits}
use Rattle.func_flow.proofs.Rising.{short_met}
use Rattle.func_flow.proofs.RunLemmas.{order_of}
use Rattle.func_flow.proofs.Searching.{search_exact, reached_item}

-- ---- where a body begins

pub first_within : (c : Code) → number (first_of 0 c Exit) < 2 * count c + 1
first_within done = omega arith
first_within (one op rest) = omega arith
first_within (block kind inner rest) = omega arith
first_within (repeat kind inner rest) = omega arith
first_within (branch kind x y rest) = omega arith

pub first_low : (c : Code) → number (first_of 0 c Exit) ≤ 1
first_low done = omega arith
first_low (one op rest) = omega arith
first_low (block kind inner rest) = omega arith
first_low (repeat kind inner rest) = omega arith
first_low (branch kind x y rest) = omega arith

-- the first point is where the body begins
pub first_begun : (body : Body) (g : Graph) → IsCfgOf body g → slice_get g.points 0 ≡ Some (first_of 0 (code_of body.code) Exit)
first_begun body g cfg =
    let cs : Callees = record { type_of = λ f. None; type_at = λ t. None } in
    (cfg cs 0 unwatched).first ∙ ap Some (first_marked unwatched (code_of body.code) 0 Exit)

-- ---- own functions

pub value_of : {X : Type 0} (o : Option X) → IsSome o → (x : X) × (o ≡ Some x)
value_of (Some x) h = (x, refl)
value_of None h = absurd cc

pub own_at : (m : Module) (f : ℕ) (b : Body) → body_of m f ≡ Some b → (import_count m ≤ f) × (f < length (func_types m))
own_at m f b e = go (nat_lt f (import_count m)) refl (nat_lt f (length (func_types m))) refl e
  where
    go : (q : Bool) → nat_lt f (import_count m) ≡ q → (r : Bool) → nat_lt f (length (func_types m)) ≡ r
        → (if q || not r then None else slice_get m.bodies (f - import_count m)) ≡ Some b → (import_count m ≤ f) × (f < length (func_types m))
    go true is r to e = absurd cc
    go false is false to e = absurd cc
    go false is true to e = (grind (arith, nat_tests, is), grind (arith, nat_tests, to))

-- ---- rows and columns

row_within : (G : ℕ) (o : Output) (r : ℕ) → row_number G o ≡ Some r → r < 5 + G
row_within G Done r e = let is = same_Some 0 r e in omega arith
row_within G Ret r e = let is = same_Some 1 r e in omega arith
row_within G (Final loc.Mem) r e = let is = same_Some 2 r e in omega arith
row_within G (Final loc.Size) r e = let is = same_Some 3 r e in omega arith
row_within G (Final loc.Host) r e = let is = same_Some 4 r e in omega arith
row_within G (Final (loc.Global k)) r e = let h = among_some 5 G k r e in omega arith
row_within G (Final (loc.Local k)) r e = absurd cc

-- what has a column is an input
column_input : (G P : ℕ) (x : Loc) (c : ℕ) → column_number G P x ≡ Some c → IsInput P x
column_input G P (loc.Local k) c e = (among_some (3 + G) P k c e).0
column_input G P (loc.Global k) c e = tt
column_input G P loc.Mem c e = tt
column_input G P loc.Size c e = tt
column_input G P loc.Host c e = tt

-- an input that is there has a column
input_column : (G P L : ℕ) (x : Loc) → IsInput P x → IsLoc G L x → (c : ℕ) × (column_number G P x ≡ Some c)
input_column G P L (loc.Local k) input ok = (3 + G + k, among_is (3 + G) P k input)
input_column G P L (loc.Global k) input ok = (3 + k, among_is 3 G k ok)
input_column G P L loc.Mem input ok = (0, refl)
input_column G P L loc.Size input ok = (1, refl)
input_column G P L loc.Host input ok = (2, refl)

-- ---- bits

-- the bits that a search by runs sets at the point where a body begins are what the search finds there
pub met_found : (t : Tables) (r : Runs) → Fits t → AreQuiet t → AreRuns t r → IsGraph t.cfg.now → (roots : List Root)
    → Adds (Begins t.numbering (First t)) [] roots → (met : SparseRows)
    → ((x o : ℕ) → o < t.numbering.globals + 5
    → HasBit met.words met.bits x o ↔ Reached (IsRootOf roots o) (PackedEdge (IsItem t.numbering) (item_number t.numbering) (Short t r)) x)
    → (node : Node) → number node < t.numbering.nodes → number node ≤ 1 → slice_get t.cfg.now.points 0 ≡ Some node
    → (globals params : ℕ) → t.numbering.globals ≡ globals → params ≤ t.numbering.locals
    → (o : Output) (x : Loc) → IsMet met t.numbering node globals params (3 + globals + params) o x ↔ IsFound t node globals params o x
met_found t r ok quiet runs graph roots adds met exact node within low begun globals params same few o x = (to, from)
  where
    told : (row column : ℕ) → row < 5 + globals → column_number globals params x ≡ Some column
        → HasBit met.words met.bits (item_number t.numbering (item.Needed x node)) row ↔ Reached (First t row) (Next t) (item.Needed x node)
    told row column lt c =
        let short = search_exact t ok t.numbering.some row r (order_of t r runs) roots adds met.words met.bits (λ y. exact y row (omega arith))
        (item.Needed x node)
        (entry_item t.numbering globals params node x column same few within c) in
        let all = short_met t r quiet runs graph (First t row) x node low begun in
        (λ bit. all.0 (short.0 bit), λ reached. short.1 (all.1 reached))

    to : IsMet met t.numbering node globals params (3 + globals + params) o x → IsFound t node globals params o x
    to (column, (lt, (row, (lt', (r, (c, bit)))))) = (row, (column, (r, (c, (told row column lt' c).0 bit))))

    from : IsFound t node globals params o x → IsMet met t.numbering node globals params (3 + globals + params) o x
    from (row, (column, (r, (c, reached)))) =
        let lt = row_within globals o row r in
        (column, (column_below globals params x column c, (row, (lt, (r, (c, (told row column lt c).1 reached))))))

-- ---- what a body leads to

module _ (m : Module) (f : ℕ) (t : Tables) (made : AreMade m f t) (is : body_of m f ≡ Some t.body.now) (W : Cover) (exact : IsExact m W) where
  abbrev code : Code
  code = code_of t.body.now.code

  abbrev results : ℕ
  results = length made.names.kind.results

  abbrev S : Sites
  S = body_sites (callees m) results (marked unwatched 0 code)

  abbrev ends : List EndAt
  ends = body_ends (callees m) results (marked unwatched 0 code)

  abbrev R : CallRows
  R = RowOf m (TableRows t.called.rows.now)

  abbrev begin : Node
  begin = first 0 (marked unwatched 0 code) Exit

  -- from the row of an output
  met_at : (o : Output) (row : ℕ) → row_number t.numbering.globals o ≡ Some row → (x : Loc)
      → Needed (bounds m W) R S ends o begin x ↔ Reached (First t row) (Next t) (item.Needed x begin)
  met_at o row r x = needed_met (bounds m W) R S ends made.names.types t (right m f t made W exact) o row r begin x

  led_at : (o : Output) (x : Loc)
      → LedTo (TableRows t.called.rows.now) (bounds m W) f o x ↔ (Needed (bounds m W) R S ends o begin x × IsInput (length made.names.kind.params) x)
  led_at o x = led_is (TableRows t.called.rows.now) (bounds m W) f made.names.kind t.body.now o x made.names.has_body.0 made.names.kind_is is

  -- what is found from the rows of known outputs is what they lead to
  pub found_led : (node : Node) → node ≡ first_of 0 (code_of t.body.now.code) Exit → (globals params : ℕ) → t.numbering.globals ≡ globals
      → params ≡ length made.names.kind.params → (o : Output) → IsKnown globals o → (x : Loc)
      → IsFound t node globals params o x ↔ LedTo (TableRows t.called.rows.now) (bounds m W) f o x
  found_led node node_is globals params same wide o known x = (to, from)
    where
      there : node ≡ begin
      there = node_is ∙ sym (first_marked unwatched code 0 Exit)

      to : IsFound t node globals params o x → LedTo (TableRows t.called.rows.now) (bounds m W) f o x
      to (row, (column, (r, (c, reached)))) =
          let r' : row_number t.numbering.globals o ≡ Some row = subst (λ g. row_number g o ≡ Some row) (sym same) r in
          let here : Reached (First t row) (Next t) (item.Needed x begin) =
          subst (λ (n : Node). Reached (First t row) (Next t) (item.Needed x n)) there reached in
          (led_at o x).1 ((met_at o row r' x).1 here, subst (λ p. IsInput p x) wide (column_input globals params x column c))

      from : LedTo (TableRows t.called.rows.now) (bounds m W) f o x → IsFound t node globals params o x
      from h =
          let n = (led_at o x).0 h in
          let row = value_of (row_number globals o) known in
          let r' : row_number t.numbering.globals o ≡ Some row.0 = subst (λ g. row_number g o ≡ Some row.0) (sym same) row.1 in
          let reached = (met_at o row.0 r' x).0 n.0 in
          let ok = reached_item t (fits m f t made) t.numbering.some row.0 (item.Needed x begin) reached in
          let input : IsInput params x = subst (λ p. IsInput p x) (sym wide) n.1 in
          let column = input_column globals params t.numbering.locals x input (subst (λ g. IsLoc g t.numbering.locals x) same ok.0) in
          (row.0, (column.0, (row.1, (column.1, subst (λ (k : Node). Reached (First t row.0) (Next t) (item.Needed x k)) (sym there) reached))))
