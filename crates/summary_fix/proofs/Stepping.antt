-- Rows that are added are rows of rounds, and where no rows are to be added all rounds' are there.
use Rattle.std.proofs.Common.{◌≡◌, ◌↔◌, ℕ, zero, suc, ◌<◌, ◌≤◌, ◌⊎◌, inl, inr, ⊎_elim, List, Bool, true, false, Option, Some, None, IsSome, length, get_or}
use Rattle.std.proofs.Common.{slice_get, refl, sym, ◌∙◌, subst, arith, length-append}
use Rattle.std.specs.List.{Contains}
use Rattle.std.proofs.lemmas.Option.{slice_get_within, slice_get-get_or}
use Rattle.wasm_types.specs.declared.module.FuncType.{FuncType}
use Rattle.wasm_types.specs.declared.module.Module.{Module}
use Rattle.wasm_types.specs.declared.place.Loc.{Loc}
use Rattle.wasm_types.specs.declared.instr.Instr.{Instr}
use Rattle.wasm_types.specs.Actions.{Callee, Own, Through}
use Rattle.wasm_types.specs.Funcs.{Func, func_of, text}
use Rattle.wasm_types.specs.Nodes.{At}
use Rattle.wasm_types.specs.Spaces.{func_types, func_import, imported, globals_of, import_count, type_of_func, body_of}
use Rattle.wasm_types.specs.Subset.{HasNoFloat}
use Rattle.wasm_types.specs.Validity.{IsValid}
use Rattle.flow_domain.specs.Bounds.{Cover, Bounds, bounds, called}
use Rattle.worklist.specs.Search.{IsMarked}
use Rattle.flow_domain.specs.Reach.{CallsFunc, LiveIn, Reached, itself, after_call}
use Rattle.flow_domain.specs.Rows.{Output, Rows, RowOf, Makes, LedTo, by_code, by_host, Dep, AnyRound, ImportRows, Target, TargetRow, func_sites}
use Rattle.flow_domain.specs.Summaries.{IsSet, row_number, column_number, HasInput, IsKnown, IsMerged, IsShape, IsTableOf, TableRows}
use Rattle.flow_domain.specs.Touch.{IsExact}
use Rattle.flow_domain.specs.declared.summary.Summary.{Summary}
use Rattle.flow_domain.specs.declared.summary_table.SummaryTable.{SummaryTable}
use Rattle.call_graph.specs.Graph.{CallsNumber}
use Rattle.call_graph.proofs.Calling.{after_calls}
use Rattle.called_rows.specs.Funcs.{AnyOf}
use Rattle.flow_laws.proofs.Sound.{any_round_holds}
use Rattle.summary_fix.specs.declared.rounds.Growth.{Growth}
use Rattle.summary_fix.specs.Settled.{IsApart, IsClosed, IsSound, IsFull}
use Rattle.summary_fix.specs.TwoRuns.{CallsLead, IsLeastFrom, IsLeastTable}
use Rattle.summary_fix.proofs.Between.{led_asks, ledto_between}
use Rattle.summary_fix.proofs.LiveSites.{IsCalled, live_calls, live_number, site_calls, site_live}
use Rattle.summary_fix.proofs.Known.{asked_known}
use Rattle.summary_fix.proofs.Owned.{value_of, body_at, own_typed, parts, host_parts}

either : (b : Bool) → (b ≡ true) ⊎ (b ≡ false)
either true = inl refl
either false = inr refl

set_known : (words : ℕ) (bits : List ℕ) (row column : Option ℕ) → IsSet words bits row column → IsSome row
set_known words bits (Some r) c h = refl
set_known words bits None c h = absurd h

-- outputs that have rows are known
pub has_known : (G : ℕ) (s : Summary) → s.globals ≡ G → (o : Output) (x : Loc) → HasInput s o x → IsKnown G o
has_known G s e o x h = subst (λ n. IsKnown n o) e (set_known _ s.bits.items (row_number s.globals o) (column_number s.globals s.params x) h)

-- ---- more rows

callee_more : (m : Module) (R Q : Rows) (out : Output) (x : Loc) → ((h : ℕ) → R h out x → Q h out x) → (g : Callee) → RowOf m R g out x → RowOf m Q g out x
callee_more m R Q out x more (Own f) row = more f row
callee_more m R Q out x more (Through t n) (inl i) = inl i
callee_more m R Q out x more (Through t n) (inr row) = inr (row.0, row.1, more row.0 row.2)

-- the same of those that are called
pub callee_more_of : (m : Module) (R Q : Rows) (out : Output) (x : Loc) (g : Callee) → ((h : ℕ) → IsCalled m g h → R h out x → Q h out x) → RowOf m R g out x
    → RowOf m Q g out x
callee_more_of m R Q out x (Own f) more row = more f refl row
callee_more_of m R Q out x (Through t n) more (inl i) = inl i
callee_more_of m R Q out x (Through t n) more (inr row) = inr (row.0, row.1, more row.0 row.1 row.2)

-- one round over rows of rounds gives rows of a round
pub round_sound : (B : Bounds) (R : Rows) → ((f : ℕ) (o : Output) (x : Loc) → R f o x → AnyRound B f o x) → (f : ℕ) (o : Output) (x : Loc)
    → LedTo R B f o x → AnyRound B f o x
round_sound B R within f o x led =
    any_round_holds B f o x
    (ledto_between B R (AnyRound B) f o x (λ F is p s op g out y site head called asked row. callee_more B.m R (AnyRound B) out y (λ h r. within h out y r) g row)
    led)

-- what is led to stays so where what its live calls ask for does
pub local : (B : Bounds) (R Q : Rows) (f : ℕ)
    → ((F : Func) (op : Instr) (g : Callee) → func_of B.m f ≡ Some F → LiveIn op (text F) → called B op ≡ Some g → (out : Output) (y : Loc) → RowOf B.m R g out y
    → RowOf B.m Q g out y)
    → (o : Output) (x : Loc) → LedTo R B f o x → LedTo Q B f o x
local B R Q f more o x led =
    ledto_between B R Q f o x (λ F is p s op g out y site head called asked row. more F op g is (site_live B F p s op site head) called out y row) led

-- ---- one function's rows are added to

module _ (m : Module) (t u : SummaryTable) (func : ℕ) (s : Summary) (merged : IsMerged func s t u) where
  -- what is added is led to by the rows that there are
  rounds_more : IsSound m t → ((W : Cover) → IsExact m W → (o : Output) (x : Loc) → HasInput s o x → LedTo (TableRows t) (bounds m W) func o x)
      → (W : Cover) → IsExact m W → (f : ℕ) (o : Output) (x : Loc) → TableRows u f o x → AnyRound (bounds m W) f o x
  rounds_more sound made W exact f o x row = ⊎_elim
      (λ old. sound.rounds W exact f o x old)
      (λ (e, h). subst (λ n. AnyRound (bounds m W) n o x) (sym e)
      (round_sound (bounds m W) (TableRows t) (sound.rounds W exact) func o x (made W exact o x h)))
      ((merged.rows f o x).0 row)

  module _ (grew : Growth) (same : grew.rows ≡ false → (o : Output) (x : Loc) → HasInput s o x → TableRows t func o x)
      (had : grew.rows ≡ true → grew.class ≡ false → (k : ℕ) → Target m k func → (o : Output) (x : Loc) → HasInput s o x → TargetRow m (TableRows t) k o x) where
    number_back : (f h : ℕ) → IsApart m grew f func → CallsNumber m f h → (out : Output) (y : Loc) → TableRows u h out y → TableRows t h out y
    number_back f h apart calls out y row = ⊎_elim
        (λ old. old)
        (λ (e, has). ⊎_elim
        (λ on. absurd (apart.0 on (subst (CallsNumber m f) e calls)))
        (λ off. subst (λ n. TableRows t n out y) (sym e) (same off out y has))
        (either grew.rows))
        ((merged.rows h out y).0 row)

    through_back : (f k h : ℕ) → IsApart m grew f func → CallsFunc m f h → Target m k h → (out : Output) (y : Loc) → TableRows u h out y
        → TargetRow m (TableRows t) k out y
    through_back f k h apart calls target out y row = ⊎_elim
        (λ old. (h, target, old))
        (λ (e, has). ⊎_elim
        (λ on. ⊎_elim
        (λ wide. absurd (apart.1 wide (subst (CallsFunc m f) e calls)))
        (λ narrow. had on narrow k (subst (Target m k) e target) out y has)
        (either grew.class))
        (λ off. (h, target, subst (λ n. TableRows t n out y) (sym e) (same off out y has)))
        (either grew.rows))
        ((merged.rows h out y).0 row)

    -- what a live call of a function that stands apart asks for was there before
    back : (W : Cover) (f : ℕ) → IsApart m grew f func → (F : Func) (op : Instr) (g : Callee) → func_of m f ≡ Some F → LiveIn op (text F)
        → called (bounds m W) op ≡ Some g → (out : Output) (y : Loc) → RowOf m (TableRows u) g out y → RowOf m (TableRows t) g out y
    back W f apart F op (Own h) is live calls out y row = number_back f h apart (live_number (bounds m W) f F op h is live calls) out y row
    back W f apart F op (Through k n) is live calls out y (inl i) = inl i
    back W f apart F op (Through k n) is live calls out y (inr (h, target, row)) =
        inr (through_back f k h apart (live_calls (bounds m W) f F op (Through k n) is live calls h target) target out y row)

    -- full functions that stand apart stay full
    pub full_more : (f : ℕ) → IsFull m t f → IsApart m grew f func → IsFull m u f
    full_more f full apart = record {
      has = λ W exact o x known led.
          (merged.rows f o x).1 (inl (full.has W exact o x known (local (bounds m W) (TableRows u) (TableRows t) f (back W f apart) o x led)));
    }

    -- the function itself is full where it has all that was led to, unless it calls itself and something is new
    pub full_made : ((W : Cover) → IsExact m W → (o : Output) (x : Loc) → IsKnown (length (globals_of m)) o → LedTo (TableRows t) (bounds m W) func o x → HasInput s o x)
        → IsApart m grew func func → IsFull m u func
    full_made made apart = record {
      has = λ W exact o x known led.
          (merged.rows func o x).1 (inr (refl, made W exact o x known (local (bounds m W) (TableRows u) (TableRows t) func (back W func apart) o x led)));
    }

  table_more : IsTableOf m t → import_count m ≤ func → IsTableOf m u
  table_more is own = record {
    long = merged.long ∙ is.long;
    shapes = shape;
    imports = λ f o x lt known. (
      λ row. ⊎_elim (λ old. (is.imports f o x lt known).0 old) (λ (e, h). absurd (omega arith)) ((merged.rows f o x).0 row),
      λ row. (merged.rows f o x).1 (inl ((is.imports f o x lt known).1 row)),
    );
  }
    where
      shape : (f : ℕ) (kind : FuncType) (b : Summary) → type_of_func m f ≡ Some kind → slice_get u.rows.items f ≡ Some b
          → IsShape (length (globals_of m)) (length kind.params) b
      shape f kind b typed at =
          let within = slice_get_within u.rows.items f b at in
          let long = merged.long in
          let a = get_or t.rows.items f b in
          let there : slice_get t.rows.items f ≡ Some a = slice_get-get_or t.rows.items f b (omega arith) in
          let old = is.shapes f kind a typed there in
          let same = merged.shapes f a b there at in
          record { globals_is = same.globals_is ∙ old.globals_is; params_is = same.params_is ∙ old.params_is }

  pub sound_more : IsSound m t → import_count m ≤ func
      → ((W : Cover) → IsExact m W → (o : Output) (x : Loc) → HasInput s o x → LedTo (TableRows t) (bounds m W) func o x) → IsSound m u
  sound_more sound own made = record { sealed = sound.sealed; table = table_more sound.table own; rounds = rounds_more sound made }

pub own_type : (m : Module) (t : SummaryTable) → IsSound m t → (func : ℕ) → IsSome (body_of m func) → (kind : FuncType) × (type_of_func m func ≡ Some kind)
own_type m t sound func has =
    let b = value_of (body_of m func) has in
    let at = body_at m func b.0 b.1 in
    own_typed m sound.sealed.valid func at.own at.within

-- what rows are added to a function has the shape of its summary
pub rows_shape : (m : Module) (t : SummaryTable) → IsSound m t → (func : ℕ) → IsSome (body_of m func) → (s : Summary)
    → ((kind : FuncType) → type_of_func m func ≡ Some kind → IsShape (length (globals_of m)) (length kind.params) s) → (a : Summary)
    → slice_get t.rows.items func ≡ Some a → IsShape a.globals a.params s
rows_shape m t sound func has s shape a here =
    let typed = own_type m t sound func has in
    let old = sound.table.shapes func typed.0 a typed.1 here in
    let new = shape typed.0 typed.1 in
    record { globals_is = new.globals_is ∙ sym old.globals_is; params_is = new.params_is ∙ sym old.params_is }

pub rows_globals : (m : Module) (t : SummaryTable) → IsSound m t → (func : ℕ) → IsSome (body_of m func) → (s : Summary)
    → ((kind : FuncType) → type_of_func m func ≡ Some kind → IsShape (length (globals_of m)) (length kind.params) s) → s.globals ≡ length (globals_of m)
rows_globals m t sound func has s shape = let typed = own_type m t sound func has in (shape typed.0 typed.1).globals_is

-- functions without a body have all their rows from the start
pub imported_full : (m : Module) (t : SummaryTable) → IsTableOf m t → (f : ℕ) → body_of m f ≡ None → IsFull m t f
imported_full m t is f none = record { has = go }
  where
    go : (W : Cover) → IsExact m W → (o : Output) (x : Loc) → IsKnown (length (globals_of m)) o → LedTo (TableRows t) (bounds m W) f o x → TableRows t f o x
    go W exact o x known (by_code F own needed input) =
        let p = parts m f F own in let wrong : None ≡ Some p.body = sym none ∙ p.body_is in absurd cc
    go W exact o x known (by_host row) = (is.imports f o x (host_parts m f row.0 row.1).imported known).1 row

-- ---- the end

module _ (m : Module) (valid : IsValid m) (integer : HasNoFloat m) (t : SummaryTable) (sound : IsSound m t) (Wanted : ℕ → Type 0) (closed : IsClosed m Wanted)
    (full : (f : ℕ) → f < length (func_types m) → Wanted f → IsFull m t f) (W : Cover) (exact : IsExact m W) where
  is_function : (R : Rows) (f : ℕ) (o : Output) (x : Loc) → LedTo R (bounds m W) f o x → f < length (func_types m)
  is_function R f o x (by_code F is needed input) = (parts m f F is).within
  is_function R f o x (by_host row) =
      let lt = (host_parts m f row.0 row.1).imported in let long = length-append (imported func_import m.imports) m.funcs in omega arith

  -- only known outputs of functions that are called are asked for
  known_only : (R : Rows) (f : ℕ) → ((h : ℕ) (out : Output) (y : Loc) → CallsFunc m f h → IsKnown (length (globals_of m)) out → R h out y → TableRows t h out y)
      → (o : Output) (x : Loc) → LedTo R (bounds m W) f o x → LedTo (TableRows t) (bounds m W) f o x
  known_only R f more o x led =
      ledto_between (bounds m W) R (TableRows t) f o x
      (λ F is p s op g out y site head called asked row.
      callee_more_of m R (TableRows t) out y g
      (λ h callee r. more h out y (site_calls (bounds m W) f F p s op g is site head called h callee)
      (asked_known m valid integer W exact.writes (func_sites (bounds m W) F) p s op g out site head called
      (led_asks (bounds m W) _ _ _ o (Makes (At p) out) asked))
      r)
      row)
      led

  step : (R : Rows) → ((h : ℕ) (out : Output) (y : Loc) → R h out y → h < length (func_types m))
      → ((h : ℕ) (out : Output) (y : Loc) → Wanted h → IsKnown (length (globals_of m)) out → R h out y → TableRows t h out y) → (f : ℕ) → Wanted f
      → (o : Output) (x : Loc) → IsKnown (length (globals_of m)) o → LedTo R (bounds m W) f o x → TableRows t f o x
  step R there more f want o x known led =
      (full f (is_function R f o x led) want).has W exact o x known
      (known_only R f (λ h out y calls k row. more h out y (closed f h want calls (there h out y row)) k row) o x led)

  dep_function : (n f : ℕ) (o : Output) (x : Loc) → Dep (bounds m W) n f o x → f < length (func_types m)
  dep_function zero f o x led = is_function (ImportRows m) f o x led
  dep_function (suc n) f o x led = is_function (Dep (bounds m W) n) f o x led

  import_function : (f : ℕ) (o : Output) (x : Loc) → ImportRows m f o x → f < length (func_types m)
  import_function f o x row =
      let lt = (host_parts m f row.0 row.1).imported in let long = length-append (imported func_import m.imports) m.funcs in omega arith

  rounds_within : (n f : ℕ) → Wanted f → (o : Output) (x : Loc) → IsKnown (length (globals_of m)) o → Dep (bounds m W) n f o x → TableRows t f o x
  rounds_within zero f want o x known led =
      step (ImportRows m) import_function (λ h out y w k row. (sound.table.imports h out y (host_parts m h row.0 row.1).imported k).1 row) f want o x known led
  rounds_within (suc n) f want o x known led =
      step (Dep (bounds m W) n) (dep_function n) (λ h out y w k row. rounds_within n h w out y k row) f want o x known led

  pub least_wanted : (f : ℕ) (o : Output) (x : Loc) → Wanted f → IsKnown (length (globals_of m)) o → TableRows t f o x ↔ AnyRound (bounds m W) f o x
  least_wanted f o x want known = (sound.rounds W exact f o x, λ row. rounds_within row.0 f want o x known row.1)

pub least_table : (m : Module) → IsValid m → HasNoFloat m → (t : SummaryTable) → IsSound m t → ((f : ℕ) → f < length (func_types m) → IsFull m t f)
    → IsLeastTable m t
least_table m valid integer t sound full W exact f o x known =
    least_wanted m valid integer t sound (λ h. Unit {0}) (λ h k want calls fn. tt) (λ h lt want. full h lt) W exact f o x tt known

-- ---- from one function on

-- where calls lead back, one of the callers is led to
pub led_back : (m : Module) (f : ℕ) (callers : List ℕ) → ((g : ℕ) → CallsFunc m g f → Contains callers g) → ((g : ℕ) → Contains callers g → CallsFunc m g f)
    → AnyOf callers (λ g. Reached m f g) ↔ CallsLead m f f
led_back m f callers all only = (
  λ (g, (there, rest)). first f g f rest (only g there),
  λ (g, (calls, rest)). let w = last f g f calls rest in (w.0, (all w.0 w.1.1, w.1.0)),
)
  where
    last : (k g h : ℕ) → CallsFunc m k g → Reached m g h → (w : ℕ) × (Reached m k w × CallsFunc m w h)
    last k g _ calls itself = (k, (itself, calls))
    last k g h calls (after_call n next rest) = let w = last g n h next rest in (w.0, (after_call g calls w.1.0, w.1.1))

    first : (k g h : ℕ) → Reached m k g → CallsFunc m g h → CallsLead m k h
    first k _ h itself calls = (h, (calls, itself))
    first k g h (after_call n next rest) calls = (n, (next, after_calls m n g h rest calls))

-- where calls lead to another function
pub led_elsewhere : (m : Module) (f g : ℕ) → (g ≡ f → ⊥) → Reached m f g ↔ CallsLead m f g
led_elsewhere m f g other = (go f other, λ (h, (calls, rest)). after_call h calls rest)
  where
    go : (k : ℕ) → (g ≡ k → ⊥) → Reached m k g → CallsLead m k g
    go _ other itself = absurd (other refl)
    go k other (after_call h calls rest) = (h, (calls, rest))

-- the functions that calls lead to, by marks
pub least_from : (m : Module) → IsValid m → HasNoFloat m → (t : SummaryTable) → IsSound m t → (root : ℕ) (marks : List Bool)
    → ((f : ℕ) → f < length (func_types m) → IsMarked marks f ↔ CallsLead m root f) → ((f : ℕ) → f < length (func_types m) → IsMarked marks f → IsFull m t f)
    → IsLeastFrom m root t
least_from m valid integer t sound root marks exact full W cover f o x fn leads known =
    least_wanted m valid integer t sound (CallsLead m root) (λ g h here calls there. (here.0, (here.1.0, after_calls m here.0 g h here.1.1 calls)))
    (λ g lt here. full g lt ((exact g lt).1 here)) W cover f o x leads known
