-- The slice of a function returns where the function does.
use Rattle.std.proofs.Common.{◌≡◌, ℕ, zero, suc, ◌+◌, ◌-◌, ◌≤◌, ◌<◌, ◌||◌, not, List, [], ◌∷◌, ◌++◌, true, false, Option, Some, None, nat_eq, nat_lt, if◌then◌else◌, length, slice_get, refl, sym, ap, ap₂, ◌∙◌, subst, arith, length-append, append_assoc}
use Rattle.wasm_types.specs.declared.module.ValType.{ValType}
use Rattle.wasm_types.specs.declared.module.FuncType.{FuncType}
use Rattle.wasm_types.specs.declared.module.Value.{Value}
use Rattle.wasm_types.specs.declared.module.Body.{Body}
use Rattle.wasm_types.specs.declared.module.Module.{Module}
use Rattle.wasm_types.specs.declared.instr.Instr.{Instr}
use Rattle.wasm_types.specs.declared.place.Part.TheVariants as part
use Rattle.wasm_types.specs.declared.place.Node.TheVariants.{Exit}
use Rattle.wasm_types.specs.declared.run.Event.{Event}
use Rattle.wasm_types.specs.Code.{code_of, list_of}
use Rattle.wasm_types.specs.Marked.{Marked, End, Do, Block, Loop, If, Br, BrIf, BrTable, Return, Unreachable, size, marked, unmarked, marks, watched_at}
use Rattle.wasm_types.specs.Spaces.{imported, func_import, import_count, func_types, type_numbered, type_of_func, body_of, run_types}
use Rattle.wasm_types.specs.Validity.{IsValid}
use Rattle.wasm_types.specs.Actions.{Callees, callees}
use Rattle.wasm_types.specs.Labels.{arity, body_label}
use Rattle.wasm_types.specs.Sites.{body_sites, body_ends}
use Rattle.wasm_types.specs.Funcs.{Func, func_from, func_of, text}
use Rattle.wasm_meaning.specs.State.{State}
use Rattle.wasm_meaning.specs.Fits.{Fits}
use Rattle.wasm_meaning.specs.Effects.{Fixed, fixed}
use Rattle.wasm_meaning.specs.Run.{Here, Run, run}
use Rattle.wasm_meaning.specs.Invoke.{entered, nested}
use Rattle.wasm_meaning.specs.Appended.{appended, AllOld}
use Rattle.wasm_meaning.proofs.Append.{old_leads, appended_keep}
use Rattle.flow_domain.specs.Bounds.{Cover, bounds}
use Rattle.flow_domain.specs.Heights.{Shaped}
use Rattle.flow_domain.specs.Presence.{HoldsNeeded}
use Rattle.flow_domain.specs.Rows.{RowOf, AnyRound}
use Rattle.flow_domain.specs.Sliced.{context_of, result_type, func_count, watched_once}
use Rattle.flow_laws.specs.Calls.{AnyInstr, ModuleOk, OpOk}
use Rattle.flow_laws.specs.Cutting.{NeedK, IsKept}
use Rattle.flow_laws.proofs.Following.{IsReturn, Follows, Cuts}
use Rattle.flow_laws.specs.Slices.{cut_at, cut_to, IsSliceOf, ReturnsToo, SliceReturns}
use Rattle.flow_laws.proofs.Starts.{some_func}
use Rattle.flow_laws.proofs.Sound.{table_fits}
use Rattle.flow_laws.proofs.Ends.{own_run}
use Rattle.flow_laws.proofs.Erase.{bare, bare_marked}
use Rattle.flow_laws.proofs.Invocations.{own_returns, returns_own}
use Rattle.flow_laws.proofs.Live.{among_live, live_stands}
use Rattle.flow_laws.proofs.CutCalls.{old_cut}
use Rattle.flow_laws.proofs.CutLaw.{Lawful, body_closed, live_cuts, live_cut, slice_follows}
use Rattle.flow_laws.proofs.Marks.{trues, one_mark, marked_again, cut_marks}
use Rattle.flow_laws.proofs.Once.{one_watched}
use Rattle.flow_laws.proofs.Plainly.{Plainly, leafy_code, leafy_of, code_back, by_kind, plainly_marked, plainly_cut}
use Rattle.flow_laws.proofs.ReachLaw.{shaped_more}

get_last : {A : Type 0} (xs : List A) (n : ℕ) (x : A) → n ≡ length xs → slice_get (xs ++ x ∷ []) n ≡ Some x
get_last [] zero x e = refl
get_last [] (suc n) x e = absurd (omega arith)
get_last (y ∷ xs) zero x e = absurd (omega arith)
get_last (y ∷ xs) (suc n) x e = get_last xs n x (omega arith)

arity_of : (xs : List ValType) → length xs ≤ 1 → arity (slice_get xs 0) ≡ length xs
arity_of [] le = refl
arity_of (x ∷ []) le = refl
arity_of (x ∷ y ∷ xs) le = absurd (omega arith)

lt_off : (x y : ℕ) → y ≤ x → nat_lt x y ≡ false
lt_off x y le = grind arith

lt_on : (x y : ℕ) → x < y → nat_lt x y ≡ true
lt_on x y lt = grind arith

minus_is : (x y z : ℕ) → x ≡ y + z → x - y ≡ z
minus_is x y z e = grind arith

get_behind : {A : Type 0} (xs ys : List A) (k : ℕ) → length xs ≤ k → slice_get (xs ++ ys) k ≡ slice_get ys (k - length xs)
get_behind [] ys k le = ap (slice_get ys) (minus_zero k)
  where
    minus_zero : (k : ℕ) → k ≡ k - 0
    minus_zero k = omega arith
get_behind (x ∷ xs) ys zero le = absurd (omega arith)
get_behind (x ∷ xs) ys (suc k) le = get_behind xs ys k (omega arith) ∙ ap (slice_get ys) (minus_suc k (length xs))
  where
    minus_suc : (a b : ℕ) → a - b ≡ suc a - suc b
    minus_suc a b = omega arith

get_below : {A : Type 0} (xs : List A) (k : ℕ) (x : A) → slice_get xs k ≡ Some x → k < length xs
get_below [] k x e = absurd cc
get_below (y ∷ xs) zero x e = omega arith
get_below (y ∷ xs) (suc k) x e = let a = get_below xs k x e in omega arith

below_sum : (x a b n : ℕ) → a ≤ x → x - a < b → n ≡ a + b → x < n
below_sum x a b n le lt e = omega arith

-- heights, with marks
shaped_marked : (cs : Callees) (X : Instr → Type 0) (c : Marked) (ls : List ℕ) (t n : ℕ) → Shaped cs X ls t (bare c) n → Shaped cs X ls t c n
shaped_marked cs X End ls t n s = s
shaped_marked cs X (Do m op rest) ls t n s = (s.0, s.1, s.2, shaped_marked cs X rest ls t _ s.3)
shaped_marked cs X (Block m k body rest) ls t n s = (shaped_marked cs X body _ (arity k) 0 s.0, shaped_marked cs X rest ls t _ s.1)
shaped_marked cs X (Loop m k body rest) ls t n s = (shaped_marked cs X body _ (arity k) 0 s.0, shaped_marked cs X rest ls t _ s.1)
shaped_marked cs X (If m k x y rest) ls t n s =
    (s.0, shaped_marked cs X x _ (arity k) 0 s.1, shaped_marked cs X y _ (arity k) 0 s.2, shaped_marked cs X rest ls t _ s.3)
shaped_marked cs X (Br m l rest) ls t n s = s
shaped_marked cs X (BrIf m l rest) ls t n s = (s.0, s.1, shaped_marked cs X rest ls t _ s.2)
shaped_marked cs X (BrTable m labels other rest) ls t n s = s
shaped_marked cs X (Return m rest) ls t n s = s
shaped_marked cs X (Unreachable m rest) ls t n s = s

module _ (m : Module) (W : Cover) (valid : IsValid m) (mok : ModuleOk (bounds m W)) (f i : ℕ) (new : Module) (at : ℕ) (sl : IsSliceOf m W f i new at)
    (args : List Value) (s : State) (fits : Fits m s) (depth : ℕ) where
  abbrev C : Callees
  C = callees m

  abbrev F0 : Func
  F0 = record { params = length sl.kind.params; results = length sl.kind.results; locals = run_types sl.body.locals; code = code_of sl.body.code }

  abbrev t : Option ValType
  t = result_type sl.kind

  abbrev c : Marked
  c = watched_once sl.body i

  abbrev k : Marked
  k = cut_at C sl.kept sl.present sl.types sl.kind sl.body i

  abbrev body1 : Body
  body1 = cut_to k sl.body

  abbrev m1 : Module
  m1 = appended m (sl.type ∷ []) (body1 ∷ []) sl.exports

  abbrev F1 : Func
  F1 = record { params = length sl.kind.params; results = length sl.kind.results; locals = run_types sl.body.locals; code = code_of (list_of (unmarked k)) }

  abbrev start : Here
  start = entered F0 args s

  abbrev Z : Fixed
  Z = fixed m s

  abbrev Z1 : Fixed
  Z1 = fixed m1 s

  abbrev first_run : Run
  first_run = run Z (nested Z depth) (arity t ∷ []) c start

  abbrev second_run : Run
  second_run = run Z1 (nested Z1 depth) (arity t ∷ []) k start

  types_long : length (func_types m) ≡ import_count m + length m.funcs
  types_long = length-append (imported func_import m.imports) m.funcs

  kind_before : type_of_func m f ≡ Some sl.kind
  kind_before = ap (type_numbered m.types) (get_behind (imported func_import m.imports) m.funcs f sl.own.0 ∙ sl.own.1) ∙ sl.kind_is

  body_before : body_of m f ≡ Some sl.body
  body_before =
      let l = get_below m.funcs (f - import_count m) sl.type sl.own.1 in
      let le = sl.own.0 in
      ap (λ z. if z || not (nat_lt f (length (func_types m))) then None else slice_get m.bodies (f - import_count m)) (lt_off f (import_count m) le)
      ∙ ap (λ z. if false || not z then None else slice_get m.bodies (f - import_count m))
      (lt_on f (length (func_types m)) (below_sum f (import_count m) (length m.funcs) (length (func_types m)) le l types_long))
      ∙ sl.has_body.1

  func_before : func_of m f ≡ Some F0
  func_before = ap₂ {A = Option FuncType} {B = Option Body} func_from kind_before body_before

  types_are : func_types m1 ≡ func_types m ++ sl.type ∷ []
  types_are = sym (append_assoc (imported func_import m.imports) m.funcs (sl.type ∷ []))

  func_after : func_of m1 (func_count m) ≡ Some F1
  func_after =
      let l = types_long in
      let b = valid.0.same in
      let count : func_count m ≡ import_count m + length m.bodies = omega arith in
      let more : length (func_types m1) ≡ func_count m + 1 = ap length types_are ∙ length-append (func_types m) (sl.type ∷ []) in
      let kind : type_of_func m1 (func_count m) ≡ Some sl.kind =
      ap (type_numbered m.types) (ap (λ z. slice_get z (func_count m)) types_are ∙ get_last (func_types m) (func_count m) sl.type refl) ∙ sl.kind_is in
      let body : body_of m1 (func_count m) ≡ Some body1 =
      ap (λ z. if z || not (nat_lt (func_count m) (length (func_types m1))) then None else slice_get (m.bodies ++ body1 ∷ []) (func_count m - import_count m))
      (lt_off (func_count m) (import_count m) (omega arith))
      ∙ ap (λ z. if false || not z then None else slice_get (m.bodies ++ body1 ∷ []) (func_count m - import_count m))
      (lt_on (func_count m) (length (func_types m1)) (omega arith))
      ∙ get_last m.bodies (func_count m - import_count m) body1 (minus_is (func_count m) (import_count m) (length m.bodies) count) in
      ap₂ {A = Option FuncType} {B = Option Body} func_from kind body

  arity_is : arity t ≡ length sl.kind.results
  arity_is = arity_of sl.kind.results (mok.small f F0 func_before)

  -- heights do not depend on marks
  heights : Shaped C AnyInstr (arity t ∷ []) (arity t) c 0
  heights =
      let a = mok.shaped f F0 func_before in
      let b = shaped_more C (OpOk (bounds m W) f) AnyInstr (text F0) (F0.results ∷ []) F0.results 0 (λ op l. tt) a in
      subst (λ z. Shaped C AnyInstr (z ∷ []) z c 0) (sym arity_is)
      (shaped_marked C AnyInstr c (F0.results ∷ []) F0.results 0
      (subst (λ z. Shaped C AnyInstr (F0.results ∷ []) F0.results z 0) (sym (bare_marked (nat_eq i) (code_of sl.body.code) 0)) b))

  cuts : Cuts (bounds m W) t c sl.kept sl.makers sl.present
  cuts = record {
    shaped = heights;
    kept = subst (λ z. IsKept (bounds m W) (RowOf m (AnyRound (bounds m W))) (body_sites C z c) (body_ends C z c) sl.kept sl.makers) (sym arity_is) sl.rules;
    shown = subst (λ z. HoldsNeeded C (body_sites C z c) (body_ends C z c) sl.kept sl.present) (sym arity_is) sl.holds;
  }

  -- the code calls functions of the module, and so does its cut
  old : AllOld m k
  old =
      old_cut m sl.kept sl.present sl.types c t 0 []
      (old_leads (context_of m sl.kind sl.body) (sl.kind.results ∷ []) (code_of sl.body.code) [] sl.kind.results
      (valid.1 (part.FuncAt f) sl.kind sl.body kind_before sl.has_body) (nat_eq i) 0)

  plainly : Plainly k
  plainly = plainly_cut C sl.kept sl.present sl.types c t 0 [] (plainly_marked (nat_eq i) (code_of sl.body.code) 0 (leafy_code sl.body.code))

  -- the criterion is watched in the cut
  mark : trues (marks k) ≡ 1
  mark =
      let S = body_sites C (arity t) c in
      let K = among_live S sl.kept in
      let M = among_live S sl.makers in
      ap (λ z. trues (marks z)) (sym (live_cut C t c sl.kept sl.present sl.types))
      ∙ cut_marks Z W (Lawful (bounds m W) (AnyRound (bounds m W))) K M sl.present sl.types (NeedK (bounds m W) (RowOf m (AnyRound (bounds m W))) S K M) c
      (body_label (arity t) (size c) ∷ []) true Exit t 0 []
      (body_closed Z W (record { module_ok = mok; fits = table_fits m s fits }) t c K M sl.present (live_cuts (bounds m W) t c sl.kept sl.makers sl.present cuts) (live_stands S sl.kept))
      ∙ one_watched C (length sl.kind.results) sl.body i sl.site sl.live

  -- the cut watched at the new position is the cut of the code watched at the old one
  carried_along : marked (nat_eq (watched_at k)) 0 (code_of (list_of (unmarked k))) ≡ k
  carried_along =
      ap (λ z. marked (nat_eq (watched_at k)) 0 z) (code_back (unmarked k) (leafy_of k plainly))
      ∙ marked_again (nat_eq (watched_at k)) k 0 (by_kind k plainly) (one_mark 0 (watched_at k) (marks k) mark (omega arith))

  before_is : own_run m depth (nat_eq i) F0 args s ≡ first_run
  before_is = ap (λ z. run Z (nested Z depth) (z ∷ []) c start) (sym arity_is)

  after_is : own_run m1 depth (nat_eq (watched_at k)) F1 args s ≡ second_run
  after_is =
      ap (λ z. run Z1 (nested Z1 depth) (length sl.kind.results ∷ []) z start) carried_along
      ∙ ap (λ z. run Z1 (nested Z1 depth) (z ∷ []) k start) (sym arity_is)

  follows_there : IsReturn first_run.outcome → Follows first_run second_run
  follows_there ret =
      let there = (appended_keep m valid (sl.type ∷ []) (body1 ∷ []) sl.exports sl.only s fits).runs depth (arity t ∷ []) k old start in
      subst (λ z. Follows first_run z) (sym there) (slice_follows m W mok t c sl.kept sl.makers sl.present sl.types cuts s fits depth start refl ret)

  both_return : IsReturn (own_run m depth (nat_eq i) F0 args s).outcome
      → Follows (own_run m depth (nat_eq i) F0 args s) (own_run m1 depth (nat_eq (watched_at k)) F1 args s)
  both_return ret =
      subst (λ z. Follows (own_run m depth (nat_eq i) F0 args s) z) (sym after_is) (subst (λ z. Follows z second_run) (sym before_is)
      (follows_there (subst (λ z. IsReturn z.outcome) before_is ret)))

  pub returns_too : (n : ℕ) (results : List Value) (last : State) (events : List Event) → (func : Func) → func_of m f ≡ Some func
      → IsReturn (own_run m depth (nat_eq i) func args s).outcome → (own_run m depth (nat_eq i) func args s).there.store.state ≡ last
      → (own_run m depth (nat_eq i) func args s).events ≡ events → last.turns ≤ s.turns + n → ReturnsToo m1 (func_count m) (watched_at k) args s n last events
  returns_too n results last events func is ret fin ev turns =
      let same : F0 ≡ func = some_func F0 func (sym func_before ∙ is) in
      let before = own_run m depth (nat_eq i) F0 args s in
      let after = own_run m1 depth (nat_eq (watched_at k)) F1 args s in
      let fo = both_return (subst (λ z. IsReturn (own_run m depth (nat_eq i) z args s).outcome) (sym same) ret) in
      let fin1 : before.there.store.state.turns ≡ last.turns =
      ap (λ z. (own_run m depth (nat_eq i) z args s).there.store.state.turns) same ∙ ap (λ z. z.turns) fin in
      let ev1 : before.events ≡ events = ap (λ z. (own_run m depth (nat_eq i) z args s).events) same ∙ ev in
      let le : after.there.store.state.turns ≤ before.there.store.state.turns = fo.turns in
      record {
        results = after.there.stack;
        final = after.there.store.state;
        returns =
            returns_own m1 (func_count m) (watched_at k) args s n after.there.stack after.there.store.state events
            (record { func = F1; is = func_after; depth = depth; returns = fo.returns; gives = refl; ends = refl; shows = fo.events ∙ ev1; turns = omega arith });
        turns = omega arith;
      }

  pub own_func : func_of m f ≡ Some F0
  own_func = func_before

pub slice_returns : SliceReturns
slice_returns m W valid mok f i new at sl args s fits n results last events r0 =
    let r = own_returns m f i _ args s n results last events (own_func m W valid mok f i new at sl args s fits 0) r0 in
    subst (λ z. ReturnsToo z (func_count m) at args s n last events) (sym sl.is)
    (subst (λ z. ReturnsToo (appended m (sl.type ∷ []) (cut_to (cut_at (callees m) sl.kept sl.present sl.types sl.kind sl.body i) sl.body ∷ []) sl.exports) (func_count m) z args s n last events) (sym sl.at_is)
    (returns_too m W valid mok f i new at sl args s fits r.depth n results last events r.func r.is r.returns r.ends r.shows r.turns))
