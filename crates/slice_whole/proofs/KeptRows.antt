-- The kept set by a table of the functions that calls lead to is the kept set: kept calls ask for known outputs of these functions alone.
use Rattle.std.proofs.Common.{◌≡◌, ℕ, zero, suc, ◌+◌, ◌<◌, ⊎_elim, inl, inr, List, Bool, Option, Some, length, nat_eq, ap₂, arith, length-append}
use Rattle.std.proofs.lemmas.Option.{slice_get_within}
use Rattle.wasm_types.specs.declared.instr.Instr.{Instr}
use Rattle.wasm_types.specs.declared.instr.Instr as instr
use Rattle.wasm_types.specs.declared.module.FuncType.{FuncType}
use Rattle.wasm_types.specs.declared.module.Body.{Body}
use Rattle.wasm_types.specs.declared.module.Module.{Module}
use Rattle.wasm_types.specs.declared.place.Loc.{Loc}
use Rattle.wasm_types.specs.declared.place.Node.{Node}
use Rattle.wasm_types.specs.Actions.{Callee, callees}
use Rattle.wasm_types.specs.Code.{Code, code_of, done, one, block, repeat, branch, count}
use Rattle.wasm_types.specs.Funcs.{Func, func_from, func_of, unwatched}
use Rattle.wasm_types.specs.Marked.{Marked, marked, plain}
use Rattle.wasm_types.specs.Nodes.{At}
use Rattle.wasm_types.specs.Sites.{DoHead, Site, Sites, IsSite, EndAt}
use Rattle.wasm_types.specs.Spaces.{body_of, func_import, func_types, globals_of, imported, run_types, type_of_func, HasBody}
use Rattle.wasm_types.specs.Subset.{IsSealed}
use Rattle.flow_domain.specs.declared.summary_table.SummaryTable.{SummaryTable}
use Rattle.flow_domain.specs.Bounds.{Bounds, Cover, bounds, called}
use Rattle.flow_domain.specs.Kept.{Tells, KeptItem}
use Rattle.flow_domain.specs.KeptSets.{KeptSet, holds}
use Rattle.flow_domain.specs.Reach.{LiveIn, itself}
use Rattle.flow_domain.specs.Rows.{AnyRound, CallRows, Dep, Done, Final, ImportRows, Item, LedTo, Makes, Output, Ret, RowOf, Rows, by_code, by_host}
use Rattle.flow_domain.specs.Sliced.{ends_at, sites_at, watched_once, KeptIn, MadeIn}
use Rattle.flow_domain.specs.Summaries.{IsKnown, IsTableOf, TableRows}
use Rattle.flow_domain.specs.Touch.{IsExact}
use Rattle.flow_domain.proofs.KeptBetween as between
use Rattle.flow_domain.proofs.KeptBetween.{KeptAsksWithin, kept_asks, kept_between}
use Rattle.slice_closure.specs.Answer.{KeptBy, MadeBy, TellsKept, TellsMade}
use Rattle.summary_fix.specs.TwoRuns.{CallsLead, HasExactCover, IsLeastFrom}
use Rattle.summary_fix.proofs.Known as known
use Rattle.summary_fix.proofs.Known.{asked_known}
use Rattle.summary_fix.proofs.LiveSites.{IsCalled, body_live, live_calls}
use Rattle.summary_fix.proofs.Owned.{host_parts, parts}
use Rattle.summary_fix.proofs.Stepping.{callee_more_of}
use Rattle.slice_whole.specs.Slices.{IsKeptOf, KeepsIn}
use Rattle.slice_whole.proofs.Refused.{body_told}

-- ---- what is live doesn't depend on what is watched

live_plain : (op o : Instr) (a b : Bool) (r s : Marked) → (LiveIn op r → LiveIn op s) → LiveIn op (plain a o r) → LiveIn op (plain b o s)
live_plain op (instr.Br label) a b r s more live = live
live_plain op (instr.BrIf label) a b r s more live = more live
live_plain op (instr.BrTable labels other) a b r s more live = live
live_plain op instr.Return a b r s more live = live
live_plain op instr.Unreachable a b r s more live = live
live_plain op _ a b r s more live = ⊎_elim inl (λ later. inr (more later)) live

live_again : (op : Instr) (w v : ℕ → Bool) (code : Code) (p : ℕ) → LiveIn op (marked w p code) → LiveIn op (marked v p code)
live_again op w v done p live = live
live_again op w v (one o rest) p live = live_plain op o (w p) (v p) _ _ (λ l. live_again op w v rest (p + 1) l) live
live_again op w v (block kind body rest) p live = ⊎_elim
    (λ l. inl (live_again op w v body (p + 1) l))
    (λ l. inr (live_again op w v rest (p + 1 + count body) l))
    live
live_again op w v (repeat kind body rest) p live = ⊎_elim
    (λ l. inl (live_again op w v body (p + 1) l))
    (λ l. inr (live_again op w v rest (p + 1 + count body) l))
    live
live_again op w v (branch kind first second rest) p live = ⊎_elim
    (λ l. inl (live_again op w v first (p + 1) l))
    (λ l. inr (⊎_elim
    (λ k. inl (live_again op w v second (p + 1 + count first) k))
    (λ k. inr (live_again op w v rest (p + 1 + count first + count second) k))
    l))
    live

-- ---- functions that have rows

led_function : (B : Bounds) (R : Rows) (f : ℕ) (o : Output) (x : Loc) → LedTo R B f o x → f < length (func_types B.m)
led_function B R f o x (by_code F is needed input) = (parts B.m f F is).within
led_function B R f o x (by_host row) =
    let lt = (host_parts B.m f row.0 row.1).imported in let long = length-append (imported func_import B.m.imports) B.m.funcs in omega arith

round_function : (B : Bounds) (n f : ℕ) (o : Output) (x : Loc) → Dep B n f o x → f < length (func_types B.m)
round_function B zero f o x led = led_function B (ImportRows B.m) f o x led
round_function B (suc n) f o x led = led_function B (Dep B n) f o x led

table_function : (m : Module) (t : SummaryTable) → IsTableOf m t → (f : ℕ) (o : Output) (x : Loc) → TableRows t f o x → f < length (func_types m)
table_function m t is f o x (s, has) = let lt = slice_get_within t.rows.items f s has.0 in let long = is.long in omega arith

-- ---- one body

module _ (m : Module) (sealed : IsSealed m) (t : SummaryTable) (table : IsTableOf m t) (f : ℕ) (least : IsLeastFrom m f t) (W : Cover) (exact : IsExact m W)
    (kind : FuncType) (b : Body) (kind_is : type_of_func m f ≡ Some kind) (body_is : body_of m f ≡ Some b) (i : ℕ) where
  abbrev B : Bounds
  B = bounds m W

  abbrev S : Sites
  S = sites_at (callees m) kind b i

  abbrev E : List EndAt
  E = ends_at (callees m) kind b i

  abbrev F : Func
  F = record { params = length kind.params; results = length kind.results; locals = run_types b.locals; code = code_of b.code }

  func_is : func_of m f ≡ Some F
  func_is = ap₂ {A = Option FuncType} {B = Option Body} func_from kind_is body_is

  -- calls lead to whom it calls
  calls : (p : ℕ) (s : Site) (op : Instr) (g : Callee) → IsSite S p s → s.head ≡ DoHead op → called B op ≡ Some g → (h : ℕ) → IsCalled m g h → CallsLead m f h
  calls p s op g is head is_called h callee =
      let live = body_live (callees m) (length kind.results) (watched_once b i) p s op is head in
      (h, (live_calls B f F op g func_is (live_again op (nat_eq i) unwatched (code_of b.code) 0 live) is_called h callee, itself))

  asks : (p : ℕ) (out : Output) → between.Asked B S (Makes (At p) out) → known.Asked m sealed.valid sealed.no_float W exact.writes S p out
  asks p Ret a = tt
  asks p Done a = tt
  asks p (Final x) a = a

  out_known : (R : CallRows) (p : ℕ) (s : Site) (op : Instr) (g : Callee) (out : Output) → IsSite S p s → s.head ≡ DoHead op → called B op ≡ Some g
      → KeptItem B R S E (Makes (At p) out) → IsKnown (length (globals_of m)) out
  out_known R p s op g out is head is_called kept =
      asked_known m sealed.valid sealed.no_float W exact.writes S p s op g out is head is_called (asks p out (kept_asks B R S E (Makes (At p) out) kept))

  to_rounds : KeptAsksWithin B (RowOf m (TableRows t)) (RowOf m (AnyRound B)) S E
  to_rounds p s op g out x is head is_called kept row =
      callee_more_of m (TableRows t) (AnyRound B) out x g
      (λ h callee had.
      (least W exact h out x (table_function m t table h out x had) (calls p s op g is head is_called h callee)
      (out_known (RowOf m (TableRows t)) p s op g out is head is_called kept)).0 had)
      row

  from_rounds : KeptAsksWithin B (RowOf m (AnyRound B)) (RowOf m (TableRows t)) S E
  from_rounds p s op g out x is head is_called kept row =
      callee_more_of m (AnyRound B) (TableRows t) out x g
      (λ h callee had.
      (least W exact h out x (round_function B had.0 h out x had.1) (calls p s op g is head is_called h callee)
      (out_known (RowOf m (AnyRound B)) p s op g out is head is_called kept)).1 had)
      row

  -- the same items are kept
  pub item_to : (item : Item) → KeptItem B (RowOf m (TableRows t)) S E item → KeptItem B (RowOf m (AnyRound B)) S E item
  item_to item kept = kept_between B (RowOf m (TableRows t)) (RowOf m (AnyRound B)) S E to_rounds item kept

  pub item_from : (item : Item) → KeptItem B (RowOf m (AnyRound B)) S E item → KeptItem B (RowOf m (TableRows t)) S E item
  item_from item kept = kept_between B (RowOf m (AnyRound B)) (RowOf m (TableRows t)) S E from_rounds item kept

-- ---- what the search answers

told_more : (P Q : Node → Type 0) (K : Node → Bool) → ((n : Node) → P n → Q n) → ((n : Node) → Q n → P n) → Tells K P → Tells K Q
told_more P Q K to back told n = (λ on. to n ((told n).0 on), λ q. (told n).1 (back n q))

pub kept_told : (m : Module) → IsSealed m → (t : SummaryTable) → IsTableOf m t → HasExactCover m → (f : ℕ) → f < length (func_types m) → IsLeastFrom m f t
    → (i : ℕ) (K : KeptSet) → TellsKept m t f i K → TellsMade m t f i → IsKeptOf m f i (holds K)
kept_told m sealed t table (W, exact) f lt least i K kept made = record { cover = W; cover_is = exact; keeps = keeps }
  where
    keeps : (kind : FuncType) (b : Body) → type_of_func m f ≡ Some kind → HasBody m f b → KeepsIn m W kind b i (holds K)
    keeps kind b kind_is has =
        let body_is = body_told m f b lt has in
        let to = item_to m sealed t table f least W exact kind b kind_is body_is i in
        let back = item_from m sealed t table f least W exact kind b kind_is body_is i in
        let M = made W exact kind b kind_is has in
        record {
          exact = told_more (KeptBy m t W kind b i) (KeptIn m W kind b i) (holds K) (λ n k. to (Makes n Done) k) (λ n k. back (Makes n Done) k)
              (kept W exact kind b kind_is has);
          makers = M.0;
          made = told_more (MadeBy m t W kind b i) (MadeIn m W kind b i) M.0 (λ n k. to (Makes n Ret) k) (λ n k. back (Makes n Ret) k) M.1;
        }
