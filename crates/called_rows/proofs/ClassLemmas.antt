-- What the functions of a class do, taken together.
use Rattle.std.proofs.Common.{◌≡◌, ◌≢◌, ◌↔◌, ℕ, zero, suc, ◌^◌, ◌<◌, List, [], ◌∷◌, ◌++◌, Bool, Option, Some, None, length}
use Rattle.std.proofs.Common.{slice_get, refl, sym, ap, ◌∙◌, subst, inl, inr, ⊎_elim, arith}
use Rattle.std.specs.List.{All, Contains}
use Rattle.std.proofs.Common.{Global, Vec, set, get_or-set_same, get_or-set_other}
use Rattle.std.proofs.Math.ListN.{length-set}
use Rattle.std.proofs.lemmas.Bool.{cases_eq, cases_lt}
use Rattle.std.proofs.lemmas.List.Elements.{All-contains}
use Rattle.std.proofs.lemmas.Option.{slice_get-get_or, slice_get_past, slice_get_within, same_Some}
use Rattle.wasm_types.specs.declared.module.FuncType.{FuncType}
use Rattle.wasm_types.specs.declared.module.Module.{Module}
use Rattle.wasm_types.specs.declared.place.Loc.{Loc}
use Rattle.wasm_types.specs.Spaces.{func_types, globals_of, type_numbered, type_of_func}
use Rattle.body_check.specs.declared.spaces.Spaces.{Spaces}
use Rattle.body_check.specs.Numbered.{Describes}
use Rattle.flow_domain.specs.declared.summary.Summary.{Summary}
use Rattle.flow_domain.specs.declared.summary_table.SummaryTable.{SummaryTable}
use Rattle.flow_domain.specs.Reach.{MayWrite}
use Rattle.flow_domain.specs.Touch.{MayTouch}
use Rattle.flow_domain.specs.Rows.{Output, Target, TargetRow}
use Rattle.flow_domain.specs.Summaries.{HasInput, IsMerged, IsShape, IsTableOf, TableRows}
use Rattle.call_graph.specs.declared.calls.CallGraph.{CallGraph}
use Rattle.call_graph.specs.Graph.{IsCallGraph}
use Rattle.call_graph.specs.Tells.{HasClass}
use Rattle.called_rows.specs.declared.classes.Targets.{Targets}
use Rattle.called_rows.specs.declared.classes.TargetTable.{TargetTable}
use Rattle.called_rows.specs.Classes.{AnyIn, AreTogether, FitsAt, HasAll, IsTargetTable, IsGrown, IsMergedAt, TakesRows}
use Rattle.called_rows.specs.Funcs.{AnyOf, AreShaped, MarksOf, ShareShape}
use Rattle.called_rows.proofs.FuncLemmas.{all_from, long_pushed}

pub element : {A : Type 0} (xs : List A) (n : ℕ) → n < length xs → (x : A) × (slice_get xs n ≡ Some x)
element [] n lt = absurd (omega arith)
element (x ∷ xs) zero lt = (x, refl)
element (x ∷ xs) (suc n) lt = element xs n (omega arith)

-- what has a type is a function
pub func_below : (m : Module) (f : ℕ) (kind : FuncType) → type_of_func m f ≡ Some kind → f < length (func_types m)
func_below m f kind is = go (slice_get (func_types m) f) refl is
  where
    go : (o : Option ℕ) → slice_get (func_types m) f ≡ o → type_numbered m.types o ≡ Some kind → f < length (func_types m)
    go None e is = absurd cc
    go (Some n) e is = slice_get_within (func_types m) f n e

-- a function has a row, of the shape that its type gives
row_of : (m : Module) (t : SummaryTable) → IsTableOf m t → (f : ℕ) (F : FuncType) → type_of_func m f ≡ Some F
    → (s : Summary) × ((slice_get t.rows.items f ≡ Some s) × IsShape (length (globals_of m)) (length F.params) s)
row_of m t table f F is =
    let lt = func_below m f F is in
    let s = element t.rows.items f (omega (arith, lt, table.long)) in
    (s.0, (s.1, table.shapes f F s.0 is s.1))

module _ (g : CallGraph) (c : ℕ) (funcs : List ℕ) (all : (f : ℕ) → Contains funcs f ↔ HasClass g.classes f c) where
  pub members_few : All (λ (f : ℕ). f < 2 ^ 32) funcs
  members_few = all_from (λ (f : ℕ). f < 2 ^ 32) funcs (λ f has.
      let lt = slice_get_within g.classes.by_func.items f (Some c) ((all f).0 has) in
      let few = g.classes.few in
      omega (arith, lt, few))

  pub any_member : (P : ℕ → Type 0) → AnyOf funcs P ↔ AnyIn g c P
  any_member P = (λ (f, (has, p)). (f, ((all f).0 has, p)), λ (f, (has, p)). (f, ((all f).1 has, p)))

  pub marks_member : (globals : ℕ) (marks : List Bool) (P : ℕ → Loc → Type 0) → MarksOf globals marks (λ x. AnyOf funcs (λ f. P f x))
      → MarksOf globals marks (λ x. AnyIn g c (λ f. P f x))
  marks_member globals marks P right x ok =
      let a = any_member (λ f. P f x) in let r = right x ok in (λ h. a.0 (r.0 h), λ h. r.1 (a.1 h))

  module _ (m : Module) (graph : IsCallGraph m g) (t : SummaryTable) (table : IsTableOf m t) where
    pub members_share : ShareShape t (length (globals_of m)) funcs
    members_share f h in_f in_h =
        let F = graph.alike c f h ((all f).0 in_f) ((all h).0 in_h) in
        let s = row_of m t table f F.0 F.1.0 in (
          s.0,
          (
            s.1.0,
            λ z at.
                let shape = table.shapes h F.0 z F.1.1 at in
                record { globals_is = shape.globals_is; params_is = shape.params_is ∙ sym s.1.1.params_is },
          ),
        )

    -- rows of one shape with theirs
    pub members_shape : (params : ℕ) → All (AreShaped t (length (globals_of m)) params) funcs → (rows : Summary) → IsShape (length (globals_of m)) params rows
        → (f : ℕ) (F : FuncType) → HasClass g.classes f c → type_of_func m f ≡ Some F → IsShape (length (globals_of m)) (length F.params) rows
    members_shape params shaped rows is f F has typed =
        let s = row_of m t table f F typed in
        let one = All-contains (AreShaped t (length (globals_of m)) params) funcs f shaped ((all f).1 has) in
        let shape = one s.0 s.1.0 in
        record { globals_is = is.globals_is; params_is = is.params_is ∙ (sym shape.params_is ∙ s.1.1.params_is) }

-- ---- one class more

get_front : {X : Type 0} (xs ys : List X) (f : ℕ) → f < length xs → slice_get (xs ++ ys) f ≡ slice_get xs f
get_front [] ys f lt = absurd (omega arith)
get_front (x ∷ xs) ys zero lt = refl
get_front (x ∷ xs) ys (suc f) lt = get_front xs ys f (omega arith)

get_last : {X : Type 0} (xs : List X) (x : X) (n : ℕ) → length xs ≡ n → slice_get (xs ++ x ∷ []) n ≡ Some x
get_last [] x zero e = refl
get_last [] x (suc n) e = absurd (omega arith)
get_last (y ∷ xs) x zero e = absurd (omega arith)
get_last (y ∷ xs) x (suc n) e = get_last xs x n (omega arith)

pub each_none : {X : Type 0} (P : ℕ → X → Type 0) (c : ℕ) (u : X) → slice_get (let none : List X = [] in none) c ≡ Some u → P c u
each_none P c u is = absurd cc

pub each_pushed : {X : Type 0} (P : ℕ → X → Type 0) (old new : List X) (one : X) (n : ℕ) → new ≡ old ++ one ∷ [] → length old ≡ n
    → ((c : ℕ) (u : X) → slice_get old c ≡ Some u → P c u) → P n one → (c : ℕ) (u : X) → slice_get new c ≡ Some u → P c u
each_pushed {X} P old new one n made long so here c u is = elim (cases_eq c n) [
  | inl same ↦
      let at : slice_get new c ≡ Some one = ap (slice_get new) same ∙ (ap (λ (xs : List X). slice_get xs n) made ∙ get_last old one n long) in
      let last : one ≡ u = same_Some one u (sym at ∙ is) in
      subst (P c) last (subst (λ (k : ℕ). P k one) (sym same) here)
  | inr ne ↦
      let within = slice_get_within new c u is in
      let whole = long_pushed old new one n made long in
      let lt : c < length old = omega arith in
      so c u (sym (ap (λ (xs : List X). slice_get xs c) made ∙ get_front old (one ∷ []) c lt) ∙ is)
]

-- ---- rows that are added

module _ (m : Module) (g : CallGraph) (f : ℕ) (s : Summary) (old new : SummaryTable) (merged : IsMerged f s old new) where
  -- of a function of the class
  pub together_grown : (c : ℕ) (u v : Targets) → HasClass g.classes f c → IsGrown s u v → AreTogether m g old c u → AreTogether m g new c v
  together_grown c u v has grown a = record {
    shape = λ h F in_h typed.
        let shape = a.shape h F in_h typed in
        record { globals_is = grown.shape.globals_is ∙ shape.globals_is; params_is = grown.shape.params_is ∙ shape.params_is };
    rows = λ o x. (
      λ h. ⊎_elim
          (λ k. let r = (a.rows o x).0 k in (r.0, (r.1.0, (merged.rows r.0 o x).1 (inl r.1.1))))
          (λ k. (f, (has, (merged.rows f o x).1 (inr (refl, k)))))
          ((grown.rows o x).0 h),
      λ (h, (in_h, r)). (grown.rows o x).1 (⊎_elim
          (λ k. inl ((a.rows o x).1 (h, (in_h, k))))
          (λ k. inr k.1)
          ((merged.rows h o x).0 r)),
    );
    writes_long = ap (λ (z : Vec Bool Global). length z.items) grown.writes ∙ a.writes_long;
    touches_long = ap (λ (z : Vec Bool Global). length z.items) grown.touches ∙ a.touches_long;
    writes = subst (λ (z : Vec Bool Global). MarksOf (length (globals_of m)) z.items (λ x. AnyIn g c (λ h. MayWrite m h x))) (sym grown.writes) a.writes;
    touches = subst (λ (z : Vec Bool Global). MarksOf (length (globals_of m)) z.items (λ x. AnyIn g c (λ h. MayTouch m h x))) (sym grown.touches) a.touches;
  }

  -- of none of the class
  pub together_same : (c : ℕ) (u : Targets) → (HasClass g.classes f c → ⊥) → AreTogether m g old c u → AreTogether m g new c u
  together_same c u apart a = record {
    shape = a.shape;
    rows = λ o x. (
      λ h. let r = (a.rows o x).0 h in (r.0, (r.1.0, (merged.rows r.0 o x).1 (inl r.1.1))),
      λ (h, (in_h, r)). (a.rows o x).1 (⊎_elim
          (λ k. (h, (in_h, k)))
          (λ k. absurd (apart (subst (λ (z : ℕ). HasClass g.classes z c) k.0 in_h)))
          ((merged.rows h o x).0 r)),
    );
    writes_long = a.writes_long;
    touches_long = a.touches_long;
    writes = a.writes;
    touches = a.touches;
  }

  -- where the function has no class, nothing is added
  pub table_same : (T : TargetTable) → ((c : ℕ) → HasClass g.classes f c → ⊥) → IsTargetTable m g old T → IsTargetTable m g new T
  table_same T apart is = record {
    globals = is.globals;
    spaces = is.spaces;
    classes = record { long = is.classes.long; each = λ c u at. together_same c u (apart c) (is.classes.each c u at) };
  }

  pub table_grown : (T U : TargetTable) (c : ℕ) → HasClass g.classes f c → U.globals ≡ T.globals → U.spaces ≡ T.spaces → (u : Targets)
      → slice_get T.by_class.items c ≡ Some u → IsMergedAt c s T.by_class.items U.by_class.items → IsTargetTable m g old T → IsTargetTable m g new U
  table_grown T U c has same kept u at grown is = record {
    globals = same ∙ is.globals;
    spaces = subst (λ (z : Spaces). Describes z m) (sym kept) is.spaces;
    classes = record {
      long = grown.long ∙ is.classes.long;
      each = λ d v here. elim (cases_eq d c) [
        | inl e ↦
            let there : slice_get U.by_class.items c ≡ Some v = sym (ap (slice_get U.by_class.items) e) ∙ here in
            subst (λ (k : ℕ). AreTogether m g new k v) (sym e) (together_grown c u v has (grown.here u v at there) (is.classes.each c u at))
        | inr ne ↦
            together_same d v
            (λ h. let both : Some (Some d) ≡ Some (Some c) = sym h ∙ has in let one : d ≡ c = cc in ne one)
            (is.classes.each d v (sym (grown.others d ne) ∙ here))
      ];
    };
  }

-- rows of the shape that a function's type gives are taken
pub takes_rows : (m : Module) (g : CallGraph) (t : SummaryTable) (T : TargetTable) → IsTargetTable m g t T → (f : ℕ) (F : FuncType) → type_of_func m f ≡ Some F
    → (s : Summary) → IsShape (length (globals_of m)) (length F.params) s → TakesRows g T f s
takes_rows m g t T is f F typed s shape c has =
    let below = g.classes.below_func f c has in
    let long = is.classes.long in
    let u = element T.by_class.items c (omega (arith, below, long)) in
    let own = (is.classes.each c u.0 u.1).shape f F has typed in
    (u.0, (u.1, record { globals_is = shape.globals_is ∙ sym own.globals_is; params_is = shape.params_is ∙ sym own.params_is }))

-- ---- one class of a list grows

set_here : {X : Type 0} (xs : List X) (i : ℕ) (v : X) → i < length xs → slice_get (set xs i v) i ≡ Some v
set_here xs i v lt =
    let long = length-set xs i v in slice_get-get_or (set xs i v) i v (omega arith) ∙ ap (λ x. Some x) (get_or-set_same xs i v v lt)

set_there : {X : Type 0} (xs : List X) (i j : ℕ) (v : X) → j ≢ i → slice_get (set xs i v) j ≡ slice_get xs j
set_there xs i j v ne =
    let long = length-set xs i v in elim (cases_lt j (length xs)) [
      | inl lt ↦
          slice_get-get_or (set xs i v) j v (omega arith) ∙ (ap (λ x. Some x) (get_or-set_other xs i j v v ne) ∙ sym (slice_get-get_or xs j v lt))
      | inr le ↦ slice_get_past (set xs i v) j (omega arith) ∙ sym (slice_get_past xs j le)
    ]

pub merged_at : (c : ℕ) (s : Summary) (u v : Targets) (old new : List Targets) → slice_get old c ≡ Some u → new ≡ set old c v → IsGrown s u v
    → IsMergedAt c s old new
merged_at c s u v old new here made grown =
    let there : slice_get new c ≡ Some v = ap (λ (xs : List Targets). slice_get xs c) made ∙ set_here old c v (slice_get_within old c u here) in
    record {
      long = ap length made ∙ length-set old c v;
      here = λ a b at is.
          let one : a ≡ u = same_Some a u (sym at ∙ here) in
          let two : b ≡ v = same_Some b v (sym is ∙ there) in
          subst (λ (z : Targets). IsGrown s z b) (sym one) (subst (λ (z : Targets). IsGrown s u z) (sym two) grown);
      others = λ d ne. ap (λ (xs : List Targets). slice_get xs d) made ∙ set_there old c d v ne;
    }

pub fits_shape : (all : List Targets) (c : ℕ) (s : Summary) (u : Targets) → FitsAt all c s → slice_get all c ≡ Some u → IsShape u.rows.globals u.rows.params s
fits_shape all c s u (v, (at, shape)) is = subst (λ (z : Targets). IsShape z.rows.globals z.rows.params s) (same_Some v u (sym at ∙ is)) shape

pub class_within : (all : Vec Targets Global) (c : ℕ) (s : Summary) → FitsAt all.items c s → c < all.len
class_within all c s (u, (at, shape)) = let lt = slice_get_within all.items c u at in let long = all.ok.0 in omega arith

-- what a class has already, calls through the table that find a function of it have by another one
pub had_by_targets : (m : Module) (g : CallGraph) (t : SummaryTable) (T : TargetTable) → IsCallGraph m g → IsTargetTable m g t T → (f : ℕ) (s : Summary)
    → ((c : ℕ) → HasClass g.classes f c → HasAll T.by_class.items c s) → (k : ℕ) → Target m k f → (o : Output) (x : Loc) → HasInput s o x
    → TargetRow m (TableRows t) k o x
had_by_targets m g t T graph is f s has k target o x h =
    let (c, (of_type, of_func)) = (graph.targets k f).1 target in
    let below = g.classes.below_func f c of_func in
    let long = is.classes.long in
    let u = element T.by_class.items c (omega (arith, below, long)) in
    let (other, (of_other, row)) = ((is.classes.each c u.0 u.1).rows o x).0 (has c of_func u.0 u.1 o x h) in
    (other, (graph.targets k other).0 (c, (of_type, of_other)), row)
