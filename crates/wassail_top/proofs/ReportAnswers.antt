-- The large module of a number has one report, and some.
use Rattle.std.proofs.Common.{◌≡◌, ℕ, zero, suc, ◌+◌, ◌<◌, ◌≤◌, ◌∙◌, Bool, true, false, List, Option, Some, None, nat_lt}
use Rattle.std.proofs.Common.{refl, sym, ap, subst, arith}
use Rattle.std.specs.Prelude.{◌&&◌, not, if◌then◌else◌}
use Rattle.std.proofs.Math.Path.{fun_ext}
use Rattle.std.proofs.lemmas.Bool.Decides.{nat_tests}
use Rattle.report_text.specs.declared.refusal.QueryRefusal.{QueryRefusal}
use Rattle.report_text.specs.declared.refusal.QueryRefusal.TheVariants as of_query
use Rattle.wasm_types.specs.declared.module.Body.{Body}
use Rattle.wasm_types.specs.declared.module.FuncType.{FuncType}
use Rattle.wasm_types.specs.declared.module.Module.{Module}
use Rattle.wasm_types.specs.declared.place.Node.{Node}
use Rattle.wasm_types.specs.declared.place.Node.TheVariants as node
use Rattle.wasm_types.specs.Actions.{callees}
use Rattle.wasm_types.specs.Subset.{IsSealed}
use Rattle.flow_domain.specs.Bounds.{Cover, bounds}
use Rattle.flow_domain.specs.Kept.{Tells}
use Rattle.flow_domain.specs.KeptSets.{KeptSet, holds, number, size}
use Rattle.flow_domain.specs.Sliced.{func_count, watched_once}
use Rattle.flow_domain.specs.Sliced.{KeptIn, rows_in}
use Rattle.flow_domain.specs.Touch.{IsExact}
use Rattle.stack_repair.proofs.ExactCut.{one_test}
use Rattle.module_mill.specs.Mill.{body, func_type, mill}
use Rattle.module_mill.proofs.Milled.{sealed, type_at}
use Rattle.mill_report.specs.Lines.{figure_lines}
use Rattle.slice_whole.specs.Slices.{IsKeptOf, KeepsIn}
use Rattle.slice_whole.proofs.NotRefuted.{NotRefuted}
use Rattle.slice_whole.proofs.OneCover.{one_cover}
use Rattle.slice_whole.proofs.OneSliced.{one_sliced}
use Rattle.slice_whole.proofs.SomeCover.{some_cover}
use Rattle.slice_whole.proofs.SomeSets as sets
use Rattle.slice_whole.proofs.SomeSets.{kept_small, most}
use Rattle.slice_whole.proofs.SomeSliced.{some_keeps, some_sliced}
use Rattle.wassail_top.specs.Answers.{IsReportOf, bytes_alone}
use Rattle.wassail_top.specs.Queries.{most_milled, why_not_milled}
use Rattle.wassail_top.specs.Refusals.{Answer}
use Rattle.wassail_top.specs.Reports.{IsReport, KeepsBelow, figures_of, last_function, last_position, measured}
use Rattle.wassail_top.specs.RunAnswers.{AnswersUnless}
use Rattle.wassail_top.specs.Summaries.{RowTest}
use Rattle.wassail_top.proofs.LargeModule.{functions, has_body, nothing_against}
use Rattle.wassail_top.proofs.OneRows.{one_rows}
use Rattle.wassail_top.proofs.SetSizes.{flags, holds_flags, same_size}
use Rattle.wassail_top.proofs.SomeRows.{some_rows}
use Rattle.wassail_top.proofs.SomeSlice.{some_unless}

same_some : {A : Type 0} {x y : A} → Some x ≡ Some y → x ≡ y
same_some e = cc

-- a number that isn't refused is in its range
pub in_range : (n : ℕ) → why_not_milled n ≡ None → (0 < n) × (n ≤ 2000)
in_range n e = go (nat_lt 0 n) refl (nat_lt most_milled n) refl e
  where
    go : (a : Bool) → nat_lt 0 n ≡ a → (b : Bool) → nat_lt most_milled n ≡ b → (if a && not b then None else Some of_query.BadArguments) ≡ None
        → (0 < n) × (n ≤ 2000)
    go false is b was e = absurd cc
    go true is true was e = absurd cc
    go true is false was e = (grind (arith, nat_tests, is), grind (arith, nat_tests, was))

same_number : (x : Node) → number x ≡ sets.number x
same_number node.Exit = refl
same_number (node.At p) = refl
same_number (node.Join b) = refl

module _ (n : ℕ) (few : n ≤ 2000) where
  abbrev m : Module
  m = mill n

  abbrev seal : IsSealed m
  seal = sealed n few

  -- ---- one report

  one_size : (f i : ℕ) → f < n → (K L : KeptSet) → IsKeptOf m f i (holds K) → IsKeptOf m f i (holds L) → size K ≡ size L
  one_size f i lt K L p q =
      let cover : q.cover ≡ p.cover = one_cover m q.cover p.cover q.cover_is p.cover_is in
      let first = (p.keeps func_type (body f) (type_at n f lt) (has_body n f lt)).exact in
      let second : Tells (holds L) (KeptIn m p.cover func_type (body f) i) =
      subst (λ (W : Cover). Tells (holds L) (KeptIn m W func_type (body f) i)) cover (q.keeps func_type (body f) (type_at n f lt) (has_body n f lt)).exact in
      same_size K L (one_test (holds K) (holds L) (KeptIn m p.cover func_type (body f) i) first second)

  one_total : (k : ℕ) → k ≤ n → (a b : ℕ) → KeepsBelow m k a → KeepsBelow m k b → a ≡ b
  one_total zero le a b p q = p ∙ sym q
  one_total (suc f) le a b (x, K, p, is, e) (y, L, q, was, g) =
      let before = one_total f (omega arith) x y p q in
      let sizes = one_size f (last_position m f) (omega arith) K L is was in omega (arith, e, g, before, sizes)

  one_report : (a b : List ℕ) → IsReport m a → IsReport m b → a ≡ b
  one_report a b p q =
      let rows = one_rows m p.rows q.rows p.are q.are in
      let kept = one_total (func_count m) (omega (arith, functions n)) p.kept q.kept p.keeps q.keeps in
      let sliced =
      one_sliced m (last_function m) (last_position m (last_function m)) measured p.new q.new p.at q.at seal.valid seal.no_float p.sliced q.sliced in
      p.is ∙ ap (λ (R : RowTest). figure_lines (figures_of m R p.kept p.new)) rows ∙ ap (λ (k : ℕ). figure_lines (figures_of m q.rows k p.new)) kept
      ∙ ap (λ (new : Module). figure_lines (figures_of m q.rows q.kept new)) sliced.0 ∙ sym q.is

  one_of : (a b : Answer) → IsReportOf m a → IsReportOf m b → a ≡ b
  one_of a b (t, p, e) (u, q, g) = e ∙ ap bytes_alone (one_report t u p q) ∙ sym g

  -- ---- some report

  flags_keep : (f i : ℕ) (W : Cover) (K : Node → Bool) → KeepsIn m W func_type (body f) i K
      → KeepsIn m W func_type (body f) i (holds (flags K (most (callees m) 1 (watched_once (body f) i))))
  flags_keep f i W K keeps =
      let bound = most (callees m) 1 (watched_once (body f) i) in
      let small : (x : Node) → K x ≡ true → number x < bound =
      λ x on.
      let lt = kept_small (callees m) 1 (watched_once (body f) i) (bounds m W) (rows_in m W) x ((keeps.exact x).0 on) in
      subst (λ (k : ℕ). k < bound) (sym (same_number x)) lt in
      subst (λ (test : Node → Bool). KeepsIn m W func_type (body f) i test) (sym (fun_ext (holds_flags K bound small))) keeps

  some_set : (f i : ℕ) → f < n → NotRefuted ((K : KeptSet) × IsKeptOf m f i (holds K))
  some_set f i lt never = some_cover m seal (λ W. some_keeps m W.0 func_type (body f) i (λ found. never (whole W found)))
    where
      whole : (W : (C : Cover) × IsExact m C) → (K : Node → Bool) × KeepsIn m W.0 func_type (body f) i K → (K : KeptSet) × IsKeptOf m f i (holds K)
      whole W found =
          let K = flags found.0 (most (callees m) 1 (watched_once (body f) i)) in (
            K,
            record {
              cover = W.0;
              cover_is = W.1;
              keeps = λ t b is has.
                  let type : func_type ≡ t = same_some (sym (type_at n f lt) ∙ is) in
                  let own : body f ≡ b = same_some (sym (has_body n f lt).1 ∙ has.1) in
                  subst (λ (x : FuncType). KeepsIn m W.0 x b i (holds K)) type
                  (subst (λ (x : Body). KeepsIn m W.0 func_type x i (holds K)) own (flags_keep f i W.0 found.0 found.1));
            },
          )

  some_total : (k : ℕ) → k ≤ n → NotRefuted ((total : ℕ) × KeepsBelow m k total)
  some_total zero le never = never (0, refl)
  some_total (suc f) le never =
      some_total f (omega arith) (λ before. some_set f (last_position m f) (omega arith) (λ K.
      never (before.0 + size K.0, (before.0, K.0, before.1, K.1, refl))))

  some_report : 0 < n → NotRefuted ((answer : Answer) × IsReportOf m answer)
  some_report some never =
      let many = functions n in
      let f = last_function m in
      let none = nothing_against n f (omega arith) in
      some_rows m seal (λ R. some_total (func_count m) (omega arith) (λ K. some_sliced m f (last_position m f) measured seal none (λ S.
      let text = figure_lines (figures_of m R.0 K.0 S.0) in
      never (
        bytes_alone text,
        (text, record { rows = R.0; are = R.1; kept = K.0; keeps = K.1; new = S.0; at = S.1; sliced = S.2; is = refl }, refl),
      ))))

-- ---- answers

pub one_milled : (n : ℕ) (a b : Answer) → AnswersUnless (why_not_milled n) (IsReportOf (mill n)) a → AnswersUnless (why_not_milled n) (IsReportOf (mill n)) b
    → a ≡ b
one_milled n a b p q = go (why_not_milled n) refl p q
  where
    go : (o : Option QueryRefusal) → why_not_milled n ≡ o → AnswersUnless o (IsReportOf (mill n)) a → AnswersUnless o (IsReportOf (mill n)) b → a ≡ b
    go None is p q = one_of n (in_range n is).1 a b p q
    go (Some why) is p q = p ∙ sym q

pub some_milled : (n : ℕ) → NotRefuted ((answer : Answer) × AnswersUnless (why_not_milled n) (IsReportOf (mill n)) answer)
some_milled n =
    some_unless (why_not_milled n) (IsReportOf (mill n)) (λ none. let range = in_range n none in some_report n range.1 range.0)
