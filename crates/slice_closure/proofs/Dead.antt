-- Nothing is kept for a position that is not live.
use Rattle.std.proofs.Common.{◌≡◌, ℕ, List, [], ◌∷◌, true, false, Some, length, sym, ap, ◌∙◌, subst, nat_eq, eqb-true}
use Rattle.std.specs.Option.{option_map}
use Rattle.std.proofs.lemmas.Option.{slice_get-map}
use Rattle.wasm_types.specs.declared.module.FuncType.{FuncType}
use Rattle.wasm_types.specs.declared.module.Body.{Body}
use Rattle.wasm_types.specs.declared.module.Module.{Module}
use Rattle.wasm_types.specs.declared.place.Node.{Node}
use Rattle.wasm_types.specs.declared.place.Node.TheVariants.{Exit}
use Rattle.wasm_types.specs.Code.{code_of}
use Rattle.wasm_types.specs.Marked.{size}
use Rattle.wasm_types.specs.Spaces.{type_of_func, HasBody}
use Rattle.wasm_types.specs.Actions.{callees}
use Rattle.wasm_types.specs.Labels.{body_label}
use Rattle.wasm_types.specs.Sites.{Site, Sites, IsSite, EndAt}
use Rattle.stack_names.specs.Ends.{HasValues}
use Rattle.stack_names.specs.Named.{Named, is_listed, is_live_in, listed, listed_all, sites_in}
use Rattle.flow_domain.specs.declared.summary_table.SummaryTable.{SummaryTable}
use Rattle.flow_domain.specs.Bounds.{Cover, Bounds, bounds}
use Rattle.flow_domain.specs.Kept.{KeptItem, criterion, criterion_operand, completes, whole, operand, using, argument, place, writer, deciding, carrying, ending, holding_at, holding_join, own_join}
use Rattle.flow_domain.specs.KeptSets.{KeptSet, holds}
use Rattle.flow_domain.specs.Rows.{Ret, Done, CallRows, RowOf, Item, Makes}
use Rattle.flow_domain.specs.Sliced.{watched_code, sites_at, ends_at}
use Rattle.flow_domain.specs.Summaries.{TableRows}
use Rattle.slice_closure.specs.Answer.{TellsKept, TellsMade}
use Rattle.slice_closure.proofs.Takes.{takes_at}
use Rattle.slice_closure.proofs.Right.{same_some, same_type}

-- what keeps anything is watched and live
watched_first : (B : Bounds) (R : CallRows) (S : Sites) (ends : List EndAt) (i : Item) → KeptItem B R S ends i
    → (p : ℕ) × ((s : Site) × (IsSite S p s × (s.mark ≡ true)))
watched_first B R S ends _ (criterion {p} s is mark) = (p, (s, (is, mark)))
watched_first B R S ends _ (criterion_operand p k s is mark lt e) = (p, (s, (is, mark)))
watched_first B R S ends _ (completes out h) = watched_first B R S ends _ h
watched_first B R S ends _ (whole s h is none) = watched_first B R S ends _ h
watched_first B R S ends _ (operand p k s h is none lt e) = watched_first B R S ends _ h
watched_first B R S ends _ (using s op h is hd none u) = watched_first B R S ends _ h
watched_first B R S ends _ (argument p k g out s op h is hd c row e) = watched_first B R S ends _ h
watched_first B R S ends _ (place g out s op h is hd c row on) = watched_first B R S ends _ h
watched_first B R S ends _ (writer a h w path) = watched_first B R S ends _ h
watched_first B R S ends _ (deciding n h shadow) = watched_first B R S ends _ h
watched_first B R S ends _ (carrying p l k s h is branch lt e) = watched_first B R S ends _ h
watched_first B R S ends _ (ending e k h among lt is) = watched_first B R S ends _ h
watched_first B R S ends _ (holding_at q s h is lt lt') = watched_first B R S ends _ h
watched_first B R S ends _ (holding_join q s h is lt lt') = watched_first B R S ends _ h
watched_first B R S ends _ (own_join h) = watched_first B R S ends _ h

module _ (m : Module) (f : ℕ) (at : ℕ) (names : Named) (are : HasValues m f (nat_eq at) names) (dead : is_live_in names.positions at ≡ false) where
  module _ (F : FuncType) (b : Body) (kind : type_of_func m f ≡ Some F) (has : HasBody m f b) where
    same_kind : are.kind ≡ F
    same_kind = same_type are.kind F (sym are.kind_is ∙ kind)

    same_body : are.body ≡ b
    same_body = same_some are.body b (sym are.has_body.1 ∙ has.1)

    abbrev S : Sites
    S = sites_at (callees m) F b at

    positions_are : names.positions ≡ listed_all (callees m) are.types S
    positions_are = are.positions ∙ (ap (λ F'. listed_all (callees m) are.types (sites_in m F' (nat_eq at) are.body)) same_kind
        ∙ ap (λ b'. listed_all (callees m) are.types (sites_in m F (nat_eq at) b')) same_body)

    no_site : (s : Site) → IsSite S at s → ⊥
    no_site s is =
        let there : is_live_in names.positions at ≡ true = ap (λ ls. is_live_in ls at) positions_are
        ∙ ap is_listed (slice_get-map (option_map (listed (callees m) are.types)) S at ∙ ap (option_map (option_map (listed (callees m) are.types))) is) in
        cc

    no_kept : (W : Cover) (R : CallRows) (i : Item) → KeptItem (bounds m W) R S (ends_at (callees m) F b at) i → ⊥
    no_kept W R i kept =
        let w = watched_first (bounds m W) R S (ends_at (callees m) F b at) i kept in
        let mark = (takes_at (callees m) (nat_eq at) (code_of b.code) (body_label (length F.results) (size (watched_code
        (nat_eq at) b)) ∷ []) Exit w.0 w.1.0 w.1.1.0).1 in
        let same : at ≡ w.0 = eqb-true at w.0 (sym mark ∙ w.1.1.1) in
        no_site w.1.0 (subst (λ p. IsSite S p w.1.0) (sym same) w.1.1.0)

  pub dead_tells : (rows : SummaryTable) (K : KeptSet) → ((n : Node) → holds K n ≡ false) → TellsKept m rows f at K
  dead_tells rows K empty W exact F b kind has n =
      (λ h. let off = empty n in absurd cc, λ kept. absurd (no_kept F b kind has W (RowOf m (TableRows rows)) (Makes n Done) kept))

  pub dead_made : (rows : SummaryTable) → TellsMade m rows f at
  dead_made rows W exact F b kind has =
      (λ n. false, λ n. (λ h. absurd cc, λ kept. absurd (no_kept F b kind has W (RowOf m (TableRows rows)) (Makes n Ret) kept)))
