-- A run has at most one end.
use Rattle.std.proofs.Common.{◌≡◌, ℕ, zero, suc, ◌-◌, List, [], ◌∷◌, take, All, Some, None, refl, sym, ap, ap₂, ◌∙◌, subst}
use Rattle.std.proofs.lemmas.List.Elements.{All-head, All-tail}
use Rattle.wasm_types.specs.declared.module.Module.{Module}
use Rattle.wasm_types.specs.declared.run.Reply.{Reply}
use Rattle.wasm_types.specs.declared.run.Event.{Event}
use Rattle.wasm_types.specs.declared.run.Ended.{Ended}
use Rattle.wasm_types.specs.declared.run.Ended.TheVariants as ended
use Rattle.wasm_meaning.specs.State.{State}
use Rattle.wasm_meaning.specs.Invoke.{HasOutcome}
use Rattle.wasm_meaning.proofs.Values.{some_same, none_some}
use Rattle.wasm_meaning.proofs.Longer.{one_ending, one_outcome}
use Rattle.typed_runs.specs.Start.{ElemFits, SegmentFits}
use Rattle.inst_make.specs.Starts.{IsFirstWithout}
use Rattle.module_run.specs.Runs.{bare_start, run_start, Prepared, without, returned, after_turns, ElemOut, DataOut, InStart, Ran, DoesNotReturn, elem_out, data_out, in_start, ran}
use Rattle.module_run.specs.Law.{OneRun}
use Rattle.module_run.proofs.Watched.{outcome_at}

-- ---- the first entry of which a property doesn't hold

module _ {A : Type 0} (P : A → Type 0) where
  pub none_without : (xs : List A) (k : ℕ) → All P xs → IsFirstWithout P xs k → ⊥
  none_without [] k all f = none_some f.found
  none_without (x ∷ xs) zero all f = f.fails (subst P (some_same f.found) (All-head P x xs all))
  none_without (x ∷ xs) (suc k) all f =
      none_without xs k (All-tail P x xs all) (record { before = All-tail P x (take k xs) f.before; entry = f.entry; found = f.found; fails = f.fails })

  pub first_same : (xs : List A) (k j : ℕ) → IsFirstWithout P xs k → IsFirstWithout P xs j → j ≡ k
  first_same [] k j f g = none_some f.found
  first_same (x ∷ xs) zero zero f g = refl
  first_same (x ∷ xs) zero (suc j) f g = absurd (f.fails (subst P (some_same f.found) (All-head P x (take j xs) g.before)))
  first_same (x ∷ xs) (suc k) zero f g = absurd (g.fails (subst P (some_same g.found) (All-head P x (take k xs) f.before)))
  first_same (x ∷ xs) (suc k) (suc j) f g =
      ap suc (first_same xs k j
      (record { before = All-tail P x (take k xs) f.before; entry = f.entry; found = f.found; fails = f.fails })
      (record { before = All-tail P x (take j xs) g.before; entry = g.entry; found = g.found; fails = g.fails }))

-- ---- the start function

module _ (m : Module) (s : State) (budget : ℕ) where
  -- of the start function, whatever is watched
  same_end : (g i g' i' : ℕ) (a b : Ended) (final final' : State) (events events' : List Event) → m.start ≡ Some g → m.start ≡ Some g'
      → HasOutcome m g i [] s budget a final events → HasOutcome m g' i' [] s budget b final' events' → b ≡ a
  same_end g i g' i' a b final final' events events' at at' h h' =
      let same : g' ≡ g = some_same (sym at' ∙ at) in
      let o = outcome_at m g i' i [] s budget b final' events' (subst (λ f. HasOutcome m f i' [] s budget b final' events') same h') in
      (one_outcome m g i [] s budget a b final final' events o.0 h o.1).0

  same_final : (g i g' i' t t' : ℕ) (final final' : State) (events events' : List Event) → m.start ≡ Some g → m.start ≡ Some g'
      → HasOutcome m g i [] s budget (ended.Returned None t) final events → HasOutcome m g' i' [] s budget (ended.Returned None t') final' events'
      → final' ≡ final
  same_final g i g' i' t t' final final' events events' at at' h h' =
      let same : g' ≡ g = some_same (sym at' ∙ at) in
      let o = outcome_at m g i' i [] s budget (ended.Returned None t') final' events'
      (subst (λ f. HasOutcome m f i' [] s budget (ended.Returned None t') final' events') same h') in
      (one_ending m g i [] s _ _ final final' events o.0 h.0 o.1.0).1

abbrev turns_of : ℕ → Ended → ℕ
turns_of d (ended.Returned value turns) = turns
turns_of d _ = d

same_prepared : (m : Module) (replies : List Reply) (budget t t' : ℕ) (s s' : State) → Prepared m replies budget t s → Prepared m replies budget t' s'
    → (t' ≡ t) × (s' ≡ s)
same_prepared m replies budget t t' s s' (without at) (without at') = (refl, refl)
same_prepared m replies budget t t' s s' (without at) (returned g i turns final events at' h) = none_some (sym at ∙ at')
same_prepared m replies budget t t' s s' (returned g i turns final events at h) (without at') = none_some (sym at' ∙ at)
same_prepared m replies budget t t' s s' (returned g i turns final events at h) (returned g' i' turns' final' events' at' h') = (
  ap (turns_of 0) {x = ended.Returned None turns'} {y = ended.Returned None turns}
      (same_end m (run_start m replies) budget g i g' i' (ended.Returned None turns) (ended.Returned None turns') final final' events events' at at' h h'),
  same_final m (run_start m replies) budget g i g' i' turns turns' final final' events events' at at' h h',
)

-- it returns, and doesn't
both : {A : Type 0} (m : Module) (replies : List Reply) (budget g j turns : ℕ) (e : Ended) (s final : State) (events : List Event) → m.start ≡ Some g
    → HasOutcome m g j [] (run_start m replies) budget e final events → DoesNotReturn e → Prepared m replies budget turns s → A
both m replies budget g j turns e s final events at h stops (without at') = none_some (sym at' ∙ at)
both m replies budget g j turns e s final events at h stops (returned g' i' turns' final' events' at' h') =
    absurd (subst DoesNotReturn {x = e} {y = ended.Returned None turns'}
    (sym (same_end m (run_start m replies) budget g j g' i' e (ended.Returned None turns') final final' events events' at at' h h')) stops)

-- ---- the whole

pub one_run : OneRun
one_run m f i args replies budget e e' (elem_out k a) (elem_out k' b) = ap ElemOut (first_same (ElemFits (bare_start m replies)) m.elems k k' a b)
one_run m f i args replies budget e e' (elem_out k a) (data_out k' all b) = absurd (none_without (ElemFits (bare_start m replies)) m.elems k all a)
one_run m f i args replies budget e e' (elem_out k a) (in_start g j ended final events can at h stops) =
    absurd (none_without (ElemFits (bare_start m replies)) m.elems k can.elems a)
one_run m f i args replies budget e e' (elem_out k a) (ran turns s final ended events can p h) =
    absurd (none_without (ElemFits (bare_start m replies)) m.elems k can.elems a)
one_run m f i args replies budget e e' (data_out k all a) (elem_out k' b) = absurd (none_without (ElemFits (bare_start m replies)) m.elems k' all b)
one_run m f i args replies budget e e' (data_out k all a) (data_out k' all' b) =
    ap DataOut (first_same (SegmentFits (bare_start m replies)) m.segments k k' a b)
one_run m f i args replies budget e e' (data_out k all a) (in_start g j ended final events can at h stops) =
    absurd (none_without (SegmentFits (bare_start m replies)) m.segments k can.segments a)
one_run m f i args replies budget e e' (data_out k all a) (ran turns s final ended events can p h) =
    absurd (none_without (SegmentFits (bare_start m replies)) m.segments k can.segments a)
one_run m f i args replies budget e e' (in_start g j ended final events can at h stops) (elem_out k' b) =
    absurd (none_without (ElemFits (bare_start m replies)) m.elems k' can.elems b)
one_run m f i args replies budget e e' (in_start g j ended final events can at h stops) (data_out k' all' b) =
    absurd (none_without (SegmentFits (bare_start m replies)) m.segments k' can.segments b)
one_run m f i args replies budget e e' (in_start g j ended final events can at h stops) (in_start g' j' ended' final' events' can' at' h' stops') =
    ap InStart (same_end m (run_start m replies) budget g j g' j' ended ended' final final' events events' at at' h h')
one_run m f i args replies budget e e' (in_start g j ended final events can at h stops) (ran turns s final' ended' events' can' p h') =
    both m replies budget g j turns ended s final events at h stops p
one_run m f i args replies budget e e' (ran turns s final ended events can p h) (elem_out k' b) =
    absurd (none_without (ElemFits (bare_start m replies)) m.elems k' can.elems b)
one_run m f i args replies budget e e' (ran turns s final ended events can p h) (data_out k' all' b) =
    absurd (none_without (SegmentFits (bare_start m replies)) m.segments k' can.segments b)
one_run m f i args replies budget e e' (ran turns s final ended events can p h) (in_start g j ended' final' events' can' at h' stops) =
    both m replies budget g j turns ended' s final' events' at h' stops p
one_run m f i args replies budget e e' (ran turns s final ended events can p h) (ran turns' s' final' ended' events' can' p' h') =
    let same = same_prepared m replies budget turns turns' s s' p p' in
    let moved : HasOutcome m f i args s (budget - turns) ended' final' events' =
    subst (λ z. HasOutcome m f i args z (budget - turns) ended' final' events') same.1
    (subst (λ t. HasOutcome m f i args s' (budget - t) ended' final' events') same.0 h') in
    let o = one_outcome m f i args s (budget - turns) ended ended' final final' events events' h moved in
    ap₂ {A = Ended} {B = List Event} (λ a es. Ran a es) (ap (λ t. after_turns t ended') same.0 ∙ ap (after_turns turns) o.0) o.1
