-- A run has an end.
use Rattle.std.proofs.Common.{◌≡◌, ℕ, suc, ◌+◌, ◌-◌, ◌≤◌, inl, inr, ◌⊎◌, List, [], ◌∷◌, take, length, All, Bool, true, false, Option, Some, None, refl, sym, ap, ◌∙◌, subst, arith}
use Rattle.std.proofs.lemmas.Bool.{cases_lt, false≢true}
use Rattle.std.proofs.lemmas.List.Elements.{All-nil, All-cons}
use Rattle.wasm_types.specs.declared.module.ValType.{ValType}
use Rattle.wasm_types.specs.declared.module.Value.{Value}
use Rattle.wasm_types.specs.declared.module.FuncType.{FuncType}
use Rattle.wasm_types.specs.declared.module.Module.{Module}
use Rattle.wasm_types.specs.declared.place.Part.TheVariants as part
use Rattle.wasm_types.specs.declared.run.Reply.{Reply}
use Rattle.wasm_types.specs.declared.run.Event.{Event}
use Rattle.wasm_types.specs.declared.run.Ended.{Ended}
use Rattle.wasm_types.specs.declared.run.Ended.TheVariants as ended
use Rattle.wasm_types.specs.Spaces.{type_of_func, mems_of}
use Rattle.wasm_types.specs.Validity.{StartHolds}
use Rattle.wasm_types.specs.Subset.{IsSealed}
use Rattle.wasm_meaning.specs.State.{State, Script}
use Rattle.wasm_meaning.specs.Fits.{Fits, HaveTypes}
use Rattle.wasm_meaning.specs.Invoke.{HasOutcome, Ending, Returned, Trapped, Ends, results_from}
use Rattle.wasm_meaning.proofs.Values.{if_some}
use Rattle.typed_runs.specs.Start.{least, ElemFits, SegmentFits}
use Rattle.typed_runs.specs.Kept.{EndingKept}
use Rattle.typed_runs.proofs.OwnCalls.{runs_keep_types}
use Rattle.typed_runs.proofs.Started.{starts_fit}
use Rattle.inst_make.specs.Starts.{IsFirstWithout}
use Rattle.ref_interp.proofs.Functions.{few_results}
use Rattle.module_run.specs.Runs.{most_run_pages, first_values, bare_start, run_start, CanRun, Prepared, without, returned, after_turns, RunEnds, ElemOut, DataOut, InStart, Ran, DoesNotReturn, RunsTo, elem_out, data_out, in_start, ran}
use Rattle.module_run.specs.Law.{SomeRun}
use Rattle.module_run.proofs.Beginning.{first_typed, none_typed}

-- ---- the first entry of which a test fails

is_true : (b : Bool) → (b ≡ true) ⊎ (b ≡ true → ⊥)
is_true true = inl refl
is_true false = inr (λ h. false≢true h)

module _ {A : Type 0} (P : A → Type 0) (test : (x : A) → P x ⊎ (P x → ⊥)) where
  all_or_first : (xs : List A) → All P xs ⊎ ((k : ℕ) × IsFirstWithout P xs k)
  all_or_first [] = inl (All-nil P)
  all_or_first (x ∷ xs) = here (test x) (all_or_first xs)
    where
      here : P x ⊎ (P x → ⊥) → All P xs ⊎ ((k : ℕ) × IsFirstWithout P xs k) → All P (x ∷ xs) ⊎ ((k : ℕ) × IsFirstWithout P (x ∷ xs) k)
      here (inr no_p) later = inr (0, record { before = All-nil P; entry = x; found = refl; fails = no_p })
      here (inl p) (inl all) = inl (All-cons P x xs p all)
      here (inl p) (inr f) =
          inr (suc f.0, record { before = All-cons P x (take f.0 xs) p f.1.before; entry = f.1.entry; found = f.1.found; fails = f.1.fails })

-- ---- an outcome

abbrev first_of : List Value → Option Value
first_of [] = None
first_of (v ∷ vs) = Some v

few : (ts : List ValType) (vs : List Value) → length ts ≤ 1 → HaveTypes vs ts → results_from (first_of vs) ≡ vs
few ts [] le h = refl
few [] (v ∷ vs) le h = absurd h
few (t ∷ ts) (v ∷ []) le h = refl
few (t ∷ []) (v ∷ w ∷ vs) le h = absurd h.1
few (t ∷ u ∷ ts) (v ∷ w ∷ vs) le h = absurd (omega arith)

-- it returns a value of its type, in a state that fits
record ReturnsFit (m : Module) (F : FuncType) (end : Ended) (final : State) : Type 0 where
  value : Option Value
  turns : ℕ
  is : end ≡ ended.Returned value turns
  typed : HaveTypes (results_from value) F.results
  fits : Fits m final

record SomeOutcome (m : Module) (f i : ℕ) (F : FuncType) (args : List Value) (s : State) (budget : ℕ) : Type 0 where
  end : Ended
  final : State
  events : List Event
  outcome : HasOutcome m f i args s budget end final events
  kept : DoesNotReturn end ⊎ ReturnsFit m F end final

module _ (m : Module) (sealed : IsSealed m) (f i : ℕ) (F : FuncType) (at : type_of_func m f ≡ Some F) (args : List Value) (typed : HaveTypes args F.params)
    (s : State) (fits : Fits m s) (budget : ℕ) where
  within : (none : SomeOutcome m f i F args s budget → ⊥) (ending : Ending) (last : State) (all : List Event) → Ends m f i args s ending last all
      → EndingKept F.results ending → Fits m last → s.turns ≤ last.turns → last.turns ≤ s.turns + budget → ⊥
  within none (Trapped reason) last all e kept fit from to = none (record {
    end = ended.Trapped reason (last.turns - s.turns);
    final = last;
    events = all;
    outcome = (e, omega arith, omega arith);
    kept = inl tt;
  })
  within none (Returned results) last all e kept fit from to =
      let same : results ≡ results_from (first_of results) = sym (few F.results results (few_results m sealed f F at) kept) in none (record {
        end = ended.Returned (first_of results) (last.turns - s.turns);
        final = last;
        events = all;
        outcome = (subst (λ vs. Ends m f i args s (Returned vs) last all) same e, omega arith, omega arith);
        kept = inr (record {
          value = first_of results;
          turns = last.turns - s.turns;
          is = refl;
          typed = subst (λ vs. HaveTypes vs F.results) same kept;
          fits = fit;
        });
      })

  -- that there is none is impossible
  some_outcome : (SomeOutcome m f i F args s budget → ⊥) → ⊥
  some_outcome none = none (record {
    end = ended.OutOfTurns;
    final = s;
    events = [];
    outcome = (
      refl,
      λ ending last all e.
          let k = runs_keep_types.ends m sealed.valid sealed.no_float f F at s fits args typed i ending last all e in
          elim (cases_lt (s.turns + budget) last.turns) [
            | inl more ↦ more
            | inr le ↦ absurd (within none ending last all e k.0 k.1.fits k.1.turns le)
          ],
    );
    kept = inl tt;
  })

-- ---- the whole

module _ (m : Module) (sealed : IsSealed m) (low : least (mems_of m) ≤ most_run_pages) (f : ℕ) (F : FuncType) (at : type_of_func m f ≡ Some F)
    (args : List Value) (typed : HaveTypes args F.params) (i : ℕ) (replies : List Reply) (budget : ℕ)
    (none : (e : RunEnds) × RunsTo m f i args replies budget e → ⊥) where
  after_start : CanRun m replies → (turns : ℕ) (s : State) → Prepared m replies budget turns s → Fits m s → ⊥
  after_start can turns s p fits =
      some_outcome m sealed f i F at args typed s fits (budget - turns)
      (λ o. none (Ran (after_turns turns o.end) o.events, ran turns s o.final o.end o.events can p o.outcome))

  by_start : CanRun m replies → Fits m (run_start m replies) → (start : Option ℕ) → m.start ≡ start → ⊥
  by_start can fits None is = after_start can 0 (run_start m replies) (without is) fits
  by_start can fits (Some g) is =
      let h : StartHolds m g = if_some m.start g (StartHolds m) is (sealed.valid.1 part.StartAt) in
      some_outcome m sealed g 0 h.0 h.1 [] (subst (HaveTypes []) (sym h.2) tt) (run_start m replies) fits budget
      (λ o. by_end g is h o.end o.final o.events o.outcome o.kept)
    where
      by_end : (g : ℕ) → m.start ≡ Some g → (h : StartHolds m g) (end : Ended) (final : State) (events : List Event)
          → HasOutcome m g 0 [] (run_start m replies) budget end final events → DoesNotReturn end ⊎ ReturnsFit m h.0 end final → ⊥
      by_end g is h end final events outcome (inl stops) = none (InStart end, in_start g 0 end final events can is outcome stops)
      by_end g is h end final events outcome (inr r) =
          let same : end ≡ ended.Returned None r.turns = r.is ∙ ap (λ v. ended.Returned v r.turns) (none_typed r.value h.0.results h.3 r.typed) in
          after_start can r.turns final
          (returned g 0 r.turns final events is (subst (λ (e : Ended). HasOutcome m g 0 [] (run_start m replies) budget e final events) same outcome)) r.fits

  run_from : (elems : All (ElemFits (bare_start m replies)) m.elems ⊎ ((k : ℕ) × IsFirstWithout (ElemFits (bare_start m replies)) m.elems k))
      → All (SegmentFits (bare_start m replies)) m.segments ⊎ ((k : ℕ) × IsFirstWithout (SegmentFits (bare_start m replies)) m.segments k) → ⊥
  run_from (inr f) segments = none (ElemOut f.0, elem_out f.0 f.1)
  run_from (inl all) (inr f) = none (DataOut f.0, data_out f.0 all f.1)
  run_from (inl all) (inl fit) =
      let can : CanRun m replies = record { globals = first_typed m sealed; pages = low; elems = all; segments = fit } in
      by_start can (starts_fit m sealed.valid (first_values m) most_run_pages (Script replies) can) m.start refl

pub some_run : SomeRun
some_run m sealed low f F at args typed i replies budget none =
    run_from m sealed low f F at args typed i replies budget none
    (all_or_first (ElemFits (bare_start m replies)) (λ e. is_true _) m.elems)
    (all_or_first (SegmentFits (bare_start m replies)) (λ d. is_true _) m.segments)
