-- The steps of a run.
use Rattle.std.proofs.Common.{◌≡◌, ℕ, ◌-◌, ◌≤◌, List, [], Option, Some, None, Ok, Err, refl, sym, subst, arith}
use Rattle.wasm_types.specs.declared.module.Value.{Value}
use Rattle.wasm_types.specs.declared.module.Pos.{Pos}
use Rattle.wasm_types.specs.declared.module.Body.{Body}
use Rattle.wasm_types.specs.declared.module.Module.{Module}
use Rattle.wasm_types.specs.declared.place.Part.TheVariants as part
use Rattle.wasm_types.specs.declared.run.Reply.{Reply}
use Rattle.wasm_types.specs.declared.run.Event.{Event}
use Rattle.wasm_types.specs.declared.run.Ended.{Ended}
use Rattle.wasm_types.specs.declared.run.Ended.TheVariants as ended
use Rattle.wasm_types.specs.Code.{code_of, count}
use Rattle.wasm_types.specs.Spaces.{body_of}
use Rattle.wasm_types.specs.Subset.{IsSealed}
use Rattle.wasm_types.specs.Validity.{StartHolds}
use Rattle.wasm_meaning.specs.State.{State}
use Rattle.wasm_meaning.specs.Fits.{HaveTypes}
use Rattle.wasm_meaning.specs.Invoke.{HasOutcome}
use Rattle.wasm_meaning.proofs.Values.{some_same, none_some, if_some}
use Rattle.typed_runs.proofs.OwnCalls.{runs_keep_types}
use Rattle.inst_make.specs.declared.instance.Instance.{Instance}
use Rattle.inst_make.specs.declared.start.InstEnd.{InstEnd}
use Rattle.inst_make.specs.declared.start.InstEnd.TheVariants as inst_end
use Rattle.inst_make.specs.Instances.{StandsFor}
use Rattle.inst_make.specs.Starts.{Instantiates}
use Rattle.inst_make.proofs.Standing.{stands_fit, stands_for_start}
use Rattle.ref_interp.specs.declared.invocation.Run.{Run}
use Rattle.flat_code.specs.declared.op.Program.{Program}
use Rattle.flat_code.specs.Flat.{Flattens}
use Rattle.ref_interp.specs.Invokes.{IsAfter, IsOutcome, Serves, Watches, Invokes}
use Rattle.module_run.specs.Runs.{most_run_pages, first_values, run_start, CanRun, without, returned, after_turns, InStart, Ran, RunsTo, elem_out, data_out, in_start, ran, Runs}
use Rattle.module_run.specs.Steps.{unused, not_begun, IsStart, begun_as, Stops, IsPrepared, HasBegun, TurnsWithin}
use Rattle.module_run.proofs.Beginning.{none_typed}

-- a position that is watched
past : (o : Option Body) → (i : ℕ) × ((b : Body) → o ≡ Some b → count (code_of b.code) ≤ i)
past None = (0, λ b e. none_some e)
past (Some x) = (count (code_of x.code), λ b e. subst (λ (y : Body). count (code_of y.code) ≤ count (code_of x.code)) (some_same e) (omega arith))

some_watch : (m : Module) (f : ℕ) (watch : Option Pos) → (i : ℕ) × Watches m f watch i
some_watch m f None = past (body_of m f)
some_watch m f (Some p) = (p.0, refl)

-- the start function is one without parameters and results
pub start_of : (m : Module) → IsSealed m → (g : ℕ) → m.start ≡ Some g → StartHolds m g
start_of m sealed g at = if_some m.start g (StartHolds m) at (sealed.valid.1 part.StartAt)

module _ (m : Module) (sealed : IsSealed m) (replies : List Reply) (budget : ℕ) where
  start_stands : (old : Instance) → IsStart m replies old → StandsFor old (run_start m replies)
  start_stands old s = stands_for_start m (first_values m) most_run_pages (unused replies) old s.begins refl

  pub begun_without : (old : Instance) → IsStart m replies old → m.start ≡ None → IsPrepared m replies budget 0 old
  begun_without old s at = record {
    state = run_start m replies;
    prepared = without at;
    fits = s.begins.fits;
    stands = start_stands old s;
    within = omega arith;
  }

  module _ (old new : Instance) (start : IsStart m replies old) (g : ℕ) (at : m.start ≡ Some g) where
    by_end : (i : ℕ) (e : Ended) (final : State) (events : List Event) → HasOutcome m g i [] (run_start m replies) budget e final events
        → IsAfter m new e final → HasBegun m replies budget new (begun_as e)
    by_end i (ended.Returned value turns) final events h later =
        let s = start_of m sealed g at in
        let fits = stands_fit m old (run_start m replies) start.begins.fits (start_stands old start) in
        let k = runs_keep_types.ends m sealed.valid sealed.no_float g s.0 s.1 (run_start m replies) fits [] (subst (HaveTypes []) (sym s.2) tt) i
        _ final events h.0 in
        let none : value ≡ None = none_typed value s.0.results s.3 k.0 in record {
          state = final;
          prepared = returned g i turns final events at
              (subst (λ v. HasOutcome m g i [] (run_start m replies) budget (ended.Returned v turns) final events) none h);
          fits = later.0;
          stands = later.1;
          within = h.2;
        }
    by_end i (ended.Trapped reason turns) final events h later =
        record { func = g; at = i; final = final; events = events; start = at; outcome = h; stopped = tt }
    by_end i ended.OutOfTurns final events h later =
        record { func = g; at = i; final = final; events = events; start = at; outcome = h; stopped = tt }

    pub begun_with : (run : Run) → Invokes m old new g [] budget None (Ok run) → HasBegun m replies budget new (begun_as run.ended)
    begun_with run h =
        let w = some_watch m g None in
        let o : IsOutcome m g w.0 [] (run_start m replies) budget run new = h.1 (run_start m replies) (start_stands old start) w.0 w.1 in
        by_end w.0 run.ended o.final run.trace.items o.outcome o.after

-- a program of the module, whatever is watched in it
pub some_watched : (m : Module) (p : Program) (f : ℕ) (watch : Option Pos) → Serves m p f watch → (watched : Option (ℕ × Pos)) × Flattens m watched p
some_watched m p f None h = h
some_watched m p f (Some i) h = (Some (f, i), h)

-- a module that isn't instantiated
pub not_begun_runs : (m : Module) (f : ℕ) (watch : Option Pos) (args : List Value) (replies : List Reply) (budget : ℕ) (e : InstEnd)
    → Instantiates m (first_values m) most_run_pages (unused replies) (Err e) → Runs m f watch args replies budget (not_begun e)
not_begun_runs m f watch args replies budget (inst_end.TooManyPages min) h = h
not_begun_runs m f watch args replies budget (inst_end.ElemOut k) h = (h.0, λ i w. elem_out k h.1)
not_begun_runs m f watch args replies budget (inst_end.DataOut k) h = (h.0, λ i w. data_out k h.1 h.2)
not_begun_runs m f watch args replies budget inst_end.Memory h = tt

within_by : (m : Module) (f i : ℕ) (args : List Value) (s : State) (most : ℕ) (e : Ended) (final : State) (events : List Event)
    → HasOutcome m f i args s most e final events → TurnsWithin most e
within_by m f i args s most (ended.Returned value turns) final events h = h.2
within_by m f i args s most (ended.Trapped reason turns) final events h = h.2
within_by m f i args s most ended.OutOfTurns final events h = tt

module _ (m : Module) (replies : List Reply) (budget turns : ℕ) (old new : Instance) (p : IsPrepared m replies budget turns old) (f : ℕ) (watch : Option Pos)
    (args : List Value) (run : Run) (h : Invokes m old new f args (budget - turns) watch (Ok run)) where
  pub turns_within : TurnsWithin (budget - turns) run.ended
  turns_within =
      let w = some_watch m f watch in
      let o : IsOutcome m f w.0 args p.state (budget - turns) run new = h.1 p.state p.stands w.0 w.1 in
      within_by m f w.0 args p.state (budget - turns) run.ended o.final run.trace.items o.outcome

  pub run_ends : CanRun m replies → (i : ℕ) → Watches m f watch i → RunsTo m f i args replies budget (Ran (after_turns turns run.ended) run.trace.items)
  run_ends can i w =
      let o : IsOutcome m f i args p.state (budget - turns) run new = h.1 p.state p.stands i w in
      ran turns p.state o.final run.ended run.trace.items can p.prepared o.outcome

-- the start function doesn't return
pub start_ends : (m : Module) (f i : ℕ) (args : List Value) (replies : List Reply) (budget : ℕ) (e : Ended) → CanRun m replies → Stops m replies budget e
    → RunsTo m f i args replies budget (InStart e)
start_ends m f i args replies budget e can s = in_start s.func s.at e s.final s.events can s.start s.outcome s.stopped
