-- What is watched changes only what is seen: an invocation ends in the same way at each watched position.
use Rattle.std.proofs.Common.{◌≡◌, ℕ, zero, suc, ◌+◌, List, [], ◌∷◌, Bool, Option, Some, None, take, refl, sym, ap₂, subst, nat_eq}
use Rattle.wasm_types.specs.declared.module.Value.{Value}
use Rattle.wasm_types.specs.declared.module.Module.{Module}
use Rattle.wasm_types.specs.declared.instr.Instr.{Instr}
use Rattle.wasm_types.specs.declared.instr.Instr as instr
use Rattle.wasm_types.specs.declared.run.Event.{Event}
use Rattle.wasm_types.specs.declared.run.Ended.{Ended}
use Rattle.wasm_types.specs.declared.run.Ended.TheVariants as ended
use Rattle.wasm_types.specs.Actions.{callees, takes}
use Rattle.wasm_types.specs.Code.{Code, done, one, block, repeat, branch, count}
use Rattle.wasm_types.specs.Funcs.{Func, func_of}
use Rattle.wasm_types.specs.Hosts.{HostFunc, host_of}
use Rattle.wasm_types.specs.Labels.{arity}
use Rattle.wasm_types.specs.Marked.{Marked, plain, marked}
use Rattle.wasm_meaning.specs.State.{State, Store}
use Rattle.wasm_meaning.specs.Effects.{Fixed, fixed, Answer, Gives, Stops, Calls, effect}
use Rattle.wasm_meaning.specs.Operations.{number_of}
use Rattle.wasm_meaning.specs.Run.{Here, Outcome, Normal, Branch, Stopped, Run, Below, after, then_do, at_stack, leave, back, again, do_step, if_zero, on_top, run, below}
use Rattle.wasm_meaning.specs.Invoke.{calls, nested, returned, entered, alone, invoked_own, invoked_by, invocation, Ending, Ends, EndsAs, HasOutcome}

-- two runs end in the same way
record Alike (r r' : Run) : Type 0 where
  outcome : r'.outcome ≡ r.outcome
  there : r'.there ≡ r.there

abbrev run_of : Outcome → Here → List Event → Run
run_of o h es = record { outcome = o; there = h; events = es }

-- the second run is the first with other events
with_events : (r r' : Run) → Alike r r' → r' ≡ run_of r.outcome r.there r'.events
with_events r r' a = ap₂ {A = Outcome} {B = Here} (λ o h. run_of o h r'.events) a.outcome a.there

after_alike : (es es' : List Event) (r r' : Run) → Alike r r' → Alike (after es r) (after es' r')
after_alike es es' r r' a = record { outcome = a.outcome; there = a.there }

then_by : (o : Outcome) (h : Here) (es es' : List Event) (go go' : Here → Run) → ((h : Here) → Alike (go h) (go' h))
    → Alike (then_do (run_of o h es) go) (then_do (run_of o h es') go')
then_by Normal h es es' go go' f = let a = f h in record { outcome = a.outcome; there = a.there }
then_by (Branch l) h es es' go go' f = record { outcome = refl; there = refl }
then_by (Stopped why) h es es' go go' f = record { outcome = refl; there = refl }

then_alike : (r r' : Run) (go go' : Here → Run) → Alike r r' → ((h : Here) → Alike (go h) (go' h)) → Alike (then_do r go) (then_do r' go')
then_alike r r' go go' a f =
    subst (λ z. Alike (then_do r go) (then_do z go')) (sym (with_events r r' a)) (then_by r.outcome r.there r.events r'.events go go' f)

leave_by : (s : List Value) (o : Outcome) (h : Here) (es es' : List Event) → Alike (leave s (run_of o h es)) (leave s (run_of o h es'))
leave_by s Normal h es es' = record { outcome = refl; there = refl }
leave_by s (Branch zero) h es es' = record { outcome = refl; there = refl }
leave_by s (Branch (suc l)) h es es' = record { outcome = refl; there = refl }
leave_by s (Stopped why) h es es' = record { outcome = refl; there = refl }

leave_alike : (s : List Value) (r r' : Run) → Alike r r' → Alike (leave s r) (leave s r')
leave_alike s r r' a = subst (λ z. Alike (leave s r) (leave s z)) (sym (with_events r r' a)) (leave_by s r.outcome r.there r.events r'.events)

again_by : (o : Outcome) (h : Here) (es es' : List Event) (go go' : Here → Run) → ((h : Here) → Alike (go h) (go' h))
    → Alike (again (run_of o h es) go) (again (run_of o h es') go')
again_by Normal h es es' go go' f = record { outcome = refl; there = refl }
again_by (Branch zero) h es es' go go' f = let a = f (back h) in record { outcome = a.outcome; there = a.there }
again_by (Branch (suc l)) h es es' go go' f = record { outcome = refl; there = refl }
again_by (Stopped why) h es es' go go' f = record { outcome = refl; there = refl }

again_alike : (r r' : Run) (go go' : Here → Run) → Alike r r' → ((h : Here) → Alike (go h) (go' h)) → Alike (again r go) (again r' go')
again_alike r r' go go' a f =
    subst (λ z. Alike (again r go) (again z go')) (sym (with_events r r' a)) (again_by r.outcome r.there r.events r'.events go go' f)

zero_alike : (v : ℕ) (a b a' b' : Run) → Alike a a' → Alike b b' → Alike (if_zero v a b) (if_zero v a' b')
zero_alike zero a b a' b' s t = s
zero_alike (suc v) a b a' b' s t = t

top_alike : (s : List Value) (h : Here) (go go' : Value → List Value → Run) → ((v : Value) (s : List Value) → Alike (go v s) (go' v s))
    → Alike (on_top h s go) (on_top h s go')
top_alike [] h go go' f = record { outcome = refl; there = refl }
top_alike (v ∷ s) h go go' f = f v s

do_alike : (m m' : Bool) (n : ℕ) (h : Here) (e : Answer) (go go' : Here → Run) → ((h : Here) → Alike (go h) (go' h))
    → Alike (do_step m n h e go) (do_step m' n h e go')
do_alike m m' n h (Gives e) go go' f = after_alike _ _ _ _ (f _)
do_alike m m' n h (Stops why s) go go' f = record { outcome = refl; there = refl }

module _ (Z : Fixed) (w w' : ℕ → Bool) where
  abbrev SameLaps : Below → Type 0
  SameLaps b = (ls : List ℕ) (code : Code) (p : ℕ) (h : Here) → Alike (b.lap ls (marked w p code) h) (b.lap ls (marked w' p code) h)

  leaf_alike : (b : Below) (m m' : Bool) (op : Instr) (rest rest' : Marked) (ls : List ℕ) (h : Here)
      → ((h : Here) → Alike (run Z b ls rest h) (run Z b ls rest' h)) → Alike (run Z b ls (plain m op rest) h) (run Z b ls (plain m' op rest') h)
  leaf_alike b m m' (instr.Br l) rest rest' ls h f = record { outcome = refl; there = refl }
  leaf_alike b m m' (instr.BrIf l) rest rest' ls h f =
      top_alike h.stack h _ _ (λ v st. after_alike _ _ _ _ (zero_alike (number_of v) _ _ _ _ (f (at_stack st h)) (record { outcome = refl; there = refl })))
  leaf_alike b m m' (instr.BrTable labels other) rest rest' ls h f = top_alike h.stack h _ _ (λ v st. record { outcome = refl; there = refl })
  leaf_alike b m m' instr.Return rest rest' ls h f = record { outcome = refl; there = refl }
  leaf_alike b m m' instr.Unreachable rest rest' ls h f = record { outcome = refl; there = refl }
  leaf_alike b m m' op rest rest' ls h f =
      do_alike m m' (takes (callees Z.m) op) h (effect Z b.call op (take (takes (callees Z.m) op) h.stack) h.store) (run Z b ls rest) (run Z b ls rest') f

  run_alike : (b : Below) → SameLaps b → (code : Code) (p : ℕ) (ls : List ℕ) (h : Here)
      → Alike (run Z b ls (marked w p code) h) (run Z b ls (marked w' p code) h)
  run_alike b s done p ls h = record { outcome = refl; there = refl }
  run_alike b s (one op rest) p ls h = leaf_alike b (w p) (w' p) op _ _ ls h (λ h1. run_alike b s rest (p + 1) ls h1)
  run_alike b s (block t body rest) p ls h =
      after_alike _ _ _ _
      (then_alike _ _ _ _ (leave_alike h.stack _ _ (run_alike b s body (p + 1) (arity t ∷ ls) (at_stack [] h)))
      (λ h1. run_alike b s rest (p + 1 + count body) ls h1))
  run_alike b s (repeat t body rest) p ls h =
      after_alike _ _ _ _
      (then_alike _ _ _ _
      (leave_alike h.stack _ _
      (again_alike _ _ _ _ (run_alike b s body (p + 1) (0 ∷ ls) (at_stack [] h)) (λ h1. s ls body (p + 1) h1)))
      (λ h1. run_alike b s rest (p + 1 + count body) ls h1))
  run_alike b s (branch t x y rest) p ls h = top_alike h.stack h _ _ (λ v st.
      after_alike _ _ _ _
      (then_alike _ _ _ _
      (leave_alike st _ _
      (zero_alike (number_of v) _ _ _ _ (run_alike b s y (p + 1 + count x) (arity t ∷ ls) (at_stack [] h))
      (run_alike b s x (p + 1) (arity t ∷ ls) (at_stack [] h))))
      (λ h1. run_alike b s rest (p + 1 + count x + count y) ls h1)))

  same_laps : (F : Below → Calls) (n : ℕ) → SameLaps (below Z F n)
  same_laps F zero ls code p h = record { outcome = refl; there = refl }
  same_laps F (suc n) ls code p h =
      again_alike _ _ _ _ (run_alike (below Z F n) (same_laps F n) code p (0 ∷ ls) h) (λ h1. same_laps F n ls code p h1)

  own_answer : (n : ℕ) (o : Option Func) (args : List Value) (s : Store)
      → (invoked_own Z (nested Z n) w' o args s).answer ≡ (invoked_own Z (nested Z n) w o args s).answer
  own_answer n None args s = refl
  own_answer n (Some F) args s =
      let a = run_alike (nested Z n) (same_laps (calls Z) n) F.code 0 (F.results ∷ []) (entered F args s.state) in
      ap₂ {A = Outcome} {B = Here} (λ o h. returned o s h) a.outcome a.there

  by_answer : (n : ℕ) (o : Option HostFunc) (f : ℕ) (args : List Value) (s : Store)
      → (invoked_by Z (nested Z n) w' o f args s).answer ≡ (invoked_by Z (nested Z n) w o f args s).answer
  by_answer n None f args s = own_answer n (func_of Z.m f) args s
  by_answer n (Some H) f args s = refl

same_answer : (m : Module) (n : ℕ) (w w' : ℕ → Bool) (f : ℕ) (args : List Value) (s : State)
    → (invocation m n w' f args s).answer ≡ (invocation m n w f args s).answer
same_answer m n w w' f args s = by_answer (fixed m s) w w' n (host_of m f) f args (alone s)

module _ (m : Module) (f i j : ℕ) (args : List Value) (s : State) where
  -- it ends so too where position j is watched
  pub ends_at : (ending : Ending) (final : State) (events : List Event) → Ends m f i args s ending final events
      → (all : List Event) × Ends m f j args s ending final all
  ends_at ending final events e = (
    (invocation m e.depth (nat_eq j) f args s).events,
    record { depth = e.depth; ends = subst (λ a. EndsAs a ending final) (sym (same_answer m e.depth (nat_eq i) (nat_eq j) f args s)) e.ends; shows = refl },
  )

pub outcome_at : (m : Module) (f i j : ℕ) (args : List Value) (s : State) (budget : ℕ) (ended : Ended) (final : State) (events : List Event)
    → HasOutcome m f i args s budget ended final events → (all : List Event) × HasOutcome m f j args s budget ended final all
outcome_at m f i j args s budget (ended.Returned value turns) final events h =
    let e = ends_at m f i j args s _ final events h.0 in (e.0, (e.1, h.1, h.2))
outcome_at m f i j args s budget (ended.Trapped reason turns) final events h =
    let e = ends_at m f i j args s _ final events h.0 in (e.0, (e.1, h.1, h.2))
outcome_at m f i j args s budget ended.OutOfTurns final events h =
    ([], (refl, λ ending last all e. let g = ends_at m f j i args s ending last all e in h.1 ending last g.0 g.1))
