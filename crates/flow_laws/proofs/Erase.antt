-- Marks change only what is seen: a run ends in the same way whatever is watched.
use Rattle.std.proofs.Common.{◌≡◌, ℕ, zero, suc, ◌+◌, List, [], ◌∷◌, Bool, false, take, reverse, refl, sym, ap, ap₂, ◌∙◌, subst}
use Rattle.wasm_types.specs.declared.module.Value.{Value}
use Rattle.wasm_types.specs.declared.instr.Instr.{Instr}
use Rattle.wasm_types.specs.declared.instr.Instr as instr
use Rattle.wasm_types.specs.Code.{Code, done, one, block, repeat, branch, count}
use Rattle.wasm_types.specs.Marked.{Marked, End, Do, Block, Loop, If, Br, BrIf, BrTable, Return, Unreachable, plain, marked}
use Rattle.wasm_meaning.specs.Effects.{Fixed, Answer, Gives, Stops, Calls}
use Rattle.wasm_types.specs.Actions.{callees, takes}
use Rattle.wasm_meaning.specs.Operations.{number_of}
use Rattle.wasm_meaning.specs.Run.{Here, Outcome, Normal, Branch, Stopped, Run, after, seen, then_do, at_stack, leave, back, again, do_step, if_zero, on_top, Below, run, below}
use Rattle.wasm_types.specs.declared.run.Event.{Event}
use Rattle.wasm_types.specs.declared.run.Event.TheVariants.{Take}
use Rattle.wasm_types.specs.Labels.{arity, carried}
use Rattle.wasm_types.specs.Funcs.{unwatched}
use Rattle.flow_laws.proofs.Region.{mk}

-- the sequence with nothing watched
abbrev pub bare : Marked → Marked
bare End = End
bare (Do m op rest) = Do false op (bare rest)
bare (Block m kind body rest) = Block false kind (bare body) (bare rest)
bare (Loop m kind body rest) = Loop false kind (bare body) (bare rest)
bare (If m kind x y rest) = If false kind (bare x) (bare y) (bare rest)
bare (Br m l rest) = Br false l (bare rest)
bare (BrIf m l rest) = BrIf false l (bare rest)
bare (BrTable m labels other rest) = BrTable false labels other (bare rest)
bare (Return m rest) = Return false (bare rest)
bare (Unreachable m rest) = Unreachable false (bare rest)

-- two runs end in the same way
pub record Alike (r r' : Run) : Type 0 where
  pub outcome : r'.outcome ≡ r.outcome
  pub there : r'.there ≡ r.there

alike-after : (es es' : List Event) (r r' : Run) → Alike r r' → Alike (after es r) (after es' r')
alike-after es es' r r' a = record { outcome = a.outcome; there = a.there }

-- the second run is the first with other events
with_events : (r r' : Run) → Alike r r' → r' ≡ record { outcome = r.outcome; there = r.there; events = r'.events }
with_events r r' a = ap₂ {A = Outcome} {B = Here} (λ o h. record { outcome = o; there = h; events = r'.events }) a.outcome a.there

alike-then : (o : Outcome) (h : Here) (es es' : List Event) (go go' : Here → Run) → ((h : Here) → Alike (go h) (go' h))
    → Alike (then_do (mk o h es) go) (then_do (mk o h es') go')
alike-then Normal h es es' go go' f = let a = f h in record { outcome = a.outcome; there = a.there }
alike-then (Branch l) h es es' go go' f = record { outcome = refl; there = refl }
alike-then (Stopped why) h es es' go go' f = record { outcome = refl; there = refl }

alike-then_of : (r r' : Run) (go go' : Here → Run) → Alike r r' → ((h : Here) → Alike (go h) (go' h)) → Alike (then_do r go) (then_do r' go')
alike-then_of r r' go go' a f =
    subst (λ z. Alike (then_do r go) (then_do z go')) (sym (with_events r r' a)) (alike-then r.outcome r.there r.events r'.events go go' f)

alike-leave : (s : List Value) (o : Outcome) (h : Here) (es es' : List Event) → Alike (leave s (mk o h es)) (leave s (mk o h es'))
alike-leave s Normal h es es' = record { outcome = refl; there = refl }
alike-leave s (Branch zero) h es es' = record { outcome = refl; there = refl }
alike-leave s (Branch (suc l)) h es es' = record { outcome = refl; there = refl }
alike-leave s (Stopped why) h es es' = record { outcome = refl; there = refl }

alike-leave_of : (s : List Value) (r r' : Run) → Alike r r' → Alike (leave s r) (leave s r')
alike-leave_of s r r' a = subst (λ z. Alike (leave s r) (leave s z)) (sym (with_events r r' a)) (alike-leave s r.outcome r.there r.events r'.events)

alike-again : (o : Outcome) (h : Here) (es es' : List Event) (go go' : Here → Run) → ((h : Here) → Alike (go h) (go' h))
    → Alike (again (mk o h es) go) (again (mk o h es') go')
alike-again Normal h es es' go go' f = record { outcome = refl; there = refl }
alike-again (Branch zero) h es es' go go' f = let a = f (back h) in record { outcome = a.outcome; there = a.there }
alike-again (Branch (suc l)) h es es' go go' f = record { outcome = refl; there = refl }
alike-again (Stopped why) h es es' go go' f = record { outcome = refl; there = refl }

alike-again_of : (r r' : Run) (go go' : Here → Run) → Alike r r' → ((h : Here) → Alike (go h) (go' h)) → Alike (again r go) (again r' go')
alike-again_of r r' go go' a f =
    subst (λ z. Alike (again r go) (again z go')) (sym (with_events r r' a)) (alike-again r.outcome r.there r.events r'.events go go' f)

alike-zero : (v : ℕ) (a b a' b' : Run) → Alike a a' → Alike b b' → Alike (if_zero v a b) (if_zero v a' b')
alike-zero zero a b a' b' s t = s
alike-zero (suc v) a b a' b' s t = t

alike-top : (s : List Value) (h : Here) (go go' : Value → List Value → Run) → ((v : Value) (s : List Value) → Alike (go v s) (go' v s))
    → Alike (on_top h s go) (on_top h s go')
alike-top [] h go go' f = record { outcome = refl; there = refl }
alike-top (v ∷ s) h go go' f = f v s

alike-do : (m m' : Bool) (n : ℕ) (h : Here) (e : Answer) (go go' : Here → Run) → ((h : Here) → Alike (go h) (go' h))
    → Alike (do_step m n h e go) (do_step m' n h e go')
alike-do m m' n h (Gives e) go go' f = alike-after _ _ _ _ (f _)
alike-do m m' n h (Stops why s) go go' f = record { outcome = refl; there = refl }

abbrev SameLaps : Below → Type 0
SameLaps b = (ls : List ℕ) (body : Marked) (h : Here) → Alike (b.lap ls body h) (b.lap ls (bare body) h)

alike_run : (Z : Fixed) (b : Below) → SameLaps b → (code : Marked) (ls : List ℕ) (h : Here) → Alike (run Z b ls code h) (run Z b ls (bare code) h)
alike_run Z b s End ls h = record { outcome = refl; there = refl }
alike_run Z b s (Do m op rest) ls h =
    alike-do m false (takes (callees Z.m) op) h _ (run Z b ls rest) (run Z b ls (bare rest)) (λ h1. alike_run Z b s rest ls h1)
alike_run Z b s (Block m t body rest) ls h =
    alike-after (seen m (Take [] ∷ [])) [] _ _
    (alike-then_of (leave h.stack (run Z b (arity t ∷ ls) body (at_stack [] h))) (leave h.stack (run Z b (arity t ∷ ls) (bare body) (at_stack [] h)))
    (run Z b ls rest) (run Z b ls (bare rest)) (alike-leave_of h.stack _ _ (alike_run Z b s body (arity t ∷ ls) (at_stack [] h)))
    (λ h1. alike_run Z b s rest ls h1))
alike_run Z b s (Loop m t body rest) ls h =
    let r = run Z b (0 ∷ ls) body (at_stack [] h) in let r' = run Z b (0 ∷ ls) (bare body) (at_stack [] h) in
    alike-after (seen m (Take [] ∷ [])) [] _ _
    (alike-then_of (leave h.stack (again r (b.lap ls body))) (leave h.stack (again r' (b.lap ls (bare body)))) (run Z b ls rest) (run Z b ls (bare rest))
    (alike-leave_of h.stack (again r (b.lap ls body)) (again r' (b.lap ls (bare body)))
    (alike-again_of r r' (b.lap ls body) (b.lap ls (bare body)) (alike_run Z b s body (0 ∷ ls) (at_stack [] h)) (λ h1. s ls body h1)))
    (λ h1. alike_run Z b s rest ls h1))
alike_run Z b s (If m t x y rest) ls h = alike-top h.stack h _ _ (λ v st.
    let r = if_zero (number_of v) (run Z b (arity t ∷ ls) y (at_stack [] h)) (run Z b (arity t ∷ ls) x (at_stack [] h)) in
    let r' = if_zero (number_of v) (run Z b (arity t ∷ ls) (bare y) (at_stack [] h)) (run Z b (arity t ∷ ls) (bare x) (at_stack [] h)) in
    alike-after (seen m (Take (v ∷ []) ∷ [])) [] _ _
    (alike-then_of (leave st r) (leave st r') (run Z b ls rest) (run Z b ls (bare rest)) (alike-leave_of st r r' (alike-zero (number_of v) _ _ _ _ (alike_run Z b s y (arity t ∷ ls) (at_stack [] h)) (alike_run Z b s x (arity t ∷ ls) (at_stack [] h)))) (λ h1. alike_run Z b s rest ls h1)))
alike_run Z b s (Br m l rest) ls h = record { outcome = refl; there = refl }
alike_run Z b s (BrIf m l rest) ls h =
    alike-top h.stack h _ _
    (λ v st. alike-after (seen m (Take (reverse (take (carried ls l + 1) h.stack)) ∷ [])) [] _ _
    (alike-zero (number_of v) _ _ _ _ (alike_run Z b s rest ls (at_stack st h)) (record { outcome = refl; there = refl })))
alike_run Z b s (BrTable m labels other rest) ls h = alike-top h.stack h _ _ (λ v st. record { outcome = refl; there = refl })
alike_run Z b s (Return m rest) ls h = record { outcome = refl; there = refl }
alike_run Z b s (Unreachable m rest) ls h = record { outcome = refl; there = refl }

same_laps : (Z : Fixed) (F : Below → Calls) (n : ℕ) → SameLaps (below Z F n)
same_laps Z F zero ls body h = record { outcome = refl; there = refl }
same_laps Z F (suc n) ls body h =
    alike-again_of (run Z (below Z F n) (0 ∷ ls) body h) (run Z (below Z F n) (0 ∷ ls) (bare body) h) ((below Z F n).lap ls body)
    ((below Z F n).lap ls (bare body)) (alike_run Z (below Z F n) (same_laps Z F n) body (0 ∷ ls) h) (λ h1. same_laps Z F n ls body h1)

bare_leaf : (m : Bool) (op : Instr) (rest : Marked) → bare (plain m op rest) ≡ plain false op (bare rest)
bare_leaf m instr.Return rest = refl
bare_leaf m _ rest = refl

pub bare_marked : (w : ℕ → Bool) (code : Code) (p : ℕ) → bare (marked w p code) ≡ marked unwatched p code
bare_marked w done p = refl
bare_marked w (one op rest) p = bare_leaf (w p) op (marked w (p + 1) rest) ∙ ap (plain false op) (bare_marked w rest (p + 1))
bare_marked w (block kind body rest) p =
    ap₂ {A = Marked} {B = Marked} (λ a b. Block false kind a b) (bare_marked w body (p + 1)) (bare_marked w rest (p + 1 + count body))
bare_marked w (repeat kind body rest) p =
    ap₂ {A = Marked} {B = Marked} (λ a b. Loop false kind a b) (bare_marked w body (p + 1)) (bare_marked w rest (p + 1 + count body))
bare_marked w (branch kind x y rest) p =
    ap (λ a. If false kind a (bare (marked w (p + 1 + count x) y)) (bare (marked w (p + 1 + count x + count y) rest))) (bare_marked w x (p + 1))
    ∙ ap₂ {A = Marked} {B = Marked} (λ a b. If false kind (marked unwatched (p + 1) x) a b) (bare_marked w y (p + 1 + count x))
    (bare_marked w rest (p + 1 + count x + count y))

-- a run of code in which some positions are watched, and the run in which none is
pub watched_alike : (Z : Fixed) (F : Below → Calls) (n : ℕ) (ls : List ℕ) (w : ℕ → Bool) (code : Code) (p : ℕ) (h : Here)
    → Alike (run Z (below Z F n) ls (marked w p code) h) (run Z (below Z F n) ls (marked unwatched p code) h)
watched_alike Z F n ls w code p h =
    subst (λ z. Alike (run Z (below Z F n) ls (marked w p code) h) (run Z (below Z F n) ls z h)) (bare_marked w code p)
    (alike_run Z (below Z F n) (same_laps Z F n) (marked w p code) ls h)
