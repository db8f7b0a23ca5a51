-- A typed sequence keeps types: by recursion on marked code, with the labels' types beside their numbers.
use Rattle.std.proofs.Common.{◌≡◌, ℕ, zero, suc, List, [], ◌∷◌, ◌++◌, map, take, drop, Bool, Option, Some, None, length, slice_get, All, refl, sym, ap, ap₂, ◌∙◌, subst}
use Rattle.std.proofs.lemmas.List.Elements.{All-head, All-tail}
use Rattle.wasm_types.specs.declared.module.Value.{Value}
use Rattle.wasm_types.specs.declared.module.ValType.{ValType}
use Rattle.wasm_types.specs.declared.module.ValType.TheVariants as type
use Rattle.wasm_types.specs.declared.module.Module.{Module}
use Rattle.wasm_types.specs.Marked.{Marked, End, Do, Block, Loop, If, Br, BrIf, BrTable, Return, Unreachable, unmarked}
use Rattle.wasm_types.specs.WellFormed.{ProperCode}
use Rattle.wasm_types.specs.Validity.{values_of, Leads}
use Rattle.wasm_meaning.specs.State.{State}
use Rattle.wasm_meaning.specs.Fits.{HasType, HaveTypes}
use Rattle.wasm_types.specs.declared.run.Event.{Event}
use Rattle.wasm_types.specs.Actions.{callees, takes}
use Rattle.wasm_types.specs.Labels.{arity, carried, outermost}
use Rattle.wasm_meaning.specs.Operations.{number_of}
use Rattle.wasm_meaning.specs.Effects.{fixed, Answer, Gives, Stops, effect}
use Rattle.wasm_meaning.specs.Run.{Here, Outcome, Normal, Branch, Stopped, Run, ends, after, go_on, then_do, chosen, at_stack, leave_by, leave, back, again_by, again, Below, do_step, if_zero, on_top, run}
use Rattle.typed_runs.specs.Kept.{standing, StoreKept, EndKept, RunKept, AnswerKept, CallsKept}
use Rattle.typed_runs.proofs.MarkedCode.{ByKind, passed}
use Rattle.wasm_meaning.proofs.Values.{some_same, have_append, have_split}
use Rattle.typed_runs.proofs.States.{turned_kept}
use Rattle.typed_runs.proofs.ActionsKept.{instructions_keep_types}

-- ---- labels

-- the labels of a function with this result
abbrev pub labels : List (List ValType) → List ValType → List (List ValType)
labels outer result = outer ++ result ∷ []

arity_is : (kind : Option ValType) → arity kind ≡ length (values_of kind)
arity_is None = refl
arity_is (Some t) = refl

carried_is : (Ls : List (List ValType)) (l : ℕ) (t : List ValType) → slice_get Ls l ≡ Some t → carried (map length Ls) l ≡ length t
carried_is [] l t e = absurd cc
carried_is (x ∷ Ls) zero t e = ap length (some_same e)
carried_is (x ∷ Ls) (suc l) t e = carried_is Ls l t e

last_label : (outer : List (List ValType)) (result : List ValType) → slice_get (labels outer result) (length outer) ≡ Some result
last_label [] result = refl
last_label (x ∷ outer) result = last_label outer result

count_labels : (outer : List (List ValType)) (result : List ValType) → length (map length (labels outer result)) ≡ suc (length outer)
count_labels [] result = refl
count_labels (x ∷ outer) result = ap suc (count_labels outer result)

outermost_is : (outer : List (List ValType)) (result : List ValType) → outermost (map length (labels outer result)) ≡ length outer
outermost_is [] result = refl
outermost_is (x ∷ outer) result = count_labels outer result

chosen_is : (Ls : List (List ValType)) (some : List ℕ) (other n : ℕ) (t : List ValType) → slice_get Ls other ≡ Some t
    → All (λ k. slice_get Ls k ≡ Some t) some → slice_get Ls (chosen some other n) ≡ Some t
chosen_is Ls [] other n t e all = e
chosen_is Ls (k ∷ some) other zero t e all = All-head (λ k. slice_get Ls k ≡ Some t) k some all
chosen_is Ls (k ∷ some) other (suc n) t e all = chosen_is Ls some other n t e (All-tail (λ k. slice_get Ls k ≡ Some t) k some all)

-- ---- what is left of the number of turns

-- calls keep types, and so do further laps of a loop: a branch back to it comes out of them no more
pub record BelowKept (m : Module) (z : State) (b : Below) : Type 0 where
  pub call : CallsKept m z b.call
  pub lap : (types result : List ValType) (outer : List (List ValType)) (ls : List ℕ) (body : Marked) (to : List ValType)
      → ls ≡ map length (labels outer result) → ByKind body → ProperCode (unmarked body)
      → Leads (standing m types result) ([] ∷ labels outer result) (unmarked body) [] to
      → (h : Here) → HaveTypes h.stack [] → StoreKept m z types h.store → RunKept m z types (to ∷ labels outer result) to (b.lap ls body h)

module _ (m : Module) (z : State) (types : List ValType) where
  abbrev Keeps : List (List ValType) → List ValType → Run → Type 0
  Keeps Ls to r = RunKept m z types Ls to r

  -- from where stacks have these types and stores are kept
  abbrev Goes : List (List ValType) → List ValType → List ValType → (Here → Run) → Type 0
  Goes Ls from to go = (h : Here) → HaveTypes h.stack from → StoreKept m z types h.store → Keeps Ls to (go h)

  after_kept : (Ls : List (List ValType)) (to : List ValType) (es : List Event) (r : Run) → Keeps Ls to r → Keeps Ls to (after es r)
  after_kept Ls to es r k = record { ends = k.ends; store = k.store }

  go_on_kept : (Ls : List (List ValType)) (mid to : List ValType) (o : Outcome) (r : Run) (go : Here → Run) → r.outcome ≡ o → Keeps Ls mid r
      → Goes Ls mid to go → Keeps Ls to (go_on o r go)
  go_on_kept Ls mid to Normal r go e k g = after_kept Ls to r.events (go r.there) (g r.there (subst (λ x. EndKept Ls mid x r.there.stack) e k.ends) k.store)
  go_on_kept Ls mid to
      (Branch l) r go e k g = record {
        ends = subst (λ x. EndKept Ls to x r.there.stack) (sym e)
            (subst (λ x. EndKept Ls mid x r.there.stack) e k.ends);
        store = k.store;
      }
  go_on_kept Ls mid to
      (Stopped why) r go e k g = record {
        ends = subst (λ x. EndKept Ls to x r.there.stack) (sym e)
            (subst (λ x. EndKept Ls mid x r.there.stack) e k.ends);
        store = k.store;
      }

  then_kept : (Ls : List (List ValType)) (mid to : List ValType) (r : Run) (go : Here → Run) → Keeps Ls mid r → Goes Ls mid to go → Keeps Ls to (then_do r go)
  then_kept Ls mid to r go k g = go_on_kept Ls mid to r.outcome r go refl k g

  -- a block of this label and these results, above this stack
  leave_by_kept : (Ls : List (List ValType)) (to s : List ValType) (o : Outcome) (below : List Value) (r : Run) → r.outcome ≡ o → Keeps (to ∷ Ls) to r
      → HaveTypes below s → Keeps Ls (to ++ s) (leave_by o below r)
  leave_by_kept Ls to s Normal below r e k h = record {
    ends = have_append r.there.stack below to s
        (subst (λ x. EndKept (to ∷ Ls) to x r.there.stack) e k.ends) h;
    store = k.store;
  }
  leave_by_kept Ls to s (Branch zero) below r e k h =
      let a = subst (λ x. EndKept (to ∷ Ls) to x r.there.stack) e k.ends in
      record { ends = have_append r.there.stack below to s (subst (HaveTypes r.there.stack) (sym (some_same a.1)) a.2) h; store = k.store }
  leave_by_kept Ls to s (Branch (suc l)) below r e k h = record { ends = subst (λ x. EndKept (to ∷ Ls) to x r.there.stack) e k.ends; store = k.store }
  leave_by_kept Ls to s
      (Stopped why) below r e k h = record {
        ends = subst (λ x. EndKept Ls (to ++ s) x r.there.stack) (sym e)
            (subst (λ x. EndKept (to ∷ Ls) to x r.there.stack) e k.ends);
        store = k.store;
      }

  leave_kept : (Ls : List (List ValType)) (to s : List ValType) (below : List Value) (r : Run) → Keeps (to ∷ Ls) to r → HaveTypes below s
      → Keeps Ls (to ++ s) (leave below r)
  leave_kept Ls to s below r k h = leave_by_kept Ls to s r.outcome below r refl k h

  again_by_kept : (Ls : List (List ValType)) (to : List ValType) (o : Outcome) (r : Run) (go : Here → Run) → r.outcome ≡ o → Keeps ([] ∷ Ls) to r
      → Goes (to ∷ Ls) [] to go → Keeps (to ∷ Ls) to (again_by o r go)
  again_by_kept Ls to (Branch zero) r go e k g =
      after_kept (to ∷ Ls) to r.events (go (back r.there)) (g (back r.there) tt (turned_kept m z types r.there.store k.store))
  again_by_kept Ls to
      (Branch (suc l)) r go e k g = record {
        ends = subst (λ x. EndKept (to ∷ Ls) to x r.there.stack) (sym e)
            (subst (λ x. EndKept ([] ∷ Ls) to x r.there.stack) e k.ends);
        store = k.store;
      }
  again_by_kept Ls to Normal r go e k g = record {
    ends = subst (λ x. EndKept (to ∷ Ls) to x r.there.stack) (sym e)
        (subst (λ x. EndKept ([] ∷ Ls) to x r.there.stack) e k.ends);
    store = k.store;
  }
  again_by_kept Ls to
      (Stopped why) r go e k g = record {
        ends = subst (λ x. EndKept (to ∷ Ls) to x r.there.stack) (sym e)
            (subst (λ x. EndKept ([] ∷ Ls) to x r.there.stack) e k.ends);
        store = k.store;
      }

  pub again_kept : (Ls : List (List ValType)) (to : List ValType) (r : Run) (go : Here → Run) → Keeps ([] ∷ Ls) to r → Goes (to ∷ Ls) [] to go
      → Keeps (to ∷ Ls) to (again r go)
  again_kept Ls to r go k g = again_by_kept Ls to r.outcome r go refl k g

  step_kept : (Ls : List (List ValType)) (l rest to : List ValType) (mark : Bool) (n : ℕ) (h : Here) (a : Answer) (go : Here → Run)
      → AnswerKept m z types l a → HaveTypes (drop n h.stack) rest → StoreKept m z types h.store → Goes Ls (l ++ rest) to go
      → Keeps Ls to (do_step mark n h a go)
  step_kept Ls l rest to mark n h (Gives e) go k d s g =
      after_kept Ls to _ _ (g (record { stack = e.results ++ drop n h.stack; store = e.store }) (have_append e.results (drop n h.stack) l rest k.0 d) k.1)
  step_kept Ls l rest to mark n h (Stops why st) go k d s g = record { ends = k.0; store = record { locals = s.locals; state = k.1 } }

  on_top_kept : (Ls : List (List ValType)) (t : ValType) (rest to : List ValType) (h : Here) (vs : List Value) (go : Value → List Value → Run)
      → HaveTypes vs (t ∷ rest) → ((v : Value) (s : List Value) → HasType v t → HaveTypes s rest → Keeps Ls to (go v s)) → Keeps Ls to (on_top h vs go)
  on_top_kept Ls t rest to h [] go k g = absurd k
  on_top_kept Ls t rest to h (v ∷ s) go k g = g v s k.0 k.1

  if_zero_kept : (Ls : List (List ValType)) (to : List ValType) (n : ℕ) (x y : Run) → Keeps Ls to x → Keeps Ls to y → Keeps Ls to (if_zero n x y)
  if_zero_kept Ls to zero x y a b = a
  if_zero_kept Ls to (suc n) x y a b = b

  -- a branch to a label, of a stack that begins with what it carries
  branch_kept : (Ls : List (List ValType)) (ls : List ℕ) (to t r : List ValType) (l : ℕ) (vs : List Value) (h : Here)
      → ls ≡ map length Ls → slice_get Ls l ≡ Some t → HaveTypes vs (t ++ r) → StoreKept m z types h.store
      → Keeps Ls to (ends (Branch l) (at_stack (take (carried ls l) vs) h))
  branch_kept Ls ls to t r l vs h e at k s =
      let n : carried ls l ≡ length t = ap (λ x. carried x l) e ∙ carried_is Ls l t at in
      record { ends = (t, at, subst (λ x. HaveTypes (take x vs) t) (sym n) (have_split vs t r k).0); store = s }

  module _ (result : List ValType) (b : Below) (bk : BelowKept m z b) where
    pub sequence_kept : (outer : List (List ValType)) (ls : List ℕ) → ls ≡ map length (labels outer result) → (code : Marked) → ByKind code
        → ProperCode (unmarked code) → (from to : List ValType)
        → Leads (standing m types result) (labels outer result) (unmarked code) from to → Goes (labels outer result) from to (run (fixed m z) b ls code)
    sequence_kept outer ls e End bk' pc from to q h hs s = record { ends = subst (HaveTypes h.stack) q hs; store = s }
    sequence_kept outer ls e (Do mark op rest) kind pc from to (mid, p, q) h hs s =
        let (t, l, r, ty, f, g) = passed (standing m types result) (labels outer result) op from mid kind.0 p in
        let a = instructions_keep_types m z b.call bk.call types result op t l pc.0 ty in
        let n : takes (callees m) op ≡ length t = a.0 in
        let d = have_split h.stack t r (subst (HaveTypes h.stack) f hs) in
        step_kept (labels outer result) l r to mark (takes (callees m) op) h (effect (fixed m z) b.call op (take (takes (callees m) op) h.stack) h.store)
        (run (fixed m z) b ls rest)
        (a.2 (take (takes (callees m) op) h.stack) (subst (λ x. HaveTypes (take x h.stack) t) (sym n) d.0) h.store s)
        (subst (λ x. HaveTypes (drop x h.stack) r) (sym n) d.1) s
        (λ h' hs' s'. sequence_kept outer ls e rest kind.1 pc.1 mid to q h' (subst (HaveTypes h'.stack) (sym g) hs') s')
    sequence_kept outer ls e (Block mark kind body rest) bk' pc from to q h hs s =
        let Ls = labels outer result in
        let e' = ap₂ {A = ℕ} {B = List ℕ} (λ x xs. x ∷ xs) (arity_is kind) e in
        after_kept Ls to _ _ (then_kept Ls (values_of kind ++ from) to _ (run (fixed m z) b ls rest)
        (leave_kept Ls (values_of kind) from h.stack _
        (sequence_kept (values_of kind ∷ outer) (arity kind ∷ ls) e' body bk'.0 pc.0 [] (values_of kind) q.0 (at_stack [] h) tt s) hs)
        (λ h' hs' s'. sequence_kept outer ls e rest bk'.1 pc.1 (values_of kind ++ from) to q.1 h' hs' s'))
    sequence_kept outer ls e (Loop mark kind body rest) bk' pc from to q h hs s =
        let Ls = labels outer result in
        let e' = ap (λ xs. 0 ∷ xs) e in
        after_kept Ls to _ _ (then_kept Ls (values_of kind ++ from) to _ (run (fixed m z) b ls rest)
        (leave_kept Ls (values_of kind) from h.stack _ (again_kept Ls (values_of kind) _ (b.lap ls body)
        (sequence_kept ([] ∷ outer) (0 ∷ ls) e' body bk'.0 pc.0 [] (values_of kind) q.0 (at_stack [] h) tt s)
        (λ h' hs' s'. bk.lap types result outer ls body (values_of kind) e bk'.0 pc.0 q.0 h' hs' s')) hs)
        (λ h' hs' s'. sequence_kept outer ls e rest bk'.1 pc.1 (values_of kind ++ from) to q.1 h' hs' s'))
    sequence_kept outer ls e (If mark kind x y rest) bk' pc from to (r, f, qx, qy, q) h hs s =
        let Ls = labels outer result in
        let e' = ap₂ {A = ℕ} {B = List ℕ} (λ x xs. x ∷ xs) (arity_is kind) e in
        on_top_kept Ls type.I32 r to h h.stack _ (subst (HaveTypes h.stack) f hs) (λ v below hv hb.
        after_kept Ls to _ _ (then_kept Ls (values_of kind ++ r) to _ (run (fixed m z) b ls rest)
        (leave_kept Ls (values_of kind) r below _ (if_zero_kept (values_of kind ∷ Ls) (values_of kind) (number_of v) _ _
        (sequence_kept (values_of kind ∷ outer) (arity kind ∷ ls) e' y bk'.1 pc.1 [] (values_of kind) qy (at_stack [] h) tt s)
        (sequence_kept (values_of kind ∷ outer) (arity kind ∷ ls) e' x bk'.0 pc.0 [] (values_of kind) qx (at_stack [] h) tt s)) hb)
        (λ h' hs' s'. sequence_kept outer ls e rest bk'.2 pc.2 (values_of kind ++ r) to q h' hs' s')))
    sequence_kept outer ls e (Br mark l rest) bk' pc from to (mid, (t, r, at, f), q) h hs s =
        after_kept (labels outer result) to _ _ (branch_kept (labels outer result) ls to t r l h.stack h e at (subst (HaveTypes h.stack) f hs) s)
    sequence_kept outer ls e (BrIf mark l rest) bk' pc from to (mid, (t, r, at, f, g), q) h hs s =
        let Ls = labels outer result in
        on_top_kept Ls type.I32 (t ++ r) to h h.stack _ (subst (HaveTypes h.stack) f hs) (λ v below hv hb.
        after_kept Ls to _ _ (if_zero_kept Ls to (number_of v) _ _
        (sequence_kept outer ls e rest bk' pc.1 mid to q (at_stack below h) (subst (HaveTypes below) (sym g) hb) s)
        (branch_kept Ls ls to t r l below h e at hb s)))
    sequence_kept outer ls e (BrTable mark some other rest) bk' pc from to (mid, (t, r, at, each, f), q) h hs s =
        let Ls = labels outer result in
        on_top_kept Ls type.I32 (t ++ r) to h h.stack _ (subst (HaveTypes h.stack) f hs) (λ v below hv hb.
        after_kept Ls to _ _ (branch_kept Ls ls to t r (chosen some other (number_of v)) below h e (chosen_is Ls some other (number_of v) t at each) hb s))
    sequence_kept outer ls e (Return mark rest) bk' pc from to (mid, (r, f), q) h hs s =
        let Ls = labels outer result in
        let o : outermost ls ≡ length outer = ap outermost e ∙ outermost_is outer result in
        after_kept Ls to _ _
        (branch_kept Ls ls to result r (outermost ls) h.stack h e (subst (λ x. slice_get Ls x ≡ Some result) (sym o) (last_label outer result))
        (subst (HaveTypes h.stack) f hs) s)
    sequence_kept outer ls e (Unreachable mark rest) bk' pc from to q h hs s = record { ends = tt; store = s }
