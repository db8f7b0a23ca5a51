-- The law of the instructions: that of actions, of calls of imported functions, and of the instructions that call.
use Rattle.std.proofs.Common.{◌≡◌, ℕ, suc, List, [], ◌∷◌, Bool, true, false, Option, Some, None, nat_eq, if◌then◌else◌, length, refl, sym, ap, ◌∙◌, subst, arith}
use Rattle.wasm_types.specs.declared.module.Value.{Value}
use Rattle.wasm_types.specs.declared.module.FuncType.{FuncType}
use Rattle.wasm_types.specs.declared.instr.Instr.{Instr}
use Rattle.wasm_types.specs.Actions.{callees, Action, Callee, Callees, Own, Through, Form, NoForm, Plain, CallOf, CallBy, form_of, own_task, table_task, task_by, Task, NoTask, Asks, Acts, task_of, takes_of, takes}
use Rattle.wasm_meaning.specs.State.{Store, State}
use Rattle.wasm_meaning.specs.Stops.{Stuck}
use Rattle.wasm_meaning.specs.Operations.{number_of}
use Rattle.wasm_meaning.specs.Effects.{Fixed, Effect, Answer, Gives, Stops, Calls, Found, Finds, Fails, found, call_found, perform, do_task, act, effect}
use Rattle.wasm_meaning.specs.Laws.{TableAnswers, CalleeAnswers, CallLaw, InstructionLaw}
use Rattle.wasm_meaning.proofs.ActionLaws.{stuck, if_true, action_law}
use Rattle.wasm_meaning.proofs.HostLaws.{host_law}

-- a call through the table has its index on top
abbrev Through_more : Task → Type 0
Through_more NoTask = Unit {0}
Through_more (Acts a) = Unit {0}
Through_more (Asks (Own f) n r) = Unit {0}
Through_more (Asks (Through t k) n r) = n ≡ suc k

more_own : (f : ℕ) (o : Option FuncType) → Through_more (own_task f o)
more_own f None = tt
more_own f (Some t) = tt

more_table : (k : ℕ) (o : Option FuncType) → Through_more (table_task k o)
more_table k None = tt
more_table k (Some t) = refl

more_by : (cs : Callees) (fm : Form) → Through_more (task_by cs fm)
more_by cs NoForm = tt
more_by cs (Plain a) = tt
more_by cs (CallOf f) = more_own f (cs.type_of f)
more_by cs (CallBy t) = more_table t (cs.type_at t)

answers_found : (c : Calls) (w : Found) (args : List Value) (st : Store) → TableAnswers c w args st (call_found c w args st)
answers_found c (Finds f) args st = refl
answers_found c (Fails reason) args st = refl

nat_on : (x y : ℕ) → x ≡ y → nat_eq x y ≡ true
nat_on x y e = grind arith

eq_of : (x y : ℕ) → nat_eq x y ≡ true → x ≡ y
eq_of x y e = grind arith

module _ (Z : Fixed) (c : Calls) (op : Instr) (n r : ℕ) where
  pub asks_is : (g : Callee) → task_of (callees Z.m) op ≡ Asks g n r → (vs : List Value) (st : Store) → length vs ≡ takes (callees Z.m) op
      → effect Z c op vs st ≡ perform Z c g vs st
  asks_is g is vs st l = ap (λ z. do_task Z c z vs st) is ∙ if_true (nat_eq (length vs) n) _ _ (nat_on (length vs) n (l ∙ ap takes_of is))

  callee_answers : (g : Callee) → task_of (callees Z.m) op ≡ Asks g n r → (vs : List Value) (st : Store) → length vs ≡ takes (callees Z.m) op
      → CalleeAnswers Z c g vs st (effect Z c op vs st)
  callee_answers (Own f) is vs st l = asks_is (Own f) is vs st l
  callee_answers (Through t k) is [] st l =
      let m : n ≡ suc k = subst Through_more is (more_by (callees Z.m) (form_of op)) in let e : 0 ≡ n = l ∙ ap takes_of is in absurd (omega arith)
  callee_answers (Through t k) is (i ∷ args) st l =
      let m : n ≡ suc k = subst Through_more is (more_by (callees Z.m) (form_of op)) in
      let e : suc (length args) ≡ n = l ∙ ap takes_of is in (
        i,
        args,
        refl,
        omega arith,
        subst (TableAnswers c (found Z t (number_of i)) args st) (sym (asks_is (Through t k) is (i ∷ args) st l))
            (answers_found c (found Z t (number_of i)) args st),
      )

  asked_long : (b : Bool) (x : Answer) (s : State) (e : Effect) → (if b then x else Stops Stuck s) ≡ Gives e → b ≡ true
  asked_long true x s e q = refl
  asked_long false x s e q = stuck _ e q tt

  pub call_law : (g : Callee) → task_of (callees Z.m) op ≡ Asks g n r → CallLaw Z c op g
  call_law g is = record {
    answers = λ vs st l. callee_answers g is vs st l;
    gives = λ vs st e q. eq_of (length vs) n
        (asked_long (nat_eq (length vs) n) (perform Z c g vs st) st.state e (subst (λ z. do_task Z c z vs st ≡ Gives e) is q)) ∙ ap takes_of (sym is);
  }

-- an instruction that calls nothing does its action, and one without a task gets stuck
pub acts_is : (Z : Fixed) (c : Calls) (op : Instr) (a : Action) → task_of (callees Z.m) op ≡ Acts a → (vs : List Value) (st : Store) → effect Z c op vs st ≡ act Z.cap a vs st
acts_is Z c op a is vs st = ap (λ z. do_task Z c z vs st) is

pub stuck_is : (Z : Fixed) (c : Calls) (op : Instr) → task_of (callees Z.m) op ≡ NoTask → (vs : List Value) (st : Store) → effect Z c op vs st ≡ Stops Stuck st.state
stuck_is Z c op is vs st = ap (λ z. do_task Z c z vs st) is

pub instruction_law : InstructionLaw
instruction_law = record { action = action_law; host = host_law; call = λ Z c op g n r is. call_law Z c op n r g is }
