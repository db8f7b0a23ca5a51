-- An instruction is a call or not: what is known of it then.
use Rattle.wasm_meaning.specs.Laws.{ActionLaw}
use Rattle.std.proofs.Common.{ap₂, ◌==◌, ◌&&◌, ◌≡◌, ℕ, suc, List, [], ◌∷◌, Bool, true, false, Option, Some, None, length, refl, sym, ap, ◌∙◌, subst, arith, true≢false}
use Rattle.wasm_types.specs.declared.module.ValType.{ValType}
use Rattle.wasm_types.specs.declared.module.Value.{Value}
use Rattle.wasm_types.specs.declared.module.ValType.TheVariants as type
use Rattle.wasm_types.specs.declared.module.FuncType.{FuncType}
use Rattle.wasm_types.specs.declared.instr.Instr.{Instr}
use Rattle.wasm_types.specs.Types.{type_byte}
use Rattle.wasm_meaning.specs.State.{Store, arg}
use Rattle.flow_domain.specs.Bounds.{traps_of, checks_of, reads_of, writes_of, Cover, Bounds, bounds, called, may_trap, may_trap_of, traps_by}
use Rattle.wasm_types.specs.Actions.{leaves_of, takes_of, called_of, Callees, callees, Callee, Own, Through, Form, NoForm, Plain, CallOf, CallBy, form_of, Action, Task, NoTask, Acts, Asks, own_task, table_task, task_by, task_of, takes}
use Rattle.wasm_meaning.specs.Effects.{act, Fixed, same_types, same_type, Effect, Gives, Calls, do_task, effect}
use Rattle.flow_laws.proofs.Effects.{Does, Comes, GoesOn, SameEnd, ReadsSame, ChecksSame, stops_give}
use Rattle.wasm_meaning.proofs.Instructions.{instruction_law}

-- a call, with its numbers of operands and results
pub record IsCall (cs : Callees) (op : Instr) (g : Callee) : Type 0 where
  pub n : ℕ
  pub r : ℕ
  pub is : task_of cs op ≡ Asks g n r

some_callee : {A : Type 0} (g : Callee) → Some g ≡ None → A
some_callee g e = absurd (grind arith)

pub call_or : {A : Type 0} (B : Bounds) (op : Instr) → (called B op ≡ None → A) → ((g : Callee) → called B op ≡ Some g → IsCall (callees B.m) op g → A) → A
call_or {A = A} B op f h = go (task_of (callees B.m) op) refl
  where
    go : (t : Task) → task_of (callees B.m) op ≡ t → A
    go NoTask e = f (ap called_of e)
    go (Acts a) e = f (ap called_of e)
    go (Asks g n r) e = h g (ap called_of e) (record { n = n; r = r; is = e })

-- the types by which it has them
abbrev pub Info : Callees → Callee → ℕ → ℕ → Type 0
Info cs (Own f) n r = (t : FuncType) × (cs.type_of f ≡ Some t) × (length t.params ≡ n) × (length t.results ≡ r)
Info cs (Through k m) n r = (t : FuncType) × (cs.type_at k ≡ Some t) × (length t.params ≡ m) × (n ≡ suc m) × (length t.results ≡ r)

abbrev InfoOf : Callees → Task → Type 0
InfoOf cs NoTask = Unit {0}
InfoOf cs (Acts a) = Unit {0}
InfoOf cs (Asks g n r) = Info cs g n r

info_own : (cs : Callees) (f : ℕ) (o : Option FuncType) → cs.type_of f ≡ o → InfoOf cs (own_task f o)
info_own cs f None e = tt
info_own cs f (Some t) e = (t, e, refl, refl)

info_table : (cs : Callees) (k : ℕ) (o : Option FuncType) → cs.type_at k ≡ o → InfoOf cs (table_task k o)
info_table cs k None e = tt
info_table cs k (Some t) e = (t, e, refl, refl, refl)

info_by : (cs : Callees) (fm : Form) → InfoOf cs (task_by cs fm)
info_by cs NoForm = tt
info_by cs (Plain a) = tt
info_by cs (CallOf f) = info_own cs f (cs.type_of f) refl
info_by cs (CallBy t) = info_table cs t (cs.type_at t) refl

pub info_of : (cs : Callees) (op : Instr) (g : Callee) (c : IsCall cs op g) → Info cs g c.n c.r
info_of cs op g c = subst (InfoOf cs) c.is (info_by cs (form_of op))

-- ---- no calls

plain_case : {A : Type 0} (cs : Callees) (op : Instr) → called_of (task_of cs op) ≡ None → (task_of cs op ≡ NoTask → A)
    → ((a : Action) → task_of cs op ≡ Acts a → A) → A
plain_case {A = A} cs op n f h = go (task_of cs op) refl
  where
    go : (t : Task) → task_of cs op ≡ t → A
    go NoTask e = f e
    go (Acts a) e = h a e
    go (Asks g k r) e = some_callee g (sym (ap called_of e) ∙ n)

no_effect : {A : Type 0} (Z : Fixed) (c : Calls) (op : Instr) (vs : List Value) (st : Store) (e : Effect) → task_of (callees Z.m) op ≡ NoTask
    → effect Z c op vs st ≡ Gives e → A
no_effect Z c op vs st e is q = stops_give e (subst (λ z. do_task Z c z vs st ≡ Gives e) is q)

-- the law of an action is that of an instruction that does it, whatever calls do
module _ (Z : Fixed) (W : Cover) (c : Calls) (op : Instr) (a : Action) (is : task_of (callees Z.m) op ≡ Acts a) where
  abbrev law : ActionLaw Z.cap a
  law = instruction_law.action Z.cap a

  gives : (vs : List Value) (st : Store) (e : Effect) → effect Z c op vs st ≡ Gives e → act Z.cap a vs st ≡ Gives e
  gives vs st e q = subst (λ z. do_task Z c z vs st ≡ Gives e) is q

  back : (vs : List Value) (st : Store) (e : Effect) → act Z.cap a vs st ≡ Gives e → effect Z c op vs st ≡ Gives e
  back vs st e q = subst (λ z. do_task Z c z vs st ≡ Gives e) (sym is) q

  act_does : (vs : List Value) (st : Store) (e : Effect) → effect Z c op vs st ≡ Gives e → Does (bounds Z.m W) op vs st e
  act_does vs st e q = let d = law.does vs st e (gives vs st e q) in let t = d.turns in record {
    took = d.took ∙ ap takes_of (sym is);
    left = d.left ∙ ap leaves_of (sym is);
    frame = λ x off. d.frame x (ap (λ z. writes_of W z x) (sym is) ∙ off);
    turns = omega arith;
  }

  act_same : (vs : List Value) (st st' : Store) (e e' : Effect) → ReadsSame (bounds Z.m W) op st st' → effect Z c op vs st ≡ Gives e
      → effect Z c op vs st' ≡ Gives e' → SameEnd (bounds Z.m W) op e e'
  act_same vs st st' e e' rd q q' = let s = law.same vs st st' e e' (λ x on. rd x (ap (λ z. reads_of z x) is ∙ on)) (gives vs st e q) (gives vs st' e' q') in record {
    results = s.results;
    written = λ x on. s.written x (ap (λ z. writes_of W z x) (sym is) ∙ on);
  }

  act_total : (vs : List Value) (st : Store) → may_trap (bounds Z.m W) op ≡ false → length vs ≡ takes (callees Z.m) op → GoesOn Z c op vs st
  act_total vs st m l =
      let g = law.total vs st (ap may_trap_of (sym is) ∙ m) (l ∙ ap takes_of is) in
      record { effect_is = g.effect; is = back vs st g.effect g.is; turns = (law.does vs st g.effect g.is).turns }

  act_comes : (vs vs' : List Value) (st st' : Store) (e : Effect) → length vs' ≡ length vs → ((k : ℕ) → traps_by (bounds Z.m W) op k → arg vs' k ≡ arg vs k)
      → ChecksSame (bounds Z.m W) op st st' → effect Z c op vs st ≡ Gives e → Comes Z c op vs' st st' e
  act_comes vs vs' st st' e l tr ch q =
      let g =
      law.comes vs vs' st st' e
      (record { long = l; operands = λ k t. tr k (subst (λ z. traps_of z k) (sym is) t); checks = λ x on. ch x (ap (λ z. checks_of W z x) is ∙ on) })
      (gives vs st e q) in
      let t = (law.does vs st e (gives vs st e q)).turns in
      let t' = (law.does vs' st' g.effect g.is).turns in
      record { other = g.effect; is = back vs' st' g.effect g.is; turns = omega arith }

module _ (Z : Fixed) (W : Cover) (c : Calls) (op : Instr) where
  abbrev B : Bounds
  B = bounds Z.m W

  pub plain_does : (vs : List Value) (st : Store) (e : Effect) → called B op ≡ None → effect Z c op vs st ≡ Gives e → Does B op vs st e
  plain_does vs st e n q = plain_case (callees Z.m) op n (λ is. no_effect Z c op vs st e is q) (λ a is. act_does Z W c op a is vs st e q)

  pub plain_same : (vs : List Value) (st st' : Store) (e e' : Effect) → called B op ≡ None → ReadsSame B op st st' → effect Z c op vs st ≡ Gives e
      → effect Z c op vs st' ≡ Gives e' → SameEnd B op e e'
  plain_same vs st st' e e' n rd q q' =
      plain_case (callees Z.m) op n (λ is. no_effect Z c op vs st e is q) (λ a is. act_same Z W c op a is vs st st' e e' rd q q')

  pub plain_comes : (vs vs' : List Value) (st st' : Store) (e : Effect) → called B op ≡ None → length vs' ≡ length vs
      → ((k : ℕ) → traps_by B op k → arg vs' k ≡ arg vs k) → ChecksSame B op st st' → effect Z c op vs st ≡ Gives e → Comes Z c op vs' st st' e
  plain_comes vs vs' st st' e n l tr ch q =
      plain_case (callees Z.m) op n (λ is. no_effect Z c op vs st e is q) (λ a is. act_comes Z W c op a is vs vs' st st' e l tr ch q)

  pub plain_total : (vs : List Value) (st : Store) → may_trap B op ≡ false → length vs ≡ takes (callees Z.m) op → GoesOn Z c op vs st
  plain_total vs st m l = go (task_of (callees Z.m) op) refl
    where
      go : (t : Task) → task_of (callees Z.m) op ≡ t → GoesOn Z c op vs st
      go NoTask e = absurd (true≢false (sym (ap may_trap_of e) ∙ m))
      go (Acts a) e = act_total Z W c op a e vs st m l
      go (Asks g k r) e = absurd (true≢false (sym (ap may_trap_of e) ∙ m))

-- ---- types

type_same : (t u : ValType) → type_byte t ≡ type_byte u → t ≡ u
type_same type.I32 type.I32 e = refl
type_same type.I32 type.I64 e = absurd (grind arith)
type_same type.I32 type.F32 e = absurd (grind arith)
type_same type.I32 type.F64 e = absurd (grind arith)
type_same type.I64 type.I32 e = absurd (grind arith)
type_same type.I64 type.I64 e = refl
type_same type.I64 type.F32 e = absurd (grind arith)
type_same type.I64 type.F64 e = absurd (grind arith)
type_same type.F32 type.I32 e = absurd (grind arith)
type_same type.F32 type.I64 e = absurd (grind arith)
type_same type.F32 type.F32 e = refl
type_same type.F32 type.F64 e = absurd (grind arith)
type_same type.F64 type.I32 e = absurd (grind arith)
type_same type.F64 type.I64 e = absurd (grind arith)
type_same type.F64 type.F32 e = absurd (grind arith)
type_same type.F64 type.F64 e = refl

both_on : (a b : Bool) → (a && b) ≡ true → (a ≡ true) × (b ≡ true)
both_on true true e = (refl, refl)
both_on true false e = absurd (true≢false (sym e))
both_on false b e = absurd (true≢false (sym e))

number_same : (x y : ℕ) → (x == y) ≡ true → x ≡ y
number_same x y e = grind arith

types_same : (ts us : List ValType) → same_types ts us ≡ true → ts ≡ us
types_same [] [] e = refl
types_same [] (u ∷ us) e = absurd (true≢false (sym e))
types_same (t ∷ ts) [] e = absurd (true≢false (sym e))
types_same (t ∷ ts) (u ∷ us) e =
    let b = both_on (type_byte t == type_byte u) (same_types ts us) e in
    ap₂ {A = ValType} {B = List ValType} (λ x y. x ∷ y) (type_same t u (number_same (type_byte t) (type_byte u) b.0)) (types_same ts us b.1)

pub same_kind : (t u : FuncType) → same_type t u ≡ true → t ≡ u
same_kind t u e =
    let b = both_on (same_types t.params u.params) (same_types t.results u.results) e in
    ap₂ {A = List ValType} {B = List ValType} (λ x y. record { params = x; results = y }) (types_same t.params u.params b.0)
    (types_same t.results u.results b.1)
