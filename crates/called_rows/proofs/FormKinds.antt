-- Whom a live instruction calls that goes on to the next one.
use Rattle.std.proofs.Common.{◌≡◌, ℕ, Option, Some, None, slice_get, refl, sym, ap, ◌∙◌, subst, length}
use Rattle.std.proofs.lemmas.Option.{same_Some}
use Rattle.wasm_types.specs.declared.module.FuncType.{FuncType}
use Rattle.wasm_types.specs.declared.module.Module.{Module}
use Rattle.wasm_types.specs.declared.instr.Instr.{Instr}
use Rattle.wasm_types.specs.Spaces.{type_of_func}
use Rattle.wasm_types.specs.Actions.{Action, Callee, Own, Through, callees, Form, NoForm, Plain, CallOf, CallBy, form_of, NoTask, Acts, called_of, own_task}
use Rattle.wasm_types.specs.Actions.{table_task, task_by, task_of}
use Rattle.called_rows.specs.declared.instrs.Whom.{Whom}
use Rattle.called_rows.specs.declared.instrs.Whom.TheVariants as whom
use Rattle.called_rows.specs.Whom.{IsWhom, whom_by, whom_of}

-- it calls nothing, or it calls a function, or what the table holds
pub data Kind (m : Module) (op : Instr) : Type 0 where
  plain : (a : Action) → form_of op ≡ Plain a → Kind m op
  own : (f : ℕ) (F : FuncType) → form_of op ≡ CallOf f → type_of_func m f ≡ Some F → Kind m op
  through : (k : ℕ) (F : FuncType) → form_of op ≡ CallBy k → slice_get m.types k ≡ Some F → Kind m op

module _ (m : Module) (op : Instr) where
  pub plain_task : (a : Action) → form_of op ≡ Plain a → task_of (callees m) op ≡ Acts a
  plain_task a e = ap (task_by (callees m)) e

  pub own_asks : (f : ℕ) (o : Option FuncType) → form_of op ≡ CallOf f → type_of_func m f ≡ o → task_of (callees m) op ≡ own_task f o
  own_asks f o e is = ap (task_by (callees m)) e ∙ ap (own_task f) is

  pub table_asks : (k : ℕ) (o : Option FuncType) → form_of op ≡ CallBy k → slice_get m.types k ≡ o → task_of (callees m) op ≡ table_task k o
  table_asks k o e is = ap (task_by (callees m)) e ∙ ap (table_task k) is

  own_kind : (f : ℕ) → form_of op ≡ CallOf f → (task_of (callees m) op ≡ NoTask → ⊥) → (o : Option FuncType) → type_of_func m f ≡ o → Kind m op
  own_kind f e some None is = absurd (some (own_asks f None e is))
  own_kind f e some (Some F) is = own f F e is

  table_kind : (k : ℕ) → form_of op ≡ CallBy k → (task_of (callees m) op ≡ NoTask → ⊥) → (o : Option FuncType) → slice_get m.types k ≡ o → Kind m op
  table_kind k e some None is = absurd (some (table_asks k None e is))
  table_kind k e some (Some F) is = through k F e is

  kind_by : (task_of (callees m) op ≡ NoTask → ⊥) → (f : Form) → form_of op ≡ f → Kind m op
  kind_by some NoForm e = absurd (some (ap (task_by (callees m)) e))
  kind_by some (Plain a) e = plain a e
  kind_by some (CallOf f) e = own_kind f e some (type_of_func m f) refl
  kind_by some (CallBy k) e = table_kind k e some (slice_get m.types k) refl

  pub kind_of : (task_of (callees m) op ≡ NoTask → ⊥) → Kind m op
  kind_of some = kind_by some (form_of op) refl

  -- by the code of the instruction
  pub whom_called : Kind m op → (g : Callee) → called_of (task_of (callees m) op) ≡ Some g → (w : Whom) × ((whom_of op ≡ Some w) × IsWhom g w)
  whom_called (plain a fe) g c = let none : None ≡ Some g = sym (ap called_of (plain_task a fe)) ∙ c in absurd cc
  whom_called (own h F fe ty) g c =
      let same : Own h ≡ g = same_Some (Own h) g (sym (ap called_of (own_asks h (Some F) fe ty)) ∙ c) in
      (whom.Own h, (ap whom_by fe, subst (λ z. IsWhom z (whom.Own h)) same refl))
  whom_called (through k F fe ty) g c =
      let same : Through k (length F.params) ≡ g = same_Some (Through k (length F.params)) g (sym (ap called_of (table_asks k (Some F) fe ty)) ∙ c) in
      (whom.Through k, (ap whom_by fe, subst (λ z. IsWhom z (whom.Through k)) same refl))

  pub whom_none : Kind m op → called_of (task_of (callees m) op) ≡ None → whom_of op ≡ None
  whom_none (plain a fe) c = ap whom_by fe
  whom_none (own h F fe ty) c = let some : None ≡ Some (Own h) = sym c ∙ ap called_of (own_asks h (Some F) fe ty) in absurd cc
  whom_none (through k F fe ty) c =
      let some : None ≡ Some (Through k (length F.params)) = sym c ∙ ap called_of (table_asks k (Some F) fe ty) in absurd cc
