-- What the functions reached write is a set that the laws ask for.
use Rattle.flow_laws.proofs.Heights.{own_small, own_heights}
use Rattle.std.proofs.Common.{◌≡◌, ℕ, inl, inr, List, [], ◌∷◌, true, Option, Some, None, slice_get, refl, sym, true≢false}
use Rattle.wasm_types.specs.declared.module.FuncType.{FuncType}
use Rattle.wasm_types.specs.declared.module.Module.{Module}
use Rattle.wasm_types.specs.declared.instr.Instr.{Instr}
use Rattle.wasm_types.specs.Spaces.{type_of_func}
use Rattle.wasm_types.specs.Marked.{Marked, End, Do, Block, Loop, If, Br, BrIf, BrTable, Return, Unreachable}
use Rattle.wasm_types.specs.declared.place.Loc.{Loc}
use Rattle.wasm_types.specs.declared.place.Loc.TheVariants.{Local, Global, Mem, Size, Host}
use Rattle.flow_domain.specs.Bounds.{Cover, bounds, writes_of}
use Rattle.wasm_types.specs.Locations.{is_outer}
use Rattle.wasm_types.specs.Actions.{Callees, callees, Callee, Own, Through, Form, NoForm, Plain, CallOf, CallBy, form_of, own_task, table_task, task_by}
use Rattle.wasm_types.specs.Labels.{arity}
use Rattle.wasm_types.specs.Hosts.{HostFunc, host_writes}
use Rattle.wasm_types.specs.Funcs.{Func, func_of, text}
use Rattle.flow_domain.specs.Heights.{Shaped}
use Rattle.flow_laws.specs.Calls.{AnyInstr, OpOk}
use Rattle.flow_domain.specs.Reach.{LiveIn, CallsFunc, by_number, by_table, itself, after_call, MayWrite, by_code, by_host, CalleeWrites, WritesExact}
use Rattle.flow_laws.specs.Exact.{ExactServes}

-- heights, with more known of each live instruction
pub shaped_more : (cs : Callees) (X Y : Instr → Type 0) (code : Marked) (ls : List ℕ) (t n : ℕ) → ((op : Instr) → LiveIn op code → Y op)
    → Shaped cs X ls t code n → Shaped cs Y ls t code n
shaped_more cs X Y End ls t n f s = s
shaped_more cs X Y (Do m op rest) ls t n f s = (s.0, f op (inl refl), s.2, shaped_more cs X Y rest ls t _ (λ o l. f o (inr l)) s.3)
shaped_more cs X Y (Block m k body rest) ls t n f s =
    (shaped_more cs X Y body _ (arity k) 0 (λ o l. f o (inl l)) s.0, shaped_more cs X Y rest ls t _ (λ o l. f o (inr l)) s.1)
shaped_more cs X Y (Loop m k body rest) ls t n f s =
    (shaped_more cs X Y body _ (arity k) 0 (λ o l. f o (inl l)) s.0, shaped_more cs X Y rest ls t _ (λ o l. f o (inr l)) s.1)
shaped_more cs X Y (If m k x y rest) ls t n f s = (
  s.0,
  shaped_more cs X Y x _ (arity k) 0 (λ o l. f o (inl l)) s.1,
  shaped_more cs X Y y _ (arity k) 0 (λ o l. f o (inr (inl l))) s.2,
  shaped_more cs X Y rest ls t _ (λ o l. f o (inr (inr l))) s.3,
)
shaped_more cs X Y (Br m l rest) ls t n f s = s
shaped_more cs X Y (BrIf m l rest) ls t n f s = (s.0, s.1, shaped_more cs X Y rest ls t _ f s.2)
shaped_more cs X Y (BrTable m labels other rest) ls t n f s = s
shaped_more cs X Y (Return m rest) ls t n f s = s
shaped_more cs X Y (Unreachable m rest) ls t n f s = s

-- who calls g reaches what g reaches
through_call : (m : Module) (f g : ℕ) (x : Loc) → CallsFunc m f g → MayWrite m g x → MayWrite m f x
through_call m f g x c (by_code h F op a r is l fm w on) = by_code h F op a (after_call g c r) is l fm w on
through_call m f g x c (by_host h H r is w) = by_host h H (after_call g c r) is w

pub host_outer : (H : HostFunc) (x : Loc) → host_writes H x ≡ true → is_outer x ≡ true
host_outer H (Local k) on = absurd (true≢false (sym on))
host_outer H (Global g) on = refl
host_outer H Mem on = refl
host_outer H Size on = refl
host_outer H Host on = refl

writes_outer : (m : Module) (f : ℕ) (x : Loc) → MayWrite m f x → is_outer x ≡ true
writes_outer m f x (by_code h F op a r is l fm w on) = on
writes_outer m f x (by_host h H r is w) = host_outer H x w

module _ (m : Module) (W : Cover) (exact : WritesExact m W) where
  -- what a live instruction of function f writes, f writes
  by_form : (f : ℕ) (F : Func) (op : Instr) → func_of m f ≡ Some F → LiveIn op (text F) → (x : Loc) → is_outer x ≡ true → (fm : Form) → form_of op ≡ fm
      → writes_of W (task_by (callees m) fm) x ≡ true → MayWrite m f x
  by_form f F op is l x out NoForm e w = absurd (true≢false (sym w))
  by_form f F op is l x out (Plain a) e w = by_code f F op a itself is l e w out
  by_form f F op is l x out (CallOf g) e w = go (type_of_func m g) w
    where
      go : (o : Option FuncType) → writes_of W (own_task g o) x ≡ true → MayWrite m f x
      go None w = absurd (true≢false (sym w))
      go (Some t) w = through_call m f g x (by_number F op is l e) ((exact (Own g) x).0 w)
  by_form f F op is l x out (CallBy t) e w = go (slice_get m.types t) w
    where
      go : (o : Option FuncType) → writes_of W (table_task t o) x ≡ true → MayWrite m f x
      go None w = absurd (true≢false (sym w))
      go (Some u) w = let a = (exact (Through t _) x).0 w in through_call m f a.0 x (by_table F op t is l e a.1) a.2

  op_ok : (f : ℕ) (F : Func) → func_of m f ≡ Some F → (op : Instr) → LiveIn op (text F) → OpOk (bounds m W) f op
  op_ok f F is op l x on out = (exact (Own f) x).1 (by_form f F op is l x out (form_of op) refl on)

  callee_outer : (g : Callee) (x : Loc) → CalleeWrites m g x → is_outer x ≡ true
  callee_outer (Own f) x c = writes_outer m f x c
  callee_outer (Through t n) x c = writes_outer m c.0 x c.2

pub exact_serves : ExactServes
exact_serves m W valid heights exact = record {
  shaped =
      λ f F is. shaped_more (callees m) AnyInstr (OpOk (bounds m W) f) (text F) (F.results ∷ []) F.results 0 (λ op l. op_ok m W exact f F is op l)
      (own_heights m heights f F is);
  small = λ f F is. own_small m valid f F is;
  hosts = λ f H is x on. (exact (Own f) x).1 (by_host f H itself is on);
  targets = λ t n f T x on. (exact (Through t n) x).1 (f, T, (exact (Own f) x).0 on);
  outer = λ g x on. callee_outer m W exact g x ((exact g x).0 on);
}
