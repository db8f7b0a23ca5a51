-- The sets of locations that callees write and touch have tests.
use Rattle.std.proofs.Common.{◌≡◌, ℕ, ◌<◌, Option, Some, None, length, slice_get, refl, arith}
use Rattle.std.proofs.lemmas.Option.{slice_get_within}
use Rattle.wasm_types.specs.declared.module.FuncType.{FuncType}
use Rattle.wasm_types.specs.declared.module.Module.{Module}
use Rattle.wasm_types.specs.declared.place.Loc.{Loc}
use Rattle.wasm_types.specs.declared.place.Loc.TheVariants.{Local, Global}
use Rattle.wasm_types.specs.Actions.{Callee, Own, Through}
use Rattle.wasm_types.specs.Funcs.{Func, func_of}
use Rattle.wasm_types.specs.Hosts.{HostFunc, IsFunction, host_from, host_of}
use Rattle.wasm_types.specs.Spaces.{func_types, globals_of, type_numbered, type_of_func}
use Rattle.wasm_types.specs.Subset.{IsSealed}
use Rattle.flow_domain.specs.Bounds.{Cover}
use Rattle.flow_domain.specs.Reach as reach
use Rattle.flow_domain.specs.Reach.{CalleeWrites, CallsFunc, MayWrite, Reached, by_number, by_table, itself, after_call}
use Rattle.flow_domain.specs.Rows.{Target}
use Rattle.flow_domain.specs.Touch as touch
use Rattle.flow_domain.specs.Touch.{CalleeTouches, IsExact, MayTouch}
use Rattle.stack_repair.proofs.Bodies.{valid_has_heights}
use Rattle.called_rows.specs.Locs.{IsLoc}
use Rattle.called_rows.proofs.Known.{may_touch_known, may_write_known}
use Rattle.summary_fix.proofs.Owned.{host_parts, parts}
use Rattle.slice_whole.proofs.NotRefuted.{NotRefuted}
use Rattle.slice_whole.proofs.Tested.{Test, each, places, untrue}

-- ---- what writes and touches is a function of the module

pub typed_there : (m : Module) (f : ℕ) (t : FuncType) → type_of_func m f ≡ Some t → IsFunction m f
typed_there m f t e = go (slice_get (func_types m) f) refl e
  where
    go : (o : Option ℕ) → slice_get (func_types m) f ≡ o → type_numbered m.types o ≡ Some t → f < length (func_types m)
    go None at has = absurd cc
    go (Some k) at has = slice_get_within (func_types m) f k at

own_there : (m : Module) (f : ℕ) (F : Func) → func_of m f ≡ Some F → IsFunction m f
own_there m f F is = (parts m f F is).within

host_there : (m : Module) (f : ℕ) (H : HostFunc) → host_of m f ≡ Some H → IsFunction m f
host_there m f H is = go (type_of_func m f) refl (host_parts m f H is).is
  where
    go : (o : Option FuncType) → type_of_func m f ≡ o → host_from m f o ≡ Some H → IsFunction m f
    go None at has = absurd cc
    go (Some t) at has = typed_there m f t at

caller_there : (m : Module) (f g : ℕ) → CallsFunc m f g → IsFunction m f
caller_there m f g (by_number F op is live form) = own_there m f F is
caller_there m f g (by_table F op t is live form target) = own_there m f F is

from_there : (m : Module) (f g : ℕ) → Reached m f g → IsFunction m g → IsFunction m f
from_there m f g itself there = there
from_there m f g (after_call {h = h} n call more) there = caller_there m f n call

writer_there : (m : Module) (f : ℕ) (x : Loc) → MayWrite m f x → IsFunction m f
writer_there m f x (reach.by_code g F op a r is live form on out) = from_there m f g r (own_there m g F is)
writer_there m f x (reach.by_host g H r is on) = from_there m f g r (host_there m g H is)

toucher_there : (m : Module) (f : ℕ) (x : Loc) → MayTouch m f x → IsFunction m f
toucher_there m f x (touch.by_code g F op a r is live form on out) = from_there m f g r (own_there m g F is)
toucher_there m f x (touch.by_host g H r is on) = from_there m f g r (host_there m g H is)

-- ---- tests

module _ (m : Module) (sealed : IsSealed m) where
  -- a target of a call through the table by type t does it
  abbrev TargetDoes : (ℕ → Loc → Type 0) → ℕ → Loc → Type 0
  TargetDoes Does t x = (f : ℕ) × Target m t f × Does f x

  -- what functions of the module do at locations of the module
  module _ (Does : ℕ → Loc → Type 0) (there : (f : ℕ) (x : Loc) → Does f x → IsFunction m f)
      (known : (f : ℕ) (x : Loc) → Does f x → IsLoc (length (globals_of m)) 0 x) where
    pub some_funcs : NotRefuted ((f : ℕ) (x : Loc) → Test (Does f x))
    some_funcs =
        each (λ f. (x : Loc) → Test (Does f x)) (length (func_types m))
        (λ f. places (Does f) 0 (length (globals_of m)) (λ k le does. let lt = known f (Local k) does in omega arith)
        (λ k le does. let lt = known f (Global k) does in omega arith))
        (λ f le x. untrue (Does f x) (λ does. let lt = there f x does in omega arith))

    pub some_targets : NotRefuted ((t : ℕ) (x : Loc) → Test (TargetDoes Does t x))
    some_targets =
        each (λ t. (x : Loc) → Test (TargetDoes Does t x)) (length m.types)
        (λ t. places (TargetDoes Does t) 0 (length (globals_of m)) (λ k le does. let lt = known does.0 (Local k) does.2 in omega arith)
        (λ k le does. let lt = known does.0 (Global k) does.2 in omega arith))
        (λ t le x. untrue (TargetDoes Does t x) (λ does. let lt = slice_get_within m.types t does.1.kind does.1.named in omega arith))

  writes_by : ((f : ℕ) (x : Loc) → Test (MayWrite m f x)) → ((t : ℕ) (x : Loc) → Test (TargetDoes (MayWrite m) t x)) → (g : Callee) (x : Loc)
      → Test (CalleeWrites m g x)
  writes_by own through (Own f) x = own f x
  writes_by own through (Through t n) x = through t x

  touch_by : ((t : ℕ) (x : Loc) → Test (TargetDoes (MayTouch m) t x)) → (g : Callee) (x : Loc) → Test (CalleeTouches m g x)
  touch_by through (Own f) x = untrue ⊥ (λ h. h)
  touch_by through (Through t n) x = through t x

  cover_by : ((g : Callee) (x : Loc) → Test (CalleeWrites m g x)) → ((g : Callee) (x : Loc) → Test (CalleeTouches m g x)) → (W : Cover) × IsExact m W
  cover_by w t = (
    record { writes = λ g x. (w g x).0; touch = λ g x. (t g x).0 },
    record { writes = λ g x. (w g x).1; touch = λ g x. (t g x).1 },
  )

  write_known : (f : ℕ) (x : Loc) → MayWrite m f x → IsLoc (length (globals_of m)) 0 x
  write_known f x w = may_write_known m sealed valid_has_heights f x w

  touch_known : (f : ℕ) (x : Loc) → MayTouch m f x → IsLoc (length (globals_of m)) 0 x
  touch_known f x t = may_touch_known m sealed valid_has_heights f x t

  pub some_cover : NotRefuted ((W : Cover) × IsExact m W)
  some_cover never =
      some_funcs (MayWrite m) (writer_there m) write_known (λ own.
      some_targets (MayWrite m) (writer_there m) write_known (λ through.
      some_targets (MayTouch m) (toucher_there m) touch_known (λ touching. never (cover_by (writes_by own through) (touch_by touching)))))
