-- Deeds, edges and calls.
use Rattle.std.proofs.Common.{◌≡◌, ℕ, Bool, true, false, Option, Some, None, refl, ap, inl, inr, ◌⊎◌}
use Rattle.std.specs.Prelude.{slice_get, nat_lt, if◌then◌else◌}
use Rattle.std.proofs.lemmas.Option.{slice_get_within}
use Rattle.wasm_types.specs.declared.module.FuncType.{FuncType}
use Rattle.wasm_types.specs.declared.module.Body.{Body}
use Rattle.wasm_types.specs.declared.module.Module.{Module}
use Rattle.wasm_types.specs.declared.place.Loc.{Loc}
use Rattle.wasm_types.specs.Actions.{Action, Form, NoForm, Plain, CallOf, CallBy, form_of}
use Rattle.wasm_types.specs.Funcs.{Func, func_of, func_from}
use Rattle.wasm_types.specs.Hosts.{HostFunc, IsFunction, host_from, host_of}
use Rattle.wasm_types.specs.Locations.{writes_in, is_outer}
use Rattle.wasm_types.specs.Spaces.{func_types, import_count, type_numbered, type_of_func, body_of}
use Rattle.flow_domain.specs.Reach.{CallsFunc, by_number, by_table, Reached, itself, after_call, MayWrite}
use Rattle.flow_domain.specs.Reach as writing
use Rattle.flow_domain.specs.Rows.{Target}
use Rattle.flow_domain.specs.Touch.{MayTouch, touches_in}
use Rattle.flow_domain.specs.Touch as touching
use Rattle.call_graph.specs.declared.deeds.Deed.{Deed}
use Rattle.call_graph.specs.declared.deeds.Deed.TheVariants.{Calls, CallsThrough, Touches, Writes}
use Rattle.call_graph.specs.Deeds.{IsDeed, Does}
use Rattle.call_graph.specs.Deeds as deed
use Rattle.call_graph.specs.Graph.{CallsNumber}

-- ---- functions

typed : (types : _) (o : Option ℕ) (t : FuncType) → type_numbered types o ≡ Some t → (k : ℕ) × (o ≡ Some k)
typed types None t e = absurd cc
typed types (Some k) t e = (k, refl)

pub typed_below : (m : Module) (f : ℕ) (t : FuncType) → type_of_func m f ≡ Some t → IsFunction m f
typed_below m f t e = let k = typed m.types (slice_get (func_types m) f) t e in slice_get_within (func_types m) f k.0 k.1

pub from_typed : (o : Option FuncType) (b : Option Body) (F : Func) → func_from o b ≡ Some F → (t : FuncType) × (o ≡ Some t)
from_typed None b F e = absurd cc
from_typed (Some t) b F e = (t, refl)

pub host_typed : (m : Module) (f : ℕ) (b : Bool) (o : Option FuncType) (H : HostFunc) → (if b then host_from m f o else None) ≡ Some H
    → (t : FuncType) × (o ≡ Some t)
host_typed m f false o H e = absurd cc
host_typed m f true None H e = absurd cc
host_typed m f true (Some t) H e = (t, refl)

pub own_below : (m : Module) (f : ℕ) (F : Func) → func_of m f ≡ Some F → IsFunction m f
own_below m f F e = let t = from_typed (type_of_func m f) (body_of m f) F e in typed_below m f t.0 t.1

pub host_below : (m : Module) (f : ℕ) (H : HostFunc) → host_of m f ≡ Some H → IsFunction m f
host_below m f H e = let t = host_typed m f (nat_lt f (import_count m)) (type_of_func m f) H e in typed_below m f t.0 t.1

pub does_below : (m : Module) (f : ℕ) (d : Deed) → Does m f d → IsFunction m f
does_below m f d (deed.by_code F op is live does) = own_below m f F is
does_below m f d (deed.by_host H is does) = host_below m f H is

pub calls_below : (m : Module) (f g : ℕ) → CallsFunc m f g → IsFunction m f
calls_below m f g (by_number F op is live form) = own_below m f F is
calls_below m f g (by_table F op t is live form there) = own_below m f F is

pub reached_below : (m : Module) (f g : ℕ) → Reached m f g → IsFunction m g → IsFunction m f
reached_below m f g itself lt = lt
reached_below m f g (after_call h c r) lt = calls_below m f h c

-- one call more at the end
pub after_calls : (m : Module) (f g h : ℕ) → Reached m f g → CallsFunc m g h → Reached m f h
after_calls m f _ h itself calls = after_call h calls itself
after_calls m f g h (after_call k first rest) calls = after_call k first (after_calls m k g h rest calls)

-- ---- calls

calls_form : (F : Form) (g : ℕ) → IsDeed F (Calls g) → F ≡ CallOf g
calls_form NoForm g h = absurd h
calls_form (Plain a) g h = absurd h
calls_form (CallOf f) g h = ap CallOf h
calls_form (CallBy t) g h = absurd h

through_form : (F : Form) (t : ℕ) → IsDeed F (CallsThrough t) → F ≡ CallBy t
through_form NoForm t h = absurd h
through_form (Plain a) t h = absurd h
through_form (CallOf f) t h = absurd h
through_form (CallBy u) t h = ap CallBy h

pub does_call : (m : Module) (f g : ℕ) → Does m f (Calls g) → CallsFunc m f g
does_call m f g (deed.by_code F op is live does) = by_number F op is live (calls_form (form_of op) g does)
does_call m f g (deed.by_host H is does) = absurd does

pub does_number : (m : Module) (f g : ℕ) → Does m f (Calls g) → CallsNumber m f g
does_number m f g (deed.by_code F op is live does) = (F, (op, (is, (live, calls_form (form_of op) g does))))
does_number m f g (deed.by_host H is does) = absurd does

pub number_deed : (m : Module) (f g : ℕ) → CallsNumber m f g → Does m f (Calls g)
number_deed m f g (F, (op, (is, (live, form)))) = deed.by_code F op is live (rw form refl)

pub does_through : (m : Module) (f t g : ℕ) → Does m f (CallsThrough t) → Target m t g → CallsFunc m f g
does_through m f t g (deed.by_code F op is live does) there = by_table F op t is live (through_form (form_of op) t does) there
does_through m f t g (deed.by_host H is does) there = absurd does

pub call_does : (m : Module) (f g : ℕ) → CallsFunc m f g → Does m f (Calls g) ⊎ ((t : ℕ) × (Does m f (CallsThrough t) × Target m t g))
call_does m f g (by_number F op is live form) = inl (deed.by_code F op is live (rw form refl))
call_does m f g (by_table F op t is live form there) = inr (t, (deed.by_code F op is live (rw form refl), there))

-- ---- locations

pub touch_form : (F : Form) (x : Loc) → IsDeed F (Touches x) → (a : Action) × ((F ≡ Plain a) × ((touches_in a x ≡ true) × (is_outer x ≡ true)))
touch_form NoForm x h = absurd h
touch_form (Plain a) x h = (a, (refl, h))
touch_form (CallOf f) x h = absurd h
touch_form (CallBy u) x h = absurd h

pub write_form : (F : Form) (x : Loc) → IsDeed F (Writes x) → (a : Action) × ((F ≡ Plain a) × ((writes_in a x ≡ true) × (is_outer x ≡ true)))
write_form NoForm x h = absurd h
write_form (Plain a) x h = (a, (refl, h))
write_form (CallOf f) x h = absurd h
write_form (CallBy u) x h = absurd h

pub does_touch : (m : Module) (f : ℕ) (x : Loc) → Does m f (Touches x) → MayTouch m f x
does_touch m f x (deed.by_code F op is live does) =
    let a = touch_form (form_of op) x does in touching.by_code f F op a.0 itself is live a.1.0 a.1.1.0 a.1.1.1
does_touch m f x (deed.by_host H is does) = touching.by_host f H itself is does

pub does_write : (m : Module) (f : ℕ) (x : Loc) → Does m f (Writes x) → MayWrite m f x
does_write m f x (deed.by_code F op is live does) =
    let a = write_form (form_of op) x does in writing.by_code f F op a.0 itself is live a.1.0 a.1.1.0 a.1.1.1
does_write m f x (deed.by_host H is does) = writing.by_host f H itself is does

pub touch_does : (m : Module) (f : ℕ) (x : Loc) → MayTouch m f x → (g : ℕ) × (Reached m f g × Does m g (Touches x))
touch_does m f x (touching.by_code g F op a r is live form t o) = (g, (r, deed.by_code F op is live (rw form (t, o))))
touch_does m f x (touching.by_host g H r is t) = (g, (r, deed.by_host H is t))

pub write_does : (m : Module) (f : ℕ) (x : Loc) → MayWrite m f x → (g : ℕ) × (Reached m f g × Does m g (Writes x))
write_does m f x (writing.by_code g F op a r is live form t o) = (g, (r, deed.by_code F op is live (rw form (t, o))))
write_does m f x (writing.by_host g H r is t) = (g, (r, deed.by_host H is t))

pub call_touches : (m : Module) (x : Loc) (f g : ℕ) → CallsFunc m f g → MayTouch m g x → MayTouch m f x
call_touches m x f g c (touching.by_code h F op a r is live form t o) = touching.by_code h F op a (after_call g c r) is live form t o
call_touches m x f g c (touching.by_host h H r is t) = touching.by_host h H (after_call g c r) is t

pub call_writes : (m : Module) (x : Loc) (f g : ℕ) → CallsFunc m f g → MayWrite m g x → MayWrite m f x
call_writes m x f g c (writing.by_code h F op a r is live form t o) = writing.by_code h F op a (after_call g c r) is live form t o
call_writes m x f g c (writing.by_host h H r is t) = writing.by_host h H (after_call g c r) is t
