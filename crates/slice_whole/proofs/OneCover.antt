-- What the functions of a module write and touch has one test.
use Rattle.std.proofs.Common.{◌≡◌, Bool, true, false, refl, sym, ap₂}
use Rattle.std.proofs.Math.Path.{fun_ext}
use Rattle.wasm_types.specs.declared.module.Module.{Module}
use Rattle.wasm_types.specs.declared.place.Loc.{Loc}
use Rattle.wasm_types.specs.Actions.{Callee}
use Rattle.flow_domain.specs.Bounds.{Cover}
use Rattle.flow_domain.specs.Reach.{CalleeWrites}
use Rattle.flow_domain.specs.Touch.{CalleeTouches, IsExact}

pub same_bool : (a b : Bool) → (a ≡ true → b ≡ true) → (b ≡ true → a ≡ true) → a ≡ b
same_bool true true p q = refl
same_bool true false p q = sym (p refl)
same_bool false true p q = q refl
same_bool false false p q = refl

-- tests of the same sets
one_set : (p q : Callee → Loc → Bool) (Is : Callee → Loc → Type 0) → ((g : Callee) (x : Loc) → (p g x ≡ true → Is g x) × (Is g x → p g x ≡ true))
    → ((g : Callee) (x : Loc) → (q g x ≡ true → Is g x) × (Is g x → q g x ≡ true)) → p ≡ q
one_set p q Is a b = fun_ext (λ g. fun_ext (λ x. same_bool (p g x) (q g x) (λ on. (b g x).1 ((a g x).0 on)) (λ on. (a g x).1 ((b g x).0 on))))

cover_by : (Callee → Loc → Bool) → (Callee → Loc → Bool) → Cover
cover_by w t = record { writes = w; touch = t }

pub one_cover : (m : Module) (V W : Cover) → IsExact m V → IsExact m W → V ≡ W
unfolding cover_by
one_cover m V W v w =
    ap₂ {A = Callee → Loc → Bool} {B = Callee → Loc → Bool} cover_by (one_set V.writes W.writes (CalleeWrites m) v.writes w.writes)
    (one_set V.touch W.touch (CalleeTouches m) v.touch w.touch)
