-- The heights of own functions, and how many results they have.
use Rattle.std.proofs.Common.{◌≡◌, ℕ, ◌-◌, ◌≤◌, ◌||◌, not, [], ◌∷◌, Bool, true, false, Option, Some, None, IfSome, nat_lt, if◌then◌else◌, length, slice_get, refl, subst, arith}
use Rattle.wasm_types.specs.declared.module.FuncType.{FuncType}
use Rattle.wasm_types.specs.declared.module.Body.{Body}
use Rattle.wasm_types.specs.declared.module.Module.{Module}
use Rattle.wasm_types.specs.declared.place.Part.TheVariants as part
use Rattle.wasm_types.specs.Code.{code_of}
use Rattle.wasm_types.specs.Spaces.{import_count, func_types, type_numbered, type_of_func, body_of, run_types, HasBody}
use Rattle.wasm_types.specs.Validity.{IsValid}
use Rattle.wasm_types.specs.Actions.{callees}
use Rattle.wasm_types.specs.Funcs.{Func, func_from, func_of, text}
use Rattle.flow_domain.specs.Heights.{Shaped}
use Rattle.flow_laws.specs.Calls.{AnyInstr, HasHeights}
use Rattle.flow_laws.proofs.Starts.{some_func}

no_func : {A : Type 0} (F : Func) → None ≡ Some F → A
no_func F e = absurd cc

no_body : {A : Type 0} (b : Body) → None ≡ Some b → A
no_body b e = absurd cc

no_type : {A : Type 0} (t : FuncType) → None ≡ Some t → A
no_type t e = absurd cc

has_body : (m : Module) (f : ℕ) (b : Body) → body_of m f ≡ Some b → HasBody m f b
has_body m f b e = go (nat_lt f (import_count m)) (nat_lt f (length (func_types m))) refl e
  where
    not_below : (x y : ℕ) → nat_lt x y ≡ false → y ≤ x
    not_below x y e = grind arith

    go : (q w : Bool) → nat_lt f (import_count m) ≡ q → (if q || not w then None else slice_get m.bodies (f - import_count m)) ≡ Some b → HasBody m f b
    go true w at e = no_body b e
    go false true at e = (not_below f (import_count m) at, e)
    go false false at e = no_body b e

abbrev func_by : FuncType → Body → Func
func_by t b = record { params = length t.params; results = length t.results; locals = run_types b.locals; code = code_of b.code }

-- the type and the body of an own function
record Parts (m : Module) (f : ℕ) (F : Func) : Type 0 where
  pub kind : FuncType
  pub body : Body
  pub kind_is : type_of_func m f ≡ Some kind
  pub has : HasBody m f body
  pub is : func_by kind body ≡ F

parts : (m : Module) (f : ℕ) (F : Func) → func_of m f ≡ Some F → Parts m f F
parts m f F e = go (type_of_func m f) (body_of m f) refl refl e
  where
    go : (o : Option FuncType) (q : Option Body) → type_of_func m f ≡ o → body_of m f ≡ q → func_from o q ≡ Some F → Parts m f F
    go None None a c e = no_func F e
    go None (Some b) a c e = no_func F e
    go (Some t) None a c e = no_func F e
    go (Some t) (Some b) a c e = record { kind = t; body = b; kind_is = a; has = has_body m f b c; is = some_func (func_by t b) F e }

pub own_heights : (m : Module) → HasHeights m → (f : ℕ) (F : Func) → func_of m f ≡ Some F → Shaped (callees m) AnyInstr (F.results ∷ []) F.results (text F) 0
own_heights m heights f F e =
    let p = parts m f F e in
    subst (λ z. Shaped (callees m) AnyInstr (z.results ∷ []) z.results (text z) 0) p.is (heights f p.kind p.body p.kind_is p.has)

few : (m : Module) → IsValid m → (f : ℕ) (t : FuncType) → type_of_func m f ≡ Some t → length t.results ≤ 1
few m valid f t e = go (slice_get (func_types m) f) e
  where
    by : (k : ℕ) → IfSome (slice_get m.types k) (λ (t : FuncType). length t.results ≤ 1) → slice_get m.types k ≡ Some t → length t.results ≤ 1
    by k h q = subst (λ z. IfSome z (λ (t : FuncType). length t.results ≤ 1)) q h

    go : (o : Option ℕ) → type_numbered m.types o ≡ Some t → length t.results ≤ 1
    go None q = no_type t q
    go (Some k) q = by k (valid.1 (part.TypeAt k)) q

pub own_small : (m : Module) → IsValid m → (f : ℕ) (F : Func) → func_of m f ≡ Some F → F.results ≤ 1
own_small m valid f F e = let p = parts m f F e in subst (λ z. z.results ≤ 1) p.is (few m valid f p.kind p.kind_is)
