-- Own functions and imported ones, by their numbers.
use Rattle.std.proofs.Common.{◌≡◌, ℕ, zero, suc, List, [], ◌∷◌, ◌++◌, ◌-◌, ◌<◌, ◌≤◌, ◌||◌, not, Bool, true, false, Option, Some, None, IsSome, nat_lt, if◌then◌else◌, length, slice_get, refl, sym, ap, ◌∙◌, arith}
use Rattle.wasm_types.specs.declared.module.FuncType.{FuncType}
use Rattle.wasm_types.specs.declared.module.Body.{Body}
use Rattle.wasm_types.specs.declared.module.Module.{Module}
use Rattle.wasm_types.specs.declared.place.Part.TheVariants as part
use Rattle.wasm_types.specs.Code.{code_of}
use Rattle.wasm_types.specs.Validity.{IsValid}
use Rattle.wasm_types.specs.Spaces.{import_count, imported, func_import, func_types, type_numbered, type_of_func, body_of, run_types, HasBody}
use Rattle.wasm_types.specs.Hosts.{HostFunc, host_from, host_of}
use Rattle.wasm_types.specs.Funcs.{Func, func_from, func_of}

no_func : {A : Type 0} (F : Func) → None ≡ Some F → A
no_func F e = absurd cc

no_body : {A : Type 0} (b : Body) → None ≡ Some b → A
no_body b e = absurd cc

not_below : (x y : ℕ) → nat_lt x y ≡ false → y ≤ x
not_below x y e = grind arith

below : (x y : ℕ) → nat_lt x y ≡ true → x < y
below x y e = grind arith

func_or : Func → Option Func → Func
func_or d None = d
func_or d (Some F) = F

some_func : (a b : Func) → Some a ≡ Some b → a ≡ b
unfolding func_or
some_func a b e = ap (func_or a) e

pub value_of : {X : Type 0} (o : Option X) → IsSome o → (x : X) × (o ≡ Some x)
value_of (Some x) h = (x, refl)
value_of None h = absurd cc

-- where an own function's body stands
pub record BodyAt (m : Module) (f : ℕ) (b : Body) : Type 0 where
  pub own : import_count m ≤ f
  pub within : f < length (func_types m)
  pub has : HasBody m f b

pub body_at : (m : Module) (f : ℕ) (b : Body) → body_of m f ≡ Some b → BodyAt m f b
body_at m f b e = go (nat_lt f (import_count m)) (nat_lt f (length (func_types m))) refl refl e
  where
    go : (q w : Bool) → nat_lt f (import_count m) ≡ q → nat_lt f (length (func_types m)) ≡ w
        → (if q || not w then None else slice_get m.bodies (f - import_count m)) ≡ Some b → BodyAt m f b
    go true w at to e = no_body b e
    go false true at to e =
        let own = not_below f (import_count m) at in record { own = own; within = below f (length (func_types m)) to; has = (own, e) }
    go false false at to e = no_body b e

abbrev pub func_by : FuncType → Body → Func
func_by t b = record { params = length t.params; results = length t.results; locals = run_types b.locals; code = code_of b.code }

-- the type and the body of an own function
pub record Parts (m : Module) (f : ℕ) (F : Func) : Type 0 where
  pub kind : FuncType
  pub body : Body
  pub kind_is : type_of_func m f ≡ Some kind
  pub body_is : body_of m f ≡ Some body
  pub own : import_count m ≤ f
  pub within : f < length (func_types m)
  pub has : HasBody m f body
  pub is : func_by kind body ≡ F

pub parts : (m : Module) (f : ℕ) (F : Func) → func_of m f ≡ Some F → Parts m f F
parts m f F e = go (type_of_func m f) (body_of m f) refl refl e
  where
    go : (o : Option FuncType) (q : Option Body) → type_of_func m f ≡ o → body_of m f ≡ q → func_from o q ≡ Some F → Parts m f F
    go None None a c e = no_func F e
    go None (Some b) a c e = no_func F e
    go (Some t) None a c e = no_func F e
    go (Some t) (Some b) a c e =
        let at = body_at m f b c in
        record { kind = t; body = b; kind_is = a; body_is = c; own = at.own; within = at.within; has = at.has; is = some_func (func_by t b) F e }

-- an imported function has a number below theirs, and a type
pub record HostParts (m : Module) (f : ℕ) (H : HostFunc) : Type 0 where
  pub imported : f < import_count m
  pub is : host_from m f (type_of_func m f) ≡ Some H

pub host_parts : (m : Module) (f : ℕ) (H : HostFunc) → host_of m f ≡ Some H → HostParts m f H
host_parts m f H e = go (nat_lt f (import_count m)) refl e
  where
    go : (b : Bool) → nat_lt f (import_count m) ≡ b → (if b then host_from m f (type_of_func m f) else None) ≡ Some H → HostParts m f H
    go true at e = record { imported = below f (import_count m) at; is = e }
    go false at e = absurd cc

-- ---- the type of an own function

pub get_behind : {X : Type 0} (xs ys : List X) (f : ℕ) → length xs ≤ f → slice_get (xs ++ ys) f ≡ slice_get ys (f - length xs)
get_behind [] ys f le = let same : f ≡ f - 0 = omega arith in ap (slice_get ys) same
get_behind (x ∷ xs) ys zero le = absurd (omega arith)
get_behind (x ∷ xs) ys (suc f) le =
    let same : f - length xs ≡ suc f - length (x ∷ xs) = omega arith in get_behind xs ys f (omega arith) ∙ ap (slice_get ys) same

get_some : {X : Type 0} (xs : List X) (i : ℕ) → i < length xs → (x : X) × (slice_get xs i ≡ Some x)
get_some [] i lt = absurd (omega arith)
get_some (x ∷ xs) zero lt = (x, refl)
get_some (x ∷ xs) (suc i) lt = get_some xs i (omega arith)

-- in a valid module it has one
pub own_typed : (m : Module) → IsValid m → (f : ℕ) → import_count m ≤ f → f < length (func_types m) → (t : FuncType) × (type_of_func m f ≡ Some t)
own_typed m valid f own within =
    let k = get_some (func_types m) f within in
    let at : slice_get m.funcs (f - import_count m) ≡ Some k.0 = sym (get_behind (imported func_import m.imports) m.funcs f own) ∙ k.1 in
    let t = get_some m.types k.0 (valid.1 (part.FuncTypeAt f) k.0 (own, at)) in
    (t.0, ap (type_numbered m.types) k.1 ∙ t.1)
