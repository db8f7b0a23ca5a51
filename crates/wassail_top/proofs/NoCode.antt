-- When nothing can be told of the code of a function, and when something can.
use Rattle.std.proofs.Common.{◌≡◌, ℕ, ◌+◌, ◌<◌, ◌≤◌, ◌^◌, Bool, true, false, length, Option, Some, None, refl, sym, ◌∙◌, arith, nat_lt, length-append, slice_get, get_or, []}
use Rattle.std.specs.Prelude.{◌-◌, ◌||◌, not, if◌then◌else◌}
use Rattle.std.proofs.lemmas.Bool.Decides.{nat_tests}
use Rattle.std.proofs.lemmas.Option.{slice_get-get_or}
use Rattle.wasm_types.specs.declared.module.Body.{Body}
use Rattle.wasm_types.specs.declared.module.FuncType.{FuncType}
use Rattle.wasm_types.specs.declared.module.Module.{Module}
use Rattle.wasm_types.specs.declared.place.LimitKind.TheVariants as limit
use Rattle.wasm_types.specs.Spaces.{body_of, func_types, import_count, imported, func_import, type_of_func}
use Rattle.wasm_types.specs.Subset.{IsSealed}
use Rattle.wasm_types.specs.Validity.{IsValid}
use Rattle.stack_names.proofs.NameLemmas.{own_body, own_typed}
use Rattle.report_text.specs.declared.refusal.QueryRefusal.{QueryRefusal}
use Rattle.report_text.specs.declared.refusal.QueryRefusal.TheVariants as of_query
use Rattle.wassail_top.specs.Refusals.{why_no_code}

pub few_functions : (m : Module) → IsSealed m → length (func_types m) < 2 ^ 32
few_functions m sealed = let few = sealed.limits limit.Functions 0 (length (func_types m)) (refl, refl) in omega (arith, few)

abbrev why_by : (imported own : Bool) (f : ℕ) → Option QueryRefusal
why_by imported own f = if imported then Some (of_query.Imported f) else if own then None else Some (of_query.NoFunction f)

-- a function of a valid module that has no body is imported
pub imported_code : (m : Module) (f : ℕ) → IsValid m → f < length (func_types m) → body_of m f ≡ None → why_no_code m f ≡ Some (of_query.Imported f)
imported_code m f valid lt none = go (nat_lt f (import_count m)) refl (nat_lt f (length (func_types m))) refl none
  where
    long : length (func_types m) ≡ import_count m + length m.funcs
    long = length-append (imported func_import m.imports) m.funcs

    go : (p : Bool) → nat_lt f (import_count m) ≡ p → (q : Bool) → nat_lt f (length (func_types m)) ≡ q
        → (if p || not q then None else slice_get m.bodies (f - import_count m)) ≡ None → why_by p q f ≡ Some (of_query.Imported f)
    go true is q was e = refl
    go false is false was e = absurd (grind (arith, nat_tests, was, lt))
    go false is true was e =
        let own : import_count m ≤ f = grind (arith, nat_tests, is) in
        let same : length m.funcs ≡ length m.bodies = valid.0.same in
        let there : f - import_count m < length m.bodies = omega (arith, own, lt, long, same) in
        let some = slice_get-get_or m.bodies (f - import_count m) (record { locals = []; code = [] }) there in
        let both : None ≡ Some (get_or m.bodies (f - import_count m) (record { locals = []; code = [] })) = sym e ∙ some in absurd cc

-- ---- functions with code

-- a function of which something can be told is an own one
pub has_code : (m : Module) (f : ℕ) → why_no_code m f ≡ None → (import_count m ≤ f) × (f < length (func_types m))
has_code m f none = go (nat_lt f (import_count m)) refl (nat_lt f (length (func_types m))) refl none
  where
    go : (p : Bool) → nat_lt f (import_count m) ≡ p → (q : Bool) → nat_lt f (length (func_types m)) ≡ q → why_by p q f ≡ None
        → (import_count m ≤ f) × (f < length (func_types m))
    go true is q was e = absurd cc
    go false is false was e = absurd cc
    go false is true was e = (grind (arith, nat_tests, is), grind (arith, nat_tests, was))

pub some_of : {A : Type 0} (o : Option A) → (o ≡ None → ⊥) → (x : A) × (o ≡ Some x)
some_of None never = absurd (never refl)
some_of (Some x) never = (x, refl)

-- it has a type and a body
pub has_type : (m : Module) (f : ℕ) → IsValid m → why_no_code m f ≡ None → (t : FuncType) × (type_of_func m f ≡ Some t)
has_type m f valid none = let own = has_code m f none in some_of (type_of_func m f) (own_typed m valid f own.0 own.1)

pub has_body : (m : Module) (f : ℕ) → IsValid m → why_no_code m f ≡ None → (b : Body) × (body_of m f ≡ Some b)
has_body m f valid none = let own = has_code m f none in some_of (body_of m f) (own_body m valid f own.0 own.1)
