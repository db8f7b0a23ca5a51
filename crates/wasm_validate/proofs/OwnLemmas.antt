-- Functions and globals of the module's own, whose numbers begin after those of the imported ones.
use Rattle.std.proofs.Common.{◌≡◌, ℕ, zero, suc, ◌+◌, ◌-◌, ◌<◌, ◌≤◌, List, [], ◌∷◌, ◌++◌, length, Option, Some, sym, ap, ◌∙◌, subst, arith}
use Rattle.std.specs.Prelude.{slice_get}
use Rattle.std.specs.Option.{option_map}
use Rattle.std.proofs.lemmas.Option.{slice_get_within}
use Rattle.wasm_types.specs.declared.module.Body.{Body}
use Rattle.wasm_types.specs.declared.module.FuncType.{FuncType}
use Rattle.wasm_types.specs.declared.module.Module.{Module}
use Rattle.wasm_types.specs.declared.place.Part.TheVariants as part
use Rattle.wasm_types.specs.Spaces.{func_import, global_import, imported, import_count, type_numbered, type_of_func}
use Rattle.wasm_types.specs.Validity.{GlobalHolds, Holds, IsValidBody}
use Rattle.wasm_validate.specs.First.{FindsNumber}
use Rattle.wasm_validate.proofs.EntryLemmas.{if_some, at_some, Has, found_own}

-- an entry of a list, past so many numbers of others
past : {X : Type 0} (xs : List X) (base k : ℕ) (x : X) → slice_get xs k ≡ Some x → slice_get xs (base + k - base) ≡ Some x
past xs base k x e = subst (λ (n : ℕ). slice_get xs n ≡ Some x) (omega arith) e

pub own_func_type : (m : Module) (base : ℕ) (r : Option ℕ) → base ≡ import_count m → FindsNumber (Has (λ type. type < length m.types) m.funcs) r
    → FindsNumber (λ f. Holds m (part.FuncTypeAt f)) (option_map (λ k. base + k) r)
own_func_type m base r e h =
    subst (λ (n : ℕ). FindsNumber (λ f. Holds m (part.FuncTypeAt f)) (option_map (λ k. n + k) r)) (sym e)
    (found_own (import_count m) (λ f. Holds m (part.FuncTypeAt f)) (Has (λ type. type < length m.types) m.funcs) r
    (λ f known type own. at_some (λ (t : ℕ). t < length m.types) (slice_get m.funcs (f - import_count m)) type own.1 (known own.0))
    (λ k known. if_some (λ (t : ℕ). t < length m.types) (slice_get m.funcs k) (λ type is. known type (let le : import_count m ≤ import_count m + k = omega arith in le, past m.funcs (import_count m) k type is))) h)

pub own_global : (m : Module) (base : ℕ) (r : Option ℕ) → base ≡ length (imported global_import m.imports)
    → FindsNumber (Has (GlobalHolds m) m.globals) r → FindsNumber (λ g. Holds m (part.GlobalAt g)) (option_map (λ k. base + k) r)
own_global m base r e h =
    let n = length (imported global_import m.imports) in
    subst (λ (b : ℕ). FindsNumber (λ g. Holds m (part.GlobalAt g)) (option_map (λ k. b + k) r)) (sym e)
    (found_own n (λ g. Holds m (part.GlobalAt g)) (Has (GlobalHolds m) m.globals) r
    (λ g known own le is. at_some (GlobalHolds m) (slice_get m.globals (g - n)) own is (known le))
    (λ k known. if_some (GlobalHolds m) (slice_get m.globals k) (λ own is. known own (omega arith) (past m.globals n k own is))) h)

-- ---- bodies

-- the body of own function k, where there is one and a type of it, is valid
abbrev pub OwnBody : Module → ℕ → Type 0
OwnBody m k = (F : FuncType) (b : Body) → type_numbered m.types (slice_get m.funcs k) ≡ Some F → slice_get m.bodies k ≡ Some b → IsValidBody m F b

after : {X : Type 0} (xs ys : List X) (n : ℕ) → length xs ≤ n → slice_get (xs ++ ys) n ≡ slice_get ys (n - length xs)
after [] ys n h = ap (slice_get ys) (omega arith)
after (x ∷ xs) ys zero h = absurd (omega arith)
after (x ∷ xs) ys (suc n) h = after xs ys n (omega arith) ∙ ap (slice_get ys) (omega arith)

own_type : (m : Module) (f : ℕ) → import_count m ≤ f → type_of_func m f ≡ type_numbered m.types (slice_get m.funcs (f - import_count m))
own_type m f le = ap (type_numbered m.types) (after (imported func_import m.imports) m.funcs f le)

pub own_func : (m : Module) (base : ℕ) (r : Option ℕ) → base ≡ import_count m → FindsNumber (OwnBody m) r
    → FindsNumber (λ f. Holds m (part.FuncAt f)) (option_map (λ k. base + k) r)
own_func m base r e h =
    let n = import_count m in
    subst (λ (b : ℕ). FindsNumber (λ f. Holds m (part.FuncAt f)) (option_map (λ k. b + k) r)) (sym e)
    (found_own n (λ f. Holds m (part.FuncAt f)) (OwnBody m) r
    (λ f known F b is own. known own.0 F b (sym (own_type m f own.0) ∙ is) own.1)
    (λ k known F b is there. let le : import_count m ≤ n + k = omega arith in
    known F b (own_type m (n + k) le ∙ ap (λ (j : ℕ). type_numbered m.types (slice_get m.funcs j)) (omega arith) ∙ is) (le, past m.bodies n k b there)) h)

pub body_valid : (m : Module) (k : ℕ) (b : Body) → slice_get m.bodies k ≡ Some b
    → ((F : FuncType) → type_numbered m.types (slice_get m.funcs k) ≡ Some F → IsValidBody m F b) → OwnBody m k
body_valid m k b here valid F other is there =
    let same : Some b ≡ Some other = sym here ∙ there in let eq : b ≡ other = cc in subst (IsValidBody m F) eq (valid F is)

pub past_bodies : (m : Module) (all : List Body) (n : ℕ) → all ≡ m.bodies → length all ≤ n → ((k : ℕ) → k < n → OwnBody m k) → (k : ℕ) → OwnBody m k
past_bodies m all n e le before k F b is there = before k (let lt = slice_get_within m.bodies k b there in let same = ap length e in omega arith) F b is there
