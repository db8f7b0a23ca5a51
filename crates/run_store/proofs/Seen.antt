-- What the host sees of a global, by its number.
use Rattle.std.proofs.Common.{◌≡◌, ℕ, zero, suc, ◌+◌, ◌<◌, Bool, true, false, ◌&&◌, ◌||◌, ◌==◌, List, [], ◌∷◌, ◌++◌, length, map, get_or, nat_lt, Some, None, refl, ap, ◌∙◌, subst, cond, rules, arith}
use Rattle.std.proofs.lemmas.Bool.Decides.{nat_tests}
use Rattle.std.specs.Prelude.{ℤ, slice_get}
use Rattle.std.specs.List.{list_all, list_any}
use Rattle.wasm_types.specs.declared.module.Module.{Module}
use Rattle.wasm_types.specs.declared.module.GlobalType.{GlobalType}
use Rattle.wasm_types.specs.declared.module.GlobalDef.{GlobalDef}
use Rattle.wasm_types.specs.declared.module.Export.{Export}
use Rattle.wasm_types.specs.Spaces.{imported, global_import, globals_of, global_kind}
use Rattle.wasm_types.specs.Hosts.{global_visible, seen_from, global_fits, in_range, bytes_fit, is_within, is_global}

front : {A : Type 0} (xs ys : List A) (k : ℕ) (x : A) → slice_get xs k ≡ Some x → slice_get (xs ++ ys) k ≡ Some x
front [] ys k x h = absurd cc
front (y ∷ xs) ys zero x h = h
front (y ∷ xs) ys (suc k) x h = front xs ys k x h

back : {A : Type 0} (xs ys : List A) (k left : ℕ) → k ≡ left + length xs → slice_get (xs ++ ys) k ≡ slice_get ys left
back [] ys k left h = ap (slice_get ys) (omega arith)
back (x ∷ xs) ys zero left h = absurd (omega arith)
back (x ∷ xs) ys (suc k) left h = back xs ys k left (omega arith)

inside : {A : Type 0} (xs : List A) (k : ℕ) (x : A) → slice_get xs k ≡ Some x → nat_lt k (length xs) ≡ true
inside [] k x h = absurd cc
inside (y ∷ xs) zero x h = search (rules)
inside (y ∷ xs) (suc k) x h = let r = inside xs k x h in grind (arith, nat_tests)

mapped : {A B : Type 0} (f : A → B) (xs : List A) (k : ℕ) (x : A) → slice_get xs k ≡ Some x → slice_get (map f xs) k ≡ Some (f x)
mapped f [] k x h = absurd cc
mapped f (y ∷ xs) zero x h = cc
mapped f (y ∷ xs) (suc k) x h = mapped f xs k x h

unmapped : {A B : Type 0} (f : A → B) (xs : List A) (k : ℕ) → slice_get xs k ≡ None → slice_get (map f xs) k ≡ None
unmapped f [] k h = refl
unmapped f (y ∷ xs) zero h = absurd cc
unmapped f (y ∷ xs) (suc k) h = unmapped f xs k h

cases_fit : (v : Bool) (g : GlobalType) (z : ℤ) → global_fits (Some (cond v (Some g.kind) None)) z ≡ (v && in_range g.kind z)
cases_fit true g z = refl
cases_fit false g z = refl

seen_at : (m : Module) (gs : List GlobalType) (j k : ℕ) (g : GlobalType) (z : ℤ) → slice_get gs k ≡ Some g
    → global_fits (slice_get (seen_from m j gs) k) z ≡ (global_visible m (j + k) g && in_range g.kind z)
seen_at m [] j k g z h = absurd cc
seen_at m (y ∷ gs) j zero g z h =
    let e : y ≡ g = cc in
    let n : j ≡ j + 0 = omega arith in
    subst (λ (x : GlobalType). global_fits (slice_get (seen_from m j (y ∷ gs)) 0) z ≡ (global_visible m (j + 0) x && in_range x.kind z)) e
    (subst (λ i. global_fits (Some (cond (global_visible m j y) (Some y.kind) None)) z ≡ (global_visible m i y && in_range y.kind z)) n
    (cases_fit (global_visible m j y) y z))
seen_at m (y ∷ gs) j (suc k) g z h =
    seen_at m gs (j + 1) k g z h ∙ ap (λ i. global_visible m i g && in_range g.kind z) (omega arith)

unseen_at : (m : Module) (gs : List GlobalType) (j k : ℕ) (z : ℤ) → slice_get gs k ≡ None → global_fits (slice_get (seen_from m j gs) k) z ≡ false
unseen_at m [] j k z h = refl
unseen_at m (y ∷ gs) j zero z h = absurd cc
unseen_at m (y ∷ gs) j (suc k) z h = unseen_at m gs (j + 1) k z h

abbrev pub fits_at : Module → ℕ → ℤ → Bool
fits_at m k z = global_fits (slice_get (seen_from m 0 (globals_of m)) k) z

abbrev pub exported : Module → ℕ → Bool
exported m k = list_any (λ (e : Export). is_global e.kind && (e.index == k)) m.exports

by_place : (m : Module) (k : ℕ) (g : GlobalType) (z : ℤ) → slice_get (globals_of m) k ≡ Some g → fits_at m k z ≡ (global_visible m k g && in_range g.kind z)
by_place m k g z h = seen_at m (globals_of m) 0 k g z h ∙ ap (λ i. global_visible m i g && in_range g.kind z) (omega arith)

-- an imported global
pub imported_fit : (m : Module) (k : ℕ) (g : GlobalType) (z : ℤ) → slice_get (imported global_import m.imports) k ≡ Some g
    → fits_at m k z ≡ ((g.mutable && true) && in_range g.kind z)
imported_fit m k g z h =
    by_place m k g z (front (imported global_import m.imports) (map global_kind m.globals) k g h)
    ∙ ap (λ b. (g.mutable && (b || exported m k)) && in_range g.kind z) (inside (imported global_import m.imports) k g h)

-- the module's own
pub own_fit : (m : Module) (k left : ℕ) (d : GlobalDef) (z : ℤ) → k ≡ left + length (imported global_import m.imports) → slice_get m.globals left ≡ Some d
    → fits_at m k z ≡ ((d.kind.mutable && exported m k) && in_range d.kind.kind z)
own_fit m k left d z e h =
    let off : nat_lt k (length (imported global_import m.imports)) ≡ false = grind (arith, nat_tests, e) in
    by_place m k d.kind z (back (imported global_import m.imports) (map global_kind m.globals) k left e ∙ mapped global_kind m.globals left d h)
    ∙ ap (λ b. (d.kind.mutable && (b || exported m k)) && in_range d.kind.kind z) off

pub none_fit : (m : Module) (k left : ℕ) (z : ℤ) → k ≡ left + length (imported global_import m.imports) → slice_get m.globals left ≡ None
    → fits_at m k z ≡ false
none_fit m k left z e h =
    unseen_at m (globals_of m) 0 k z (back (imported global_import m.imports) (map global_kind m.globals) k left e ∙ unmapped global_kind m.globals left h)

-- ---- bytes

all_bytes : (bs : List ℕ) → ((i : ℕ) → get_or bs i 0 < 256) → list_all (λ b. nat_lt b 256) bs ≡ true
all_bytes [] h = refl
all_bytes (b ∷ bs) h =
    let first : b < 256 = h 0 in
    let e : nat_lt b 256 ≡ true = grind (arith, nat_tests) in
    ap (λ t. t && list_all (λ b. nat_lt b 256) bs) e ∙ all_bytes bs (λ i. h (suc i))

and_true : (a : Bool) → (a && true) ≡ a
and_true true = refl
and_true false = refl

pub range_fits : (long at : ℕ) (bs : List ℕ) → ((i : ℕ) → get_or bs i 0 < 256) → bytes_fit true long (at, bs) ≡ is_within at (length bs) long
range_fits long at bs h = ap (λ t. is_within at (length bs) long && t) (all_bytes bs h) ∙ and_true (is_within at (length bs) long)
