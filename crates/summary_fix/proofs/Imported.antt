-- The rows of an imported function, by what it writes.
use Rattle.std.proofs.Common.{◌≡◌, ◌↔◌, ℕ, ◌<◌, List, Bool, true, false, Option, Some, None, nat_lt, if◌then◌else◌, length, refl, sym, ap, ◌∙◌, subst, arith}
use Rattle.std.proofs.lemmas.Bool.Decides.{nat_tests}
use Rattle.wasm_types.specs.declared.module.FuncType.{FuncType}
use Rattle.wasm_types.specs.declared.module.Module.{Module}
use Rattle.wasm_types.specs.declared.place.Loc.{Loc}
use Rattle.wasm_types.specs.declared.place.Loc.TheVariants.{Local, Global, Mem, Size, Host}
use Rattle.wasm_types.specs.Funcs.{Func, func_of}
use Rattle.wasm_types.specs.Hosts.{HostFunc, host_from, host_of, host_writes, seen_from, memory_visible}
use Rattle.wasm_types.specs.Spaces.{globals_of, import_count, type_of_func}
use Rattle.worklist.specs.Search.{IsMarked}
use Rattle.worklist.proofs.Searching.{marked_below}
use Rattle.flow_domain.specs.Reach.{CallsFunc, by_number, by_table, Reached, itself, after_call, MayWrite, by_code, by_host}
use Rattle.flow_domain.specs.Rows.{Output, Ret, Final, Done, HostUses, HostFinal, HostRow, ImportRows}
use Rattle.flow_domain.specs.Summaries.{IsKnown}
use Rattle.flow_laws.proofs.Starts.{own_no_host}
use Rattle.summary_fix.specs.Imports.{Uses, RowBy, changes, ImportRow}
use Rattle.summary_fix.proofs.Known.{host_global}

host_or : HostFunc → Option HostFunc → HostFunc
host_or d None = d
host_or d (Some H) = H

some_host : (a b : HostFunc) → Some a ≡ Some b → a ≡ b
unfolding host_or
some_host a b e = ap (host_or a) e

bool_same : (a b : Bool) → (a ≡ true → b ≡ true) → (b ≡ true → a ≡ true) → a ≡ b
bool_same true b f g = sym (f refl)
bool_same false true f g = g refl
bool_same false false f g = refl

module _ (m : Module) (f : ℕ) (H : HostFunc) (is : host_of m f ≡ Some H) where
  not_own : (F : Func) → func_of m f ≡ Some F → ⊥
  not_own F own = let wrong : None ≡ Some H = sym (own_no_host m f F own) ∙ is in cc

  calls_none : (g : ℕ) → CallsFunc m f g → ⊥
  calls_none g (by_number F op own live form) = not_own F own
  calls_none g (by_table F op t own live form target) = not_own F own

  only_itself : (g : ℕ) → Reached m f g → g ≡ f
  only_itself g itself = refl
  only_itself g (after_call h c r) = absurd (calls_none h c)

  -- it writes what the host does
  pub host_writes_of : (x : Loc) → MayWrite m f x → host_writes H x ≡ true
  host_writes_of x (by_code g F op a r own live form on out) = absurd (not_own F (subst (λ n. func_of m n ≡ Some F) (only_itself g r) own))
  host_writes_of x (by_host g J r at on) =
      let same : J ≡ H = some_host J H (sym (subst (λ n. host_of m n ≡ Some J) (only_itself g r) at) ∙ is) in subst (λ z. host_writes z x ≡ true) same on

  pub writes_by_host : (x : Loc) → host_writes H x ≡ true → MayWrite m f x
  writes_by_host x on = by_host f H itself is on

  module _ (seen : List Bool) (memory : Bool) (params : ℕ) (long : length seen ≡ length (globals_of m)) (count : params ≡ length H.kind.params)
      (globals : (k : ℕ) → k < length (globals_of m) → IsMarked seen k ↔ MayWrite m f (Global k)) (sees : (memory ≡ true) ↔ MayWrite m f Mem) where
    marked_seen : (k : ℕ) → IsMarked seen k → host_writes H (Global k) ≡ true
    marked_seen k marked = let lt = marked_below seen k marked in host_writes_of (Global k) ((globals k (omega arith)).0 marked)

    seen_marked : (k : ℕ) → host_writes H (Global k) ≡ true → IsMarked seen k
    seen_marked k on = (globals k (host_global m f H k is on)).1 (writes_by_host (Global k) on)

    memory_is : memory ≡ H.memory
    memory_is = bool_same memory H.memory (λ on. host_writes_of Mem (sees.0 on)) (λ on. sees.1 (writes_by_host Mem on))

    uses_host : (x : Loc) → Uses seen memory params x ↔ HostUses H x
    uses_host (Local k) = (λ lt. omega (arith, count), λ lt. omega (arith, count))
    uses_host (Global k) = (λ h. marked_seen k h, λ h. seen_marked k h)
    uses_host Mem = (λ h. sym memory_is ∙ h, λ h. memory_is ∙ h)
    uses_host Size = (λ h. sym memory_is ∙ h, λ h. memory_is ∙ h)
    uses_host Host = (λ h. refl, λ h. tt)

    changes_host : (y : Loc) → changes seen memory y ≡ host_writes H y
    changes_host (Local k) = refl
    changes_host (Global k) = bool_same _ _ (λ on. marked_seen k on) (λ on. seen_marked k on)
    changes_host Mem = memory_is
    changes_host Size = refl
    changes_host Host = refl

    final_host : (b : Bool) (y x : Loc) → IsKnown (length (globals_of m)) (Final y) → RowBy seen memory params b y x ↔ HostFinal b H y x
    final_host true y x known = uses_host x
    final_host false (Global k) x known = (λ e. (refl, e), λ h. h.1)
    final_host false Mem x known = (λ e. (refl, e), λ h. h.1)
    final_host false Size x known = (λ e. (refl, e), λ h. h.1)
    final_host false Host x known = (λ e. (refl, e), λ h. h.1)
    final_host false (Local k) x known = absurd cc

    row_host : (o : Output) (x : Loc) → IsKnown (length (globals_of m)) o → ImportRow seen memory params o x ↔ HostRow H o x
    row_host Ret x known = uses_host x
    row_host Done x known = uses_host x
    row_host (Final y) x known =
        subst (λ b. RowBy seen memory params (changes seen memory y) y x ↔ HostFinal b H y x) (changes_host y) (final_host (changes seen memory y) y x known)

    pub import_row : (o : Output) (x : Loc) → IsKnown (length (globals_of m)) o → ImportRow seen memory params o x ↔ ImportRows m f o x
    import_row o x known = (
      λ h. (H, is, (row_host o x known).0 h),
      λ (J, at, row). (row_host o x known).1 (subst (λ z. HostRow z o x) (some_host J H (sym at ∙ is)) row),
    )

-- an imported function by its number and type
pub host_of_type : (m : Module) (f : ℕ) (t : FuncType) → f < import_count m → type_of_func m f ≡ Some t
    → host_of m f ≡ Some (record { import = f; kind = t; globals = seen_from m 0 (globals_of m); memory = memory_visible m })
host_of_type m f t lt typed =
    let on : nat_lt f (import_count m) ≡ true = grind (arith, nat_tests) in
    ap (λ b. if b then host_from m f (type_of_func m f) else None) on ∙ ap (host_from m f) typed

-- without a type it has no rows
pub no_host_type : (m : Module) (f : ℕ) (o : Output) (x : Loc) → type_of_func m f ≡ None → ImportRows m f o x → ⊥
no_host_type m f o x none (J, at, row) = go (nat_lt f (import_count m)) at
  where
    go : (b : Bool) → (if b then host_from m f (type_of_func m f) else None) ≡ Some J → ⊥
    go false e = cc
    go true e = let wrong : None ≡ Some J = sym (ap (host_from m f) none) ∙ e in cc
