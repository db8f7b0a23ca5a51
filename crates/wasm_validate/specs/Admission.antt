-- Which modules are admitted, and what is told of one that isn't (docs/VALIDITY.md, "The order of refusals").
use Rattle.std.specs.Prelude.{◌≡◌, ℕ, ◌≤◌, ◌<◌, Result, Ok, Err}
use Rattle.wasm_types.specs.declared.module.Module.{Module}
use Rattle.wasm_types.specs.declared.place.LimitKind.{LimitKind}
use Rattle.wasm_types.specs.declared.place.LimitKind.TheVariants as limit
use Rattle.wasm_types.specs.Subset.{HasNoFloatIn, HasNoFloat, Counts, most_read, WithinLimits}
use Rattle.wasm_types.specs.Validity.{Holds, IsValid}
use Rattle.wasm_validate.specs.declared.refusal.AdmitEnd.{AdmitEnd}
use Rattle.wasm_validate.specs.declared.refusal.AdmitEnd.TheVariants as end
use Rattle.wasm_validate.specs.First.{float_order, valid_order, IsFirstWithout}

-- the kinds of limit in the order in which they are tested
abbrev pub limit_order : LimitKind → ℕ
limit_order limit.Functions = 0
limit_order limit.Params = 1
limit_order limit.Globals = 2
limit_order limit.TableSize = 3
limit_order limit.Locals = 4
limit_order limit.Positions = 5

-- the k-th number of a kind, n, is over its limit, and no number before it is over its own
pub record IsFirstOver (m : Module) (which : LimitKind) (k n : ℕ) : Type 0 where
  pub counted : Counts m which k n
  pub over : most_read which < n
  pub kinds : (w : LimitKind) (j c : ℕ) → limit_order w < limit_order which → Counts m w j c → c ≤ most_read w
  pub numbers : (j c : ℕ) → j < k → Counts m which j c → c ≤ most_read which

-- what is told beside a number over its limit: the number of the type or of the function, and 0 where the limit is on neither
abbrev pub told_number : LimitKind → ℕ → ℕ
told_number limit.Params k = k
told_number limit.Locals k = k
told_number limit.Positions k = k
told_number _ k = 0

-- The first refusal that holds: a float, then a limit, then a part that isn't valid.
abbrev pub Refuses : Module → AdmitEnd → Type 0
Refuses m (end.Float p) = IsFirstWithout (HasNoFloatIn m) float_order p
Refuses m (end.Limit which at n) = HasNoFloat m × ((k : ℕ) × IsFirstOver m which k n × (at ≡ told_number which k))
Refuses m (end.Invalid p) = HasNoFloat m × WithinLimits most_read m × IsFirstWithout (Holds m) valid_order p
Refuses m end.Memory = Unit {0}

-- valid, without a float and within the limits
pub record IsAdmitted (m : Module) : Type 0 where
  pub valid : IsValid m
  pub no_float : HasNoFloat m
  pub limits : WithinLimits most_read m

-- the same module, sealed, or handed back with the first refusal
abbrev pub Admits : Module → Result Module (Module × AdmitEnd) → Type 0
Admits m (Ok sealed) = (sealed ≡ m) × IsAdmitted m
Admits m (Err refused) = (refused.0 ≡ m) × Refuses m refused.1
