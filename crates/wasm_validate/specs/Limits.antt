-- The first number of a module that is over its limit.
use Rattle.std.specs.Prelude.{◌≡◌, ℕ, ◌≤◌, ◌<◌, Option, Some, None}
use Rattle.wasm_types.specs.declared.module.Limits.{Limits}
use Rattle.wasm_types.specs.declared.module.Module.{Module}
use Rattle.wasm_types.specs.declared.place.LimitKind.{LimitKind}
use Rattle.wasm_types.specs.Subset.{Counts, most_read, WithinLimits}
use Rattle.wasm_validate.specs.declared.limits.Over.{Over}
use Rattle.wasm_validate.specs.Admission.{IsFirstOver, told_number}

-- the k-th of the numbers that are counted, n, is over a bound, and none before it is
pub record IsFirstAbove (Counted : ℕ → ℕ → Type 0) (most k n : ℕ) : Type 0 where
  pub counted : Counted k n
  pub over : most < n
  pub earlier : (j c : ℕ) → j < k → Counted j c → c ≤ most

-- the numbers of one kind are within their limit
abbrev pub WithinKind : Module → LimitKind → Type 0
WithinKind m which = (k n : ℕ) → Counts m which k n → n ≤ most_read which

-- the first number of one kind that is over its limit: none where each is within it
abbrev pub FindsKind : Module → LimitKind → Option Over → Type 0
FindsKind m which None = WithinKind m which
FindsKind m which (Some over) = (over.which ≡ which) × ((k : ℕ) × IsFirstAbove (Counts m which) (most_read which) k over.count × (over.at ≡ told_number which k))

-- the first of all numbers that is over its limit, in the order of the kinds: none where each is within it
abbrev pub FindsOver : Module → Option Over → Type 0
FindsOver m None = WithinLimits most_read m
FindsOver m (Some over) = (k : ℕ) × IsFirstOver m over.which k over.count × (over.at ≡ told_number over.which k)

-- how many entries a table begins with
abbrev pub initial_size : Limits → ℕ
initial_size l = l.min
