-- Instances and the states that they stand for.
use Rattle.std.proofs.Common.{◌≡◌, ℕ, ◌≤◌, List, [], ◌∷◌, length, refl, sym, subst, arith}
use Rattle.wasm_types.specs.declared.module.Limits.{Limits}
use Rattle.wasm_types.specs.declared.module.Module.{Module}
use Rattle.wasm_types.specs.Spaces.{mems_of}
use Rattle.wasm_meaning.specs.State.{State, HostCall}
use Rattle.wasm_meaning.specs.Fits.{Fits}
use Rattle.wasm_meaning.specs.Memory.{most_of}
use Rattle.wasm_meaning.specs.Effects.{fixed}
use Rattle.run_store.specs.Pages.{most_pages}
use Rattle.inst_make.specs.declared.instance.Instance.{Instance}
use Rattle.wasm_types.specs.declared.module.Value.{Value}
use Rattle.typed_runs.specs.Start.{started}
use Rattle.run_store.specs.Scripts.{Replies}
use Rattle.inst_make.specs.Starts.{bare_of, Begins}
use Rattle.inst_make.specs.Instances.{state_of, StandsFor, declared_max, IsReady, IsInstance}

-- ---- the greatest number of pages

-- of the only memory, what the page store may grow to is what is fixed in a run
pub most_is : (ls : List Limits) (cap : ℕ) → length ls ≡ 1 → most_pages (declared_max ls) cap ≡ most_of ls cap
most_is [] cap one = absurd (omega arith)
most_is (l ∷ []) cap one = refl
most_is (l ∷ k ∷ ls) cap one = absurd (omega arith)

pub fixed_is : (m : Module) (inst : Instance) (calls : List HostCall) (turns : ℕ) → IsReady m inst → length (mems_of m) ≡ 1
    → most_pages inst.store.max inst.store.cap ≡ (fixed m (state_of inst calls turns)).cap
fixed_is m inst calls turns ready one =
    subst (λ max. most_pages max inst.store.cap ≡ most_of (mems_of m) inst.store.cap) (sym ready.max) (most_is (mems_of m) inst.store.cap one)

-- ---- what fits

-- whether a state fits doesn't depend on the calls and turns
pub fits_after : (m : Module) (inst : Instance) (calls : List HostCall) (turns : ℕ) → Fits m (state_of inst calls turns)
    → (calls' : List HostCall) (turns' : ℕ) → Fits m (state_of inst calls' turns')
fits_after m inst calls turns h calls' turns' = record {
  globals = h.globals;
  pages = h.pages;
  below_cap = h.below_cap;
  below_maximum = h.below_maximum;
  long = h.long;
  bytes = h.bytes;
  table = h.table;
}

-- the states that a fitting instance stands for fit
pub stands_fit : (m : Module) (inst : Instance) (s : State) → IsInstance m inst → StandsFor inst s → Fits m s
stands_fit m inst s is h = subst (Fits m) (sym h.same) ((is h.unspent).fits s.host_calls s.turns)

-- an instance is ready where a state that it stands for fits
pub ready_by : (m : Module) (inst : Instance) (s : State) → inst.store.max ≡ declared_max (mems_of m)
    → inst.store.pages ≤ most_pages inst.store.max inst.store.cap → s ≡ state_of inst s.host_calls s.turns → Fits m s → IsReady m inst
ready_by m inst s max below same h = record {
  max = max;
  below = below;
  fits = fits_after m inst s.host_calls s.turns (subst (Fits m) same h);
}

-- where no reply was used yet, the instance that a run begins with stands for the module's start
pub stands_for_start : (m : Module) (gs : List Value) (most : ℕ) (given : Replies) (inst : Instance) → Begins m gs most given inst → given.used ≡ 0
    → StandsFor inst (started m (bare_of m gs most given))
stands_for_start m gs most given inst begins none = begins.stands [] (sym none)
