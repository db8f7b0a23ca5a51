-- Which states an instance stands for, and when it fits a module (docs/MEANING.md, "The state").
use Rattle.std.specs.Prelude.{◌≡◌, ℕ, ◌≤◌, false, List, [], ◌∷◌, length, Option, Some}
use Rattle.wasm_types.specs.declared.module.Limits.{Limits}
use Rattle.wasm_types.specs.declared.module.Module.{Module}
use Rattle.wasm_types.specs.Spaces.{mems_of}
use Rattle.wasm_meaning.specs.State.{State, HostCall, Script}
use Rattle.wasm_meaning.specs.Fits.{Fits}
use Rattle.run_store.specs.Pages.{most_pages}
use Rattle.inst_make.specs.declared.instance.Instance.{Instance}

-- the state of an instance after these calls of the host and so many turns
abbrev pub state_of : Instance → List HostCall → ℕ → State
state_of inst calls turns = record {
  globals = inst.globals.items;
  pages = inst.store.pages;
  bytes = inst.store.bytes;
  table = inst.entries.items;
  cap = inst.store.cap;
  host = Script inst.script.replies;
  host_calls = calls;
  turns = turns;
}

-- A spent instance stands for no state. Another one stands for its state after any calls of the host that are as many as the replies used, and any number
-- of turns.
pub record StandsFor (inst : Instance) (s : State) : Type 0 where
  pub unspent : inst.spent ≡ false
  pub same : s ≡ state_of inst s.host_calls s.turns
  pub used : length s.host_calls ≡ inst.script.used

-- the greatest number of pages that a memory declares, where it declares one, and 0 where there is no memory
abbrev pub declared_max : List Limits → Option ℕ
declared_max [] = Some 0
declared_max (l ∷ ls) = l.max

-- The page store has the maximum that the module's memory declares, and no more pages than there may be, so none where there is no memory. The instance's
-- state fits the module, whatever calls and turns there were.
pub record IsReady (m : Module) (inst : Instance) : Type 0 where
  pub max : inst.store.max ≡ declared_max (mems_of m)
  pub below : inst.store.pages ≤ most_pages inst.store.max inst.store.cap
  pub fits : (calls : List HostCall) (turns : ℕ) → Fits m (state_of inst calls turns)

-- the instance fits the module: it is spent, or ready
abbrev pub IsInstance : Module → Instance → Type 0
IsInstance m inst = inst.spent ≡ false → IsReady m inst
