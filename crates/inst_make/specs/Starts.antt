-- What comes of instantiating a module, whose start function isn't run (WebAssembly Core Specification 1.0, section 4.5.4).
use Rattle.std.specs.Prelude.{◌≡◌, ℕ, ◌<◌, ◌≤◌, true, false, List, ◌++◌, length, map, take, All, Option, Some, None, Result, Ok, Err, slice_get}
use Rattle.wasm_types.specs.declared.module.Value.{Value}
use Rattle.wasm_types.specs.declared.module.GlobalDef.{GlobalDef}
use Rattle.wasm_types.specs.declared.module.Elem.{Elem}
use Rattle.wasm_types.specs.declared.module.DataSegment.{DataSegment}
use Rattle.wasm_types.specs.declared.module.Module.{Module}
use Rattle.wasm_types.specs.Spaces.{mems_of}
use Rattle.wasm_types.specs.Hosts.{is_within}
use Rattle.wasm_meaning.specs.State.{State, HostCall, Script}
use Rattle.typed_runs.specs.Start.{constant, least, begins, bare, started, ElemFits, SegmentFits, CanStart}
use Rattle.run_store.specs.Scripts.{Replies}
use Rattle.inst_make.specs.declared.instance.Instance.{Instance}
use Rattle.inst_make.specs.declared.start.InstEnd.{InstEnd}
use Rattle.inst_make.specs.declared.start.InstEnd.TheVariants.{TooManyPages, ElemOut, DataOut, Memory}
use Rattle.inst_make.specs.Instances.{StandsFor, IsInstance}

-- entry k of a list is the first of which a property doesn't hold
pub record IsFirstWithout {A : Type 0} (P : A → Type 0) (xs : List A) (k : ℕ) : Type 0 where
  pub before : All P (take k xs)
  pub entry : A
  pub found : slice_get xs k ≡ Some entry
  pub fails : P entry → ⊥

-- before the segments are written, by the values of the imported globals, the cap and the host's replies
abbrev pub bare_of : Module → List Value → ℕ → Replies → State
bare_of m gs cap script = bare m gs cap (Script script.replies)

-- The instance isn't spent and fits the module, its script is the one that was given, and it stands for the module's start, its segments written, after any
-- calls of the host that are as many as the replies used.
pub record Begins (m : Module) (gs : List Value) (cap : ℕ) (given : Replies) (inst : Instance) : Type 0 where
  pub unspent : inst.spent ≡ false
  pub script : inst.script ≡ given
  pub fits : IsInstance m inst
  pub stands : (calls : List HostCall) → length calls ≡ given.used → StandsFor inst (record (started m (bare_of m gs cap given)) { host_calls = calls })

-- what is answered, by the first cause that holds: too many pages, an element segment out of the table, a data segment out of the memory
abbrev pub Instantiates : Module → List Value → ℕ → Replies → Result Instance InstEnd → Type 0
Instantiates m gs cap script (Ok inst) = CanStart m gs cap (Script script.replies) × Begins m gs cap script inst
Instantiates m gs cap script (Err (TooManyPages min)) = (min ≡ least (mems_of m)) × (cap < min)
Instantiates m gs cap script (Err (ElemOut k)) = (least (mems_of m) ≤ cap) × IsFirstWithout (ElemFits (bare_of m gs cap script)) m.elems k
Instantiates m gs cap script (Err (DataOut k)) =
    (least (mems_of m) ≤ cap) × All (ElemFits (bare_of m gs cap script)) m.elems × IsFirstWithout (SegmentFits (bare_of m gs cap script)) m.segments k
Instantiates m gs cap script (Err Memory) = Unit {0}

-- ---- steps

-- the values of the imported globals, and those of the module's own
abbrev pub with_own : List Value → List GlobalDef → List Value
with_own gs own = gs ++ map (λ (g : GlobalDef). constant gs g.init) own

abbrev pub ElemWithin : List Value → ℕ → Elem → Type 0
ElemWithin gs size e = is_within (begins gs e.offset) (length e.funcs) size ≡ true

abbrev pub SegmentWithin : List Value → ℕ → DataSegment → Type 0
SegmentWithin gs long d = is_within (begins gs d.offset) (length d.bytes) long ≡ true

-- the first entry of which a property doesn't hold: none where it holds of each
abbrev pub FindsFirst : {A : Type 0} → (A → Type 0) → List A → Option ℕ → Type 0
FindsFirst P xs None = All P xs
FindsFirst P xs (Some k) = IsFirstWithout P xs k
