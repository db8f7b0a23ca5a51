-- Functions appended to a module (docs/ANALYSES.md, "The sliced module").
use Rattle.std.specs.Prelude.{◌≡◌, ◌↔◌, ℕ, List, ◌++◌, Bool, All}
use Rattle.wasm_types.specs.declared.module.Value.{Value}
use Rattle.wasm_types.specs.declared.module.Body.{Body}
use Rattle.wasm_types.specs.declared.module.ExportKind.TheVariants as export
use Rattle.wasm_types.specs.declared.module.Export.{Export}
use Rattle.wasm_types.specs.declared.module.Module.{Module}
use Rattle.wasm_types.specs.declared.run.Event.{Event}
use Rattle.wasm_types.specs.declared.run.Ended.{Ended}
use Rattle.wasm_types.specs.Marked.{Marked, End, Do, Block, Loop, If, Br, BrIf, BrTable, Return, Unreachable}
use Rattle.wasm_types.specs.Actions.{Form, CallOf, form_of}
use Rattle.wasm_types.specs.Hosts.{IsFunction}
use Rattle.wasm_types.specs.Validity.{IsValid}
use Rattle.wasm_meaning.specs.State.{State}
use Rattle.wasm_meaning.specs.Fits.{Fits}
use Rattle.wasm_meaning.specs.Effects.{fixed}
use Rattle.wasm_meaning.specs.Run.{Here, run}
use Rattle.wasm_meaning.specs.Invoke.{nested, invocation, Ending, Ends, HasOutcome}

-- functions of these type numbers and bodies, and exports, behind those of the module
abbrev pub appended : Module → List ℕ → List Body → List Export → Module
appended m types bodies exports = record m { funcs = m.funcs ++ types; bodies = m.bodies ++ bodies; exports = m.exports ++ exports }

-- the exports are functions
abbrev pub AreFunctions : List Export → Type 0
AreFunctions exports = All (λ (e : Export). e.kind ≡ export.Func) exports

-- an instruction calls no other function by its number than one of the module
abbrev pub OldForm : Module → Form → Type 0
OldForm m (CallOf f) = IsFunction m f
OldForm m _ = Unit {0}

-- so do all instructions that a run can come to
abbrev pub AllOld : Module → Marked → Type 0
AllOld m End = Unit {0}
AllOld m (Do k op rest) = OldForm m (form_of op) × AllOld m rest
AllOld m (Block k kind body rest) = AllOld m body × AllOld m rest
AllOld m (Loop k kind body rest) = AllOld m body × AllOld m rest
AllOld m (If k kind x y rest) = AllOld m x × AllOld m y × AllOld m rest
AllOld m (Br k l rest) = Unit {0}
AllOld m (BrIf k l rest) = AllOld m rest
AllOld m (BrTable k labels other rest) = Unit {0}
AllOld m (Return k rest) = Unit {0}
AllOld m (Unreachable k rest) = Unit {0}

-- In a valid module with functions and their exports appended, code that calls the old functions runs as before, an invocation of an old function is as
-- before, and so are the ways in which it ends and its outcomes, from each state that fits the old module, which fits the new one too.
pub record Appended (m : Module) (types : List ℕ) (bodies : List Body) (exports : List Export) (s : State) : Type 0 where
  pub fits : Fits (appended m types bodies exports) s
  pub runs : (depth : ℕ) (ls : List ℕ) (code : Marked) → AllOld m code → (h : Here)
      → (let Z = fixed m s in let Z' = fixed (appended m types bodies exports) s in run Z' (nested Z' depth) ls code h ≡ run Z (nested Z depth) ls code h)
  pub invocations : (f : ℕ) → IsFunction m f → (depth : ℕ) (watched : ℕ → Bool) (args : List Value)
      → invocation (appended m types bodies exports) depth watched f args s ≡ invocation m depth watched f args s
  pub ends : (f : ℕ) → IsFunction m f → (i : ℕ) (args : List Value) (ending : Ending) (final : State) (events : List Event)
      → Ends (appended m types bodies exports) f i args s ending final events ↔ Ends m f i args s ending final events
  pub outcomes : (f : ℕ) → IsFunction m f → (i : ℕ) (args : List Value) (budget : ℕ) (ended : Ended) (final : State) (events : List Event)
      → HasOutcome (appended m types bodies exports) f i args s budget ended final events ↔ HasOutcome m f i args s budget ended final events

abbrev pub AppendedKeep : Type 0
AppendedKeep =
    (m : Module) → IsValid m → (types : List ℕ) (bodies : List Body) (exports : List Export) → AreFunctions exports → (s : State) → Fits m s
    → Appended m types bodies exports s
