-- A run out of turns spends its instance.
use Rattle.std.proofs.Common.{◌≡◌, ◌≤◌, ℕ, true, List, Option, Some, None, Ok, subst, arith}
use Rattle.wasm_types.specs.declared.module.Body.{Body}
use Rattle.wasm_types.specs.declared.module.Module.{Module}
use Rattle.wasm_types.specs.declared.module.Value.{Value}
use Rattle.wasm_types.specs.declared.run.Ended.{Ended}
use Rattle.wasm_types.specs.declared.run.Ended.TheVariants.{OutOfTurns}
use Rattle.wasm_types.specs.Code.{code_of, count}
use Rattle.wasm_types.specs.Spaces.{body_of}
use Rattle.wasm_meaning.specs.State.{State}
use Rattle.inst_make.specs.declared.instance.Instance.{Instance}
use Rattle.inst_make.specs.Instances.{StandsFor}
use Rattle.ref_interp.specs.declared.invocation.Run.{Run}
use Rattle.ref_interp.specs.Invokes.{Invokes, IsAfter, IsOutcome}

-- a position past the end of a body
past : (o : Option Body) → (i : ℕ) × ((b : Body) → o ≡ Some b → count (code_of b.code) ≤ i)
past None = (0, λ b e. absurd cc)
past (Some x) = (
  count (code_of x.code),
  λ b e. let same : x ≡ b = cc in subst (λ (y : Body). count (code_of y.code) ≤ count (code_of x.code)) same (omega arith),
)

pub spent_after : (m : Module) (old new : Instance) (f budget : ℕ) (args : List Value) (run : Run) → (s : State) → StandsFor old s
    → Invokes m old new f args budget None (Ok run) → run.ended ≡ OutOfTurns → new.spent ≡ true
spent_after m old new f budget args run s stands (unspent, h) out =
    let w = past (body_of m f) in
    let o : IsOutcome m f w.0 args s budget run new = h s stands w.0 w.1 in
    subst (λ (e : Ended). IsAfter m new e o.final) out o.after
