use Rattle.std.proofs.Common.{IfOk, ◌∷◌, [], List, map, reverse, sym, ap, ◌∙◌, subst}
use Rattle.wasm_types.specs.declared.place.Node.{Node}
use Rattle.wasm_types.specs.declared.instr.Instr.{Instr}
use Rattle.block_cfg.specs.Walk.{SameOnce, goes_of, target_of}
use Rattle.block_cfg.proofs.targets.targets.Goals as goal

pub returns-in-BrIf : goal.returns-in-BrIf
returns-in-BrIf c =
    subst (λ (l : List Node). IfOk c.two.result (λ row. SameOnce row l))
    (ap (λ (z : Node). c.args.next ∷ z ∷ []) c.target-in-BrIf.ensures ∙ ap (λ (i : Instr). goes_of (reverse c.args.labels.now) i c.args.next) (sym c.in-BrIf.is)) c.two.ensures

pub returns-in-BrTable : goal.returns-in-BrTable
returns-in-BrTable c =
    subst (λ (l : List Node). IfOk c.table.result (λ row. SameOnce row l))
    (ap (λ l. map (target_of (reverse c.args.labels.now)) (c.in-BrTable.other ∷ l)) c.as_slice.ensures ∙ ap (λ (i : Instr). goes_of (reverse c.args.labels.now) i c.args.next) (sym c.in-BrTable.is)) c.table.ensures
