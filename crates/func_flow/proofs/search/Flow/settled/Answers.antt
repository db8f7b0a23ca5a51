use Rattle.std.proofs.Common.{sym, subst}
use Rattle.wasm_types.specs.declared.place.Node.{Node}
use Rattle.func_flow.specs.Runs.{SettledFrom, Settled}
use Rattle.func_flow.proofs.search.Flow.settled.Goals as goal

pub returns-in-At : goal.returns-in-At
returns-in-At c =
    let t = c.args.self.now.tables in
    let r = c.args.self.now.runs.now in
    let x = c.args.loc in
    let j = c.settled_from.result in
    subst (λ (n : Node). Settled t r x n j) (sym c.in-At.is) (subst (λ h. SettledFrom t r x h c.in-At.pos.0 j) c.start.ensures c.settled_from.ensures)
