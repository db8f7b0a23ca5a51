use Rattle.std.proofs.Common.{◌+◌, ◌<◌, ℕ, length, sym, subst, ◌∙◌}
use Rattle.worklist.specs.Gains.{Gains}
use Rattle.worklist.specs.Lists.{Has}
use Rattle.call_graph.proofs.ListLemmas.{callers_classed, callers_unclassed}
use Rattle.call_graph.proofs.calls.CallGraph.push_callers.Goals as goal

pub returns-in_ok-push_functions-2 : goal.returns-in_ok-push_functions-2
returns-in_ok-push_functions-2 c =
    let self = c.args.self.now in
    let mid = c.push_functions.new.funcs.items in
    let new = c.push_functions-in-Some.new.funcs.items in
    callers_classed self c.args.func c.args.funcs.now.items mid new c.in_ok-push_functions.ensures c.in-Some.class (sym c.in-Some.ensures)
    (subst (λ (n : ℕ). Gains (λ f. (f < length self.classes.by_func.items) × Has self.callers.next.items (n + c.in-Some.class) f) mid new)
    (c.len.ensures ∙ self.classes.by_func.ok.0) c.in_ok-push_functions-2.ensures)

pub returns-in_default : goal.returns-in_default
returns-in_default c =
    callers_unclassed c.args.self.now c.args.func c.args.funcs.now.items c.push_functions.new.funcs.items c.push_functions.new.funcs.items
    c.in_ok-push_functions.ensures (sym c.class_of.ensures ∙ c.in_default.is)
