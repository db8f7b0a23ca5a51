use Rattle.std.proofs.Common.{◌≡◌, ◌+◌, ◌-◌, ◌++◌, ◌∷◌, ◌∙◌, [], ap, arith, length, replicate, subst, sym}
use Rattle.std.proofs.lemmas.Grind.{common_steps}
use Rattle.body_check.specs.declared.locals.RunEnd.{RunEnd}
use Rattle.body_check.specs.Locals.{Reaches, types_from}
use Rattle.body_check.proofs.LocalsLemmas.{types-push, reaches-push, reaches-length}
use Rattle.body_check.proofs.locals.Locals.push.Goals as goal

pub overflow_add-end : goal.overflow_add-end
overflow_add-end c = omega (arith, reaches-length 0 c.self.inside.ends.items c.self.inside.count c.self.invariant, ap length c.self.view_is, c.from.ensures)

pub invariant_of-self-2 : goal.invariant_of-self-2
invariant_of-self-2 c =
    let last : RunEnd = record { end = c.self.inside.count + c.from.result; kind = c.args.kind } in
    let items : c.push.new.self.items ≡ c.self.inside.ends.items ++ last ∷ [] = grind (arith, common_steps) in
    subst (λ (z : _). Reaches 0 z last.end) (sym items) (reaches-push 0 c.self.inside.ends.items c.self.inside.count last c.self.invariant (omega arith))

pub returns : goal.returns
returns c =
    let last : RunEnd = record { end = c.self.inside.count + c.from.result; kind = c.args.kind } in
    let items : c.push.new.self.items ≡ c.self.inside.ends.items ++ last ∷ [] = grind (arith, common_steps) in
    let n : c.self.inside.count + c.from.result - c.self.inside.count ≡ c.args.count = omega arith in
    let parts = ap (types_from 0) items ∙ types-push 0 c.self.inside.ends.items c.self.inside.count last c.self.invariant in
    let view = c.self.view_is in
    let runs = ap (λ z. replicate z c.args.kind) n in
    parts ∙ cc
