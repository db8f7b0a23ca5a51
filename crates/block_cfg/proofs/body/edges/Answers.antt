use Rattle.std.proofs.Common.{◌≡◌, ℕ, ◌<◌, ◌≤◌, ◌↔◌, List, [], ◌∷◌, ◌++◌, true, length, reverse, sym, ap, ap₂, ◌∙◌, subst, arith}
use Rattle.std.specs.List.{Contains}
use Rattle.std.proofs.lemmas.Grind.{common_steps}
use Rattle.wasm_types.specs.declared.place.Node.{Node}
use Rattle.wasm_types.specs.declared.place.Node.TheVariants.{Exit}
use Rattle.wasm_types.specs.declared.instr.Instr.{Instr}
use Rattle.wasm_types.specs.Code.{Code, code_of, count}
use Rattle.wasm_types.proofs.CodeLemmas.{length-flatten}
use Rattle.block_cfg.specs.Graph.{Graph, IsNumbered, row_of, number, EachOnce}
use Rattle.block_cfg.specs.Points.{IsCfgOf}
use Rattle.block_cfg.specs.Walk.{Adds, lists, points_in}
use Rattle.block_cfg.specs.Stops.{stops_in}
use Rattle.block_cfg.proofs.CfgLemmas.{all_points, all_lists, all_stops, is_cfg, within, numbered, next_once, next_length}
use Rattle.block_cfg.proofs.body.edges.Goals as goal

walked : (labels : List Node) (old new : List (List Node)) (c : Code) → labels ≡ Exit ∷ [] → old ≡ [] ∷ [] → Adds old new (lists true (reverse labels) Exit c 0) → Adds ([] ∷ []) new (all_lists c)
walked labels old new c e f a = subst (λ z. Adds z new (all_lists c)) f (subst (λ (z : List Node). Adds old new (lists true (reverse z) Exit c 0)) e a)

few : (code instrs : List Instr) → code ≡ instrs → count (code_of instrs) ≤ 200000 → count (code_of code) ≤ 200000
few code instrs e h = subst (λ z. count (code_of z) ≤ 200000) (sym e) h

ends : (code instrs : List Instr) (stops : List ℕ) → code ≡ instrs → stops ≡ stops_in (code_of instrs) 0 → stops ≡ all_stops (code_of code)
ends code instrs stops e h = subst (λ z. stops ≡ stops_in (code_of z) 0) (sym e) h

pub walk_code-requires-clause-room : goal.walk_code-requires-clause-room
walk_code-requires-clause-room c =
    let some : count (code_of c.args.body.now.code) ≤ 200000 = omega (arith, c.requires.positions, length-flatten (code_of c.args.body.now.code)) in
    omega (arith, few c.as_slice-code.result.now c.args.body.now.code c.as_slice-code.ensures some)

pub turned-requires-clause-few : goal.turned-requires-clause-few
turned-requires-clause-few c =
    let code = code_of c.as_slice-code.result.now in
    let some : count (code_of c.args.body.now.code) ≤ 200000 = omega (arith, c.requires.positions, length-flatten (code_of c.args.body.now.code)) in
    let labels : c.push.new.self.items ≡ Exit ∷ [] = grind (arith, common_steps) in
    let adds = walked c.push.new.self.items c.in_ok-found.found.next.items c.walk_code.new.found.next.items code labels c.in_ok-found.ensures.next c.in_ok-walk_code.ensures.found.next in
    omega (arith, few c.as_slice-code.result.now c.args.body.now.code c.as_slice-code.ensures some, next_length code c.walk_code.new.found.next.items adds, ap length c.as_slice.ensures.value)

pub turned-requires-clause-within : goal.turned-requires-clause-within
turned-requires-clause-within c =
    let code = code_of c.as_slice-code.result.now in
    let labels : c.push.new.self.items ≡ Exit ∷ [] = grind (arith, common_steps) in
    let adds = walked c.push.new.self.items c.in_ok-found.found.next.items c.walk_code.new.found.next.items code labels c.in_ok-found.ensures.next c.in_ok-walk_code.ensures.found.next in
    subst (λ (z : List (List Node)). (a b : Node) → Contains (row_of z a) b → number b < length z) (sym c.as_slice.ensures.value) (within code c.walk_code.new.found.next.items adds)

pub turned-requires-clause-once : goal.turned-requires-clause-once
turned-requires-clause-once c =
    let code = code_of c.as_slice-code.result.now in
    let labels : c.push.new.self.items ≡ Exit ∷ [] = grind (arith, common_steps) in
    let adds = walked c.push.new.self.items c.in_ok-found.found.next.items c.walk_code.new.found.next.items code labels c.in_ok-found.ensures.next c.in_ok-walk_code.ensures.found.next in
    subst (λ (z : List (List Node)). (a : Node) → EachOnce (row_of z a)) (sym c.as_slice.ensures.value) (next_once code c.walk_code.new.found.next.items adds)

pub of-requires : goal.of-requires
of-requires c =
    let code = code_of c.as_slice-code.result.now in
    let next = c.walk_code.new.found.next.items in
    let before = c.in_ok-before.before.items in
    let labels : c.push.new.self.items ≡ Exit ∷ [] = grind (arith, common_steps) in
    let adds = walked c.push.new.self.items c.in_ok-found.found.next.items next code labels c.in_ok-found.ensures.next c.in_ok-walk_code.ensures.found.next in
    let pushed : c.push-2.new.self.items ≡ c.walk_code.new.found.points.items ++ Exit ∷ [] = grind (arith, common_steps) in
    let points : c.push-2.new.self.items ≡ all_points code = pushed ∙ ap (λ (z : List Node). z ++ Exit ∷ []) (c.in_ok-walk_code.ensures.found.points ∙ ap (λ (z : List Node). z ++ points_in true code 0) c.in_ok-found.ensures.points) in
    let stops = ends c.as_slice-code.result.now c.args.body.now.code c.in_ok-stops.stops.items c.as_slice-code.ensures c.in_ok-stops.ensures in
    subst (λ (z : List ℕ). IsNumbered (record { points = c.push-2.new.self.items; next = next; before = before; stops = z })) (sym stops)
    (subst (λ (z : List Node). IsNumbered (record { points = z; next = next; before = before; stops = all_stops code })) (sym points)
    (numbered code next adds before (c.in_ok-before.ensures.same ∙ ap length c.as_slice.ensures.value)))

pub returns : goal.returns
returns c =
    let code = code_of c.as_slice-code.result.now in
    let next = c.walk_code.new.found.next.items in
    let before = c.in_ok-before.before.items in
    let labels : c.push.new.self.items ≡ Exit ∷ [] = grind (arith, common_steps) in
    let adds = walked c.push.new.self.items c.in_ok-found.found.next.items next code labels c.in_ok-found.ensures.next c.in_ok-walk_code.ensures.found.next in
    let pushed : c.push-2.new.self.items ≡ c.walk_code.new.found.points.items ++ Exit ∷ [] = grind (arith, common_steps) in
    let points : c.push-2.new.self.items ≡ all_points code = pushed ∙ ap (λ (z : List Node). z ++ Exit ∷ []) (c.in_ok-walk_code.ensures.found.points ∙ ap (λ (z : List Node). z ++ points_in true code 0) c.in_ok-found.ensures.points) in
    let turned : (a b : Node) → Contains (row_of before b) a ↔ Contains (row_of next a) b =
    subst (λ (z : List (List Node)). (a b : Node) → Contains (row_of before b) a ↔ Contains (row_of z a) b) c.as_slice.ensures.value c.in_ok-before.ensures.exact in
    let stops = ends c.as_slice-code.result.now c.args.body.now.code c.in_ok-stops.stops.items c.as_slice-code.ensures c.in_ok-stops.ensures in
    let is : IsCfgOf c.args.body.now (record { points = all_points code; next = next; before = before; stops = all_stops code }) =
    is_cfg code next adds before turned c.in_ok-before.ensures.once c.args.body.now (ap code_of c.as_slice-code.ensures) in
    subst (λ (g : Graph). IsCfgOf c.args.body.now g)
    (ap₂ (λ (z : List Node) (y : List ℕ). record { points = z; next = next; before = before; stops = y }) (sym points) (sym stops) ∙ sym c.of.ensures) is
