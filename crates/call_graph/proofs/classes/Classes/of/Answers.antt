use Rattle.std.proofs.Common.{◌≡◌, ℕ, List, Global, length, map, ap, ◌∙◌, subst, arith}
use Rattle.std.specs.Prelude.{vec_items}
use Rattle.std.proofs.lemmas.List.{length-map}
use Rattle.wasm_types.specs.declared.module.FuncType.{FuncType}
use Rattle.wasm_types.specs.Spaces.{func_types}
use Rattle.call_graph.specs.Below.{AllBelow}
use Rattle.call_graph.specs.Classes.{AreTypeClasses}
use Rattle.call_graph.proofs.ClassLemmas.{shares_target, target_shares, funcs_alike, funcs_below, types_below}
use Rattle.call_graph.proofs.classes.Classes.of.Goals as goal

pub returns-clause-exact : goal.returns-clause-exact
returns-clause-exact c =
    let m = c.args.m.now in
    let shapes = map (vec_items {X = ℕ} {Z = Global}) c.classes_of_funcs.new.shapes.keys in
    let by_func = c.in_ok-by_func.by_func.items in
    let by_type = c.in_ok-by_type.by_type.items in
    let funcs = c.in_ok-by_func.ensures.classes in
    let types : AreTypeClasses m.types shapes by_type =
    subst (λ (ts : List FuncType). AreTypeClasses ts shapes by_type) c.as_slice.ensures c.in_ok-by_type.ensures.classes in
    let named = ap length c.requires.described.funcs in
    let marks = ap length c.deref.ensures.value in
    let many : length by_func ≡ length (func_types m) =
    omega (arith, c.in_ok-by_func.ensures.length, marks, c.in_ok-stands.ensures.length, c.len.ensures, c.args.spaces.now.funcs.ok.0, named) in
    let long : length by_type ≡ length m.types = c.in_ok-by_type.ensures.length ∙ ap (length {A = FuncType}) c.as_slice.ensures in
    let apart = c.in_ok-by_func.ensures.apart in
    λ t f. (
      λ s. shares_target m shapes by_func by_type funcs types many long apart t f s.0 s.1.0 s.1.1,
      λ r. target_shares m shapes by_func by_type funcs types many long apart t f r,
    )

pub returns-clause-alike : goal.returns-clause-alike
returns-clause-alike c =
    let m = c.args.m.now in
    let shapes = map (vec_items {X = ℕ} {Z = Global}) c.classes_of_funcs.new.shapes.keys in
    let by_func = c.in_ok-by_func.by_func.items in
    let by_type = c.in_ok-by_type.by_type.items in
    let types : AreTypeClasses m.types shapes by_type =
    subst (λ (ts : List FuncType). AreTypeClasses ts shapes by_type) c.as_slice.ensures c.in_ok-by_type.ensures.classes in
    let named = ap length c.requires.described.funcs in
    let marks = ap length c.deref.ensures.value in
    let many : length by_func ≡ length (func_types m) =
    omega (arith, c.in_ok-by_func.ensures.length, marks, c.in_ok-stands.ensures.length, c.len.ensures, c.args.spaces.now.funcs.ok.0, named) in
    let long : length by_type ≡ length m.types = c.in_ok-by_type.ensures.length ∙ ap (length {A = FuncType}) c.as_slice.ensures in
    funcs_alike m shapes by_func by_type c.in_ok-by_func.ensures.classes types many long c.in_ok-by_func.ensures.apart

pub invariant_of-result : goal.invariant_of-result
invariant_of-result c =
    let m = c.args.m.now in
    let keys = c.classes_of_funcs.new.shapes.keys in
    let shapes = map (vec_items {X = ℕ} {Z = Global}) keys in
    let by_func = c.in_ok-by_func.by_func.items in
    let by_type = c.in_ok-by_type.by_type.items in
    let funcs = c.in_ok-by_func.ensures.classes in
    let types : AreTypeClasses m.types shapes by_type =
    subst (λ (ts : List FuncType). AreTypeClasses ts shapes by_type) c.as_slice.ensures c.in_ok-by_type.ensures.classes in
    let named = ap length c.requires.described.funcs in
    let marks = ap length c.deref.ensures.value in
    let many : length by_func ≡ length (func_types m) =
    omega (arith, c.in_ok-by_func.ensures.length, marks, c.in_ok-stands.ensures.length, c.len.ensures, c.args.spaces.now.funcs.ok.0, named) in
    let long : length by_type ≡ length m.types = c.in_ok-by_type.ensures.length ∙ ap (length {A = FuncType}) c.as_slice.ensures in
    let apart = c.in_ok-by_func.ensures.apart in
    let count : length keys ≡ c.len-2.result = omega (arith, c.len-2.ensures.len) in
    let numbered : length shapes ≡ c.len-2.result = length-map keys (vec_items {X = ℕ} {Z = Global}) ∙ count in
    record {
      few = omega (arith, many, c.requires.few);
      counted = omega (arith, count, c.in_ok-by_func.ensures.few, c.in_ok-by_func.ensures.length);
      below_func = subst (λ (n : ℕ). AllBelow n by_func) numbered (funcs_below m shapes by_func by_type funcs types many long apart);
      below_type = subst (λ (n : ℕ). AllBelow n by_type) numbered (types_below m shapes by_func by_type funcs types many long apart);
    }
