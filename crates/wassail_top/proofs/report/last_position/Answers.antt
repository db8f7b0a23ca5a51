use Rattle.std.proofs.Common.{◌≡◌, ◌∙◌, None, Some, ap, sym, arith}
use Rattle.std.specs.Option.{option_copied}
use Rattle.wasm_types.specs.declared.module.Module.{Module}
use Rattle.wasm_types.specs.Spaces.{body_of}
use Rattle.module_mill.specs.Mill.{body}
use Rattle.wassail_top.proofs.LargeModule.{few_positions, found_positions, some_body}
use Rattle.wassail_top.proofs.report.last_position.Goals as goal

pub unreachable-requires : goal.unreachable-requires
unreachable-requires c =
    let m = c.args.valid.now in
    let f = c.args.func in
    let none : body_of m f ≡ None = ap (λ (n : Module). body_of n f) (sym c.module.ensures.same) ∙ sym c.body.ensures ∙ ap option_copied c.in_default.is in
    let some : body_of m f ≡ Some (body f) = some_body c.args.count m c.requires.milled f c.requires.own in cc

pub count-requires : goal.count-requires
count-requires c =
    let m = c.args.valid.now in
    let f = c.args.func in
    let b = c.in-Some.body.now in
    let found : body_of m f ≡ Some b = ap (λ (n : Module). body_of n f) (sym c.module.ensures.same) ∙ sym c.in-Some.ensures in
    let few = few_positions c.args.count m c.requires.milled f c.requires.own b found c.module.ensures.sealed in omega (arith, few)

pub returns : goal.returns
returns c =
    let m = c.args.valid.now in
    let f = c.args.func in
    let b = c.in-Some.body.now in
    let found : body_of m f ≡ Some b = ap (λ (n : Module). body_of n f) (sym c.module.ensures.same) ∙ sym c.in-Some.ensures in
    let many = found_positions c.args.count m c.requires.milled f c.requires.own b found in omega (arith, many, c.count.ensures)

pub overflow_sub-result : goal.overflow_sub-result
overflow_sub-result c =
    let m = c.args.valid.now in
    let f = c.args.func in
    let b = c.in-Some.body.now in
    let found : body_of m f ≡ Some b = ap (λ (n : Module). body_of n f) (sym c.module.ensures.same) ∙ sym c.in-Some.ensures in
    let many = found_positions c.args.count m c.requires.milled f c.requires.own b found in omega (arith, many, c.count.ensures)
