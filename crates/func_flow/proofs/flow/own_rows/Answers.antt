use Rattle.std.proofs.Common.{◌≡◌, ◌<◌, ◌∙◌, Some, None, length, ap, sym, arith}
use Rattle.std.specs.Prelude.{slice_get}
use Rattle.std.specs.Option.{option_copied}
use Rattle.wasm_types.specs.Spaces.{body_of}
use Rattle.called_rows.proofs.ClassLemmas.{element}
use Rattle.func_flow.proofs.FlowLemmas.{value_of, own_at}
use Rattle.func_flow.proofs.flow.own_rows.Goals as goal

pub unreachable-requires : goal.unreachable-requires
unreachable-requires c =
    let m = c.args.m.now in
    let rows = c.args.table.now.rows.items in
    let none : slice_get rows c.args.func ≡ None = sym c.get.ensures ∙ ap option_copied c.in_default.is in
    let body = value_of (body_of m c.args.func) c.requires.own in
    let within = (own_at m c.args.func body.0 body.1).1 in
    let long = c.requires.table.long in
    let lt : c.args.func < length rows = omega arith in
    let some = element rows c.args.func lt in
    let wrong : None ≡ Some some.0 = sym none ∙ some.1 in
    absurd cc

pub returns : goal.returns
returns c = λ t typed.
    let found : slice_get c.args.table.now.rows.items c.args.func ≡ Some c.in-Some.rows.now = sym c.get.ensures ∙ ap option_copied c.in-Some.is in
    c.requires.table.shapes c.args.func t c.in-Some.rows.now typed found
