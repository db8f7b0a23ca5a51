use Rattle.std.proofs.Common.{rules, ◌≡◌, ◌∙◌, length, refl, sym}
use Rattle.wasm_types.specs.declared.place.Node.{Node}
use Rattle.wasm_types.specs.declared.place.Node.TheVariants as node
use Rattle.func_flow.proofs.RunLemmas.{marked_point, one_only}
use Rattle.func_flow.proofs.runs.lone.Goals as goal

pub before-before-requires : goal.before-before-requires
before-before-requires c =
    let t = c.args.tables.now in
    marked_point t.cfg.now.points t.numbering.nodes c.args.points.now c.requires c.args.point c.point_number.result c.point_number.ensures
    (c.is_marked.ensures.0 c.if-not-is_marked.false)

pub returns : goal.returns
returns c =
    let t = c.args.tables.now in
    let d : Node = node.At (record { 0 = 0 }) in
    let row = c.before-before.result.now in
    let one : length row ≡ 1 = search rules in (
      marked_point t.cfg.now.points t.numbering.nodes c.args.points.now c.requires c.args.point c.point_number.result c.point_number.ensures
          (c.is_marked.ensures.0 c.if-not-is_marked.false),
      sym c.before-before.ensures ∙ one_only row d _ one refl,
    )
