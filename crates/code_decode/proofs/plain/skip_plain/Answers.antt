use Rattle.std.proofs.Common.{ap}
use Rattle.std.specs.Prelude.{Some, []}
use Rattle.opcode_table.specs.declared.instructions.Following.TheVariants as kind
use Rattle.code_decode.proofs.PlainLemmas.{at_kind, not_opcode, skips_branches}
use Rattle.code_decode.proofs.plain.skip_plain.Goals as goal

pub returns-in-Some-Labels : goal.returns-in-Some-Labels
returns-in-Some-Labels c =
    skips_branches c.args.bytes.now c.args.at c.skip_branches.result c.requires
    (at_kind _ c.in-Some-Labels.field-0 kind.Labels c.in-Some-Labels.field-0-is c.in-Some-Labels.ensures.follows)
    (c.in-Some-Labels.ensures.labels (ap Some c.in-Some-Labels.field-0-is) [] 0) c.skip_branches.ensures

pub returns-in-None : goal.returns-in-None
returns-in-None c = not_opcode c.args.bytes.now c.args.at c.requires c.in-None.ensures.follows
