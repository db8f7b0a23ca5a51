use Rattle.code_decode.proofs.PlainLemmas.{bulk_one_stands, bulk_two_stands, no_bulk_number, no_bulk_first, no_bulk_second}
use Rattle.code_decode.proofs.plain.read_bulk.Goals as goal

pub returns-in_default : goal.returns-in_default
returns-in_default c = no_bulk_number c.args.bytes.now c.args.at c.in_default.ensures

pub returns-in_default-read_zero : goal.returns-in_default-read_zero
returns-in_default-read_zero c = no_bulk_first c.args.bytes.now c.args.at c.in-Some.middle c.in-Some.which c.in-Some.ensures c.in_default-read_zero.ensures

pub returns-then-which-ne10 : goal.returns-then-which-ne10
returns-then-which-ne10 c = bulk_one_stands c.args.bytes.now c.args.at c.in-Some.middle c.in-Some-read_zero.next c.in-Some.which c.if-which-ne10.true c.in-Some.ensures c.in-Some-read_zero.ensures

pub returns-in_default-read_zero-2 : goal.returns-in_default-read_zero-2
returns-in_default-read_zero-2 c = no_bulk_second c.args.bytes.now c.args.at c.in-Some.middle c.in-Some-read_zero.next c.in-Some.which c.if-which-ne10.false c.in-Some.ensures c.in-Some-read_zero.ensures c.in_default-read_zero-2.ensures

pub returns : goal.returns
returns c = bulk_two_stands c.args.bytes.now c.args.at c.in-Some.middle c.in-Some-read_zero.next c.in-Some-read_zero-2.end c.in-Some.which c.if-which-ne10.false c.in-Some.ensures c.in-Some-read_zero.ensures c.in-Some-read_zero-2.ensures
