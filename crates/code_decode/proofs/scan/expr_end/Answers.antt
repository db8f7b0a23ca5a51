use Rattle.std.proofs.Common.{reverse, drop}
use Rattle.code_decode.proofs.ScanLemmas.{begins, none_begins, bad_past}
use Rattle.code_decode.proofs.scan.expr_end.Goals as goal

pub returns-in-End : goal.returns-in-End
returns-in-End c = let h = rw c.in-End.is at c.in_ok-next.ensures in begins c.args.bytes.now c.args.at c.in-End.next c.requires h.1 (c.loop-place.invariant.back (drop c.in-End.next c.args.bytes.now) h.0)

pub returns-in-Bad : goal.returns-in-Bad
returns-in-Bad c = let h = rw c.in-Bad.is at c.in_ok-next.ensures in none_begins c.args.bytes.now c.args.at (λ rest q. h rest (c.loop-place.invariant.on rest q))

pub returns : goal.returns
returns c = none_begins c.args.bytes.now c.args.at (λ rest h. bad_past c.args.bytes.now (reverse c.loop-place.blocks.items) c.loop-place.place c.loop-place-test.false rest (c.loop-place.invariant.on rest h))
