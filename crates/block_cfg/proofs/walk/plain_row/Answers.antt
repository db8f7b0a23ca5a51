use Rattle.std.proofs.Common.{reverse}
use Rattle.block_cfg.specs.Walk.{goes_of}
use Rattle.block_cfg.proofs.WalkLemmas.{live_row}
use Rattle.block_cfg.proofs.walk.plain_row.Goals as goal

pub returns : goal.returns
returns c = live_row c.args.live c.in_ok-row.row (goes_of (reverse c.args.labels.now) c.args.instr.now c.args.next) c.if-not-live.false c.in_ok-row.ensures
