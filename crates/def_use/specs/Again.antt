-- Answers that are kept, after one was looked at.
use Rattle.std.specs.Borrow.{MutBor, Fml}
use Rattle.std.specs.Io.BufRead.{Rests}
use Rattle.block_cfg.specs.Graph.{Graph}
use Rattle.flow_domain.specs.LocTables.{Rows}
use Rattle.def_use.specs.declared.kept.Reach.{Reach}
use Rattle.def_use.specs.contracts.kept.Reach.{the_row}
use Rattle.def_use.specs.Kept.{AreRight, IsMadeFor}

-- they are made for this graph and right for this table when the borrow is over
abbrev pub StaysRight : MutBor Reach → Graph → Rows → Fml
StaysRight s g T = Rests the_row s (λ new. IsMadeFor g new × AreRight g T new)
