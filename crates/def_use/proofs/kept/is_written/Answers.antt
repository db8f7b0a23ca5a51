use Rattle.std.proofs.Common.{sym, subst}
use Rattle.wasm_types.specs.Reaching.{Writes, writes_it}
use Rattle.flow_domain.specs.LocTables.{WritesIn}
use Rattle.def_use.proofs.Backwards.{written_there}
use Rattle.def_use.proofs.kept.is_written.Goals as goal

pub returns-in-At : goal.returns-in-At
returns-in-At c =
    let W = WritesIn c.args.locs.now in (
      λ t. subst (λ n. Writes W c.args.loc n) (sym c.in-At.is) (writes_it (c.writes.ensures.0 t)),
      λ w. c.writes.ensures.1 (written_there W c.args.loc c.in-At.pos.0 (subst (λ n. Writes W c.args.loc n) c.in-At.is w)),
    )
