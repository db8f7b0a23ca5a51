use Rattle.std.proofs.Common.{◌∙◌, ◌+◌, nat_le, length, sym, ap, arith}
use Rattle.wasm_types.specs.Hosts.{bytes_fit}
use Rattle.run_store.proofs.Seen.{range_fits}
use Rattle.run_store.proofs.fitness.is_range_fit.Goals as goal

pub returns-then-visible : goal.returns-then-visible
returns-then-visible c =
    ap (λ n. nat_le (n + length c.args.bytes.now) c.args.long) c.from.ensures
    ∙ sym (ap (λ v. bytes_fit v c.args.long (c.args.at, c.args.bytes.now)) c.if-visible.true
    ∙ range_fits c.args.long c.args.at c.args.bytes.now (λ i. omega (arith, c.type_inv.bytes i)))
