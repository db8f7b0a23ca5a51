use Rattle.std.proofs.Common.{◌<◌, ◌*◌, ◌^◌, length, subst}
use Rattle.wasm_types.specs.Hosts.{is_within}
use Rattle.ref_interp.proofs.LoadedNumbers.{read_small}
use Rattle.ref_interp.proofs.memory.load_by.Goals as goal

pub widen-requires : goal.widen-requires
widen-requires c =
    let bytes = c.args.store.now.bytes in
    subst (λ w. c.in-Some.number < 2 ^ (8 * w)) c.load_bytes.ensures.same
    (read_small (is_within c.args.at c.load_bytes.result (length bytes)) c.args.at c.load_bytes.result c.in-Some.number bytes
    c.pages-pages.ensures.paged.bytes c.in-Some.ensures)
