use Rattle.std.proofs.Common.{◌∙◌, ◌+◌, get_or, ap}
use Rattle.wasm_meaning.specs.Memory.{number_from}
use Rattle.run_store.proofs.Ranges.{two, two_bytes}
use Rattle.run_store.proofs.bytes.two_at.Goals as goal

pub returns : goal.returns
returns c =
    let xs = c.args.bytes.now in
    c.from_le_bytes.ensures ∙ (two (get_or xs c.args.at 0) (get_or xs (c.args.at + 1) 0) ∙ ap number_from (two_bytes c.args.at xs))
