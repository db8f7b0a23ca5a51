use Rattle.std.proofs.Common.{◌∙◌, ◌+◌, get_or, ap}
use Rattle.wasm_meaning.specs.Memory.{number_from}
use Rattle.run_store.proofs.Ranges.{four, four_bytes}
use Rattle.run_store.proofs.bytes.four_at.Goals as goal

pub returns : goal.returns
returns c =
    let xs = c.args.bytes.now in
    c.from_le_bytes.ensures
    ∙ (four (get_or xs c.args.at 0) (get_or xs (c.args.at + 1) 0) (get_or xs (c.args.at + 2) 0) (get_or xs (c.args.at + 3) 0)
    ∙ ap number_from (four_bytes c.args.at xs))
