use Rattle.std.proofs.Common.{ℕ, ◌∙◌, ◌+◌, get_or, ap}
use Rattle.wasm_meaning.specs.Memory.{number_from}
use Rattle.run_store.proofs.Ranges.{eight, eight_bytes}
use Rattle.run_store.proofs.bytes.eight_at.Goals as goal

pub returns : goal.returns
returns c =
    let byte : ℕ → ℕ = λ k. get_or c.args.bytes.now (c.args.at + k) 0 in
    c.from_le_bytes.ensures
    ∙ (eight (get_or c.args.bytes.now c.args.at 0) (byte 1) (byte 2) (byte 3) (byte 4) (byte 5) (byte 6) (byte 7)
    ∙ ap number_from (eight_bytes c.args.at c.args.bytes.now))
